-- A stop without an hour.
use Rattle.std.proofs.Common.{◌≡◌, suc, ◌+◌, ◌-◌, ◌*◌, ◌<◌, ◌≤◌, ◌^◌, inl, inr, true, false, sym, subst, ◌∙◌, arith, ℤ, pos, ◌-ℤ◌, neg_ℤ, ◌≤ℤ◌, ◌<ℤ◌, Some, IfSome, to_z, of_z, unsigned_abs}
use Rattle.std.specs.Int.{w64}
use Rattle.std.specs.Int.Signed.{lt_z}
use Rattle.std.proofs.lemmas.Int.{ints}
use Rattle.dual_model.specs.Prelude.{total_of}
use Rattle.dual_model.proofs.Following.{may-turn_off}
use Rattle.hull_function.specs.Problems.{MAX_POWER}
use Rattle.unit_runs.specs.Runs.{entry_output}
use Rattle.unit_exact.specs.inside.Choices.{choice_cost}
use Rattle.unit_exact.specs.inside.Switches.{IsWithinSwitches, entry_in}
use Rattle.unit_exact.proofs.Sizes.{some-map, total-size}
use Rattle.unit_exact.proofs.StopSteps.{run-none, run-stuck, stop-none, stop-some, stop-stuck}
use Rattle.unit_exact.proofs.stops.stop_at_once.Goals as goal
use Rattle.unit_exact.proofs.stops.stop_at_once.Goals.{then-not-may_stop-via-then-not-may_stop, then-not-may_stop-via-else-not-may_stop+then-before-problem, then-not-may_stop-via-else-not-may_stop+else-before-problem+then-before-problem-2}

-- the tests of the output before, by their bits
sinks : (b e r : ℤ) → b ≡ e → unsigned_abs b ≤ 2 * MAX_POWER → unsigned_abs r ≤ MAX_POWER
    → lt_z (to_z w64 (of_z w64 b)) (to_z w64 (of_z w64 (pos 0 -ℤ to_z w64 (of_z w64 r)))) ≡ true → e <ℤ neg_ℤ r
sinks b e r same h k test = grind (arith, ints)

holds_up : (b e r : ℤ) → b ≡ e → unsigned_abs b ≤ 2 * MAX_POWER → unsigned_abs r ≤ MAX_POWER
    → lt_z (to_z w64 (of_z w64 b)) (to_z w64 (of_z w64 (pos 0 -ℤ to_z w64 (of_z w64 r)))) ≡ false → neg_ℤ r ≤ℤ e
holds_up b e r same h k test = grind (arith, ints)

soars : (b e r : ℤ) → b ≡ e → unsigned_abs b ≤ 2 * MAX_POWER → unsigned_abs r ≤ MAX_POWER
    → lt_z (to_z w64 (of_z w64 r)) (to_z w64 (of_z w64 b)) ≡ true → r <ℤ e
soars b e r same h k test = grind (arith, ints)

stays_low : (b e r : ℤ) → b ≡ e → unsigned_abs b ≤ 2 * MAX_POWER → unsigned_abs r ≤ MAX_POWER
    → lt_z (to_z w64 (of_z w64 r)) (to_z w64 (of_z w64 b)) ≡ false → e ≤ℤ r
stays_low b e r same h k test = grind (arith, ints)

pub returns-then-not-may_stop-clause-total : goal.returns-then-not-may_stop-clause-total
returns-then-not-may_stop-clause-total c =
    let p = c.args.problem.now in
    let unit = p.unit.now in
    let some = c.requires.lawful.periods_are.0 in
    let lawful = c.requires.lawful.unit_is in
    let before = c.entry_output-before in
    elim c.then-not-may_stop.branch [
      | then-not-may_stop-via-then-not-may_stop w ↦
          stop-none p.periods p.table.now unit p.fix.now 0 0 some (sym c.may_stop.ensures ∙ w.if-not-may_stop.true)
      | then-not-may_stop-via-else-not-may_stop+then-before-problem w ↦
          stop-stuck p.periods p.table.now unit p.fix.now 0 0 some
          (run-stuck p.periods p.table.now unit p.fix.now some
          (inl (sinks before.result (entry_output unit 0) unit.ru before.ensures.value before.ensures.size lawful.ramp_up.power w.if-before-problem.true)))
      | then-not-may_stop-via-else-not-may_stop+else-before-problem+then-before-problem-2 w ↦
          stop-stuck p.periods p.table.now unit p.fix.now 0 0 some
          (run-stuck p.periods p.table.now unit p.fix.now some
          (inr (soars before.result (entry_output unit 0) unit.rd before.ensures.value before.ensures.size lawful.ramp_down.power w.if-before-problem-2.true)))
    ]

pub with_choice-requires : goal.with_choice-requires
with_choice-requires c =
    let p = c.args.problem.now in
    let some = c.requires.lawful.periods_are.0 in
    let few = c.requires.lawful.periods_are.1 in
    let entry = c.requires.table.entry 0 (omega arith) some in
    let next = entry.stop (may-turn_off p.unit.now p.fix.now 0 0 (sym c.may_stop.ensures ∙ c.if-not-may_stop.false)) in
    some-map (λ choice. IsWithinSwitches (p.periods - 1) choice.cost) (λ choice. 0 + unsigned_abs choice.cost < 2 ^ 127) (entry_in c.args.entries.now 0).stop
    (λ choice h. omega (arith, few, h)) next.size

pub returns-clause-total : goal.returns-clause-total
returns-clause-total c =
    let p = c.args.problem.now in
    let unit = p.unit.now in
    let some = c.requires.lawful.periods_are.0 in
    let lawful = c.requires.lawful.unit_is in
    let before = c.entry_output-before in
    stop-some p.periods p.table.now unit p.fix.now 0 0 (Some (pos 0)) c.with_choice.result (entry_in c.args.entries.now 0) some
    (sym c.may_stop.ensures ∙ c.if-not-may_stop.false)
    (run-none p.periods p.table.now unit p.fix.now some
    (holds_up before.result (entry_output unit 0) unit.ru before.ensures.value before.ensures.size lawful.ramp_up.power c.if-before-problem.false)
    (stays_low before.result (entry_output unit 0) unit.rd before.ensures.value before.ensures.size lawful.ramp_down.power c.if-before-problem-2.false))
    c.with_choice.ensures (c.requires.table.entry 0 (omega arith) some)

pub returns-clause-size : goal.returns-clause-size
returns-clause-size c =
    let p = c.args.problem.now in
    let some = c.requires.lawful.periods_are.0 in
    let entry = c.requires.table.entry 0 (omega arith) some in
    let next = entry.stop (may-turn_off p.unit.now p.fix.now 0 0 (sym c.may_stop.ensures ∙ c.if-not-may_stop.false)) in
    let left : suc (p.periods - 1) ≡ p.periods = omega (arith, some) in
    subst (λ o. IfSome o (IsWithinSwitches p.periods)) (sym c.with_choice.ensures)
    (subst (λ n. IfSome (total_of (Some (pos 0)) (choice_cost (entry_in c.args.entries.now 0).stop)) (IsWithinSwitches n)) left
    (total-size (pos 0) (entry_in c.args.entries.now 0).stop (p.periods - 1) (omega arith) next.size))
