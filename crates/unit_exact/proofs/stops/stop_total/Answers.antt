-- The run that ends there, and the ways behind it.
use Rattle.std.proofs.Common.{◌≡◌, lit<, inl, refl, suc, ◌-◌, ◌≤◌, true, false, sym, ap, subst, ◌∙◌, arith, Some, None, IfSome, unsigned_abs}
use Rattle.uc_model.proofs.Common.{abs_wide}
use Rattle.uc_model.proofs.Sizes.{wide}
use Rattle.dual_model.specs.Prelude.{total_of}
use Rattle.dual_model.proofs.Following.{may-turn_off}
use Rattle.unit_runs.specs.CostThrough.{run_cost}
use Rattle.unit_exact.specs.inside.Choices.{choice_cost, IsCostBelow}
use Rattle.unit_exact.specs.inside.Problems.{MAX_SWITCH, MAX_WAY}
use Rattle.unit_exact.specs.inside.Switches.{IsWithinSwitches}
use Rattle.unit_exact.proofs.Sizes.{some-map, total-size}
use Rattle.unit_exact.proofs.StopSteps.{may-behind, run-until, stop-below, stop-none}
use Rattle.unit_exact.proofs.stops.stop_total.Goals as goal

pub cost_below-requires-clause-running : goal.cost_below-requires-clause-running
cost_below-requires-clause-running c = grind (arith, c)

pub with_choice-requires : goal.with_choice-requires
with_choice-requires c =
    let p = c.args.problem.now in
    let t = c.args.t in
    let lets = may-behind p.periods p.table.now p.unit.now p.fix.now t c.args.since c.may_stop.result true c.may_stop.ensures c.if-not-may_stop.false in
    let small : unsigned_abs c.in-Some.cost ≤ MAX_SWITCH = subst (λ o. IfSome o (λ v. unsigned_abs v ≤ MAX_SWITCH)) c.in-Some.is c.cost_below.ensures.size in
    let next = c.requires.entry.stop (may-turn_off p.unit.now p.fix.now (suc t) c.args.since lets) in
    let cast = abs_wide c.in-Some.cost in
    let few = c.requires.lawful.periods_are.1 in
    some-map (λ choice. IsWithinSwitches (p.periods - suc (suc t)) choice.cost) _ c.args.next.now.stop (λ choice h. omega (arith, cast, small, few, h)) next.size

pub returns-then-not-may_stop-clause-total : goal.returns-then-not-may_stop-clause-total
returns-then-not-may_stop-clause-total c =
    let p = c.args.problem.now in
    let t = c.args.t in
    inl (stop-none p.periods p.table.now p.unit.now p.fix.now (suc t) c.args.since c.requires.period
    (may-behind p.periods p.table.now p.unit.now p.fix.now t c.args.since c.may_stop.result false c.may_stop.ensures c.if-not-may_stop.true))

pub limit_before-requires-clause-best : goal.limit_before-requires-clause-best
limit_before-requires-clause-best c = grind (arith, c)

pub limit_before-requires-clause-next : goal.limit_before-requires-clause-next
limit_before-requires-clause-next c =
    let p = c.args.problem.now in
    let few = c.requires.lawful.periods_are.1 in
    let lets = may-behind p.periods p.table.now p.unit.now p.fix.now c.args.t c.args.since c.may_stop.result true c.may_stop.ensures c.if-not-may_stop.false in
    let next = c.requires.entry.stop (may-turn_off p.unit.now p.fix.now (suc c.args.t) c.args.since lets) in
    some-map (λ choice. IsWithinSwitches (p.periods - suc (suc c.args.t)) choice.cost) (λ choice. unsigned_abs choice.cost ≤ MAX_WAY) c.args.next.now.stop
    (λ choice h. omega (arith, few, h)) next.size

pub returns-in-None-clause-total : goal.returns-in-None-clause-total
returns-in-None-clause-total c =
    let p = c.args.problem.now in
    let t = c.args.t in
    let lets = may-behind p.periods p.table.now p.unit.now p.fix.now t c.args.since c.may_stop.result true c.may_stop.ensures c.if-not-may_stop.false in
    let begun = c.run_begin.ensures in
    let cost = run_cost p.periods p.table.now p.unit.now c.run_begin.result (suc (t - c.run_begin.result)) in
    stop-below p.periods p.table.now p.unit.now p.fix.now (suc t) c.args.since c.limit_before.result (choice_cost c.args.best.now) cost None None c.args.next.now
    c.requires.period lets
    (run-until p.periods p.table.now p.unit.now p.fix.now t c.args.since cost c.requires.order (λ i. run_cost p.periods p.table.now p.unit.now (begun i) (suc (t - begun i))))
    c.requires.entry c.limit_before.ensures
    (subst (IsCostBelow c.limit_before.result cost) c.in-None.is c.cost_below.ensures.cost) refl

pub returns-in-Some-clause-total : goal.returns-in-Some-clause-total
returns-in-Some-clause-total c =
    let p = c.args.problem.now in
    let t = c.args.t in
    let lets = may-behind p.periods p.table.now p.unit.now p.fix.now t c.args.since c.may_stop.result true c.may_stop.ensures c.if-not-may_stop.false in
    let begun = c.run_begin.ensures in
    let cost = run_cost p.periods p.table.now p.unit.now c.run_begin.result (suc (t - c.run_begin.result)) in
    let small : unsigned_abs c.in-Some.cost ≤ MAX_SWITCH = subst (λ o. IfSome o (λ v. unsigned_abs v ≤ MAX_SWITCH)) c.in-Some.is c.cost_below.ensures.size in
    let cast = wide c.in-Some.cost MAX_SWITCH small (lit< tt) in
    stop-below p.periods p.table.now p.unit.now p.fix.now (suc t) c.args.since c.limit_before.result (choice_cost c.args.best.now) cost (Some c.in-Some.cost)
    c.with_choice.result c.args.next.now c.requires.period lets
    (run-until p.periods p.table.now p.unit.now p.fix.now t c.args.since cost c.requires.order (λ i. run_cost p.periods p.table.now p.unit.now (begun i) (suc (t - begun i))))
    c.requires.entry c.limit_before.ensures
    (subst (IsCostBelow c.limit_before.result cost) c.in-Some.is c.cost_below.ensures.cost)
    (c.with_choice.ensures ∙ ap (λ z. total_of (Some z) (choice_cost c.args.next.now.stop)) cast)

pub returns-in-Some-clause-size : goal.returns-in-Some-clause-size
returns-in-Some-clause-size c =
    let p = c.args.problem.now in
    let t = c.args.t in
    let lets = may-behind p.periods p.table.now p.unit.now p.fix.now t c.args.since c.may_stop.result true c.may_stop.ensures c.if-not-may_stop.false in
    let small : unsigned_abs c.in-Some.cost ≤ MAX_SWITCH = subst (λ o. IfSome o (λ v. unsigned_abs v ≤ MAX_SWITCH)) c.in-Some.is c.cost_below.ensures.size in
    let cast = wide c.in-Some.cost MAX_SWITCH small (lit< tt) in
    let next = c.requires.entry.stop (may-turn_off p.unit.now p.fix.now (suc t) c.args.since lets) in
    let is : c.with_choice.result ≡ total_of (Some c.in-Some.cost) (choice_cost c.args.next.now.stop) =
    c.with_choice.ensures ∙ ap (λ z. total_of (Some z) (choice_cost c.args.next.now.stop)) cast in
    let left : suc (p.periods - suc (suc t)) ≡ p.periods - suc t = (let short = c.requires.period in omega (arith, short)) in
    subst (λ o. IfSome o (IsWithinSwitches (p.periods - suc t))) (sym is)
    (subst (λ n. IfSome (total_of (Some c.in-Some.cost) (choice_cost c.args.next.now.stop)) (IsWithinSwitches n)) left
    (total-size c.in-Some.cost c.args.next.now.stop (p.periods - suc (suc t)) small next.size))

pub returns-in-None-clause-running : goal.returns-in-None-clause-running
returns-in-None-clause-running c = grind (arith, c)

pub returns-in-Some-clause-running : goal.returns-in-Some-clause-running
returns-in-Some-clause-running c = grind (arith, c)
