-- The unit's patterns by whether it is strong enough to start, and whether it must run.
use Rattle.std.proofs.Common.{◌≡◌, ◌-◌, min, sym, subst, ◌∙◌, arith, true≢false}
use Rattle.std.proofs.lemmas.Int.{ints}
use Rattle.uc_model.specs.Prelude.{IsMostOn, on_during}
use Rattle.uc_model.proofs.Common.{most-from_highest, highest-started, highest-kept_off, none-held_off, none-too_weak}
use Rattle.dispatch_repair.proofs.extreme_patterns.first_start.Goals as goal
use Rattle.dispatch_repair.proofs.extreme_patterns.first_start.Goals.{else-unit-3-via-then-unit-3+else-held-gt0, else-unit-3-via-else-unit-3}

pub returns-then-unit-2-clause-most : goal.returns-then-unit-2-clause-most
returns-then-unit-2-clause-most c = grind (arith, ints, none-too_weak, c)

pub returns-else-unit-2-clause-most : goal.returns-else-unit-2-clause-most
returns-else-unit-2-clause-most c =
    most-from_highest c.args.periods c.args.unit.now (on_during c.args.periods c.args.periods)
    (highest-kept_off c.args.periods c.args.unit.now c.requires.lawful c.requires.off c.if-unit-2.false (omega (arith, ints)))

pub returns-then-held-gt0-clause-most : goal.returns-then-held-gt0-clause-most
returns-then-held-gt0-clause-most c = grind (arith, ints, none-held_off, c)

pub returns-else-unit-3-clause-most : goal.returns-else-unit-3-clause-most
returns-else-unit-3-clause-most c =
    let unit = c.args.unit.now in
    let start : min (unit.dt - unit.dt0) c.args.periods ≡ c.min.result = omega arith in
    subst (λ n. IsMostOn c.args.periods unit (on_during n c.args.periods)) start
    (most-from_highest c.args.periods unit (on_during (min (unit.dt - unit.dt0) c.args.periods) c.args.periods)
    (highest-started c.args.periods unit c.requires.lawful c.requires.off
    (λ must. elim c.else-unit-3.branch [
      | else-unit-3-via-then-unit-3+else-held-gt0 w ↦ omega arith
      | else-unit-3-via-else-unit-3 w ↦ absurd (true≢false (sym must ∙ w.if-unit-3.false))
    ])
    (omega (arith, ints))))
