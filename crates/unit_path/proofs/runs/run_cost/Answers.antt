-- One period more.
use Rattle.std.proofs.Common.{◌+◌, ◌-◌, ◌≤◌, add-one, sym, subst, lit<, arith, ◌+ℤ◌, to_z, of_z, true, unsigned_abs}
use Rattle.std.specs.Int.{w128}
use Rattle.uc_model.proofs.Sizes.{wide}
use Rattle.dual_model.specs.Prelude.{IsWithin, MAX_MOVE}
use Rattle.dual_model.proofs.CostSizes.{move-size}
use Rattle.unit_path.specs.inside.Hours.{hour_in}
use Rattle.unit_path.proofs.RunLaws.{run-first, run-fits, run-more, IsRunTo}
use Rattle.unit_path.proofs.runs.run_cost.Goals as goal

pub loop-t-init : goal.loop-t-init
loop-t-init c =
    let size : unsigned_abs c.args.spent ≤ MAX_MOVE =
    subst (λ o. IsWithin MAX_MOVE o) (sym c.requires.spent) (move-size c.args.unit.now c.args.terms.now c.args.fix.now c.requires.lawful c.requires.sized c.args.since (omega arith) true c.args.since true) in
    subst (λ x. IsRunTo c.args.terms.now c.args.unit.now c.args.fix.now c.args.since (c.args.since + 1) x) (sym (wide c.args.spent MAX_MOVE size (lit< tt)))
    (record {
      value = run-first c.args.terms.now c.args.unit.now c.args.fix.now c.args.since (c.args.since + 1 - c.args.since) c.args.spent (omega arith) c.requires.spent;
      size = omega arith;
    })

pub overflow_add-total : goal.overflow_add-total
overflow_add-total c = grind (arith, run-fits, c)

pub loop-t-preserved : goal.loop-t-preserved
loop-t-preserved c =
    let hour = c.requires.later.hour c.loop-t.t (omega arith) (omega arith) in
    subst (λ k. IsRunTo c.args.terms.now c.args.unit.now c.args.fix.now c.args.since k (to_z w128 (of_z w128 (to_z w128 c.loop-t.total-bits +ℤ to_z w128 (of_z w128 (hour_in c.args.hours.now c.loop-t.t).stay)))))
    (sym (add-one c.loop-t.t))
    (run-more c.args.terms.now c.args.unit.now c.args.fix.now c.args.since c.loop-t.t (to_z w128 c.loop-t.total-bits) (hour_in c.args.hours.now c.loop-t.t).stay
    (omega arith) (omega (arith, c.requires.sized.periods.1)) (c.requires.on c.loop-t.t (omega arith) c.loop-t-test.true) hour.stay hour.stay_size c.loop-t.invariant)

pub returns-clause-value : goal.returns-clause-value
returns-clause-value c = grind (arith, c)

pub returns-clause-size : goal.returns-clause-size
returns-clause-size c = omega (arith, c.loop-t.invariant.size, c.requires.sized.periods.1)
