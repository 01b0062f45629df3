-- The cost is the left one and the rise, whose sizes are known.
use Rattle.std.proofs.Common.{◌*◌, subst, arith, to_z, of_z, ◌-ℤ◌, ◌*ℤ◌}
use Rattle.std.specs.Int.{w64}
use Rattle.std.proofs.lemmas.Int.{fits_signed_from_abs, to_z-of_z}
use Rattle.uc_model.specs.Prelude.{IsCeiling}
use Rattle.uc_model.specs.declared.limits.TheConstants.{MAX_COST}
use Rattle.uc_model.proofs.Common.{linear, abs_add, abs_narrow}
use Rattle.cost_curves.proofs.CornerSizes.{cost-sum}
use Rattle.cost_curves.proofs.places.cost_between.Goals as goal

pub overflow_add-result : goal.overflow_add-result
overflow_add-result c =
    let size = abs_add (to_z w64 (of_z w64 c.args.left.now.cost)) (to_z w64 (of_z w64 c.rise_up.result)) MAX_COST (2 * MAX_COST)
    (omega (arith, c.requires.left.cost, abs_narrow c.args.left.now.cost)) (omega (arith, c.rise_up.ensures.size, abs_narrow c.rise_up.result)) in
    fits_signed_from_abs w64 _ (omega (arith, size))

pub returns-clause-rising : goal.returns-clause-rising
returns-clause-rising c = λ apart.
    let over = c.ranges.over in
    let q = c.ranges.q in
    let whole = cost-sum c.args.left.now.cost c.rise_up.result c.requires.left.cost c.rise_up.ensures.size in
    subst (λ z. IsCeiling ((c.args.right.now.cost -ℤ c.args.left.now.cost) *ℤ c.args.over) (c.args.q *ℤ (c.args.right.now.mw -ℤ c.args.left.now.mw)) z)
    (omega (arith, linear)) (simp to_z-of_z at c.rise_up.ensures.ceiling)
