-- The quotient is that of the rise, and no greater.
use Rattle.std.proofs.Common.{◌≡◌, ◌*◌, ◌<◌, ◌≤◌, ◌^◌, sym, subst, arith, lit<, to_z, of_z, ◌-ℤ◌, ◌*ℤ◌, unsigned_abs}
use Rattle.std.specs.Int.{w64, w128}
use Rattle.std.proofs.lemmas.Int.{fits_signed_from_abs}
use Rattle.uc_model.specs.Prelude.{IsCeiling}
use Rattle.uc_model.specs.declared.limits.TheConstants.{MAX_COST}
use Rattle.uc_model.proofs.Common.{linear, narrow}
use Rattle.uc_model.proofs.Sizes.{wide}
use Rattle.cost_curves.proofs.CornerSizes.{width-positive, ceiling-is}
use Rattle.cost_curves.proofs.places.rise_up.Goals as goal

-- the divisor is positive
pub ceil_div-requires : goal.ceil_div-requires
ceil_div-requires c = width-positive c.args.q c.run.result c.scaled-width.result _ c.requires.denominator.0 c.requires.denominator.1 c.run.ensures.value c.run.ensures.size
    (omega (arith, linear, c.requires.apart)) c.scaled-width.ensures

found : (c : goal.After-ceil_div) → IsCeiling ((c.args.right.now.cost -ℤ c.args.left.now.cost) *ℤ c.args.over) (c.args.q *ℤ (c.args.right.now.mw -ℤ c.args.left.now.mw)) c.ceil_div.result
    × (unsigned_abs c.ceil_div.result ≤ 2 * MAX_COST)
found c =
    ceiling-is c.args.over c.args.q c.rise.result c.scaled-rising.result c.run.result c.scaled-width.result c.ceil_div.result _ _ c.rise.ensures.value c.rise.ensures.size
    c.run.ensures.value c.run.ensures.size c.requires.denominator.0 c.requires.denominator.1 c.requires.low c.requires.high (omega (arith, linear, c.requires.apart))
    c.scaled-rising.ensures c.scaled-width.ensures c.ceil_div.ensures

same : (c : goal.After-ceil_div) → to_z w64 (of_z w64 (to_z w128 (of_z w128 c.ceil_div.result))) ≡ c.ceil_div.result
same c = grind (arith, linear, found, wide, narrow)

pub overflow_cast-result : goal.overflow_cast-result
overflow_cast-result c =
    let size = (found c).1 in
    fits_signed_from_abs w64 _ (subst (λ z. unsigned_abs z < 2 ^ 63) (sym (wide c.ceil_div.result (2 * MAX_COST) size (lit< tt))) (omega (arith, size)))

pub returns-clause-ceiling : goal.returns-clause-ceiling
returns-clause-ceiling c = subst (λ z. IsCeiling ((c.args.right.now.cost -ℤ c.args.left.now.cost) *ℤ c.args.over) (c.args.q *ℤ (c.args.right.now.mw -ℤ c.args.left.now.mw)) z) (sym (same c)) (found c).0

pub returns-clause-size : goal.returns-clause-size
returns-clause-size c = subst (λ z. unsigned_abs z ≤ 2 * MAX_COST) (sym (same c)) (found c).1
