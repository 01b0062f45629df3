-- The quotient is no greater than the number.
use Rattle.std.proofs.Common.{◌≡◌, ◌*◌, ◌≤◌, ◌∙◌, sym, ap, subst, arith, lit<, to_z, of_z, unsigned_abs}
use Rattle.std.specs.Int.{w64, w128}
use Rattle.std.proofs.lemmas.Int.{fits_signed_from_abs}
use Rattle.uc_model.specs.Prelude.{IsCeiling}
use Rattle.uc_model.specs.declared.limits.TheConstants.{MAX_DENOMINATOR, MAX_POWER}
use Rattle.uc_model.proofs.Common.{narrow}
use Rattle.uc_model.proofs.Sizes.{wide}
use Rattle.cost_curves.proofs.CornerSizes.{whole-is}
use Rattle.cost_curves.proofs.places.whole_up.Goals as goal

found : (c : goal.After-ceil_div) → IsCeiling c.args.p c.args.q c.ceil_div.result
found c = grind arith

size : (c : goal.After-ceil_div) → unsigned_abs c.ceil_div.result ≤ MAX_DENOMINATOR * (2 * MAX_POWER)
size c = grind arith

same : (c : goal.After-ceil_div) → to_z w64 (of_z w64 (to_z w128 (of_z w128 c.ceil_div.result))) ≡ c.ceil_div.result
same c = ap (λ z. to_z w64 (of_z w64 z)) (wide c.ceil_div.result _ (size c) (lit< tt)) ∙ narrow c.ceil_div.result _ (size c) (lit< tt)

pub overflow_cast-result : goal.overflow_cast-result
overflow_cast-result c = grind (arith, size, fits_signed_from_abs, wide, c)

pub returns-clause-ceiling : goal.returns-clause-ceiling
returns-clause-ceiling c = subst (λ z. IsCeiling c.args.p c.args.q z) (sym (same c)) (found c)

pub returns-clause-low : goal.returns-clause-low
returns-clause-low c = grind (arith, same, whole-is, found, c)
