-- The product and the difference fit.
use Rattle.std.proofs.Common.{◌≡◌, ◌<◌, ◌^◌, sym, subst, arith, to_z, of_z, ◌-ℤ◌, ◌*ℤ◌, unsigned_abs}
use Rattle.std.specs.Int.{w64}
use Rattle.std.proofs.lemmas.Int.{fits_signed_from_abs}
use Rattle.uc_model.specs.Prelude.{output_of}
use Rattle.uc_model.proofs.Common.{narrow}
use Rattle.cost_curves.proofs.CornerSizes.{IsOver, over-is}
use Rattle.cost_curves.proofs.places.over_left.Goals as goal

parts : (c : goal.After-output) → IsOver c.args.p c.args.q (output_of c.args.corners.now c.args.left) c.output.result
parts c =
    over-is c.args.corners.now c.args.p c.args.q c.output.result c.args.left c.requires.lawful c.requires.within c.requires.denominator.0 c.requires.denominator.1
    c.requires.low c.requires.high c.output.ensures.value

difference : (c : goal.After-output) → to_z w64 (of_z w64 c.args.p) -ℤ to_z w64 (of_z w64 (to_z w64 (of_z w64 c.args.q) *ℤ to_z w64 (of_z w64 c.output.result)))
    ≡ c.args.p -ℤ c.args.q *ℤ output_of c.args.corners.now c.args.left
difference c = grind (arith, parts, narrow)

pub overflow_mul-result : goal.overflow_mul-result
overflow_mul-result c = grind (arith, parts, fits_signed_from_abs, c)

pub overflow_sub-result : goal.overflow_sub-result
overflow_sub-result c =
    let is = parts c in
    fits_signed_from_abs w64 _ (subst (λ z. unsigned_abs z < 2 ^ 63) (sym (difference c)) (omega (arith, is.size)))

pub returns : goal.returns
returns c = grind (arith, parts, difference, narrow, c)
