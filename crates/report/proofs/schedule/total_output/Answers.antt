-- Two numbers of known sizes, as their bits say them.
use Rattle.std.proofs.Common.{◌≡◌, ℕ, ◌∙◌, ◌+◌, ◌*◌, ◌<◌, ◌≤◌, ◌^◌, sym, subst, arith, lit<, rules, FitsSigned, ℤ, pos, ◌+ℤ◌, ◌*ℤ◌, to_z, of_z, unsigned_abs}
use Rattle.std.specs.Int.{w64}
use Rattle.std.proofs.lemmas.Int.{ints, to_z-of_z}
use Rattle.uc_model.proofs.Common.{abs_mul, narrow, sum-fits, sum-is, sum-size}
use Rattle.uc_model.proofs.Sizes.{wide}
use Rattle.report.proofs.schedule.total_output.Goals as goal

-- any bits of 64 say a number of 63
bits-size : (z : ℤ) → unsigned_abs (to_z w64 (of_z w64 z)) ≤ 2 ^ 63
bits-size z = omega (arith, ints)

from-size : (z r : ℤ) → r ≡ to_z w64 (of_z w64 z) → unsigned_abs r ≤ 2 ^ 63
from-size z r same = subst (λ x. unsigned_abs x ≤ 2 ^ 63) (sym same) (bits-size z)

denominator-is : (d : ℕ) (r : ℤ) → d < 2 ^ 8 → r ≡ pos d → to_z w64 (of_z w64 r) ≡ pos d
denominator-is d r small same = (λ i. to_z w64 (of_z w64 (same i))) ∙ narrow (pos d) (2 ^ 8) (omega arith) (lit< tt)

-- the product, by the bits of its parts
times-size : (d : ℕ) (r z p : ℤ) → d < 2 ^ 8 → r ≡ pos d → p ≡ to_z w64 (of_z w64 r) *ℤ to_z w64 (of_z w64 z) → unsigned_abs p ≤ 2 ^ 8 * 2 ^ 63
times-size d r z p small same product =
    subst (λ x. unsigned_abs x ≤ 2 ^ 8 * 2 ^ 63) (sym (product ∙ (λ i. denominator-is d r small same i *ℤ to_z w64 (of_z w64 z))))
    (abs_mul (pos d) (to_z w64 (of_z w64 z)) (2 ^ 8) (2 ^ 63) (omega arith) (bits-size z))

pub sum-requires : goal.sum-requires
sum-requires c =
    sum-fits c.from.result c.scaled.result (2 ^ 63) (2 ^ 8 * 2 ^ 63) (from-size c.args.cell.now.p c.from.result c.from.ensures)
    (times-size c.args.denominator c.from-2.result c.args.unit.now.pmin c.scaled.result c.ranges.denominator.fits c.from-2.ensures c.scaled.ensures) (lit< tt)

pub returns : goal.returns
returns c =
    let p = c.args.cell.now.p in
    let pmin = c.args.unit.now.pmin in
    let p_fits : FitsSigned w64 c.args.cell.now.p = search rules in
    let pmin_fits : FitsSigned w64 c.args.unit.now.pmin = search rules in
    let p_size = from-size p c.from.result c.from.ensures in
    let product_size = times-size c.args.denominator c.from-2.result pmin c.scaled.result c.ranges.denominator.fits c.from-2.ensures c.scaled.ensures in
    let p_is = c.from.ensures ∙ to_z-of_z w64 p p_fits in
    let times = denominator-is c.args.denominator c.from-2.result c.ranges.denominator.fits c.from-2.ensures in
    let product_is = c.scaled.ensures ∙ (λ i. times i *ℤ to_z-of_z w64 pmin pmin_fits i) in
    wide c.sum.result (2 ^ 63 + 2 ^ 8 * 2 ^ 63) (sum-size c.from.result c.scaled.result c.sum.result (2 ^ 63) (2 ^ 8 * 2 ^ 63) c.sum.ensures p_size product_size) (lit< tt)
    ∙ sum-is c.from.result c.scaled.result c.sum.result (2 ^ 63) (2 ^ 8 * 2 ^ 63) c.sum.ensures p_size product_size (lit< tt)
    ∙ (λ i. p_is i +ℤ product_is i)
