-- The ceiling is the quotient where the remainder is 0, and else one more.
use Rattle.std.proofs.Common.{arith, ◌≡◌, rules, ap, ◌∙◌, ℤ, pos, negsuc, ◌+ℤ◌, FitsSigned, of_z, to_z-of_z}
use Rattle.std.specs.Int.{w128, IsNonNegative}
use Rattle.uc_model.proofs.Quotients.{IsCeiling-int_div_euclid, IsCeiling-int_div_euclid_next}
use Rattle.uc_model.proofs.division.ceil_div.Goals as goal

-- `==` compares the bits
zero_from_bits : (r : ℤ) → IsNonNegative r → of_z w128 r ≡ 0 → r ≡ pos 0
zero_from_bits (pos n) nonneg e = ap pos e
zero_from_bits (negsuc n) nonneg e = absurd nonneg

pub returns-then-rem_euclid-eq0 : goal.returns-then-rem_euclid-eq0
returns-then-rem_euclid-eq0 c = grind (arith, to_z-of_z, zero_from_bits, IsCeiling-int_div_euclid, c)

pub returns-else-rem_euclid-eq0 : goal.returns-else-rem_euclid-eq0
returns-else-rem_euclid-eq0 c =
    let a_fits = c.ranges.a in
    let b_fits = c.ranges.b in
    let fits : FitsSigned w128 c.div_euclid-floor.result = search rules in
    let fits_next : FitsSigned w128 (c.div_euclid-floor.result +ℤ pos 1) = search rules in
    let quotient = simp to_z-of_z at c.div_euclid-floor.ensures in
    let remainder = simp to_z-of_z at c.rem_euclid.ensures.value in
    let some = c.if-rem_euclid-eq0.false in
    simp to_z-of_z (rw quotient (IsCeiling-int_div_euclid_next c.args.a c.args.b c.requires (λ none. some (ap (of_z w128) (remainder ∙ none)))))
