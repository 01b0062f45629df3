-- Laws of the total and the lesser of costs that may not be there.
-- Cite from a crate above by `use Rattle.dual_model.proofs.Costs.{total-zero, lesser-none}`.
use Rattle.std.proofs.Common.{◌≡◌, refl, ap, arith, ℤ, pos, ◌+ℤ◌, Option, Some, None}
use Rattle.std.proofs.lemmas.Int.{ints}
use Rattle.uc_model.proofs.Common.{linear}
use Rattle.dual_model.specs.Prelude.{lesser_of, total_of}

-- ---- totals
pub total-none : (a : Option ℤ) → total_of a None ≡ None
total-none None = refl
total-none (Some a) = refl

pub total-zero : (a : Option ℤ) → total_of (Some (pos 0)) a ≡ a
total-zero None = refl
total-zero (Some a) = ap Some (let e : pos 0 +ℤ a ≡ a = omega (arith, linear) in e)

pub total-assoc : (a b c : Option ℤ) → total_of (total_of a b) c ≡ total_of a (total_of b c)
total-assoc (Some a) (Some b) (Some c) = ap Some (let e : (a +ℤ b) +ℤ c ≡ a +ℤ (b +ℤ c) = omega (arith, linear) in e)
total-assoc _ _ _ = refl

-- ---- the lesser one
pub lesser-none : (a : Option ℤ) → lesser_of a None ≡ a
lesser-none None = refl
lesser-none (Some a) = refl

pub lesser-comm : (a b : Option ℤ) → lesser_of a b ≡ lesser_of b a
lesser-comm None None = refl
lesser-comm None (Some b) = refl
lesser-comm (Some a) None = refl
lesser-comm (Some a) (Some b) = ap Some (grind (arith, ints))

pub lesser-assoc : (a b c : Option ℤ) → lesser_of (lesser_of a b) c ≡ lesser_of a (lesser_of b c)
lesser-assoc (Some a) (Some b) (Some c) = ap Some (grind (arith, ints))
lesser-assoc _ _ _ = refl
