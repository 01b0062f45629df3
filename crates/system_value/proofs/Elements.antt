-- Numbers of known size that are passed by value, which stand in contracts as their bits: an element of a list that a call
-- answers, and the scale of a table.
-- Cite by `use Rattle.system_value.proofs.Elements.{element-size}`.
use Rattle.std.proofs.Common.{◌≡◌, ℕ, refl, ◌<◌, ◌≤◌, ◌^◌, sym, subst, ◌∙◌, arith, lit<, List, length, slice_index_or, ℤ, pos, ◌≤ℤ◌, to_z, of_z, unsigned_abs, All}
use Rattle.std.specs.Int.{w64}
use Rattle.std.proofs.lemmas.Int.{ints}
use Rattle.std.proofs.lemmas.List.Elements.{All-get_or}
use Rattle.uc_model.proofs.Common.{from-size, narrow}
use Rattle.dual_model.specs.declared.limits.TheConstants.{MAX_SCALE}

-- an element that is small, of a list that is another
read-small : (xs ys : List ℤ) (t m : ℕ) → xs ≡ ys → unsigned_abs (slice_index_or ys t (pos 0)) ≤ m → unsigned_abs (slice_index_or xs t (pos 0)) ≤ m
read-small xs ys t m same size = subst (λ zs. unsigned_abs (slice_index_or zs t (pos 0)) ≤ m) (sym same) size

pub read-size : (xs ys : List ℤ) (t m : ℕ) → xs ≡ ys → unsigned_abs (slice_index_or ys t (pos 0)) ≤ m → unsigned_abs (to_z w64 (of_z w64 (slice_index_or xs t (pos 0)))) ≤ m
read-size xs ys t m same size = from-size (slice_index_or xs t (pos 0)) _ m refl (read-small xs ys t m same size)

pub read-is : (xs ys : List ℤ) (t m : ℕ) → xs ≡ ys → unsigned_abs (slice_index_or ys t (pos 0)) ≤ m → m < 2 ^ 63
    → to_z w64 (of_z w64 (slice_index_or xs t (pos 0))) ≡ slice_index_or ys t (pos 0)
read-is xs ys t m same size fits =
    narrow (slice_index_or xs t (pos 0)) m (read-small xs ys t m same size) fits ∙ (λ i. slice_index_or (same i) t (pos 0))

-- an element of a list whose elements are small
small : (ys : List ℤ) (t n m : ℕ) → length ys ≡ n → t < n → All (λ z. unsigned_abs z ≤ m) ys → unsigned_abs (slice_index_or ys t (pos 0)) ≤ m
small ys t n m long within all = All-get_or (λ z. unsigned_abs z ≤ m) ys t (pos 0) (subst (λ k. t < k) (sym long) within) all

pub element-size : (xs ys : List ℤ) (t n m : ℕ) → xs ≡ ys → length ys ≡ n → t < n → All (λ z. unsigned_abs z ≤ m) ys
    → unsigned_abs (to_z w64 (of_z w64 (slice_index_or xs t (pos 0)))) ≤ m
element-size xs ys t n m same long within all = read-size xs ys t m same (small ys t n m long within all)

pub element-is : (xs ys : List ℤ) (t n m : ℕ) → xs ≡ ys → length ys ≡ n → t < n → All (λ z. unsigned_abs z ≤ m) ys → m < 2 ^ 63
    → to_z w64 (of_z w64 (slice_index_or xs t (pos 0))) ≡ slice_index_or ys t (pos 0)
element-is xs ys t n m same long within all fits = read-is xs ys t m same (small ys t n m long within all) fits

-- a scale
pub scale-size : (k : ℤ) → pos 0 ≤ℤ k → k ≤ℤ MAX_SCALE → unsigned_abs k ≤ 10 ^ 9
scale-size k low high = omega (arith, ints)

pub scale-is : (k r : ℤ) → r ≡ k → pos 0 ≤ℤ k → k ≤ℤ MAX_SCALE → to_z w64 (of_z w64 r) ≡ k
scale-is k r same low high = (λ i. to_z w64 (of_z w64 (same i))) ∙ narrow k (10 ^ 9) (scale-size k low high) (lit< tt)

pub scale-within : (k r : ℤ) → r ≡ k → pos 0 ≤ℤ k → k ≤ℤ MAX_SCALE → (pos 0 ≤ℤ to_z w64 (of_z w64 r)) × (to_z w64 (of_z w64 r) ≤ℤ MAX_SCALE)
scale-within k r same low high = subst (λ z. (pos 0 ≤ℤ z) × (z ≤ℤ MAX_SCALE)) (sym (scale-is k r same low high)) (low, high)
