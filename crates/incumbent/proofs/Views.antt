-- Lists of views in which one is replaced.
use Rattle.std.proofs.Common.{◌≡◌, ◌≢◌, ℕ, zero, suc, ◌+◌, ◌≤◌, List, [], ◌∷◌, set, sum_by, sym, refl, ap, arith}
use Rattle.std.proofs.lemmas.List.Sums.{sum_by-cons}
use mathlib.Core.Option.{some, some-injective, some-ne-none}
use lib.ListN.{get_elem?}

module _ {A : Type 0} where
  -- what was there is replaced
  pub replaced : (xs : List A) (i : ℕ) (x y : A) → get_elem? xs i ≡ some x → get_elem? (set xs i y) i ≡ some y
  replaced [] i x y e = absurd (some-ne-none x (sym e))
  replaced (z ∷ xs) zero x y e = refl
  replaced (z ∷ xs) (suc i) x y e = replaced xs i x y e

  -- a sum changes by what was replaced
  pub sum_by-replaced : (f : A → ℕ) (xs : List A) (i : ℕ) (x y : A) → get_elem? xs i ≡ some x → sum_by f (set xs i y) + f x ≡ sum_by f xs + f y
  sum_by-replaced f [] i x y e = absurd (some-ne-none x (sym e))
  sum_by-replaced f (z ∷ xs) zero x y e =
      let same : f z ≡ f x = ap f (some-injective z x e) in omega (arith, sum_by-cons f z xs, sum_by-cons f y xs)
  sum_by-replaced f (z ∷ xs) (suc i) x y e =
      let rest = sum_by-replaced f xs i x y e in omega (arith, sum_by-cons f z xs, sum_by-cons f z (set xs i y))

  -- the term at a place of a sum, and the others
  pub part_of_sum : (f : A → ℕ) (xs : List A) (i : ℕ) (x : A) → get_elem? xs i ≡ some x → f x ≤ sum_by f xs
  part_of_sum f [] i x e = absurd (some-ne-none x (sym e))
  part_of_sum f (z ∷ xs) zero x e = let same : f z ≡ f x = ap f (some-injective z x e) in omega (arith, sum_by-cons f z xs)
  part_of_sum f (z ∷ xs) (suc i) x e = let rest = part_of_sum f xs i x e in omega (arith, sum_by-cons f z xs)

  -- the terms at two places of a sum are not greater than the whole
  pub parts_of_sum : (f : A → ℕ) (xs : List A) (i j : ℕ) (x y : A) → i ≢ j → get_elem? xs i ≡ some x → get_elem? xs j ≡ some y
      → f x + f y ≤ sum_by f xs
  parts_of_sum f [] i j x y apart e e' = absurd (some-ne-none x (sym e))
  parts_of_sum f (a ∷ xs) zero zero x y apart e e' = absurd (apart refl)
  parts_of_sum f (a ∷ xs) zero (suc j) x y apart e e' =
      let same : f a ≡ f x = ap f (some-injective a x e) in
      let rest = part_of_sum f xs j y e' in omega (arith, sum_by-cons f a xs)
  parts_of_sum f (a ∷ xs) (suc i) zero x y apart e e' =
      let same : f a ≡ f y = ap f (some-injective a y e') in
      let rest = part_of_sum f xs i x e in omega (arith, sum_by-cons f a xs)
  parts_of_sum f (a ∷ xs) (suc i) (suc j) x y apart e e' =
      let rest = parts_of_sum f xs i j x y (λ h. apart (ap suc h)) e e' in omega (arith, sum_by-cons f a xs)
