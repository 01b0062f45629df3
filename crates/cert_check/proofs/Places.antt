-- Facts of each element up to a place of a list.
use Rattle.std.proofs.Common.{◌≡◌, ℕ, zero, suc, ◌+◌, ◌<◌, ◌≤◌, ⊎_elim, sym, subst, ◌∙◌, ap, refl, arith, List, [], ◌∷◌, ◌++◌, length, length-append, take, get_or, All, slice_get, Some}
use Rattle.std.proofs.Math.Seq.{get_or-append_seam}
use Rattle.std.proofs.lemmas.List.{get_or-take, get_or_append_left, get_or_read, length-take-le, take-append-le, take_all}
use Rattle.std.proofs.lemmas.Option.{slice_get_read}
use Rattle.std.proofs.lemmas.Bool.{cases_lt}

-- a fact of each element before a place, and of the one there, is one of each before the next place
pub each-next : {A : Type 0} (P : A → Type 0) (xs : List A) (i : ℕ) (x : A) → i < length xs → x ≡ get_or xs i x
    → All P (take i xs) → P x → All P (take (i + 1) xs)
each-next P xs i x within is before here = grind (arith, length-take-le, get_or-take, get_or_read, cases_lt, within, is, before, here)

-- and before the end of the list of each one
pub each-all : {A : Type 0} (P : A → Type 0) (xs : List A) (i : ℕ) → length xs ≤ i → All P (take i xs) → All P xs
each-all P xs i past before = subst (λ ys. All P ys) (take_all i xs past) before

-- the element behind a front
pub behind-front : {A : Type 0} (all front : List A) (x : A) (rest : List A) (i : ℕ) → all ≡ front ++ x ∷ rest → length front ≡ i → slice_get all i ≡ Some x
behind-front all front x rest i e n =
    ap (λ xs. slice_get xs i) e ∙ slice_get_read (front ++ x ∷ rest) (length (front ++ x ∷ rest)) i x refl
    (omega (arith, length-append front (x ∷ rest))) (sym (ap (λ k. get_or (front ++ x ∷ rest) k x) (sym n) ∙ get_or-append_seam front x rest x))

pub front-is : {A : Type 0} (all front rest : List A) (i : ℕ) → all ≡ front ++ rest → length front ≡ i → take i all ≡ front
front-is all front rest i e n = ap (λ xs. take i xs) e ∙ take-append-le i front rest (omega arith) ∙ take_all i front (omega arith)

pub each-push : {A : Type 0} (P : A → Type 0) (xs : List A) (x : A) → All P xs → P x → All P (xs ++ x ∷ [])
each-push P xs x before here = λ k d h.
    ⊎_elim
    (λ (less : k < length xs). subst P (sym (get_or_append_left xs (x ∷ []) d k less)) (before k d less))
    (λ (last : length xs ≤ k).
    let same : length xs ≡ k = omega (arith, h, last, length-append xs (x ∷ [])) in
    subst P (sym (ap (λ j. get_or (xs ++ x ∷ []) j d) (sym same) ∙ get_or-append_seam xs x [] d)) here)
    (cases_lt k (length xs))

-- an element stands at each place within
pub there : {A : Type 0} (xs : List A) (i : ℕ) → i < length xs → (x : A) × (slice_get xs i ≡ Some x)
there [] i h = absurd (omega arith)
there (x ∷ xs) zero h = (x, refl)
there (x ∷ xs) (suc i) h = there xs i (omega arith)
