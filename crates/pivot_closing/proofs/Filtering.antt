-- Of a list's items there are few where there are few of each key.
-- Cite by `use Rattle.pivot_closing.proofs.Filtering.{few_of_each, filter_both}`.
use Rattle.std.proofs.Common.{◌≡◌, ℕ, zero, suc, ◌*◌, ◌<◌, ◌≤◌, Bool, true, false, not, ◌&&◌, ◌==◌, cond, refl, sym, ap, subst, ◌∙◌, arith, List, [], ◌∷◌, All, length, filter, le_trans, ⊎_elim}
use Rattle.std.proofs.lemmas.Bool.{cases_Bool, eqb-false}
use Rattle.std.proofs.lemmas.List.Elements.{All-head, All-tail, All-cons, All-nil}
use Rattle.std.proofs.lemmas.List.Filters.{length-filter_both}

-- a list with an item in front where a test is passed, filtered
kept_first : {X : Type 0} (p : X → Bool) (x : X) (xs : List X) (b : Bool) → filter p (cond b (x ∷ xs) xs) ≡ cond (b && p x) (x ∷ filter p xs) (filter p xs)
kept_first p x xs true = refl
kept_first p x xs false = refl

-- to filter by one test and then by another is to filter by both
pub filter_both : {X : Type 0} (p q : X → Bool) (xs : List X) → filter p (filter q xs) ≡ filter (λ x. q x && p x) xs
filter_both p q [] = refl
filter_both p q (x ∷ xs) =
    kept_first p x (filter q xs) (q x) ∙ ap (λ ys. cond (q x && p x) (x ∷ ys) ys) (filter_both p q xs)

-- a test that lets less through keeps fewer
fewer : {X : Type 0} (p q : X → Bool) (xs : List X) → length (filter (λ x. q x && p x) xs) ≤ length (filter p xs)
fewer p q [] = omega arith
fewer p q (x ∷ xs) = step (q x) (p x) (fewer p q xs)
  where
    step : (a b : Bool) → length (filter (λ y. q y && p y) xs) ≤ length (filter p xs)
        → length (cond (a && b) (x ∷ filter (λ y. q y && p y) xs) (filter (λ y. q y && p y) xs)) ≤ length (cond b (x ∷ filter p xs) (filter p xs))
    step true true h = omega (arith, h)
    step true false h = h
    step false true h = omega (arith, h)
    step false false h = h

-- the items whose key isn't n have smaller ones, where all are at most n
smaller : {X : Type 0} (key : X → ℕ) (n : ℕ) (xs : List X) → All (λ x. key x < suc n) xs → All (λ x. key x < n) (filter (λ x. not (key x == n)) xs)
smaller key n [] within = All-nil (λ x. key x < n)
smaller key n (x ∷ xs) within = ⊎_elim
    (λ (same : (key x == n) ≡ true).
    subst (λ b. All (λ y. key y < n) (cond (not b) (x ∷ filter (λ y. not (key y == n)) xs) (filter (λ y. not (key y == n)) xs))) (sym same)
    (smaller key n xs (All-tail (λ y. key y < suc n) x xs within)))
    (λ (other : (key x == n) ≡ false).
    subst (λ b. All (λ y. key y < n) (cond (not b) (x ∷ filter (λ y. not (key y == n)) xs) (filter (λ y. not (key y == n)) xs))) (sym other)
    (All-cons (λ y. key y < n) x (filter (λ y. not (key y == n)) xs) (below (eqb-false (key x) n other))
    (smaller key n xs (All-tail (λ y. key y < suc n) x xs within))))
    (cases_Bool (key x == n))
  where
    below : (key x ≡ n → ⊥) → key x < n
    below apart =
        let most = All-head (λ y. key y < suc n) x xs within in
        grind arith

-- of items whose keys are below n, of each key at most m, there are at most n * m
pub few_of_each : {X : Type 0} (key : X → ℕ) (m n : ℕ) (xs : List X) → All (λ x. key x < n) xs
    → ((k : ℕ) → k < n → length (filter (λ x. key x == k) xs) ≤ m) → length xs ≤ n * m
few_of_each key m zero [] within each = omega arith
few_of_each key m zero (x ∷ xs) within each = absurd (let none = All-head (λ y. key y < 0) x xs within in omega arith)
few_of_each key m (suc n) xs within each =
    let others = filter (λ x. not (key x == n)) xs in
    let whole = length-filter_both (λ x. key x == n) (λ x. not (key x == n)) (λ x. refl) xs in
    let last = each n (omega arith) in
    let rest = few_of_each key m n (filter (λ x. not (key x == n)) xs) (smaller key n xs within) (λ k h.
    le_trans (subst (λ ys. length ys ≤ length (filter (λ x. key x == k) xs)) (sym (filter_both (λ x. key x == k) (λ x. not (key x == n)) xs))
    (fewer (λ x. key x == k) (λ x. not (key x == n)) xs)) (each k (omega arith))) in
    grind (arith, whole, last, rest)
