-- What a row is where its numbers stand in columns that rise.
-- Cite by `use Rattle.pivot_run.proofs.EntryLists.{entry_spread}`.
use Rattle.std.proofs.Common.{◌≡◌, ◌≢◌, ◌==◌, ◌⊎◌, ⊎_elim, inl, inr, ℕ, zero, suc, ◌<◌, true, false, refl, sym, ap, ◌∙◌, arith, List, [], ◌∷◌, length, map, ℤ, pos}
use Rattle.std.proofs.lemmas.Bool.{cases_Bool, cases_lt, cond-true, cond-false, eqb-true}
use Rattle.std.proofs.lemmas.List.{ext_get_or, length-map, get_or-map, get_or_past}
use Rattle.std.proofs.lemmas.List.FromFn.{length-map-range_with_len, get_or-map-range_with_len}
use Rattle.pivot_run.specs.Prelude.{entry}
use Rattle.pivot_run.specs.inside.Entries.{AreBelow, AreEntries, IsSplit, Rise, column, number_at, spread}

-- ---- a number of a row is that of an entry, or 0 where there is none
-- an entry that stands in the column, and its number
abbrev pub StandsIn : List ℕ → List ℤ → ℕ → Type 0
StandsIn ks xs c = (k : ℕ) × (k < length ks) × (column ks k ≡ c) × (number_at ks xs c ≡ entry xs k)

abbrev pub IsNone : List ℕ → List ℤ → ℕ → Type 0
IsNone ks xs c = ((k : ℕ) → k < length ks → column ks k ≢ c) × (number_at ks xs c ≡ pos 0)

others : (k : ℕ) (ks : List ℕ) (c : ℕ) → k ≢ c → ((i : ℕ) → i < length ks → column ks i ≢ c) → (i : ℕ) → i < suc (length ks) → column (k ∷ ks) i ≢ c
others k ks c first rest zero h = first
others k ks c first rest (suc i) h = rest i (omega arith)

apart : (k c : ℕ) → (k == c) ≡ false → k ≢ c
apart k c h = λ e. absurd (grind (arith, h, e))

pub number_cases : (ks : List ℕ) (xs : List ℤ) (c : ℕ) → length ks ≡ length xs → StandsIn ks xs c ⊎ IsNone ks xs c
number_cases [] xs c e = inr (λ k h. absurd (omega arith), refl)
number_cases (k ∷ ks) [] c e = absurd (omega arith)
number_cases (k ∷ ks) (x ∷ xs) c e = ⊎_elim
    (λ (same : (k == c) ≡ true). inl (0, omega arith, eqb-true k c same, cond-true (k == c) x (number_at ks xs c) same))
    (λ (other : (k == c) ≡ false). ⊎_elim
    (λ found. inl (suc found.0, omega (arith, found.1), found.2, cond-false (k == c) x (number_at ks xs c) other ∙ found.3))
    (λ none. inr (others k ks c (apart k c other) none.0, cond-false (k == c) x (number_at ks xs c) other ∙ none.1))
    (number_cases ks xs c (omega arith)))
    (cases_Bool (k == c))

pub number_of_none : (ks : List ℕ) (xs : List ℤ) (c : ℕ) → length ks ≡ length xs → ((k : ℕ) → k < length ks → column ks k ≢ c) → number_at ks xs c ≡ pos 0
number_of_none ks xs c e none = grind (arith, number_cases, e, none)

-- a column stands once
once : (ks : List ℕ) (i k : ℕ) → Rise ks → i < length ks → k < length ks → column ks i ≡ column ks k → i ≡ k
once ks i k rise h l e = grind (arith, rise, h, l, e)

pub number_of_entry : (ks : List ℕ) (xs : List ℤ) (k : ℕ) → Rise ks → length ks ≡ length xs → k < length ks → number_at ks xs (column ks k) ≡ entry xs k
number_of_entry ks xs k rise e h = grind (arith, once, number_cases, rise, e, h)

-- ---- the row
pub length_spread : (n : ℕ) (ks : List ℕ) (xs : List ℤ) → length (spread n ks xs) ≡ n
length_spread n ks xs = length-map-range_with_len (number_at ks xs) 0 n

pub entry_within : (n : ℕ) (ks : List ℕ) (xs : List ℤ) (c : ℕ) → c < n → entry (spread n ks xs) c ≡ number_at ks xs c
entry_within n ks xs c h = get_or-map-range_with_len (number_at ks xs) 0 n c c (pos 0) h (omega arith)

pub entry_spread : (n : ℕ) (ks : List ℕ) (xs : List ℤ) (c : ℕ) → length ks ≡ length xs → AreBelow ks n → entry (spread n ks xs) c ≡ number_at ks xs c
entry_spread n ks xs c e below = grind (arith, entry_within, length_spread, get_or_past, number_of_none, cases_lt, e, below)

pub spread_is : (row : List ℤ) (n : ℕ) (ks : List ℕ) (xs : List ℤ) → length row ≡ n → ((c : ℕ) → c < n → number_at ks xs c ≡ entry row c) → spread n ks xs ≡ row
spread_is row n ks xs e each =
    let long = length_spread n ks xs in
    ext_get_or (pos 0) (spread n ks xs) row (long ∙ sym e)
    (λ c h. let less : c < n = omega (arith, long) in entry_within n ks xs c less ∙ each c less)

-- ---- a function of each number, which keeps 0
number_map : (f : ℤ → ℤ) (ks : List ℕ) (xs : List ℤ) (c : ℕ) → f (pos 0) ≡ pos 0 → number_at ks (map f xs) c ≡ f (number_at ks xs c)
number_map f [] xs c e = sym e
number_map f (k ∷ ks) [] c e = sym e
number_map f (k ∷ ks) (x ∷ xs) c e = ⊎_elim
    (λ (same : (k == c) ≡ true). cond-true (k == c) (f x) (number_at ks (map f xs) c) same ∙ ap f (sym (cond-true (k == c) x (number_at ks xs c) same)))
    (λ (other : (k == c) ≡ false).
    cond-false (k == c) (f x) (number_at ks (map f xs) c) other ∙ number_map f ks xs c e ∙ ap f (sym (cond-false (k == c) x (number_at ks xs c) other)))
    (cases_Bool (k == c))

pub map_spread : (f : ℤ → ℤ) (n : ℕ) (ks : List ℕ) (xs : List ℤ) → f (pos 0) ≡ pos 0 → spread n ks (map f xs) ≡ map f (spread n ks xs)
map_spread f n ks xs e =
    let long = length_spread n ks xs in
    spread_is (map f (spread n ks xs)) n ks (map f xs) (length-map (spread n ks xs) f ∙ long)
    (λ c h. number_map f ks xs c e ∙ ap f (sym (entry_within n ks xs c h)) ∙ sym (get_or-map f (spread n ks xs) c (pos 0) (pos 0) (omega (arith, long))))

-- ---- the number of an entry before which all others of smaller columns stand
pub split_there : (ks : List ℕ) (xs : List ℤ) (k c : ℕ) → AreEntries ks xs → k < length ks → column ks k ≡ c → number_at ks xs c ≡ entry xs k
split_there ks xs k c are h e = ap (number_at ks xs) (sym e) ∙ number_of_entry ks xs k are.rise are.lengths h

pub split_elsewhere : (ks : List ℕ) (xs : List ℤ) (k c : ℕ) → AreEntries ks xs → IsSplit ks k c → (k < length ks → column ks k ≢ c) → number_at ks xs c ≡ pos 0
split_elsewhere ks xs k c are split other = grind (arith, number_of_none, cases_lt, are, split, other)

-- ---- the next split
