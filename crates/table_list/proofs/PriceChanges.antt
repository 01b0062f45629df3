-- Prices and their changes: the changes that are told make the new prices of the old ones.
use Rattle.std.proofs.Common.{◌≡◌, ℕ, suc, ◌≢◌, Bool, true, false, cond, List, [], ◌∷◌, ◌++◌, length, map, ℤ, refl, sym, ap, ◌∙◌, arith, slice_set, min, ◌≤◌, drop, length-drop, append_assoc, length-append, if◌then◌else◌}
use Rattle.std.specs.Ordering.{int_eq}
use Rattle.std.proofs.lemmas.Bool.{cases_Bool, cond-true, cond-false, false_from_ne_true, false≢true}
use Rattle.std.proofs.lemmas.Bool.Decides.{Decides-int_eq}
use Rattle.std.proofs.lemmas.List.{set_at}
use Rattle.std.proofs.Common.{⊎_elim}
use Rattle.table_list.specs.Changes.{Change, price_changes}

-- the changes of a list of prices as pairs of a period and the price in it
abbrev pub prices_told : ℕ → List ℤ → List ℤ → List (ℕ × ℤ)
prices_told t [] news = []
prices_told t (old ∷ olds) [] = []
prices_told t (old ∷ olds) (new ∷ news) = if int_eq old new then prices_told (suc t) olds news else (t, new) ∷ prices_told (suc t) olds news

pub as_pairs : (change : ℕ → ℤ → Change) (t : ℕ) (olds news : List ℤ) → price_changes change t olds news ≡ map (λ (p : ℕ × ℤ). change p.0 p.1) (prices_told t olds news)
as_pairs change t [] news = refl
as_pairs change t (old ∷ olds) [] = refl
as_pairs change t (old ∷ olds) (new ∷ news) = by_test (int_eq old new) (as_pairs change (suc t) olds news)
  where
    by_test : (same : Bool) → price_changes change (suc t) olds news ≡ map (λ (p : ℕ × ℤ). change p.0 p.1) (prices_told (suc t) olds news)
        → cond same (price_changes change (suc t) olds news) (change t new ∷ price_changes change (suc t) olds news)
        ≡ map (λ (p : ℕ × ℤ). change p.0 p.1) (cond same (prices_told (suc t) olds news) ((t, new) ∷ prices_told (suc t) olds news))
    by_test true more = more
    by_test false more = ap (λ changes. change t new ∷ changes) more

pub told_same : (t : ℕ) (old new : ℤ) (olds news : List ℤ) → old ≡ new → prices_told t (old ∷ olds) (new ∷ news) ≡ prices_told (suc t) olds news
told_same t old new olds news same = cond-true _ _ _ ((Decides-int_eq old new).1 same)

pub told_other : (t : ℕ) (old new : ℤ) (olds news : List ℤ) → old ≢ new → prices_told t (old ∷ olds) (new ∷ news) ≡ (t, new) ∷ prices_told (suc t) olds news
told_other t old new olds news other = cond-false _ _ _ (false_from_ne_true (int_eq old new) (λ e. other ((Decides-int_eq old new).0 e)))

-- ---- prices with changes
abbrev pub with_prices : List ℤ → List (ℕ × ℤ) → List ℤ
with_prices prices [] = prices
with_prices prices (p ∷ told) = with_prices (slice_set prices p.0 p.1) told

-- ---- the prices from one period on, behind those before it
pub put_here : (front : List ℤ) (old price : ℤ) (olds : List ℤ) (t : ℕ) → length front ≡ t → slice_set (front ++ old ∷ olds) t price ≡ (front ++ price ∷ []) ++ olds
put_here front old price olds t e = set_at front old olds price t e ∙ sym (append_assoc front (price ∷ []) olds)

pub longer : (front : List ℤ) (price : ℤ) (t : ℕ) → length front ≡ t → length (front ++ price ∷ []) ≡ suc t
longer front price t e = omega (arith, length-append front (price ∷ []))

-- ---- The changes that are told make the new prices.
new_prices_from : (front olds news : List ℤ) (t : ℕ) → length front ≡ t → length news ≡ length olds → with_prices (front ++ olds) (prices_told t olds news) ≡ front ++ news
new_prices_from front [] [] t e n = refl
new_prices_from front [] (new ∷ news) t e n = absurd (omega arith)
new_prices_from front (old ∷ olds) [] t e n = absurd (omega arith)
new_prices_from front (old ∷ olds) (new ∷ news) t e n = ⊎_elim
    (λ (is : int_eq old new ≡ true).
    let same = (Decides-int_eq old new).0 is in
    ap (with_prices (front ++ old ∷ olds)) (told_same t old new olds news same)
    ∙ ap (λ prices. with_prices prices (prices_told (suc t) olds news)) (sym (append_assoc front (old ∷ []) olds))
    ∙ new_prices_from (front ++ old ∷ []) olds news (suc t) (longer front old t e) (omega arith)
    ∙ append_assoc front (old ∷ []) news ∙ ap (λ price. front ++ price ∷ news) same)
    (λ (is : int_eq old new ≡ false).
    let other : old ≢ new = λ same. false≢true (sym is ∙ (Decides-int_eq old new).1 same) in
    ap (with_prices (front ++ old ∷ olds)) (told_other t old new olds news other)
    ∙ ap (λ prices. with_prices prices (prices_told (suc t) olds news)) (put_here front old new olds t e)
    ∙ new_prices_from (front ++ new ∷ []) olds news (suc t) (longer front new t e) (omega arith)
    ∙ append_assoc front (new ∷ []) news)
    (cases_Bool (int_eq old new))

pub new_prices : (olds news : List ℤ) → length news ≡ length olds → with_prices olds (prices_told 0 olds news) ≡ news
new_prices olds news n = new_prices_from [] olds news 0 refl n

-- there are none past the shorter list
none-left : (change : ℕ → ℤ → Change) (t : ℕ) (olds news : List ℤ) → min (length olds) (length news) ≤ 0 → price_changes change t olds news ≡ []
none-left change t [] news short = refl
none-left change t (old ∷ olds) [] short = refl
none-left change t (old ∷ olds) (new ∷ news) short = absurd (omega arith)

pub last_price : (change : ℕ → ℤ → Change) (olds news : List ℤ) (t : ℕ) → min (length olds) (length news) ≤ t → price_changes change t (drop t olds) (drop t news) ≡ []
last_price change olds news t past = none-left change t (drop t olds) (drop t news) (omega (arith, length-drop t olds, length-drop t news))
