-- Prices and their changes: the changes that are written make the new prices of the old ones, and of changed prices these changes are
-- written and no others.
use Rattle.std.proofs.Common.{◌≡◌, ℕ, suc, ◌+◌, ◌<◌, ◌≤◌, ◌≢◌, ⊎_elim, true, false, List, [], ◌∷◌, ◌++◌, length, ℤ, pos, refl, sym, ap, subst, ◌∙◌, arith, slice_set, slice_index_or, append_assoc, All}
use Rattle.std.specs.List.{AllByRecursion as Each}
use Rattle.std.specs.Ordering.{int_eq}
use Rattle.std.proofs.lemmas.Bool.{cases_Bool, cases_eq, false≢true}
use Rattle.std.proofs.lemmas.Bool.Decides.{Decides-int_eq}
use Rattle.std.proofs.lemmas.List.{get_or_at, length-set}
use Rattle.std.proofs.lemmas.List.Elements.{All-set}
use Rattle.table_list.proofs.PriceChanges.{prices_told, told_same, told_other, with_prices, put_here, longer}
use Rattle.cert_text.specs.TextConditions.{HasDigits}

same_prices : (t : ℕ) (prices : List ℤ) → prices_told t prices prices ≡ []
same_prices t [] = refl
same_prices t (price ∷ prices) = told_same t price price prices prices refl ∙ same_prices (suc t) prices

-- another price than there is, of few digits, in that period or a later one
pub record IsPriceChange (periods from : ℕ) (prices : List ℤ) (p : ℕ × ℤ) : Type 0 where
  pub within : p.0 < periods
  pub written : HasDigits 18 p.1
  pub rises : from ≤ p.0
  pub changes : slice_index_or prices p.0 (pos 0) ≢ p.1

abbrev pub ArePriceChanges : ℕ → ℕ → List ℤ → List (ℕ × ℤ) → Type 0
ArePriceChanges periods from prices [] = Unit {0}
ArePriceChanges periods from prices (p ∷ told) = IsPriceChange periods from prices p × ArePriceChanges periods (suc p.0) (slice_set prices p.0 p.1) told

pub none_past : (periods : ℕ) (prices : List ℤ) (told : List (ℕ × ℤ)) → ArePriceChanges periods periods prices told → told ≡ []
none_past periods prices [] h = refl
none_past periods prices (p ∷ told) h = absurd (omega (arith, h.0.rises, h.0.within))

from_other : (periods from other : ℕ) (prices : List ℤ) (p : ℕ × ℤ) (told : List (ℕ × ℤ)) → other ≤ p.0 → ArePriceChanges periods from prices (p ∷ told)
    → ArePriceChanges periods other prices (p ∷ told)
from_other periods from other prices p told rises h = (record { within = h.0.within; written = h.0.written; rises = rises; changes = h.0.changes }, h.1)

from_earlier : (periods from : ℕ) (prices : List ℤ) (told : List (ℕ × ℤ)) → ArePriceChanges periods (suc from) prices told → ArePriceChanges periods from prices told
from_earlier periods from prices [] h = tt
from_earlier periods from prices (p ∷ told) h = from_other periods (suc from) from prices p told (omega (arith, h.0.rises)) h

pub length_prices : (prices : List ℤ) (told : List (ℕ × ℤ)) → length (with_prices prices told) ≡ length prices
length_prices prices [] = refl
length_prices prices (p ∷ told) = length_prices (slice_set prices p.0 p.1) told ∙ length-set prices p.0 p.1

pub digits_prices : (periods from : ℕ) (prices : List ℤ) (told : List (ℕ × ℤ)) → All (HasDigits 18) prices → ArePriceChanges periods from prices told → All (HasDigits 18) (with_prices prices told)
digits_prices periods from prices [] digits h = digits
digits_prices periods from prices (p ∷ told) digits h =
    digits_prices periods (suc p.0) (slice_set prices p.0 p.1) told (All-set (HasDigits 18) prices p.0 p.1 h.0.written digits) h.1

-- ---- the prices from one period on, behind those before it
there_is : (front : List ℤ) (old : ℤ) (olds : List ℤ) (t : ℕ) → length front ≡ t → slice_index_or (front ++ old ∷ olds) t (pos 0) ≡ old
there_is front old olds t e = get_or_at front old olds (pos 0) t e

-- ---- Of changed prices the changes are written.
record AreFound (front olds : List ℤ) (t : ℕ) (told : List (ℕ × ℤ)) : Type 0 where
  news : List ℤ
  make : with_prices (front ++ olds) told ≡ front ++ news
  found : prices_told t olds news ≡ told

found_here : (front : List ℤ) (old : ℤ) (olds : List ℤ) (t : ℕ) (p : ℕ × ℤ) (told : List (ℕ × ℤ)) → length front ≡ t → p.0 ≡ t → old ≢ p.1
    → AreFound (front ++ p.1 ∷ []) olds (suc t) told → AreFound front (old ∷ olds) t (p ∷ told)
found_here front old olds t p told e same other h = grind (arith, with_prices, put_here, append_assoc, told_other, e, same, other, h)

found_later : (front : List ℤ) (old : ℤ) (olds : List ℤ) (t : ℕ) (told : List (ℕ × ℤ)) → AreFound (front ++ old ∷ []) olds (suc t) told → AreFound front (old ∷ olds) t told
found_later front old olds t told h = grind (arith, with_prices, append_assoc, told_same, h)

found_from : (periods : ℕ) (front olds : List ℤ) (t : ℕ) (told : List (ℕ × ℤ)) → length front ≡ t → t + length olds ≡ periods → ArePriceChanges periods t (front ++ olds) told
    → AreFound front olds t told
found_from periods front [] t [] e n h = record { news = []; make = refl; found = refl }
found_from periods front [] t (p ∷ told) e n h = absurd (omega (arith, h.0.rises, h.0.within))
found_from periods front (old ∷ olds) t [] e n h = record { news = old ∷ olds; make = refl; found = same_prices t (old ∷ olds) }
found_from periods front (old ∷ olds) t (p ∷ told) e n h = ⊎_elim
    (λ (same : p.0 ≡ t).
    let there : slice_index_or (front ++ old ∷ olds) p.0 (pos 0) ≡ old = there_is front old olds p.0 (e ∙ sym same) in
    let first : ArePriceChanges periods (suc p.0) ((front ++ p.1 ∷ []) ++ olds) told =
    subst (λ (prices : List ℤ). ArePriceChanges periods (suc p.0) prices told) (put_here front old p.1 olds p.0 (e ∙ sym same)) h.1 in
    let more : ArePriceChanges periods (suc t) ((front ++ p.1 ∷ []) ++ olds) told =
    subst (λ (from : ℕ). ArePriceChanges periods (suc from) ((front ++ p.1 ∷ []) ++ olds) told) same first in
    found_here front old olds t p told e same (λ is. h.0.changes (there ∙ is))
    (found_from periods (front ++ p.1 ∷ []) olds (suc t) told (longer front p.1 t e) (omega arith) more))
    (λ (other : p.0 ≡ t → ⊥).
    let more : ArePriceChanges periods (suc t) ((front ++ old ∷ []) ++ olds) (p ∷ told) =
    subst (λ (prices : List ℤ). ArePriceChanges periods (suc t) prices (p ∷ told)) (sym (append_assoc front (old ∷ []) olds))
    (from_other periods t (suc t) (front ++ old ∷ olds) p told (omega (arith, h.0.rises)) h) in
    found_later front old olds t (p ∷ told) (found_from periods (front ++ old ∷ []) olds (suc t) (p ∷ told) (longer front old t e) (omega arith) more))
    (cases_eq p.0 t)

-- changes that rise by period, each of which says another price than there is, are those that are written of the prices with them
pub prices_found : (prices : List ℤ) (told : List (ℕ × ℤ)) → ArePriceChanges (length prices) 0 prices told → prices_told 0 prices (with_prices prices told) ≡ told
prices_found prices told h = let found = found_from (length prices) [] prices 0 told refl (omega arith) h in ap (prices_told 0 prices) found.make ∙ found.found

-- ---- The changes that are written make the new prices.
pub record AreChangesTo (periods : ℕ) (front olds news : List ℤ) (t : ℕ) (told : List (ℕ × ℤ)) : Type 0 where
  pub may : ArePriceChanges periods t (front ++ olds) told
  pub make : with_prices (front ++ olds) told ≡ front ++ news

made_same : (periods : ℕ) (front : List ℤ) (old new : ℤ) (olds news : List ℤ) (t : ℕ) (told : List (ℕ × ℤ)) → old ≡ new → AreChangesTo periods (front ++ old ∷ []) olds news (suc t) told
    → AreChangesTo periods front (old ∷ olds) (new ∷ news) t told
made_same periods front old new olds news t told same h = grind (arith, append_assoc, from_earlier, with_prices, same, h)

made_other : (periods : ℕ) (front : List ℤ) (old new : ℤ) (olds news : List ℤ) (t : ℕ) (told : List (ℕ × ℤ)) → length front ≡ t → t < periods → HasDigits 18 new → old ≢ new
    → AreChangesTo periods (front ++ new ∷ []) olds news (suc t) told → AreChangesTo periods front (old ∷ olds) (new ∷ news) t ((t, new) ∷ told)
made_other periods front old new olds news t told e within digits other h =
    grind (arith, slice_set, put_here, there_is, with_prices, append_assoc, e, within, digits, other, h)

made_from : (periods : ℕ) (front olds news : List ℤ) (t : ℕ) → length front ≡ t → t + length olds ≡ periods → length news ≡ length olds → Each (HasDigits 18) news
    → AreChangesTo periods front olds news t (prices_told t olds news)
made_from periods front [] [] t e n long digits = record { may = tt; make = refl }
made_from periods front [] (new ∷ news) t e n long digits = absurd (omega arith)
made_from periods front (old ∷ olds) [] t e n long digits = absurd (omega arith)
made_from periods front (old ∷ olds) (new ∷ news) t e n long digits = ⊎_elim
    (λ (is : int_eq old new ≡ true).
    let same = (Decides-int_eq old new).0 is in
    subst (AreChangesTo periods front (old ∷ olds) (new ∷ news) t) (sym (told_same t old new olds news same))
    (made_same periods front old new olds news t (prices_told (suc t) olds news) same
    (made_from periods (front ++ old ∷ []) olds news (suc t) (longer front old t e) (omega arith) (omega arith) digits.1)))
    (λ (is : int_eq old new ≡ false).
    let other : old ≢ new = λ same. false≢true (sym is ∙ (Decides-int_eq old new).1 same) in
    subst (AreChangesTo periods front (old ∷ olds) (new ∷ news) t) (sym (told_other t old new olds news other))
    (made_other periods front old new olds news t (prices_told (suc t) olds news) e (omega arith) digits.0 other
    (made_from periods (front ++ new ∷ []) olds news (suc t) (longer front new t e) (omega arith) (omega arith) digits.1)))
    (cases_Bool (int_eq old new))

-- what is written of two lists of prices rises by period, says other prices than there are, and makes the new ones of the old ones
pub prices_made : (olds news : List ℤ) → length news ≡ length olds → Each (HasDigits 18) news → AreChangesTo (length olds) [] olds news 0 (prices_told 0 olds news)
prices_made olds news long digits = made_from (length olds) [] olds news 0 refl (omega arith) long digits
