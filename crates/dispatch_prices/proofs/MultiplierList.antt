-- One multiplier more.
-- Cite by `use Rattle.dispatch_prices.proofs.MultiplierList.{multipliers_more}`.
use Rattle.std.proofs.Common.{◌≡◌, ℕ, zero, suc, ◌+◌, ◌<◌, ◌≤◌, ⊎_elim, refl, sym, ap, subst, ◌∙◌, arith, List, [], ◌∷◌, ◌++◌, length, ℤ, pos, unsigned_abs, IsTrue, slice_index_or}
use Rattle.std.proofs.lemmas.Bool.{cases_lt, cases_eq}
use Rattle.std.proofs.lemmas.List.{length-append, get_or_append_left, get_or-append-add}
use Rattle.dispatch_program.specs.Prelude.{Program, multiplier}
use Rattle.dispatch_rules.specs.Prelude.{limit_of}
use Rattle.dispatch_rules.specs.declared.limit.LimitAt.{LimitAt}
use Rattle.dispatch_prices.specs.ReadOff.{AreMultipliers, is_priced, limit_in}
use Rattle.dispatch_prices.specs.Readings.{IsMultiplierAt}

pub at_last : (xs : List ℤ) (n : ℕ) (m : ℤ) → length xs ≡ n → slice_index_or (xs ++ m ∷ []) n (pos 0) ≡ m
at_last xs n m e =
    let place : n ≡ length xs + 0 = omega arith in
    ap (λ k. slice_index_or (xs ++ m ∷ []) k (pos 0)) place ∙ get_or-append-add xs (m ∷ []) 0 (pos 0)

pub past : (xs : List ℤ) (n i : ℕ) (m : ℤ) → length xs ≡ n → n < i → slice_index_or (xs ++ m ∷ []) i (pos 0) ≡ pos 0
past [] n zero m e h = absurd (omega arith)
past [] n (suc i) m e h = refl
past (x ∷ xs) n zero m e h = absurd (omega arith)
past (x ∷ xs) zero (suc i) m e h = absurd (omega arith)
past (x ∷ xs) (suc n) (suc i) m e h = past xs n i m (omega arith) (omega arith)

pub multipliers_more : (p : Program) (listed_limits : List LimitAt) (row : List ℤ) (n : ℕ) (times : List ℤ) (m : ℤ)
    → AreMultipliers p listed_limits row n times → IsMultiplierAt p listed_limits row n m → AreMultipliers p listed_limits row (n + 1) (times ++ m ∷ [])
multipliers_more p listed_limits row n times m before here = record {
  count = let both = length-append times (m ∷ []) in omega (arith, before.count);
  each = λ i h priced. ⊎_elim
      (λ (less : i < n). get_or_append_left times (m ∷ []) (pos 0) i (omega (arith, before.count)) ∙ before.each i less priced)
      (λ (most : n ≤ i).
      let same : n ≡ i = omega arith in
      subst (λ k. IsTrue (is_priced (limit_of (limit_in listed_limits k))) → slice_index_or (times ++ m ∷ []) k (pos 0) ≡ multiplier p row k) same
      (λ own. at_last times n m before.count ∙ here.is own) priced)
      (cases_lt i n);
  within = λ i. ⊎_elim
      (λ (less : i < n). subst (λ z. unsigned_abs z ≤ 100000000000000) (sym (get_or_append_left times (m ∷ []) (pos 0) i (omega (arith, before.count)))) (before.within i))
      (λ (most : n ≤ i). ⊎_elim
      (λ (same : n ≡ i). subst (λ k. unsigned_abs (slice_index_or (times ++ m ∷ []) k (pos 0)) ≤ 100000000000000) same
      (subst (λ z. unsigned_abs z ≤ 100000000000000) (sym (at_last times n m before.count)) here.within))
      (λ (other : n ≡ i → ⊥). subst (λ z. unsigned_abs z ≤ 100000000000000) (sym (past times n i m before.count (omega arith))) (omega arith))
      (cases_eq n i))
      (cases_lt i n);
}
