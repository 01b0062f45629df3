-- One price more.
-- Cite by `use Rattle.dispatch_prices.proofs.PriceList.{prices_more}`.
use Rattle.std.proofs.Common.{◌≡◌, ℕ, ◌+◌, ◌<◌, ◌≤◌, ⊎_elim, sym, subst, ◌∙◌, arith, List, [], ◌∷◌, ◌++◌, ℤ, pos, unsigned_abs, slice_index_or}
use Rattle.std.specs.Int.{w64}
use Rattle.std.proofs.Common.{to_z, of_z}
use Rattle.std.proofs.lemmas.Int.{to_z-of_z, fits_signed_from_abs}
use Rattle.std.proofs.lemmas.Bool.{cases_lt, cases_eq}
use Rattle.std.proofs.lemmas.List.{length-append, get_or_append_left}
use Rattle.dispatch_prices.specs.PricedLimits.{ArePrices}
use Rattle.dispatch_prices.proofs.MultiplierList.{at_last, past}

pub prices_more : (price : ℕ → ℤ) (n : ℕ) (prices : List ℤ) (z : ℤ) → ArePrices price n prices → z ≡ price n → unsigned_abs z ≤ 100000000000000
    → ArePrices price (n + 1) (prices ++ z ∷ [])
prices_more price n prices z before here size = record {
  count = let both = length-append prices (z ∷ []) in omega (arith, before.count);
  each = λ t h. ⊎_elim
      (λ (less : t < n). get_or_append_left prices (z ∷ []) (pos 0) t (omega (arith, before.count)) ∙ before.each t less)
      (λ (most : n ≤ t). let same : n ≡ t = omega arith in
      subst (λ k. slice_index_or (prices ++ z ∷ []) k (pos 0) ≡ price k) same (at_last prices n z before.count ∙ here))
      (cases_lt t n);
  within = λ t. ⊎_elim
      (λ (less : t < n). subst (λ y. unsigned_abs y ≤ 100000000000000) (sym (get_or_append_left prices (z ∷ []) (pos 0) t (omega (arith, before.count)))) (before.within t))
      (λ (most : n ≤ t). ⊎_elim
      (λ (same : n ≡ t). subst (λ k. unsigned_abs (slice_index_or (prices ++ z ∷ []) k (pos 0)) ≤ 100000000000000) same
      (subst (λ y. unsigned_abs y ≤ 100000000000000) (sym (at_last prices n z before.count)) size))
      (λ (other : n ≡ t → ⊥). subst (λ y. unsigned_abs y ≤ 100000000000000) (sym (past prices n t z before.count (omega arith))) (omega arith))
      (cases_eq n t))
      (cases_lt t n);
}

-- the same after a push
pub pushed : (price : ℕ → ℤ) (n : ℕ) (old new : List ℤ) (z : ℤ) → new ≡ old ++ z ∷ [] → ArePrices price n old → z ≡ price n → unsigned_abs z ≤ 100000000000000
    → ArePrices price (n + 1) new
pushed price n old new z e before here size = subst (ArePrices price (n + 1)) (sym e) (prices_more price n old z before here size)

-- what the code makes of a price, as it is or negated
pub same_bits : (z w : ℤ) → z ≡ w → unsigned_abs z ≤ 100000000000000 → to_z w64 (of_z w64 z) ≡ w
same_bits z w e size = to_z-of_z w64 z (fits_signed_from_abs w64 z (omega arith)) ∙ e
