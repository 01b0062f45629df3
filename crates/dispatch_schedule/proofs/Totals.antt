-- The sum of the parts of a power: none is below 0, so the first ones sum to no more than all.
-- Cite by `use Rattle.dispatch_schedule.proofs.Totals.{part_read, sum_low, part_low, next_is, next_high}`.
use Rattle.std.proofs.Common.{◌≡◌, ℕ, zero, suc, ◌<◌, ◌≤◌, ◌==◌, ◌&&◌, ⊎_elim, sym, ap, subst, arith, List, length, slice_index_or, ℤ, pos, ◌+ℤ◌, ◌*ℤ◌, ◌≤ℤ◌, ◌<ℤ◌}
use Rattle.std.proofs.lemmas.List.{get_or_default}
use Rattle.uc_model.specs.Prelude.{sum_below}
use Rattle.uc_model.proofs.Common.{linear, mul_nonneg, le_refl, below_or_last, sum_below_nonneg}
use Rattle.dispatch_rules.specs.declared.amount.Amount.{Amount}
use Rattle.dispatch_rules.specs.declared.amount.Amount.TheVariants.{Length, Held, Given, Shed, Short}
use Rattle.dispatch_rules.proofs.Primals.{one_if-nonneg}
use Rattle.dispatch_schedule.specs.inside.Chosen.{Chosen, Power, chosen_at, part_of, power_in}
use Rattle.dispatch_schedule.specs.declared.power.Power.TheVariants.{Output, Reserve, Renewable, Unserved, Missing}

pub power_nonneg : (power : Power) (x : Amount) → pos 0 ≤ℤ power_in power x
power_nonneg (Output g t) (Length h s l) = one_if-nonneg ((g == h) && (t == s))
power_nonneg (Output g t) _ = le_refl (pos 0)
power_nonneg (Reserve g t) (Held h s) = one_if-nonneg ((g == h) && (t == s))
power_nonneg (Reserve g t) _ = le_refl (pos 0)
power_nonneg (Renewable g t) (Given h s) = one_if-nonneg ((g == h) && (t == s))
power_nonneg (Renewable g t) _ = le_refl (pos 0)
power_nonneg (Unserved t) (Shed s) = one_if-nonneg (t == s)
power_nonneg (Unserved t) _ = le_refl (pos 0)
power_nonneg (Missing t) (Short s) = one_if-nonneg (t == s)
power_nonneg (Missing t) _ = le_refl (pos 0)

-- a part of a sum of numbers of 0 or above
pub first_le : (f : ℕ → ℤ) (m n : ℕ) → m ≤ n → ((k : ℕ) → k < n → pos 0 ≤ℤ f k) → sum_below m f ≤ℤ sum_below n f
first_le f m zero h low = subst (λ k. sum_below m f ≤ℤ sum_below k f) (let e : m ≡ 0 = omega arith in e) (le_refl (sum_below m f))
first_le f m (suc n) h low = ⊎_elim
    (λ (less : m < suc n). let before = first_le f m n (omega arith) (λ k l. low k (omega arith)) in let own = low n (omega arith) in omega (arith, linear))
    (λ (same : m ≡ suc n). subst (λ k. sum_below m f ≤ℤ sum_below k f) same (le_refl (sum_below m f)))
    (below_or_last (suc n) m (omega arith))

module _ (chosen : List Chosen) (power : Power) (low : (c : ℕ) → c < length chosen → pos 0 ≤ℤ (chosen_at chosen c).numerator) where
  pub part_nonneg : (c : ℕ) → c < length chosen → pos 0 ≤ℤ part_of chosen power c
  part_nonneg c h = mul_nonneg (power_in power (chosen_at chosen c).amount) (chosen_at chosen c).numerator (power_nonneg power (chosen_at chosen c).amount) (low c h)

  pub first_nonneg : (n : ℕ) → n ≤ length chosen → pos 0 ≤ℤ sum_below n (part_of chosen power)
  first_nonneg n h = sum_below_nonneg n (part_of chosen power) (λ k l. part_nonneg k (omega arith))

  pub first_within : (n : ℕ) → n ≤ length chosen → sum_below n (part_of chosen power) ≤ℤ sum_below (length chosen) (part_of chosen power)
  first_within n h = first_le (part_of chosen power) n (length chosen) h part_nonneg

-- the part of an item that is read with another default
pub part_read : (chosen : List Chosen) (power : Power) (i : ℕ) (d : Chosen) → i < length chosen
    → power_in power (slice_index_or chosen i d).amount *ℤ (slice_index_or chosen i d).numerator ≡ part_of chosen power i
part_read chosen power i d h =
    ap (λ (x : Chosen). power_in power x.amount *ℤ x.numerator) (get_or_default chosen i d (record { amount = Shed 0; numerator = pos 0 }) h)

-- a step of the sum
module _ (chosen : List Chosen) (power : Power) (low : (c : ℕ) → c < length chosen → pos 0 ≤ℤ (chosen_at chosen c).numerator)
    (high : sum_below (length chosen) (part_of chosen power) <ℤ pos 1000000000000000) (i : ℕ) (within : i < length chosen) (sum part : ℤ)
    (sum_is : sum ≡ sum_below i (part_of chosen power)) (part_is : part ≡ part_of chosen power i) where
  pub sum_low : pos 0 ≤ℤ sum
  sum_low = subst (λ z. pos 0 ≤ℤ z) (sym sum_is) (first_nonneg chosen power low i (omega arith))

  pub part_low : pos 0 ≤ℤ part
  part_low = subst (λ z. pos 0 ≤ℤ z) (sym part_is) (part_nonneg chosen power low i within)

  pub next_is : sum +ℤ part ≡ sum_below (suc i) (part_of chosen power)
  next_is = λ j. sum_is j +ℤ part_is j

  pub next_high : (sum +ℤ part) <ℤ pos 1000000000000000
  next_high = let most = first_within chosen power low (suc i) (omega arith) in let next = next_is in omega (arith, linear)
