-- The scale of a task is a multiple of each denominator, so the costs are whole.
-- Cite by `use Rattle.dispatch_table.proofs.Scales.{fraction_positive}`.
use Rattle.std.proofs.Common.{◌≡◌, ℕ, zero, suc, ◌<◌, ◌≤◌, ⊎_elim, sym, ap, subst, ◌∙◌, arith, List, length, slice_index_or, ℤ, pos, negsuc, ◌*ℤ◌, ◌<ℤ◌, int_div, unsigned_abs}
use Rattle.std.specs.Int.{◌∣◌}
use Rattle.std.proofs.Math.Nat.{dvd-mul_left}
use Rattle.std.proofs.lemmas.Nat.Gcd.{dvd_trans}
use Rattle.std.proofs.lemmas.Int.{ints, unsigned_abs-mul}
use Rattle.std.proofs.lemmas.List.{get_or_default}
use Rattle.uc_model.specs.Prelude.{thermal_unit, thermal_count}
use Rattle.uc_model.proofs.Common.{linear, mul_assoc, mul_comm, mul-one, zero-mul, le_antisymm, le_from_mul, le_of_eq, below_or_last}
use Rattle.cost_curves.specs.LowerHull.{IsLowerHull}
use Rattle.fractions.proofs.Divided.{times, missing_positive, fractions_are_lowest, joined_are_least}
use Rattle.dispatch_rules.specs.declared.amount.Amount.{Amount}
use Rattle.dispatch_rules.specs.declared.amount.Amount.TheVariants.{Length, Held, Given, Shed, Short}
use Rattle.dispatch_rules.specs.Prelude.{rise_at, width_at, cost_fraction, fraction_at, scale_to, Task, amounts, amount_at, cost_of}
use Rattle.dispatch_rules.proofs.Primals.{Fits, amounts-fit}
use Rattle.dispatch_table.specs.Tasks.{IsAmountIn, scaled_cost}

-- ---- exact quotients
cancel : (q a b : ℤ) → pos 0 <ℤ q → q *ℤ a ≡ q *ℤ b → a ≡ b
cancel q a b h e = le_antisymm a b (le_from_mul q a b h (le_of_eq _ _ e)) (le_from_mul q b a h (le_of_eq _ _ (sym e)))

over_times : (s d : ℤ) → pos 0 <ℤ d → unsigned_abs d ∣ unsigned_abs s → int_div s d *ℤ d ≡ s
over_times s (pos n) h divides = times n s (omega (arith, ints)) divides
over_times s (negsuc n) h divides = absurd (omega (arith, linear))

exact : (z w : ℤ) → pos 0 <ℤ w → int_div (z *ℤ w) w ≡ z
exact z w h =
    cancel w (int_div (z *ℤ w) w) z h
    (mul_comm w (int_div (z *ℤ w) w)
    ∙ over_times (z *ℤ w) w h (subst (λ n. unsigned_abs w ∣ n) (sym (unsigned_abs-mul z w)) (dvd-mul_left (unsigned_abs w) (unsigned_abs z)))
    ∙ mul_comm z w)

-- ---- amounts that there are
pub amount_in : (task : Task) (c : ℕ) (d : Amount) → c < length (amounts task) → IsAmountIn task (slice_index_or (amounts task) c d)
amount_in task c d h = by_kind (slice_index_or (amounts task) c d) (amounts-fit task c d h)
  where
    by_kind : (a : Amount) → Fits task a → IsAmountIn task a
    by_kind (Length g t k) fits = (fits.0, omega (arith, fits.2))
    by_kind (Held g t) fits = tt
    by_kind (Given w t) fits = tt
    by_kind (Shed t) fits = tt
    by_kind (Short t) fits = tt

-- each unit has the corners of its hull
abbrev pub HasHulls : Task → Type 0
HasHulls task = (g : ℕ) → g < thermal_count task.instance → IsLowerHull (thermal_unit task.instance g).points (task.corners g)

module _ (task : Task) (hulls : HasHulls task) where
  pub width_positive : (g k : ℕ) → g < thermal_count task.instance → suc k < length (task.corners g) → pos 0 <ℤ width_at (task.corners g) k
  width_positive g k unit h = let rising = (hulls g unit).hull.rising k h in omega (arith, linear)

  pub fraction_positive : (a : Amount) → IsAmountIn task a → pos 0 <ℤ (cost_fraction task a).denominator
  fraction_positive (Length g t k) is = missing_positive (rise_at (task.corners g) k) (width_at (task.corners g) k) (width_positive g k is.0 is.1)
  fraction_positive (Held g t) is = omega (arith, linear)
  fraction_positive (Given w t) is = omega (arith, linear)
  fraction_positive (Shed t) is = omega (arith, linear)
  fraction_positive (Short t) is = omega (arith, linear)

  at_positive : (c : ℕ) → c < length (amounts task) → pos 0 <ℤ (fraction_at task c).denominator
  at_positive c h = fraction_positive (amount_at task c) (amount_in task c (Shed 0) h)

  -- ---- the scale
  pub scale_positive : (n : ℕ) → n ≤ length (amounts task) → pos 0 <ℤ scale_to task n
  scale_positive zero h = omega (arith, linear)
  scale_positive (suc n) h =
      (joined_are_least (scale_to task n) (fraction_at task n).denominator (scale_positive n (omega arith)) (at_positive n (omega arith))).positive

  pub divides_scale : (n c : ℕ) → c < n → n ≤ length (amounts task) → unsigned_abs (fraction_at task c).denominator ∣ unsigned_abs (scale_to task n)
  divides_scale zero c h few = absurd (omega arith)
  divides_scale (suc n) c h few =
      let least = joined_are_least (scale_to task n) (fraction_at task n).denominator (scale_positive n (omega arith)) (at_positive n (omega arith)) in
      ⊎_elim
      (λ (less : c < n). dvd_trans _ (divides_scale n c less (omega arith)) least.first)
      (λ (last : c ≡ n). subst (λ k. unsigned_abs (fraction_at task k).denominator ∣ unsigned_abs (scale_to task (suc n))) (sym last) least.second)
      (below_or_last n c h)

  -- ---- whole costs
  module _ (s : ℤ) where
    abbrev over : Amount → ℤ
    over a = int_div s (cost_fraction task a).denominator

    length_cost : (g t k : ℕ) → g < thermal_count task.instance → suc k < length (task.corners g)
        → unsigned_abs (cost_fraction task (Length g t k)).denominator ∣ unsigned_abs s
        → scaled_cost task s (Length g t k) *ℤ width_at (task.corners g) k ≡ s *ℤ rise_at (task.corners g) k
    length_cost g t k unit segment divides =
        let rise = rise_at (task.corners g) k in
        let width = width_at (task.corners g) k in
        let f = cost_fraction task (Length g t k) in
        let m = over (Length g t k) in
        let same = (fractions_are_lowest (rise_at (task.corners g) k) (width_at (task.corners g) k) (width_positive g k unit segment)).same in
        let whole = over_times s f.denominator (fraction_positive (Length g t k) (unit, segment)) divides in
        ap (λ z. z *ℤ width) (mul_comm f.numerator m)
        ∙ mul_assoc m f.numerator width
        ∙ ap (λ z. m *ℤ z) (same ∙ mul_comm rise f.denominator)
        ∙ sym (mul_assoc m f.denominator rise)
        ∙ ap (λ z. z *ℤ rise) whole

    priced : (a : ℕ) → 1 ∣ unsigned_abs s → pos a *ℤ int_div s (pos 1) ≡ pos a *ℤ s
    priced a divides = ap (λ z. pos a *ℤ z) (sym (mul-one (int_div s (pos 1))) ∙ over_times s (pos 1) (omega (arith, linear)) divides)

    pub cost_is : (a : Amount) → IsAmountIn task a → unsigned_abs (cost_fraction task a).denominator ∣ unsigned_abs s
        → scaled_cost task s a ≡ cost_of (record task { scale = s }) a
    cost_is (Length g t k) is divides =
        sym (exact (scaled_cost task s (Length g t k)) (width_at (task.corners g) k) (width_positive g k is.0 is.1))
        ∙ ap (λ z. int_div z (width_at (task.corners g) k)) (length_cost g t k is.0 is.1 divides)
    cost_is (Held g t) is divides = zero-mul (over (Held g t))
    cost_is (Given w t) is divides = zero-mul (over (Given w t))
    cost_is (Shed t) is divides = priced task.instance.a divides
    cost_is (Short t) is divides = priced task.instance.b divides

    pub cost-whole : (g t k : ℕ) → g < thermal_count task.instance → suc k < length (task.corners g)
        → unsigned_abs (cost_fraction task (Length g t k)).denominator ∣ unsigned_abs s
        → cost_of (record task { scale = s }) (Length g t k) *ℤ width_at (task.corners g) k ≡ s *ℤ rise_at (task.corners g) k
    cost-whole g t k unit segment divides =
        ap (λ z. z *ℤ width_at (task.corners g) k) (sym (cost_is (Length g t k) (unit, segment) divides)) ∙ length_cost g t k unit segment divides

-- an amount that was read is the task's
pub read_amount : (task : Task) (xs : List Amount) (c : ℕ) (d : Amount) → xs ≡ amounts task → c < length xs → slice_index_or xs c d ≡ amount_at task c
read_amount task xs c d same h =
    ap (λ ys. slice_index_or ys c d) same ∙ get_or_default (amounts task) c d (Shed 0) (subst (λ ys. c < length ys) same h)

pub read_in : (task : Task) (xs : List Amount) (c : ℕ) (d : Amount) → xs ≡ amounts task → c < length xs → IsAmountIn task (slice_index_or xs c d)
read_in task xs c d same h = subst (λ ys. c < length ys → IsAmountIn task (slice_index_or ys c d)) (sym same) (amount_in task c d) h
