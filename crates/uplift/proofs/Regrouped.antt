-- The duality gap over plain functions of periods, units and renewable units: what is charged and what the priced rules leave of
-- their limits, regrouped by unit and period.
use Rattle.std.proofs.Common.{◌≡◌, ℕ, zero, suc, ◌<◌, sym, ap, ◌∙◌, arith, ℤ, pos, ◌+ℤ◌, ◌-ℤ◌, ◌*ℤ◌, neg_ℤ}
use Rattle.uc_model.specs.Prelude.{sum_below}
use Rattle.uc_model.proofs.Common.{linear, spread, mul-add, mul-sub, zero-mul, sum_below-add, sum_below-mul_left, sum_below-same, sum_below-swap}

-- a cell's charge and what its ramps leave are what carries over from the period before to the next, less what its limits and its
-- output and reserve are paid
cell_regrouped : (u u' d d' pi mu p r m ru rd b : ℤ)
    → ((u -ℤ pi -ℤ u' -ℤ d +ℤ d') *ℤ p +ℤ (u -ℤ mu) *ℤ r -ℤ pi *ℤ m) +ℤ (u *ℤ (ru -ℤ p -ℤ r +ℤ b) +ℤ d *ℤ (rd -ℤ b +ℤ p))
    ≡ (d' -ℤ u') *ℤ p -ℤ (d -ℤ u) *ℤ b -ℤ (neg_ℤ (u *ℤ ru) -ℤ d *ℤ rd) -ℤ (pi *ℤ (p +ℤ m) +ℤ mu *ℤ r)
cell_regrouped u u' d d' pi mu p r m ru rd b = simp spread (omega (arith, linear))

-- ---- one unit: its ramp limits, the multipliers, its output above the minimum, its reserve, its least output while on, and
-- its output in the period before
module _ (ru rd : ℤ) (up down pi mu p r m before : ℕ → ℤ) where
  abbrev charged : ℕ → ℤ
  charged t = (up t -ℤ pi t -ℤ up (suc t) -ℤ down t +ℤ down (suc t)) *ℤ p t +ℤ (up t -ℤ mu t) *ℤ r t -ℤ pi t *ℤ m t

  abbrev left : ℕ → ℤ
  left t = up t *ℤ (ru -ℤ p t -ℤ r t +ℤ before t) +ℤ down t *ℤ (rd -ℤ before t +ℤ p t)

  abbrev limits : ℕ → ℤ
  limits t = neg_ℤ (up t *ℤ ru) -ℤ down t *ℤ rd

  abbrev paid : ℕ → ℤ
  paid t = pi t *ℤ (p t +ℤ m t) +ℤ mu t *ℤ r t

  abbrev carried : ℕ → ℤ
  carried t = (down t -ℤ up t) *ℤ before t

  period : ((t : ℕ) → before (suc t) ≡ p t) → (t : ℕ) → charged t +ℤ left t ≡ carried (suc t) -ℤ carried t -ℤ limits t -ℤ paid t
  period next t =
      let whole = cell_regrouped (up t) (up (suc t)) (down t) (down (suc t)) (pi t) (mu t) (p t) (r t) (m t) ru rd (before t) in
      let same = ap (λ z. (down (suc t) -ℤ up (suc t)) *ℤ z) (next t) in
      omega (arith, linear, whole, same)

  -- over the periods what carries over stands at the ends alone
  periods : ((t : ℕ) → before (suc t) ≡ p t) → (n : ℕ)
      → sum_below n charged +ℤ sum_below n left ≡ carried n -ℤ carried 0 -ℤ sum_below n limits -ℤ sum_below n paid
  periods next zero = omega (arith, linear)
  periods next (suc n) =
      let earlier = periods next n in
      let own = period next n in
      omega (arith, linear, earlier, own)

  -- past the last period nothing is priced: minus the unit's constant, less what it is paid
  pub unit_regrouped : ((t : ℕ) → before (suc t) ≡ p t) → (n : ℕ) → up n ≡ pos 0 → down n ≡ pos 0
      → sum_below n charged +ℤ sum_below n left ≡ neg_ℤ (sum_below n limits +ℤ (down 0 -ℤ up 0) *ℤ before 0) -ℤ sum_below n paid
  unit_regrouped next n no_up no_down =
      let whole = periods next n in
      let none : down n -ℤ up n ≡ pos 0 = omega (arith, linear, no_up, no_down) in
      let end = ap (λ z. z *ℤ before n) none ∙ zero-mul (before n) in
      omega (arith, linear, whole, end)

-- ---- the system: over n periods, the multipliers, each unit's output and reserve, each renewable unit's output, demand and
-- required reserve, and what is missing of them
module _ (n units renewables : ℕ) (pi mu : ℕ → ℤ) (thermal held output : ℕ → ℕ → ℤ) (demand reserve shed short : ℕ → ℤ) where
  -- a sum over units of sums over periods with a factor, as a sum over periods
  factored : (count : ℕ) (factor : ℕ → ℤ) (f : ℕ → ℕ → ℤ)
      → sum_below count (λ i. sum_below n (λ t. factor t *ℤ f i t)) ≡ sum_below n (λ t. factor t *ℤ sum_below count (λ i. f i t))
  factored count factor f =
      sum_below-swap count n (λ i t. factor t *ℤ f i t)
      ∙ sum_below-same n (λ t. sum_below count (λ i. factor t *ℤ f i t)) (λ t. factor t *ℤ sum_below count (λ i. f i t))
      (λ t l. sum_below-mul_left count (factor t) (λ i. f i t))

  -- what the units are paid
  abbrev bought : ℕ → ℤ
  bought g = sum_below n (λ t. pi t *ℤ thermal g t +ℤ mu t *ℤ held g t)

  abbrev sold : ℕ → ℤ
  sold w = sum_below n (λ t. pi t *ℤ output w t)

  -- the reserve beyond what is required
  abbrev spare : ℕ → ℤ
  spare t = mu t *ℤ (sum_below units (λ g. held g t) +ℤ short t -ℤ reserve t)

  abbrev needed : ℕ → ℤ
  needed t = pi t *ℤ demand t +ℤ mu t *ℤ reserve t -ℤ (pi t *ℤ shed t +ℤ mu t *ℤ short t)

  period_paid : (t : ℕ) → sum_below units (λ g. thermal g t) +ℤ sum_below renewables (λ w. output w t) +ℤ shed t ≡ demand t
      → pi t *ℤ sum_below units (λ g. thermal g t) +ℤ mu t *ℤ sum_below units (λ g. held g t) +ℤ pi t *ℤ sum_below renewables (λ w. output w t)
      ≡ needed t +ℤ spare t
  period_paid t met =
      let from_units = sum_below units (λ g. thermal g t) in
      let from_renewables = sum_below renewables (λ w. output w t) in
      let supply : pi t *ℤ from_units +ℤ pi t *ℤ from_renewables +ℤ pi t *ℤ shed t ≡ pi t *ℤ demand t =
      ap (λ z. z +ℤ pi t *ℤ shed t) (sym (mul-add (pi t) from_units from_renewables))
      ∙ sym (mul-add (pi t) (from_units +ℤ from_renewables) (shed t)) ∙ ap (λ z. pi t *ℤ z) met in
      let reserves = sum_below units (λ g. held g t) in
      let beyond = mul-sub (mu t) (reserves +ℤ short t) (reserve t) in
      let parted = mul-add (mu t) reserves (short t) in
      omega (arith, linear, supply, beyond, parted)

  -- all that is paid is what is needed, with the reserve beyond it
  pub system_regrouped : ((t : ℕ) → t < n → sum_below units (λ g. thermal g t) +ℤ sum_below renewables (λ w. output w t) +ℤ shed t ≡ demand t)
      → sum_below units bought +ℤ sum_below renewables sold ≡ sum_below n needed +ℤ sum_below n spare
  system_regrouped met =
      let paid_out = λ (t : ℕ). pi t *ℤ sum_below units (λ g. thermal g t) in
      let paid_held = λ (t : ℕ). mu t *ℤ sum_below units (λ g. held g t) in
      let paid_renewables = λ (t : ℕ). pi t *ℤ sum_below renewables (λ w. output w t) in
      let inside : sum_below units bought ≡ sum_below units (λ g. sum_below n (λ t. pi t *ℤ thermal g t) +ℤ sum_below n (λ t. mu t *ℤ held g t)) =
      sum_below-same units bought (λ g. sum_below n (λ t. pi t *ℤ thermal g t) +ℤ sum_below n (λ t. mu t *ℤ held g t))
      (λ g l. sum_below-add n (λ t. pi t *ℤ thermal g t) (λ t. mu t *ℤ held g t)) in
      let apart = sum_below-add units (λ g. sum_below n (λ t. pi t *ℤ thermal g t)) (λ g. sum_below n (λ t. mu t *ℤ held g t)) in
      let first = factored units pi thermal in
      let second = factored units mu held in
      let third = factored renewables pi output in
      let each = sum_below-same n (λ t. paid_out t +ℤ paid_held t +ℤ paid_renewables t) (λ t. needed t +ℤ spare t) (λ t l. period_paid t (met t l)) in
      let outer = sum_below-add n (λ t. paid_out t +ℤ paid_held t) paid_renewables in
      let inner = sum_below-add n paid_out paid_held in
      let right = sum_below-add n needed spare in
      omega (arith, linear, inside, apart, first, second, third, each, outer, inner, right)
