-- What the sources of a filled period keep: each unit's output lies on its curve and falls within its ramp limit, its output and
-- reserve stay within its head and cap, and all reserve reaches what is needed.
-- Cite by `use Rattle.dispatch_repair.proofs.Filled.{cell_within}`.
use Rattle.std.proofs.Common.{◌≡◌, ℕ, zero, suc, ◌-◌, ◌<◌, ◌≤◌, ◌⊎◌, inl, inr, ⊎_elim, Bool, false, sym, subst, arith, List, ℤ, pos, ◌+ℤ◌, ◌-ℤ◌, ◌*ℤ◌, ◌≤ℤ◌, IsTrue, nat_lt, if◌then◌else◌}
use Rattle.std.specs.Int.{int_min, int_max}
use Rattle.std.proofs.lemmas.Int.{ints}
use Rattle.std.proofs.lemmas.Bool.{cond_both}
use Rattle.uc_model.specs.Prelude.{sum_below, bit, Commitment, starts, start_reduction, start_cap, stop_cap, cap, thermal_unit, thermal_count, point_p, point_count, cell_at, shed_at, short_at}
use Rattle.uc_model.proofs.Common.{linear, le_trans, le_antisymm, mul_nonneg, sum_below-sub, bit_nonneg, int_min_left, int_min_right}
use Rattle.schedule_check.specs.SizedNumbers.{output_at}
use Rattle.dispatch_repair.specs.Prelude.{Instance, Pattern, Printed, Thermal, Period, Source, FromThermal, commitment_at, output_before, head_of, need_of, served, IsInMeritOrder, IsReserveInOrder, IsFilled, period_after}
use Rattle.dispatch_repair.specs.Dispatch.{amounts}

-- ---- least and greatest numbers
pub max_left : (a b : ℤ) → a ≤ℤ int_max a b
max_left a b = grind (arith, ints)

pub max_right : (a b : ℤ) → b ≤ℤ int_max a b
max_right a b = grind (arith, ints)

above_min : (k a b : ℤ) → k ≤ℤ a → k ≤ℤ b → k ≤ℤ int_min a b
above_min k a b h l = grind (arith, ints)

-- ---- the cap
pub cap-le-start_cap : (periods : ℕ) (unit : Thermal) (on : Commitment) (t : ℕ) → cap periods unit on t ≤ℤ start_cap unit on t
cap-le-start_cap periods unit on t = grind (arith, ints, int_min_left)

pub cap-le-stop_cap : (periods : ℕ) (unit : Thermal) (on : Commitment) (t : ℕ) → IsTrue (nat_lt (suc t) periods)
    → cap periods unit on t ≤ℤ stop_cap unit on t
cap-le-stop_cap periods unit on t more = grind (arith, ints, more)

-- it is at most the unit's range, and nothing where the unit is off
pub cap-le-range : (periods : ℕ) (unit : Thermal) (on : Commitment) (t : ℕ) → cap periods unit on t ≤ℤ ((unit.pmax -ℤ unit.pmin) *ℤ bit (on t))
cap-le-range periods unit on t =
    let lost = mul_nonneg (start_reduction unit) (bit (starts unit on t)) (max_right (unit.pmax -ℤ unit.su) (pos 0)) (bit_nonneg (starts unit on t)) in
    omega (arith, linear, lost, cap-le-start_cap periods unit on t)

cap_off : (periods : ℕ) (unit : Thermal) (on : Commitment) (t : ℕ) → on t ≡ false → cap periods unit on t ≤ℤ pos 0
cap_off periods unit on t off = grind (arith, ints, off)

-- ---- a unit's numbers in a filled period
pub record IsWithin (period : Period) (g : ℕ) (p r : ℤ) : Type 0 where
  pub low : pos 0 ≤ℤ p
  pub fall : (period.before g -ℤ p) ≤ℤ (thermal_unit period.instance g).rd
  pub curve : p ≤ℤ point_p (thermal_unit period.instance g) (point_count (thermal_unit period.instance g) - 1)
  pub reserve : pos 0 ≤ℤ r
  pub head : (p +ℤ r) ≤ℤ head_of period g

-- the end of a range, with a stop ahead or not
most-le : (stop : Bool) (most fall : ℤ) → (if stop then int_min most fall else most) ≤ℤ most
most-le stop most fall = cond_both stop _ _ (λ z. z ≤ℤ most) (λ e. int_min_left most fall) (λ e. omega (arith, linear))

-- a step of the reserve in order: the room is taken whole, or what is needed is reached
reserve_step : (room need sofar : ℤ) → pos 0 ≤ℤ room → (room ≤ℤ int_min room (int_max (need -ℤ sofar) (pos 0)))
    ⊎ (need ≤ℤ (sofar +ℤ int_min room (int_max (need -ℤ sofar) (pos 0))))
reserve_step room need sofar h = grind (arith, ints, h)

module _ (period : Period) (amount : Source → ℤ) (reserve : ℕ → ℤ) (merit : IsInMeritOrder period amount) (order : IsReserveInOrder period amount reserve) where
  output-le-head : (g : ℕ) → g < thermal_count period.instance → amount (FromThermal g) ≤ℤ head_of period g
  output-le-head g hg =
      let unit = thermal_unit period.instance g in
      le_trans _ _ _ (merit.high (FromThermal g) hg)
      (le_trans _ _ _ (most-le _ _ unit.rd) (int_min_left (head_of period g) (point_p unit (point_count unit - 1))))

  pub within : (g : ℕ) → g < thermal_count period.instance → IsWithin period g (amount (FromThermal g)) (reserve g)
  within g hg =
      let unit = thermal_unit period.instance g in
      let low = merit.low (FromThermal g) hg in
      let room = head_of period g -ℤ amount (FromThermal g) in
      let given = order g hg in
      record {
        low = le_trans _ _ _ (max_left (pos 0) (period.before g -ℤ unit.rd)) low;
        fall = omega (arith, linear, low, max_right (pos 0) (period.before g -ℤ unit.rd));
        curve = le_trans _ _ _ (merit.high (FromThermal g) hg)
            (le_trans _ _ _ (most-le _ _ unit.rd) (int_min_right (head_of period g) (point_p unit (point_count unit - 1))));
        reserve = subst (λ r. pos 0 ≤ℤ r) (sym given)
            (above_min (pos 0) room _ (omega (arith, linear, output-le-head g hg)) (max_right (need_of period -ℤ sum_below g reserve) (pos 0)));
        head = omega (arith, linear, given, int_min_left room (int_max (need_of period -ℤ sum_below g reserve) (pos 0)));
      }

  -- the first units' reserve takes all their room, or is what is needed
  reserve_through : (n : ℕ) → n ≤ thermal_count period.instance
      → (sum_below n (λ g. head_of period g -ℤ amount (FromThermal g)) ≤ℤ sum_below n reserve) ⊎ (need_of period ≤ℤ sum_below n reserve)
  reserve_through zero h = inl (omega (arith, linear))
  reserve_through (suc n) h =
      let given = order n (omega arith) in
      ⊎_elim
      (λ (all : sum_below n (λ g. head_of period g -ℤ amount (FromThermal g)) ≤ℤ sum_below n reserve).
      ⊎_elim
      (λ (whole : (head_of period n -ℤ amount (FromThermal n))
      ≤ℤ int_min (head_of period n -ℤ amount (FromThermal n)) (int_max (need_of period -ℤ sum_below n reserve) (pos 0))).
      inl (omega (arith, linear, all, whole, given)))
      (λ (reached : need_of period
      ≤ℤ (sum_below n reserve +ℤ int_min (head_of period n -ℤ amount (FromThermal n)) (int_max (need_of period -ℤ sum_below n reserve) (pos 0)))).
      inr (omega (arith, linear, reached, given)))
      (reserve_step (head_of period n -ℤ amount (FromThermal n)) (need_of period) (sum_below n reserve)
      (omega (arith, linear, output-le-head n (omega arith)))))
      (λ (enough : need_of period ≤ℤ sum_below n reserve).
      inr (omega (arith, linear, enough, (within n (omega arith)).reserve)))
      (reserve_through n (omega arith))

  pub reserve_reached : need_of period ≤ℤ sum_below (thermal_count period.instance) reserve
  reserve_reached = ⊎_elim
      (λ (all : sum_below (thermal_count period.instance) (λ g. head_of period g -ℤ amount (FromThermal g)) ≤ℤ sum_below (thermal_count period.instance) reserve).
      omega (
        arith,
        linear,
        all,
        sum_below-sub (thermal_count period.instance) (head_of period) (λ g. amount (FromThermal g)),
        merit.limit,
        max_left (need_of period) (pos 0),
      ))
      (λ enough. enough)
      (reserve_through (thermal_count period.instance) (omega arith))

-- ---- the cells of a printed schedule
-- period t as it is served, with what each unit gave before
abbrev pub filled_period : Instance → List Pattern → Printed → ℕ → Period
filled_period instance patterns printed t =
    served (period_after instance patterns t (λ g. output_before instance printed g t)) (shed_at printed t) (short_at printed t)

module _ (instance : Instance) (patterns : List Pattern) (printed : Printed) (t : ℕ) (filled : IsFilled instance patterns printed t) (g : ℕ) (hg : g < thermal_count instance) where
  pub cell_within : IsWithin (filled_period instance patterns printed t) g (cell_at printed g t).p (cell_at printed g t).r
  cell_within =
      within (filled_period instance patterns printed t) (amounts (λ k. cell_at printed k t) (λ w. output_at printed w t)) (λ k. (cell_at printed k t).r)
      filled.merit filled.reserve g hg

  pub cell-le-cap : ((cell_at printed g t).p +ℤ (cell_at printed g t).r)
      ≤ℤ cap instance.periods (thermal_unit instance g) (commitment_at patterns g) t
  cell-le-cap =
      let unit = thermal_unit instance g in
      le_trans _ _ _ cell_within.head
      (int_min_left (cap instance.periods unit (commitment_at patterns g) t) (output_before instance printed g t +ℤ unit.ru))

  pub cell-le-ramp : ((cell_at printed g t).p +ℤ (cell_at printed g t).r)
      ≤ℤ (output_before instance printed g t +ℤ (thermal_unit instance g).ru)
  cell-le-ramp =
      let unit = thermal_unit instance g in
      le_trans _ _ _ cell_within.head
      (int_min_right (cap instance.periods unit (commitment_at patterns g) t) (output_before instance printed g t +ℤ unit.ru))

  -- an off unit gives nothing
  pub cell_idle : commitment_at patterns g t ≡ false → ((cell_at printed g t).p ≡ pos 0) × ((cell_at printed g t).r ≡ pos 0)
  cell_idle off =
      let none = cap_off instance.periods (thermal_unit instance g) (commitment_at patterns g) t off in (
        le_antisymm _ _ (omega (arith, linear, none, cell-le-cap, cell_within.reserve)) cell_within.low,
        le_antisymm _ _ (omega (arith, linear, none, cell-le-cap, cell_within.low)) cell_within.reserve,
      )
