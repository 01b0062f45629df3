-- What the functions of this crate answer: lists of numbers, and a unit's numbers by its row.
use Rattle.std.specs.Prelude.{◌≡◌, ℕ, ◌<◌, ◌≤◌, List, ℤ, pos, ◌+ℤ◌, ◌-ℤ◌, ◌*ℤ◌, int_lt, length, slice_index_or, unsigned_abs, if◌then◌else◌}
use Rattle.std.specs.Int.{int_max}
use Rattle.uc_model.specs.Prelude.{sum_below, thermal_count, renewable_count, renewable_minimum, renewable_maximum, printed_cell_cost}
use Rattle.dual_model.specs.Prelude.{constant_at, pi_at}
use Rattle.schedule_check.specs.SizedNumbers.{output_at}
use Rattle.schedule_check.specs.WholeWatts.{cell}
use Rattle.uplift.specs.Sizes.{MAX_UPLIFT}
use Rattle.uplift.specs.Uplift.{Cell, Instance, Printed, Table, Thermal, charge, thermal_uplift}

-- number i of a list, and the sum of all
abbrev pub number_in : List ℤ → ℕ → ℤ
number_in numbers i = slice_index_or numbers i (pos 0)

abbrev pub sum_in : List ℤ → ℤ
sum_in numbers = sum_below (length numbers) (number_in numbers)

-- the first n of so many numbers are these, within the limit on an uplift
pub record AreFirst (count n : ℕ) (number : ℕ → ℤ) (numbers : List ℤ) : Type 0 where
  pub many : length numbers ≡ count
  pub each : (i : ℕ) → i < n → number_in numbers i ≡ number i
  pub small : (i : ℕ) → i < n → unsigned_abs (number_in numbers i) ≤ MAX_UPLIFT

-- ---- thermal units
-- K times what a unit costs by its row, and what it is charged for it
abbrev pub reduced_cost : Thermal → Table → ℕ → List Cell → ℤ
reduced_cost unit table g row =
    table.k *ℤ sum_below (length row) (λ t. printed_cell_cost unit 1 (cell row t))
    +ℤ sum_below (length row) (λ t. charge unit table g t (cell row t))

-- the uplift of unit g, by what it adds to the value of the root
abbrev pub uplift_by : Instance → Printed → Table → List ℤ → ℕ → ℤ
uplift_by instance printed table parts g = thermal_uplift instance printed table g (number_in parts g -ℤ constant_at instance table g)

abbrev pub AreThermalUplifts : Instance → Printed → Table → List ℤ → List ℤ → Type 0
AreThermalUplifts instance printed table parts uplifts =
    AreFirst (thermal_count instance) (thermal_count instance) (uplift_by instance printed table parts) uplifts

-- ---- renewable units
-- the output that pays best at a price: the greatest where the price is above 0, and else the least
abbrev pub best_output : ℤ → ℤ → ℤ → ℤ
best_output price least most = if int_lt (pos 0) price then most else int_max least (pos 0)

-- what renewable unit w would gain in period t
abbrev pub renewable_uplift_at : Instance → Printed → Table → ℕ → ℕ → ℤ
renewable_uplift_at instance printed table w t =
    pi_at table t *ℤ (best_output (pi_at table t) (renewable_minimum instance w t) (renewable_maximum instance w t) -ℤ output_at printed w t)

abbrev pub AreRenewableUplifts : Instance → Printed → Table → List ℤ → Type 0
AreRenewableUplifts instance printed table uplifts =
    AreFirst (renewable_count instance) (renewable_count instance)
    (λ w. sum_below instance.periods (renewable_uplift_at instance printed table w)) uplifts
