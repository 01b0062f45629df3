-- The instance that a seed stands for: forty thermal units and a renewable one over a day, whose numbers are drawn. Source: this
-- project's own demo generator (docs/FORMATS.md); its states are those of the linear congruential generator of Knuth's MMIX.
--
-- Units, periods and draws count from 0 here. What is drawn is whole megawatts, hours and dollars.
use Rattle.std.specs.Prelude.{ℕ, zero, suc, ◌+◌, ◌-◌, ◌*◌, ◌/◌, ◌%◌, ◌^◌, ◌<◌, false, true, IsTrue, List, [], ◌∷◌, ◌++◌, map, sum, replicate, codes, decimal, ℤ, pos}
use Rattle.std.specs.List.{range_with_len}
use Rattle.uc_model.specs.Prelude.{is_allowed, on_during, thermal_count, thermal_unit}
use Rattle.uc_model.specs.declared.instance.Instance.{Instance}
pub use Rattle.uc_model.specs.declared.instance.Point.{Point}
use Rattle.uc_model.specs.declared.instance.Renewable.{Renewable}
pub use Rattle.uc_model.specs.declared.instance.StartRow.{StartRow}
pub use Rattle.uc_model.specs.declared.instance.Thermal.{Thermal}
pub use Rattle.demo_gen.specs.declared.numbers.Numbers.{Numbers}

-- ---- the draws
-- the state after a draw
unfoldable pub next_state : ℕ → ℕ
next_state x = (x * 6364136223846793005 + 1442695040888963407) % 2 ^ 64

-- the state after n draws, from state x on
abbrev pub state_after : ℕ → ℕ → ℕ
state_after x zero = x
state_after x (suc n) = next_state (state_after x n)

-- draw n from state x on, one of m numbers: by the high bits of the state that it leaves
abbrev pub draw : ℕ → ℕ → ℕ → ℕ
draw x n m = state_after x (suc n) / 2 ^ 33 % m

-- ---- a thermal unit
-- the numbers of a unit, drawn from state x on
abbrev pub numbers_from : ℕ → Numbers
numbers_from x = record {
  minimum = 20 + draw x 0 31;
  range = 40 + draw x 1 161;
  time_up = 1 + draw x 2 8;
  time_down = 1 + draw x 3 8;
  low_cost = 10 + draw x 4 30;
  high_cost = 10 + draw x 4 30 + 1 + draw x 5 10;
  start_cost = 500 + draw x 6 1500;
}

-- those of unit g, seven draws for each unit before it
abbrev pub unit_numbers : ℕ → ℕ → Numbers
unit_numbers seed g = numbers_from (state_after seed (7 * g))

-- megawatts as watts, or dollars as micro-dollars
abbrev pub millions : ℕ → ℤ
millions n = pos (n * 1000000)

-- half of the range, rounded up: how far a unit ramps in an hour
abbrev pub ramp_of : Numbers → ℕ
ramp_of n = (n.range + 1) / 2

-- an hour's cost at the minimum, at half of the range above it, rounded down, and at the maximum, in dollars
abbrev pub minimum_cost : Numbers → ℕ
minimum_cost n = n.minimum * (n.low_cost + 5)

abbrev pub middle_cost : Numbers → ℕ
middle_cost n = minimum_cost n + n.low_cost * (n.range / 2)

abbrev pub maximum_cost : Numbers → ℕ
maximum_cost n = middle_cost n + n.high_cost * (n.range - n.range / 2)

-- a start after the minimum down time, and from six hours later on one that costs twice as much
abbrev pub start_rows_of : Numbers → List StartRow
start_rows_of n =
    record { lag = n.time_down; cost = millions n.start_cost }
    ∷ record { lag = n.time_down + 6; cost = millions (2 * n.start_cost) }
    ∷ []

-- the three points
abbrev pub points_of : Numbers → List Point
points_of n =
    record { mw = millions n.minimum; cost = millions (minimum_cost n) }
    ∷ record { mw = millions (n.minimum + n.range / 2); cost = millions (middle_cost n) }
    ∷ record { mw = millions (n.minimum + n.range); cost = millions (maximum_cost n) }
    ∷ []

-- unit g with these numbers, `u1` the first: on initially, for its minimum up time, at three tenths of its range
unfoldable pub unit_of : ℕ → Numbers → Thermal
unit_of g n = record {
  name = codes "u" ++ decimal (g + 1);
  must_run = false;
  pmin = millions n.minimum;
  pmax = millions (n.minimum + n.range);
  ru = millions (ramp_of n);
  rd = millions (ramp_of n);
  su = millions (n.minimum + ramp_of n);
  sd = millions (n.minimum + ramp_of n);
  ut = n.time_up;
  dt = n.time_down;
  p0 = millions (n.minimum + 3 * n.range / 10);
  on0 = true;
  ut0 = n.time_up;
  dt0 = 0;
  startup = start_rows_of n;
  points = points_of n;
}

-- ---- the system
-- the first n units, and the sums of their minimums and of their ranges
unfoldable pub first_units : ℕ → ℕ → List Thermal
first_units seed n = map (λ g. unit_of g (unit_numbers seed g)) (range_with_len 0 n)

unfoldable pub minimum_sum : ℕ → ℕ → ℕ
minimum_sum seed n = sum (map (λ g. (unit_numbers seed g).minimum) (range_with_len 0 n))

unfoldable pub range_sum : ℕ → ℕ → ℕ
range_sum seed n = sum (map (λ g. (unit_numbers seed g).range) (range_with_len 0 n))

-- what is in demand above the minimums in each period, in percent of the ranges
abbrev pub percents : List ℕ
percents =
    30 ∷ 30 ∷ 32 ∷ 35 ∷ 40 ∷ 45 ∷ 50 ∷ 55 ∷ 60 ∷ 64 ∷ 68 ∷ 70 ∷ 72 ∷ 72 ∷ 70 ∷ 68 ∷ 70 ∷ 74 ∷ 76 ∷ 72 ∷ 66 ∷ 58 ∷ 50 ∷ 42 ∷ []

-- the demand by the sums of minimums and ranges and the percentage, rounded down to megawatts
abbrev pub demand_at : ℕ → ℕ → ℕ → ℤ
demand_at minimum range percent = millions (minimum + range * percent / 100)

-- the renewable unit: up to 30 MW in every period
abbrev pub renewable_of : Renewable
renewable_of = record { name = codes "w1"; minimum = replicate 24 (pos 0); maximum = replicate 24 (millions 30) }

-- the instance of a seed
unfoldable pub demo_instance : ℕ → Instance
demo_instance seed = record {
  periods = 24;
  demand = map (demand_at (minimum_sum seed 40) (range_sum seed 40)) percents;
  reserves = replicate 24 (millions (3 * range_sum seed 40 / 100));
  thermal = first_units seed 40;
  renewable = renewable_of ∷ [];
  a = 0;
  b = 0;
}

-- ---- what its units may do
-- each thermal unit may be on in every period
abbrev pub MayAllRun : Instance → Type 0
MayAllRun instance =
    (g : ℕ) → g < thermal_count instance
    → IsTrue (is_allowed instance.periods (thermal_unit instance g) (on_during 0 instance.periods))
