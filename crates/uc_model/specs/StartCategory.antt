-- Start categories: the rows of a unit's start-up costs in file order, numbered from 1, from the
-- hottest to the coldest. Source: the start-up cost rows of the pglib-uc format and the constraints of
-- the reference model by Knueven, Ostrowski and Watson on which category a start may use. That a
-- category is barred near the initial time even after a later stop is this model's own choice.
use Rattle.std.specs.Prelude.{ℕ, zero, suc, ◌-◌, max, Bool, false, not, ◌&&◌, ◌||◌, ◌==◌, nat_lt, nat_le, ℤ, pos, length, slice_index_or, Option, Some, None, if◌then◌else◌}
use Rattle.uc_model.specs.Sums.{any_below, least_below}
use Rattle.uc_model.specs.Commitment.{Commitment, starts, stops}
pub use Rattle.uc_model.specs.declared.instance.Thermal.{Thermal}
use Rattle.uc_model.specs.declared.instance.StartRow.{StartRow}

-- the row of category s + 1; past the last one a row that costs nothing
abbrev pub start_row : Thermal → ℕ → StartRow
start_row unit s = slice_index_or unit.startup s (record { lag = 0; cost = pos 0 })

-- the number of categories, S
abbrev pub category_count : Thermal → ℕ
category_count unit = length unit.startup

-- the lag of category s, numbered from 1
abbrev pub category_lag : Thermal → ℕ → ℕ
category_lag unit s = (start_row unit (s - 1)).lag

-- the cost of category s, numbered from 1; 0 stands for no start and costs nothing
abbrev pub category_cost : Thermal → ℕ → ℤ
category_cost unit zero = pos 0
category_cost unit (suc s) = (start_row unit s).cost

-- a stop stands in a period t - i with `from` <= i < `to`
abbrev pub has_stop_within : Thermal → Commitment → ℕ → ℕ → ℕ → Bool
has_stop_within unit on from to t = any_below to (λ i. nat_le from i && stops unit on (t - i))

-- the initial time off bars a category in the periods from max(1, lag - DT0 + 1) to lag - 1, numbered
-- from 1, `lag` being the next category's; t is an index from 0, and the period t + 1 is one of the instance
abbrev pub is_barred : ℕ → ℕ → ℕ → Bool
is_barred time_down lag t = nat_le (max 1 (suc lag - time_down)) (suc t) && nat_le (suc t) (lag - 1)

-- M6's rule: a start in period t may use category s, numbered from 1. The last one is always allowed;
-- another one with the next one's lag reached only after a stop between the two lags, and before that
-- unless it is barred
abbrev pub is_category_allowed : Thermal → Commitment → ℕ → ℕ → Bool
is_category_allowed unit on zero t = false
is_category_allowed unit on (suc s) t =
    (suc s == category_count unit)
    || (nat_lt (suc s) (category_count unit)
    && (let lag = category_lag unit (suc (suc s)) in
    if nat_le lag (suc t) then has_stop_within unit on (category_lag unit (suc s)) lag t
    else not (is_barred unit.dt0 lag t)))

-- M6: an allowed category at a start, and none elsewhere
abbrev pub category_holds_at : Thermal → Commitment → (ℕ → ℕ) → ℕ → Bool
category_holds_at unit on category t = if starts unit on t then is_category_allowed unit on (category t) t else category t == 0

-- the last stop in a period before t
abbrev pub last_stop : Thermal → Commitment → ℕ → Option ℕ
last_stop unit on zero = None
last_stop unit on (suc t) = if stops unit on t then Some t else last_stop unit on t

-- the last stop lies at most `most` periods before t
abbrev pub stopped_within : Option ℕ → ℕ → ℕ → Bool
stopped_within None most t = false
stopped_within (Some l) most t = nat_le (t - l) most

-- by the last stop alone, a start in period t may cost as much as category s + 1, which isn't the last one
abbrev pub may_cost_as : Thermal → Option ℕ → ℕ → ℕ → Bool
may_cost_as unit last t s =
    let lag = category_lag unit (suc (suc s)) in
    if nat_le lag (suc t) then nat_lt (category_lag unit (suc s)) lag && stopped_within last (lag - 1) t
    else not (is_barred unit.dt0 lag t)

-- the least start cost, sigma: the least cost over the last category and each other one that the last
-- stop before t lets a start in period t cost
abbrev pub sigma : Thermal → Option ℕ → ℕ → ℤ
sigma unit last t =
    least_below (category_count unit - 1) (may_cost_as unit last t) (λ s. category_cost unit (suc s))
    (category_cost unit (category_count unit))
