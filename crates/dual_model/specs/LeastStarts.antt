-- What a schedule costs where each start costs sigma, the least that the unit's last stop alone allows, in place of its
-- category's cost. Where a unit's start costs don't rise with the lag, each category that M6 allows may cost more. Source:
-- the objective of the reference model by Knueven, Ostrowski and Watson, with the start costs that the values of units have.
use Rattle.std.specs.Prelude.{ℕ, ℤ, pos, ◌+ℤ◌, ◌*ℤ◌, if◌then◌else◌}
use Rattle.uc_model.specs.Prelude.{sum_below, Commitment, starts, last_stop, sigma, Row, Schedule, thermal_unit, thermal_count, production_cost, shortage_cost}
pub use Rattle.uc_model.specs.declared.instance.Thermal.{Thermal}
pub use Rattle.uc_model.specs.declared.instance.Instance.{Instance}

-- the least start cost of a start in period t, and nothing where there is none, in micro-dollars
abbrev pub least_start_cost : Thermal → Commitment → ℕ → ℤ
least_start_cost unit on t = if starts unit on t then sigma unit (last_stop unit on t) t else pos 0

-- what the unit costs in period t, q times micro-dollars
abbrev pub cell_cost_by_least_starts : ℕ → Thermal → Row → ℕ → ℤ
cell_cost_by_least_starts q unit row t = production_cost unit row t +ℤ pos q *ℤ least_start_cost unit row.on t

abbrev pub unit_cost_by_least_starts : ℕ → ℕ → Thermal → Row → ℤ
unit_cost_by_least_starts periods q unit row = sum_below periods (cell_cost_by_least_starts q unit row)

-- the cost of the schedule, q times micro-dollars
abbrev pub cost_by_least_starts : Instance → ℕ → Schedule → ℤ
cost_by_least_starts instance q x =
    sum_below (thermal_count instance) (λ g. unit_cost_by_least_starts instance.periods q (thermal_unit instance g) (x.thermal g))
    +ℤ sum_below instance.periods (shortage_cost instance x)
