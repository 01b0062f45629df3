-- What a schedule costs: its weighted point costs, the costs of its start categories, and its shortages at
-- their prices. Renewable units cost nothing. Source: the objective of the reference model by Knueven, Ostrowski and Watson.
use Rattle.std.specs.Prelude.{ℕ, ℤ, pos, ◌+ℤ◌, ◌*ℤ◌}
use Rattle.uc_model.specs.Sums.{sum_below}
use Rattle.uc_model.specs.Points.{weighted_cost}
use Rattle.uc_model.specs.StartCategory.{Thermal, category_cost}
use Rattle.uc_model.specs.Schedule.{Instance, Row, Schedule, thermal_unit, thermal_count}

-- the weighted point costs in period t, q times micro-dollars
abbrev pub production_cost : Thermal → Row → ℕ → ℤ
production_cost unit row t = weighted_cost unit.points (row.weight t)

-- what the unit costs in period t, q times micro-dollars
abbrev pub cell_cost : ℕ → Thermal → Row → ℕ → ℤ
cell_cost q unit row t = production_cost unit row t +ℤ pos q *ℤ category_cost unit (row.category t)

abbrev pub unit_cost : ℕ → ℕ → Thermal → Row → ℤ
unit_cost periods q unit row = sum_below periods (cell_cost q unit row)

-- A*s(t) + B*e(t), q times micro-dollars
abbrev pub shortage_cost : Instance → Schedule → ℕ → ℤ
shortage_cost instance x t = pos instance.a *ℤ x.shed t +ℤ pos instance.b *ℤ x.short t

-- the cost of the schedule, q times micro-dollars
abbrev pub cost : Instance → ℕ → Schedule → ℤ
cost instance q x =
    sum_below (thermal_count instance) (λ g. unit_cost instance.periods q (thermal_unit instance g) (x.thermal g))
    +ℤ sum_below instance.periods (shortage_cost instance x)
