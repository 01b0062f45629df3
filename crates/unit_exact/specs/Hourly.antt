-- When a unit's exact value is at most the plain value of a pattern. Source: the single-unit problems of the Lagrangian
-- relaxation of the reference model by Knueven, Ostrowski and Watson: an optimum that keeps a relaxed rule by itself is one with
-- this rule.
use Rattle.std.specs.Prelude.{ℕ, ℤ, ◌≤ℤ◌}
use Rattle.uc_model.specs.Prelude.{Commitment}
use Rattle.dual_model.specs.Prelude.{UnitSchedule, IsUnitSchedule, unit_schedule_value, IsPatternValue}
use Rattle.unit_runs.specs.Patterns.{Instance, Node}
use Rattle.unit_runs.specs.Runs.{Table}

-- unit g has a schedule of its own at the node that is worth at most the pattern's value
pub record HasScheduleWithin (instance : Instance) (node : Node) (table : Table) (g : ℕ) (on : Commitment) : Type 0 where
  pub x : UnitSchedule
  pub is_schedule : IsUnitSchedule instance node g 1 x
  pub within : (v : ℤ) → IsPatternValue instance table g on v → unit_schedule_value instance table g 1 x ≤ℤ v
