-- A commitment's table has no rays, so a row leaves wherever a column enters by the cost's row.
-- Source: the rays of a linear program (G. B. Dantzig, "Linear Programming and Extensions", 1963).
use Rattle.std.specs.Prelude.{◌≡◌, ℕ, ◌<◌, ◌⊎◌, ℤ, pos, ◌≤ℤ◌, IsSome, None, IsTrue, if◌then◌else◌}
use Rattle.uc_model.specs.Prelude.{start_cap, thermal_unit, thermal_count, IsLawfulInstance}
use Rattle.pivot_run.specs.Prelude.{Table, leaving}
use Rattle.pivot_run.specs.Stages.{plan_at}
use Rattle.dispatch_program.specs.Prelude.{Unknown, Slack, Artificial, is_limit, has_artificial, place, free_columns, IsRay, IsReached, HasZeros, state_at, SumIsLeft, IsCheapest}
use Rattle.dispatch_rules.specs.Dispatch.{Task, program}
use Rattle.dispatch_rules.specs.Duals.{IsTask}

-- each on cell has a start cap of at least 0
abbrev pub HasRoom : Task → Type 0
HasRoom task =
    (g t : ℕ) → g < thermal_count task.instance → t < task.instance.periods → IsTrue (task.on g t)
    → pos 0 ≤ℤ start_cap (thermal_unit task.instance g) (task.on g) t

-- a ray has no unknown, and a slack only beside as much of the rule's artificial column
abbrev pub NoRays : Type 0
NoRays =
    (task : Task) (v : ℕ → ℤ) → IsLawfulInstance task.instance → IsTask task → HasRoom task → IsRay (program task) v
    → ((c : ℕ) → c < (program task).unknowns → v (place (program task) (Unknown c)) ≡ pos 0)
    × ((i : ℕ) → i < (program task).rules → IsTrue (is_limit (program task) i)
    → v (place (program task) (Slack i)) ≡ (if has_artificial (program task) i then v (place (program task) (Artificial i)) else pos 0))

-- where a column enters that isn't artificial, and each row whose basic column is artificial has 0 there, a row leaves
abbrev pub CostsGoOn : Type 0
CostsGoOn =
    (task : Task) (t : Table) (j : ℕ) → IsLawfulInstance task.instance → IsTask task → HasRoom task → IsReached (program task) t
    → j < free_columns (program task) → HasZeros (program task) t j → IsSome (leaving t j t.constraints)

-- so a run from the start ends with a sum that is left, or at a cheapest basis
abbrev pub RunsEndLast : Type 0
RunsEndLast =
    (task : Task) (n : ℕ) → IsLawfulInstance task.instance → IsTask task → HasRoom task
    → plan_at (free_columns (program task)) (state_at (program task) n) ≡ None
    → SumIsLeft (program task) (state_at (program task) n).table ⊎ IsCheapest (program task) (state_at (program task) n).table
