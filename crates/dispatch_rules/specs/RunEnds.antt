-- What the end of a run on a commitment's table gives: a ray that excludes the commitment, or a dispatch whose cost the value of its node covers.
-- Source: the two phases of the simplex method and duality (G. B. Dantzig, "Linear Programming and Extensions", 1963).
use Rattle.std.specs.Prelude.{◌≡◌, ℕ, ◌+◌, ℤ, pos, ◌+ℤ◌, ◌*ℤ◌, ◌≤ℤ◌, ◌<ℤ◌}
use Rattle.uc_model.specs.Prelude.{IsLawfulInstance}
use Rattle.dual_model.specs.declared.table.Table.{Table}
use Rattle.dual_model.specs.declared.node.Node.{Node}
use Rattle.dual_model.specs.Prelude.{IsNodeValue}
use Rattle.pivot_run.specs.Prelude.{row_at}
use Rattle.pivot_run.specs.Tables as pivots
use Rattle.dispatch_program.specs.Prelude.{IsReached, AreShares, basis_values, SumIsLeft, IsCheapest}
use Rattle.dispatch_rules.specs.Dispatch.{Task, program}
use Rattle.dispatch_rules.specs.Duals.{IsTask, IsReadOff, IsNodeOf, cost_times, left_costs, start_costs}
use Rattle.dispatch_rules.specs.Primals.{IsDispatch, AreSegments, dispatch_cost}

-- a sum is left: the prices read off its row have the scale 0, and the value of the commitment's node is above 0 there
abbrev pub RunsGiveRays : Type 0
RunsGiveRays =
    (task : Task) (t : pivots.Table) (table : Table) (node : Node) (v : ℤ) → IsLawfulInstance task.instance → IsTask task
    → IsReached (program task) t → SumIsLeft (program task) t → IsReadOff task (row_at t.rows (program task).rules) table → IsNodeOf task node
    → IsNodeValue task.instance node table v
    → (table.k ≡ pos 0) × (pos 0 <ℤ v)

-- the basis is a cheapest one: its values are a dispatch, whose cost the value of the commitment's node covers at the prices read off the row of the cost
abbrev pub RunsGiveDispatches : Type 0
RunsGiveDispatches =
    (task : Task) (t : pivots.Table) (table : Table) (node : Node) (v d : ℤ) (share : ℕ → ℤ) (segment : ℕ → ℕ → ℕ)
    → IsLawfulInstance task.instance → IsTask task
    → IsReached (program task) t → IsCheapest (program task) t → AreShares t d share → IsReadOff task (row_at t.rows ((program task).rules + 1)) table
    → IsNodeOf task node → IsNodeValue task.instance node table v → AreSegments task segment
    → IsDispatch task d (basis_values (program task) t d share)
    × ((d *ℤ (left_costs task (row_at t.rows ((program task).rules + 1)) +ℤ start_costs task (row_at t.rows ((program task).rules + 1)))
    +ℤ cost_times task (row_at t.rows ((program task).rules + 1)) *ℤ dispatch_cost task d (basis_values (program task) t d share) segment) ≤ℤ (d *ℤ v))
