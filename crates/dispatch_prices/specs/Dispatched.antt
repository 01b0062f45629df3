-- What the printed schedule of a commitment's dispatch is: it obeys, and where the basis is a cheapest one, the prices read off it bound its cost
-- exactly, and no schedule of the commitment costs less. Source: duality of linear programs (G. B. Dantzig, "Linear Programming and Extensions",
-- 1963), for the rules of the reference model by Knueven, Ostrowski and Watson.
use Rattle.std.specs.Prelude.{◌≡◌, ℕ, ◌+◌, ◌<◌, ℤ, pos, ◌<ℤ◌, ◌≤ℤ◌, ◌*ℤ◌, IsTrue}
use Rattle.std.specs.List.{list_all}
use Rattle.uc_model.specs.Prelude.{is_allowed, Schedule, thermal_unit, thermal_count, cell_at, printed_denominator, printed_schedule, cost, Obeys, IsLawfulInstance}
use Rattle.dual_model.specs.Prelude.{HasLawfulSigns, cost_by_least_starts, IsNodeValue}
use Rattle.dual_model.specs.Fixings as nodes
use Rattle.dual_model.specs.declared.table.Table.{Table}
use Rattle.dual_model.specs.declared.node.Node.{Node}
use Rattle.pivot_run.specs.Prelude.{row_at}
use Rattle.pivot_run.specs.Tables as pivots
use Rattle.dispatch_program.specs.Prelude.{IsReached, AreShares, basis_values, IsCheapest}
use Rattle.dispatch_rules.specs.Prelude.{Task, program, IsTask, IsReadOff, IsNodeOf, IsDispatch, Prints, Printed}

-- the commitment of each unit is allowed
abbrev pub IsAllowedTask : Task → Type 0
IsAllowedTask task =
    (g : ℕ) → g < thermal_count task.instance → IsTrue (is_allowed task.instance.periods (thermal_unit task.instance g) (task.on g))

-- the printed schedule of a dispatch obeys
abbrev pub DispatchesObey : Type 0
DispatchesObey =
    (task : Task) (d : ℤ) (v : ℕ → ℤ) (printed : Printed) → IsLawfulInstance task.instance → IsTask task → IsAllowedTask task
    → pos 0 <ℤ d → IsDispatch task d v → Prints task d v printed
    → Obeys task.instance (printed_denominator task.instance printed) (printed_schedule task.instance printed (printed_denominator task.instance printed))

-- ---- a cheapest basis
-- the node decides on cells of the instance alone, as the commitment does, and leaves no unit another pattern
pub record IsDecided (task : Task) (node : Node) : Type 0 where
  pub cells : nodes.IsNodeOf task.instance node
  pub agrees : IsTrue (list_all (λ fixing. nodes.keeps fixing (task.on fixing.g)) node.fixings)
  pub alone : IsNodeOf task node

-- the basis of the table t is a cheapest one, and the prices are read off its row of the cost
pub record IsPricedBasis (task : Task) (t : pivots.Table) (table : Table) : Type 0 where
  pub reached : IsReached (program task) t
  pub cheapest : IsCheapest (program task) t
  pub read : IsReadOff task (row_at t.rows ((program task).rules + 1)) table
  pub signs : HasLawfulSigns table
  pub scale : pos 0 <ℤ table.k

-- the printed schedule is the dispatch of the basis
pub record IsDispatched (task : Task) (t : pivots.Table) (printed : Printed) : Type 0 where
  pub d : ℤ
  pub share : ℕ → ℤ
  pub shares : AreShares t d share
  pub prints : Prints task d (basis_values (program task) t d share) printed

-- at the commitment's node the value at these prices is K times the cost of the printed schedule, with the least cost of each start
abbrev pub PricesAreExact : Type 0
PricesAreExact =
    (task : Task) (t : pivots.Table) (table : Table) (node : Node) (printed : Printed) (value : ℤ) → IsLawfulInstance task.instance → IsTask task
    → IsAllowedTask task → IsPricedBasis task t table → IsDispatched task t printed → IsDecided task node → IsNodeValue task.instance node table value
    → pos (printed_denominator task.instance printed) *ℤ value
    ≡ table.k *ℤ cost_by_least_starts task.instance (printed_denominator task.instance printed) (printed_schedule task.instance printed (printed_denominator task.instance printed))

-- a schedule over q of the commitment: it obeys, with its bits, and with the start categories of the printed one
pub record IsOfCommitment (task : Task) (printed : Printed) (q : ℕ) (x : Schedule) : Type 0 where
  pub obeys : Obeys task.instance q x
  pub on : (g t : ℕ) → g < thermal_count task.instance → t < task.instance.periods → (x.thermal g).on t ≡ task.on g t
  pub category : (g t : ℕ) → g < thermal_count task.instance → t < task.instance.periods → (x.thermal g).category t ≡ (cell_at printed g t).category

-- no schedule of the commitment costs less than the printed one
abbrev pub IsLeastDispatch : Task → Printed → Type 0
IsLeastDispatch task printed =
    (q : ℕ) (x : Schedule) → IsOfCommitment task printed q x
    → (pos q *ℤ cost task.instance (printed_denominator task.instance printed) (printed_schedule task.instance printed (printed_denominator task.instance printed)))
    ≤ℤ (pos (printed_denominator task.instance printed) *ℤ cost task.instance q x)

abbrev pub DispatchesAreLeast : Type 0
DispatchesAreLeast =
    (task : Task) (t : pivots.Table) (table : Table) (printed : Printed) → IsLawfulInstance task.instance → IsTask task → IsAllowedTask task
    → IsPricedBasis task t table → IsDispatched task t printed → IsLeastDispatch task printed
