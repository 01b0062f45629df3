-- What the exact dispatch of a commitment says of it: a cheapest schedule whose cost a table of prices bounds exactly, or a ray that excludes it.
-- Source: duality of linear programs (G. B. Dantzig, "Linear Programming and Extensions", 1963), for the reference model by Knueven, Ostrowski and
-- Watson.
use Rattle.std.specs.Prelude.{◌≡◌, ℕ, ◌<◌, List, ℤ, pos, ◌<ℤ◌, ◌≤ℤ◌, ◌*ℤ◌, IsTrue}
use Rattle.std.specs.List.{list_all}
use Rattle.uc_model.specs.Prelude.{Commitment, cost, HasShapeOf, cell_at, printed_denominator, printed_schedule, Obeys, Schedule, thermal_unit, thermal_count}
use Rattle.dual_model.specs.Prelude.{IsPatternAt, keeps, IsNodeOf, cost_by_least_starts, IsNodeValue, IsLawfulTable}
use Rattle.dual_model.specs.declared.node.Node.{Node}
use Rattle.dual_model.specs.declared.table.Table.{Table}
use Rattle.schedule_check.specs.SizedNumbers.{HasSizedNumbers}
use Rattle.start_costs.specs.Cheapest.{HasLeastCategory}
use Rattle.dispatch_rules.specs.Prelude.{commitment_at}
pub use Rattle.uc_model.specs.declared.instance.Instance.{Instance}
pub use Rattle.uc_model.specs.declared.pattern.Pattern.{Pattern}
pub use Rattle.uc_model.specs.declared.schedule.Printed.{Printed}

-- a node at which the commitment is decided: its decisions are cells of the instance and the commitment's, and leave no unit another pattern
pub record IsDecidedAt (instance : Instance) (patterns : List Pattern) (node : Node) : Type 0 where
  pub cells : IsNodeOf instance node
  pub agrees : IsTrue (list_all (λ fixing. keeps fixing (commitment_at patterns fixing.g)) node.fixings)
  pub alone : (g : ℕ) (other : Commitment) → g < thermal_count instance → IsPatternAt instance node g other
      → (t : ℕ) → t < instance.periods → commitment_at patterns g t ≡ other t

-- the schedule over its denominator that the printed one stands for
abbrev pub denominator_of : Instance → Printed → ℕ
denominator_of instance printed = printed_denominator instance printed

abbrev pub shown : Instance → Printed → Schedule
shown instance printed = printed_schedule instance printed (printed_denominator instance printed)

-- another schedule of the commitment: it obeys, with the same bits and the same start categories
pub record IsOfCommitment (instance : Instance) (patterns : List Pattern) (printed : Printed) (q : ℕ) (x : Schedule) : Type 0 where
  pub obeys : Obeys instance q x
  pub on : (g t : ℕ) → g < thermal_count instance → t < instance.periods → (x.thermal g).on t ≡ commitment_at patterns g t
  pub category : (g t : ℕ) → g < thermal_count instance → t < instance.periods → (x.thermal g).category t ≡ (cell_at printed g t).category

-- a cheapest schedule of the commitment, with prices that bound its cost exactly
pub record IsBestOf (instance : Instance) (patterns : List Pattern) (printed : Printed) (table : Table) : Type 0 where
  -- the schedule has the instance's shape, the commitment's bits and the least category of each start, and obeys
  pub shape : HasShapeOf instance printed
  pub numbers : HasSizedNumbers printed
  pub on : (g t : ℕ) → g < thermal_count instance → t < instance.periods → (cell_at printed g t).on ≡ commitment_at patterns g t
  pub category : (g t : ℕ) → g < thermal_count instance → t < instance.periods
      → HasLeastCategory (thermal_unit instance g) (commitment_at patterns g) t (cell_at printed g t).category
  pub obeys : Obeys instance (denominator_of instance printed) (shown instance printed)
  -- no schedule of the commitment costs less
  pub least : (q : ℕ) (x : Schedule) → IsOfCommitment instance patterns printed q x
      → (pos q *ℤ cost instance (denominator_of instance printed) (shown instance printed)) ≤ℤ (pos (denominator_of instance printed) *ℤ cost instance q x)
  -- the table is lawful, and its value where the commitment is decided is K times the schedule's cost, with the least cost of each start
  pub lawful : IsLawfulTable instance table
  pub scale : pos 0 <ℤ table.k
  pub exact : (node : Node) (value : ℤ) → IsDecidedAt instance patterns node → IsNodeValue instance node table value
      → pos (denominator_of instance printed) *ℤ value
      ≡ table.k *ℤ cost_by_least_starts instance (denominator_of instance printed) (shown instance printed)
  -- and there is such a value
  pub valued : (node : Node) → IsDecidedAt instance patterns node → (value : ℤ) × IsNodeValue instance node table value

-- prices that exclude the commitment
pub record IsRayOf (instance : Instance) (patterns : List Pattern) (table : Table) : Type 0 where
  pub lawful : IsLawfulTable instance table
  pub scale : table.k ≡ pos 0
  pub above : (node : Node) (value : ℤ) → IsDecidedAt instance patterns node → IsNodeValue instance node table value → pos 0 <ℤ value
