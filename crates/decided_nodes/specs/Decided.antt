-- The exact dispatch at a node at which each cell is decided. Source: branch and bound on the commitment variables of the reference model by
-- Knueven, Ostrowski and Watson, whose leaves are linear programs.
use Rattle.std.specs.Prelude.{◌≡◌, ℕ, ◌<◌, ◌⊎◌, IsTrue, List, ℤ, true, false, length, None, Some}
use Rattle.uc_model.specs.Prelude.{printed_cost, thermal_count}
use Rattle.dual_model.specs.Prelude.{IsPatternAt, HasEmptyUnit, IsLawfulTable, is_decided}
pub use Rattle.dual_model.specs.declared.node.Node.{Node}
use Rattle.dispatch_rules.specs.Prelude.{commitment_at}
use Rattle.pivot_dispatch.specs.Answers.{IsAnswer}
pub use Rattle.pivot_dispatch.specs.Commitments.{Instance, Pattern}
use Rattle.pivot_dispatch.specs.declared.pivot.DispatchAnswer.{DispatchAnswer}
use Rattle.pivot_dispatch.specs.declared.pivot.WideCause.{WideCause}
use Rattle.pivot_dispatch.specs.declared.pivot.DispatchAnswer.TheVariants.{Best, Ray, Wide}
use Rattle.found_schedule.specs.Found.{IsFoundIfAny}
use Rattle.decided_nodes.specs.declared.decided.Decided.{Decided}

-- ---- the node
-- the node decides the unit's cells of the first periods
abbrev pub DecidesBelow : Node → ℕ → ℕ → Type 0
DecidesBelow node g periods = (t : ℕ) → t < periods → IsTrue (is_decided node g t)

-- it decides each cell of the instance
abbrev pub DecidesEach : Instance → Node → Type 0
DecidesEach instance node = (g : ℕ) → g < thermal_count instance → DecidesBelow node g instance.periods

-- it leaves the unit undecided in this one of the first periods
abbrev pub IsFreeBelow : Node → ℕ → ℕ → ℕ → Type 0
IsFreeBelow node g periods t = (t < periods) × (is_decided node g t ≡ false)

-- and this cell of the instance
abbrev pub IsFreeCell : Instance → Node → (ℕ × ℕ) → Type 0
IsFreeCell instance node cell = (cell.0 < thermal_count instance) × IsFreeBelow node cell.0 instance.periods cell.1

-- a pattern of each unit at the node
pub record ArePatternsAt (instance : Instance) (node : Node) (patterns : List Pattern) : Type 0 where
  pub count : length patterns ≡ thermal_count instance
  pub each : (g : ℕ) → g < thermal_count instance → IsPatternAt instance node g (commitment_at patterns g)

-- ---- its dispatch
-- what is told is the table of prices, with the schedule and its printed cost; or the ray
abbrev pub IsToldBy : Instance → DispatchAnswer → Decided → Type 0
IsToldBy instance (Best printed table) told = (told.table ≡ table) × (told.schedule ≡ Some (printed, printed_cost instance printed))
IsToldBy instance (Ray table) told = (told.table ≡ table) × (told.schedule ≡ None)
IsToldBy instance (Wide what size other pivots) told = ⊥

-- the exact dispatch of the patterns at the node: a lawful table, and a schedule that obeys, in whole numbers over a denominator
pub record IsDecided (instance : Instance) (node : Node) (told : Decided) : Type 0 where
  pub lawful : IsLawfulTable instance told.table
  pub found : IsFoundIfAny true instance told.schedule
  pub patterns : List Pattern
  pub are : ArePatternsAt instance node patterns
  pub pivot : DispatchAnswer
  pub answer : IsAnswer instance patterns pivot
  pub is : IsToldBy instance pivot told

-- its run meets a limit
pub record IsWideAt (instance : Instance) (node : Node) : Type 0 where
  pub patterns : List Pattern
  pub are : ArePatternsAt instance node patterns
  pub what : WideCause
  pub size : ℤ
  pub other : ℤ
  pub pivots : ℕ
  pub answer : IsAnswer instance patterns (Wide what size other pivots)

-- why there is none: a cell is undecided, a unit has no pattern at the node, or a limit is met
abbrev pub IsUndispatched : Instance → Node → Type 0
IsUndispatched instance node = (¬ DecidesEach instance node) ⊎ (HasEmptyUnit instance node ⊎ IsWideAt instance node)

-- where each cell is decided, these are its exact dispatch's, or there is none
abbrev pub IsDispatched : Instance → Node → Decided → Type 0
IsDispatched instance node told = IsDecided instance node told ⊎ (HasEmptyUnit instance node ⊎ IsWideAt instance node)
