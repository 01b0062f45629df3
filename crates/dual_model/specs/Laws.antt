-- The laws that make the value of a node a bound, as statements. Source: weak duality of the Lagrangian
-- relaxation, and branch and bound, over the reference model by Knueven, Ostrowski and Watson.
use Rattle.std.specs.Prelude.{◌≡◌, ℕ, ◌<◌, ◌⊎◌, Bool, Option, Some, None, List, ℤ, pos, ◌*ℤ◌, ◌≤ℤ◌, ◌<ℤ◌, IsTrue, slice_get}
use Rattle.uc_model.specs.Prelude.{Schedule, thermal_count, cost, Obeys, IsLawfulInstance}
use Rattle.dual_model.specs.Prices.{Instance, Table, HasSizeOf, HasLawfulSigns, IsLawfulTable}
use Rattle.dual_model.specs.Fixings.{Node, agrees}
use Rattle.dual_model.specs.NodeValue.{IsNodeValue}
use Rattle.dual_model.specs.Opening.{IsShortageRay, HasRayNumbers}
use Rattle.dual_model.specs.ExactValue.{UnitSchedule, IsUnitSchedule, unit_schedule_value, IsExactBound, IsExactUnitValue, IsLeastWholeValue, HasNoUnitSchedule, IsExactNodeValue}
use Rattle.dual_model.specs.ValueKind.{IsValueOf, HasBlockedUnit}
use Rattle.dual_model.specs.LeastStarts.{cost_by_least_starts}
use Rattle.dual_model.specs.Tree.{Tree, root, child, agreeing_leaves, EachLeaf}
use Rattle.dual_model.specs.Cover.{Leaf, Bound, Ray, Empty, Holds, AllExcluded}
use Rattle.dual_model.specs.Certificate.{Certificate, CertificateHolds}

-- the table's value is a bound: it has the instance's size and the signs of a bound
pub record IsBoundTable (instance : Instance) (table : Table) : Type 0 where
  pub size : HasSizeOf instance table
  pub signs : HasLawfulSigns table

-- the schedule over q obeys and agrees with the node
pub record IsScheduleAt (instance : Instance) (node : Node) (q : ℕ) (x : Schedule) : Type 0 where
  pub obeys : Obeys instance q x
  pub agrees : IsTrue (agrees node x)

-- weak duality: q times the value of a node, of the kind, is at most K times the cost of each of its schedules
abbrev pub WeakDuality : Bool → Type 0
WeakDuality exact =
    (instance : Instance) (node : Node) (table : Table) (v : ℤ) (q : ℕ) (x : Schedule) → IsLawfulInstance instance
    → IsBoundTable instance table → IsValueOf exact instance node table v → IsScheduleAt instance node q x
    → (pos q *ℤ v) ≤ℤ (table.k *ℤ cost instance q x)

-- and at most K times that cost with the least start costs in place of the categories'
abbrev pub WeakDualityOfLeastStarts : Bool → Type 0
WeakDualityOfLeastStarts exact =
    (instance : Instance) (node : Node) (table : Table) (v : ℤ) (q : ℕ) (x : Schedule) → IsLawfulInstance instance
    → IsBoundTable instance table → IsValueOf exact instance node table v → IsScheduleAt instance node q x
    → (pos q *ℤ v) ≤ℤ (table.k *ℤ cost_by_least_starts instance q x)

-- a ray of positive value leaves no schedule
abbrev pub RaysExclude : Bool → Type 0
RaysExclude exact =
    (instance : Instance) (node : Node) (table : Table) (v : ℤ) (q : ℕ) (x : Schedule) → IsLawfulInstance instance
    → IsBoundTable instance table → IsValueOf exact instance node table v → table.k ≡ pos 0 → pos 0 <ℤ v
    → ¬ IsScheduleAt instance node q x

-- and so does a blocked unit
abbrev pub BlockedUnitsExclude : Bool → Type 0
BlockedUnitsExclude exact =
    (instance : Instance) (node : Node) (q : ℕ) (x : Schedule) → IsLawfulInstance instance
    → IsScheduleAt instance node q x → ¬ HasBlockedUnit exact instance node

-- a node has one value of a kind at most
abbrev pub ValuesAreUnique : Bool → Type 0
ValuesAreUnique exact =
    (instance : Instance) (node : Node) (table : Table) (v w : ℤ) → IsValueOf exact instance node table v
    → IsValueOf exact instance node table w → v ≡ w

-- a node has a value of the kind at each table, or some unit is blocked there
abbrev pub ValuesExist : Bool → Type 0
ValuesExist exact =
    (instance : Instance) (node : Node) (table : Table) → IsLawfulInstance instance
    → ((v : ℤ) × IsValueOf exact instance node table v) ⊎ HasBlockedUnit exact instance node

-- and at a node with a schedule it has one
abbrev pub ValuesExistAtSchedules : Bool → Type 0
ValuesExistAtSchedules exact =
    (instance : Instance) (node : Node) (table : Table) (q : ℕ) (x : Schedule) → IsLawfulInstance instance
    → IsScheduleAt instance node q x → (v : ℤ) × IsValueOf exact instance node table v

-- a child's value at its parent's table is at least the parent's, or the child has a blocked unit
abbrev pub ChildBound : Bool → Type 0
ChildBound exact =
    (instance : Instance) (node : Node) (g t : ℕ) (on : Bool) (table : Table) (v : ℤ) → IsLawfulInstance instance
    → IsValueOf exact instance node table v
    → ((w : ℤ) × IsValueOf exact instance (child node g t on) table w × (v ≤ℤ w))
    ⊎ HasBlockedUnit exact instance (child node g t on)

-- where both shortages have a price, no opening ray that asks for demand or reserve of a period alone excludes anything
abbrev pub ShortageRaysExcludeNothing : Bool → Type 0
ShortageRaysExcludeNothing exact =
    (instance : Instance) (node : Node) (n : ℕ) (table : Table) (v : ℤ) → IsLawfulInstance instance → 0 < instance.a
    → 0 < instance.b → IsShortageRay instance.periods n → HasRayNumbers instance n table → IsValueOf exact instance node table v
    → v ≤ℤ pos 0

-- every schedule agrees with exactly one leaf of a tree
abbrev pub LeavesPart : Type 0
LeavesPart = (x : Schedule) (tree : Tree Leaf) → agreeing_leaves x root tree ≡ 1

-- the table of that number, if there is one, is lawful
abbrev pub IsLawfulAt : Instance → List Table → ℕ → Type 0
IsLawfulAt instance tables number = (table : Table) → slice_get tables number ≡ Some table → IsLawfulTable instance table

-- the table that the leaf names is lawful
abbrev pub HasLawfulTable : Instance → List Table → Node → Leaf → Type 0
HasLawfulTable instance tables node (Bound exact number) = IsLawfulAt instance tables number
HasLawfulTable instance tables node (Ray exact number) = IsLawfulAt instance tables number
HasLawfulTable instance tables node (Empty exact g) = Unit {0}

-- the tables of the leaves are lawful
abbrev pub AreTablesLawful : Instance → List Table → Tree Leaf → Type 0
AreTablesLawful instance tables tree = EachLeaf (HasLawfulTable instance tables) root tree

-- no schedule costs less than b micro-dollars
abbrev pub IsLowerBound : Instance → ℤ → Type 0
IsLowerBound instance b = (q : ℕ) (x : Schedule) → Obeys instance q x → (pos q *ℤ b) ≤ℤ cost instance q x

-- there is no schedule
abbrev pub IsInfeasible : Instance → Type 0
IsInfeasible instance = (q : ℕ) (x : Schedule) → ¬ Obeys instance q x

-- a tree that holds for b bounds the cost of every schedule by b
abbrev pub CoversBound : Type 0
CoversBound =
    (instance : Instance) (tables : List Table) (tree : Tree Leaf) (b : ℤ) → IsLawfulInstance instance
    → AreTablesLawful instance tables tree → Holds instance tables tree b → IsLowerBound instance b

-- a tree whose leaves are all excluded leaves no schedule
abbrev pub CoversExclude : Type 0
CoversExclude =
    (instance : Instance) (tables : List Table) (tree : Tree Leaf) → IsLawfulInstance instance
    → AreTablesLawful instance tables tree → AllExcluded instance tables tree → IsInfeasible instance

-- what a certificate claims is true: its bound, or that there is no schedule
abbrev pub IsClaimTrue : Instance → Option ℤ → Type 0
IsClaimTrue instance (Some b) = IsLowerBound instance b
IsClaimTrue instance None = IsInfeasible instance

abbrev pub CertificatesClaimTruly : Type 0
CertificatesClaimTruly =
    (instance : Instance) (certificate : Certificate) → IsLawfulInstance instance → CertificateHolds instance certificate
    → IsClaimTrue instance certificate.bound

-- ---- exact values
-- a number that bounds a unit's schedules in whole watts bounds those over every denominator
abbrev pub WholeWattsBound : Type 0
WholeWattsBound =
    (instance : Instance) (node : Node) (table : Table) (g : ℕ) (m : ℤ)
    → ((x : UnitSchedule) → IsUnitSchedule instance node g 1 x → m ≤ℤ unit_schedule_value instance table g 1 x)
    → IsExactBound instance node table g m

-- and a unit with a schedule over some denominator has one in whole watts
abbrev pub WholeWattsExist : Type 0
WholeWattsExist =
    (instance : Instance) (node : Node) (g q : ℕ) (x : UnitSchedule) → IsUnitSchedule instance node g q x
    → (whole : UnitSchedule) × IsUnitSchedule instance node g 1 whole

-- so the least value of a schedule in whole watts is the unit's exact value, and the other way round
abbrev pub LeastWholeValuesAreExact : Type 0
LeastWholeValuesAreExact =
    (instance : Instance) (node : Node) (table : Table) (g : ℕ) (e : ℤ) → IsLeastWholeValue instance node table g e
    → IsExactUnitValue instance node table g e

abbrev pub ExactValuesAreLeast : Type 0
ExactValuesAreLeast =
    (instance : Instance) (node : Node) (table : Table) (g : ℕ) (e : ℤ) → IsLawfulInstance instance
    → g < thermal_count instance
    → IsExactUnitValue instance node table g e → IsLeastWholeValue instance node table g e

-- the exact value is at least the value, where both are there
abbrev pub ExactValuesReach : Type 0
ExactValuesReach =
    (instance : Instance) (node : Node) (table : Table) (v w : ℤ) → IsNodeValue instance node table v
    → IsExactNodeValue instance node table w → v ≤ℤ w

-- a unit has one exact value at most
abbrev pub ExactUnitValuesAreUnique : Type 0
ExactUnitValuesAreUnique =
    (instance : Instance) (node : Node) (table : Table) (g : ℕ) (e f : ℤ) → IsExactUnitValue instance node table g e
    → IsExactUnitValue instance node table g f → e ≡ f

-- a child's exact value at its parent's table is at least the parent's, where both are there
abbrev pub ExactValuesRise : Type 0
ExactValuesRise =
    (instance : Instance) (node : Node) (g t : ℕ) (on : Bool) (table : Table) (v w : ℤ)
    → IsExactNodeValue instance node table v
    → IsExactNodeValue instance (child node g t on) table w → v ≤ℤ w

-- a schedule that obeys and agrees with the node gives each unit a schedule of its own there
abbrev pub SchedulesAreUnitSchedules : Type 0
SchedulesAreUnitSchedules =
    (instance : Instance) (node : Node) (g q : ℕ) (x : Schedule) → IsLawfulInstance instance
    → IsScheduleAt instance node q x
    → g < thermal_count instance → (own : UnitSchedule) × IsUnitSchedule instance node g q own

-- a unit has an exact value, or no schedule of its own
abbrev pub ExactUnitValuesExist : Type 0
ExactUnitValuesExist =
    (instance : Instance) (node : Node) (table : Table) (g : ℕ) → IsLawfulInstance instance → g < thermal_count instance
    → ((e : ℤ) × IsExactUnitValue instance node table g e) ⊎ HasNoUnitSchedule instance node g
