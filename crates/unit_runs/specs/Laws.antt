-- The laws of runs, as statements. Source: the decomposition of single-unit problems into intervals of on hours by A.
-- Frangioni and C. Gentile, "Solving Nonlinear Single-Unit Commitment Problems with Ramping Constraints" (Operations
-- Research 54, 2006), and Bellman's principle of optimality (Dynamic Programming, 1957).
use Rattle.std.specs.Prelude.{◌≡◌, ℕ, ◌<◌, ◌≤◌, ℤ, Some, MatchOption}
use Rattle.uc_model.specs.Prelude.{thermal_unit, thermal_count, IsLawfulThermal, IsLawfulInstance}
use Rattle.dual_model.specs.Prelude.{IsExactUnitValue, IsLeastWholeValue, HasNoUnitSchedule, IsFixOf, IsPattern, MAX_PERIODS}
use Rattle.unit_runs.specs.Runs.{Table, Thermal, IsRunValueOf}
use Rattle.unit_runs.specs.Patterns.{Instance, Node, Commitment, IsValueByRuns, IsLeastByRuns, HasNoRuns}
use Rattle.unit_runs.specs.CostThrough.{run_cost}
use Rattle.unit_runs.specs.RunsToGo.{Fix, least_runs, whole_way, IsLeastByFix, HasNoRunsByFix}

-- the recursion over hours gives the least value of a run, or that it has no trajectory
abbrev pub RunCostsAreLeast : Type 0
RunCostsAreLeast =
    (periods : ℕ) (table : Table) (unit : Thermal) (from hours : ℕ) → from < periods
    → IsRunValueOf periods table unit from hours (run_cost periods table unit from hours)

-- the exact value of a unit is the least value by runs of its patterns, and the other way round
abbrev pub ExactValuesAreByRuns : Type 0
ExactValuesAreByRuns =
    (instance : Instance) (node : Node) (table : Table) (g : ℕ) (e : ℤ) → IsLawfulInstance instance
    → g < thermal_count instance → IsLeastWholeValue instance node table g e → IsLeastByRuns instance node table g e

abbrev pub ValuesByRunsAreExact : Type 0
ValuesByRunsAreExact =
    (instance : Instance) (node : Node) (table : Table) (g : ℕ) (e : ℤ) → IsLawfulInstance instance
    → g < thermal_count instance → IsLeastByRuns instance node table g e → IsLeastWholeValue instance node table g e

-- there is none exactly where no pattern has a trajectory for each of its runs
abbrev pub UnscheduledUnitsHaveNoRuns : Type 0
UnscheduledUnitsHaveNoRuns =
    (instance : Instance) (node : Node) (g : ℕ) → IsLawfulInstance instance → g < thermal_count instance
    → HasNoUnitSchedule instance node g → HasNoRuns instance node g

abbrev pub UnitsWithoutRunsAreUnscheduled : Type 0
UnitsWithoutRunsAreUnscheduled =
    (instance : Instance) (node : Node) (g : ℕ) → IsLawfulInstance instance → g < thermal_count instance
    → HasNoRuns instance node g → HasNoUnitSchedule instance node g

-- ---- by what is decided of the unit
-- the recursion over periods gives the least value by runs of a pattern, or that none has a trajectory for each run
abbrev pub RunsToGoAreLeast : Type 0
RunsToGoAreLeast =
    (periods : ℕ) (table : Table) (unit : Thermal) (fix : Fix) → IsLawfulThermal unit → 1 ≤ periods → periods ≤ MAX_PERIODS
    → MatchOption (least_runs periods table unit fix) (HasNoRunsByFix periods unit fix) (IsLeastByFix periods table unit fix)

-- a commitment whose way has a cost is a pattern of that value
abbrev pub WaysAreValues : Type 0
WaysAreValues =
    (periods : ℕ) (table : Table) (unit : Thermal) (fix : Fix) (on : Commitment) (v : ℤ) → IsLawfulThermal unit → 1 ≤ periods
    → periods ≤ MAX_PERIODS → whole_way periods table unit fix on ≡ Some v
    → IsPattern periods unit fix on × IsValueByRuns periods table unit on v

-- where the fix says what a node decides of a unit of an instance, that value is the unit's exact value there
abbrev pub LeastByFixIsExact : Type 0
LeastByFixIsExact =
    (instance : Instance) (node : Node) (table : Table) (g : ℕ) (fix : Fix) (v : ℤ) → IsLawfulInstance instance
    → g < thermal_count instance → IsFixOf instance.periods node g fix
    → IsLeastByFix instance.periods table (thermal_unit instance g) fix v → IsExactUnitValue instance node table g v

abbrev pub NoRunsByFixMeansUnscheduled : Type 0
NoRunsByFixMeansUnscheduled =
    (instance : Instance) (node : Node) (g : ℕ) (fix : Fix) → IsLawfulInstance instance → g < thermal_count instance
    → IsFixOf instance.periods node g fix → HasNoRunsByFix instance.periods (thermal_unit instance g) fix
    → HasNoUnitSchedule instance node g
