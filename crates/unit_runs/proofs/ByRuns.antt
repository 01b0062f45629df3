-- The exact value of a unit is the least value by runs of its patterns: a schedule costs at least the least values of its
-- runs, and trajectories that attain these make up a schedule.
use Rattle.std.proofs.Common.{◌≡◌, ℕ, ◌<◌, Bool, true, false, nat_lt, refl, subst, arith, ℤ, pos, ◌≤ℤ◌, IsTrue, []}
use Rattle.std.proofs.lemmas.Bool.{lt-ltb, ltb-true}
use Rattle.uc_model.specs.Prelude.{thermal_unit, thermal_count, IsLawfulInstance, IsLawfulThermal}
use Rattle.uc_model.proofs.Common.{linear, le_antisymm}
use Rattle.dual_model.specs.Prelude.{IsPatternAt, UnitSchedule, IsUnitSchedule, unit_schedule_value, IsLeastWholeValue}
use Rattle.dual_model.proofs.WholeWatts.{whole_watts_exist}
use Rattle.unit_runs.specs.Runs.{Table, Thermal, Trajectory, IsTrajectory, trajectory_value}
use Rattle.unit_runs.specs.Patterns.{Instance, Node, Commitment, begins, run_hours, EachRun, IsValueByRuns, HasTrajectories, IsLeastByRuns}
use Rattle.unit_runs.specs.Laws.{ExactValuesAreByRuns, ValuesByRunsAreExact, UnscheduledUnitsHaveNoRuns, UnitsWithoutRunsAreUnscheduled}
use Rattle.unit_runs.proofs.LeastValues.{least_value, least_there, value_by_runs, value_there}
use Rattle.unit_runs.proofs.RunSums.{sum_over_runs-le, sum_over_runs-same}
use Rattle.unit_runs.proofs.Joined.{cut, cuts-are, value-of_runs, joined, joined-is, joined-value}

-- ---- a trajectory for each run, as a function of the period in which it begins
chosen : (b c : Bool) → (IsTrue b → IsTrue c → Trajectory) → Trajectory
chosen true true f = f refl refl
chosen true false f = record { p = λ i. 0; r = λ i. 0 }
chosen false c f = record { p = λ i. 0; r = λ i. 0 }

chosen-is : (b c : Bool) (Q : Trajectory → Type 0) (f : IsTrue b → IsTrue c → (x : Trajectory) × Q x) → IsTrue b → IsTrue c
    → Q (chosen b c (λ h k. (f h k).0))
unfolding chosen
chosen-is true true Q f h k = (f refl refl).1
chosen-is true false Q f h k = cc
chosen-is false c Q f h k = cc

module _ (periods : ℕ) (unit : Thermal) (on : Commitment) (Q : ℕ → ℕ → Trajectory → Type 0)
    (runs : EachRun periods unit on (λ from hours. (x : Trajectory) × Q from hours x)) where
  abbrev trajectory : ℕ → Trajectory
  trajectory t = chosen (nat_lt t periods) (begins unit on t) (λ l b. (runs t (ltb-true t periods l) b).0)

  trajectory-is : EachRun periods unit on (λ from hours. Q from hours (trajectory from))
  trajectory-is t l b =
      chosen-is (nat_lt t periods) (begins unit on t) (Q t (run_hours periods on t)) (λ h k. runs t (ltb-true t periods h) k) (lt-ltb t periods l) b

-- ---- one unit
module _ (instance : Instance) (node : Node) (table : Table) (g : ℕ) (lawful : IsLawfulInstance instance) (known : g < thermal_count instance) where
  abbrev periods : ℕ
  periods = instance.periods

  abbrev unit : Thermal
  unit = thermal_unit instance g

  own : IsLawfulThermal unit
  own = lawful.thermal g known

  abbrev value_least : ℕ → ℕ → ℤ
  value_least = least_value periods table unit

  abbrev value_of : Commitment → ℤ
  value_of = value_by_runs periods table unit

  -- a schedule has a trajectory for each of its runs, and costs at least their least values
  schedule_runs : (x : UnitSchedule) → IsUnitSchedule instance node g 1 x → HasTrajectories periods unit x.on
  schedule_runs x is from l b = (cut x from, cuts-are periods unit x is.each from l b)

  schedule-at_least : (x : UnitSchedule) → IsUnitSchedule instance node g 1 x → value_of x.on ≤ℤ unit_schedule_value instance table g 1 x
  schedule-at_least x is =
      let least = least_there periods table unit x.on (schedule_runs x is) in
      let sum = sum_over_runs-le periods unit x.on value_least (λ from hours. trajectory_value table unit from hours (cut x from))
      (λ from l b. (least from l b).least (cut x from) (cuts-are periods unit x is.each from l b)) in
      let whole = value-of_runs instance table g x lawful.periods.0 in
      omega (arith, linear, sum, whole)

  -- trajectories of a pattern's runs make up a schedule
  joined_runs : (on : Commitment) → IsPatternAt instance node g on → HasTrajectories periods unit on
      → (x : UnitSchedule) × IsUnitSchedule instance node g 1 x
  joined_runs on pattern runs =
      let Q : ℕ → ℕ → Trajectory → Type 0 = λ from hours x. IsTrajectory periods unit from hours x in
      let each = trajectory-is periods unit on Q runs in
      (joined on (trajectory periods unit on Q runs), joined-is instance node g on _ own each pattern)

  -- a schedule of this value
  record Valued (v : ℤ) : Type 0 where
    x : UnitSchedule
    is : IsUnitSchedule instance node g 1 x
    value : v ≡ unit_schedule_value instance table g 1 x

  valued : (on : Commitment) (v : ℤ) → IsPatternAt instance node g on → IsValueByRuns periods table unit on v → Valued v
  valued on v pattern by_runs =
      let Q : ℕ → ℕ → Trajectory → Type 0 = λ from hours x.
      IsTrajectory periods unit from hours x × (by_runs.value from hours ≡ trajectory_value table unit from hours x) in
      let runs : EachRun periods unit on (λ from hours. (x : Trajectory) × Q from hours x) =
      λ from l b. let best = by_runs.runs from l b in (best.x, (best.is_trajectory, best.reached)) in
      let each = trajectory-is periods unit on Q runs in
      let tr = trajectory periods unit on Q runs in
      let same = sum_over_runs-same periods unit on by_runs.value (λ from hours. trajectory_value table unit from hours (tr from))
      (λ from l b. (each from l b).1) in
      let whole = joined-value instance node g on tr own (λ from l b. (each from l b).0) table lawful.periods.0 in
      let total = by_runs.total in
      record {
        x = joined on tr;
        is = joined-is instance node g on tr own (λ from l b. (each from l b).0) pattern;
        value = omega (arith, linear, same, whole, total);
      }

  -- ---- both ways
  by_runs_from : (e : ℤ) → IsLeastWholeValue instance node table g e → IsLeastByRuns instance node table g e
  by_runs_from e is =
      let runs = schedule_runs is.x is.is_schedule in
      let value = value_there periods table unit is.x.on runs in
      let low = schedule-at_least is.x is.is_schedule in
      let there = valued is.x.on (value_of is.x.on) is.is_schedule.pattern value in
      let high = is.least there.x there.is in
      let reached = is.reached in
      let at = there.value in
      let same : value_of is.x.on ≡ e = le_antisymm _ _ (omega (arith, linear, low, reached)) (omega (arith, linear, high, at)) in
      record {
        on = is.x.on;
        pattern = is.is_schedule.pattern;
        value = subst (λ v. IsValueByRuns periods table unit is.x.on v) same value;
        least = λ other w pattern by_runs.
            let own_schedule = valued other w pattern by_runs in
            let below = is.least own_schedule.x own_schedule.is in
            let is_value = own_schedule.value in
            omega (arith, linear, below, is_value);
      }

  exact_from : (e : ℤ) → IsLeastByRuns instance node table g e → IsLeastWholeValue instance node table g e
  exact_from e is =
      let best = valued is.on e is.pattern is.value in
      record {
        x = best.x;
        is_schedule = best.is;
        reached = best.value;
        least = λ other schedule.
            let below = is.least other.on (value_of other.on) schedule.pattern (value_there periods table unit other.on (schedule_runs other schedule)) in
            let low = schedule-at_least other schedule in
            omega (arith, linear, below, low);
      }

pub exact_values_are_by_runs : ExactValuesAreByRuns
exact_values_are_by_runs instance node table g e lawful known is = by_runs_from instance node table g lawful known e is

pub values_by_runs_are_exact : ValuesByRunsAreExact
values_by_runs_are_exact instance node table g e lawful known is = exact_from instance node table g lawful known e is

-- ---- and none
abbrev nothing : Table
nothing = record { units = 0; k = pos 0; pi = []; mu = []; ramps = [] }

pub unscheduled_units_have_no_runs : UnscheduledUnitsHaveNoRuns
unscheduled_units_have_no_runs instance node g lawful known none on pattern runs =
    let found = joined_runs instance node nothing g lawful known on pattern runs in none 1 found.0 found.1

pub units_without_runs_are_unscheduled : UnitsWithoutRunsAreUnscheduled
units_without_runs_are_unscheduled instance node g lawful known none q x is =
    let whole = whole_watts_exist instance node g q x is in
    none whole.0.on whole.1.pattern (schedule_runs instance node nothing g lawful known whole.0 whole.1)
