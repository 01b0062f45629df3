-- Runs of on hours of one thermal unit, with ramps kept: what a unit may give in such a run, and the least value of that.
-- Source: the intervals of A. Frangioni and C. Gentile, "Solving Nonlinear Single-Unit Commitment Problems with Ramping
-- Constraints" (Operations Research 54, 2006), over the rules M8 to M12 of the reference model by Knueven, Ostrowski and
-- Watson, in whole watts.
--
-- A run is told by the period in which it begins and by the number of its hours. One that the unit was in before the first
-- period begins in that period, and may have no hour left. Units and periods count from 0 here, and hours within the run.
use Rattle.std.specs.Prelude.{◌≡◌, ℕ, zero, suc, ◌+◌, ◌<◌, ◌==◌, ℤ, pos, ◌+ℤ◌, ◌-ℤ◌, ◌*ℤ◌, ◌≤ℤ◌, Option, MatchOption}
use Rattle.uc_model.specs.Prelude.{sum_below, initial_p, cell_cap}
use Rattle.dual_model.specs.Prelude.{pi_at, mu_at, greatest_output}
pub use Rattle.uc_model.specs.declared.instance.Thermal.{Thermal}
pub use Rattle.dual_model.specs.declared.table.Table.{Table}
use Rattle.dual_model.specs.ExactValue.{floored_cost}

-- output above the minimum, and reserve, in each hour of a run, in watts
pub record Trajectory : Type 0 where
  pub p : ℕ → ℕ
  pub r : ℕ → ℕ

-- the output before a run that begins in the period: a start comes from none, and before the first period it is given
abbrev pub entry_output : Thermal → ℕ → ℤ
entry_output unit zero = initial_p unit
entry_output unit (suc t) = pos 0

-- the output before hour i
abbrev pub output_before_hour : Thermal → ℕ → Trajectory → ℕ → ℤ
output_before_hour unit from x zero = entry_output unit from
output_before_hour unit from x (suc i) = pos (x.p i)

-- the least of the right sides of M9 and M10 in hour i of a run of that many hours
abbrev pub hour_cap : ℕ → Thermal → ℕ → ℕ → ℕ → ℤ
hour_cap periods unit from hours i = cell_cap periods unit (from + i) (i == 0) (suc i == hours)

-- M11 and M12 from one output to the next one with its reserve
pub record KeepsRamps (unit : Thermal) (before p r : ℤ) : Type 0 where
  pub up : (p +ℤ r -ℤ before) ≤ℤ unit.ru
  pub down : (before -ℤ p) ≤ℤ unit.rd

-- what hour i of the run keeps: its output lies on the hull; M9, M10, M11 and M12
pub record IsHourOf (periods : ℕ) (unit : Thermal) (from hours : ℕ) (x : Trajectory) (i : ℕ) : Type 0 where
  pub width : pos (x.p i) ≤ℤ greatest_output unit.points
  pub cap : (pos (x.p i) +ℤ pos (x.r i)) ≤ℤ hour_cap periods unit from hours i
  pub ramps : KeepsRamps unit (output_before_hour unit from x i) (pos (x.p i)) (pos (x.r i))

-- a trajectory of the run: each hour keeps these, and a stop in the horizon ramps down to nothing
pub record IsTrajectory (periods : ℕ) (unit : Thermal) (from hours : ℕ) (x : Trajectory) : Type 0 where
  pub each : (i : ℕ) → i < hours → IsHourOf periods unit from hours x i
  pub stop : from + hours < periods → KeepsRamps unit (output_before_hour unit from x hours) (pos 0) (pos 0)

-- the run has a trajectory, or none
abbrev pub HasTrajectory : ℕ → Thermal → ℕ → ℕ → Type 0
HasTrajectory periods unit from hours = (x : Trajectory) × IsTrajectory periods unit from hours x

abbrev pub HasNoTrajectory : ℕ → Thermal → ℕ → ℕ → Type 0
HasNoTrajectory periods unit from hours = (x : Trajectory) → ¬ IsTrajectory periods unit from hours x

-- ---- values, in 1/K micro-dollars
-- what an hour in period t adds, L(p) - pi(t)*(p + Pmin) - mu(t)*r
abbrev pub hour_value : Table → Thermal → ℕ → ℕ → ℕ → ℤ
hour_value table unit t p r =
    floored_cost unit.points table.k 1 p -ℤ pi_at table t *ℤ (pos p +ℤ unit.pmin) -ℤ mu_at table t *ℤ pos r

abbrev pub trajectory_value : Table → Thermal → ℕ → ℕ → Trajectory → ℤ
trajectory_value table unit from hours x = sum_below hours (λ i. hour_value table unit (from + i) (x.p i) (x.r i))

-- v is the least value of a trajectory of the run
pub record IsLeastRunValue (periods : ℕ) (table : Table) (unit : Thermal) (from hours : ℕ) (v : ℤ) : Type 0 where
  pub x : Trajectory
  pub is_trajectory : IsTrajectory periods unit from hours x
  pub reached : v ≡ trajectory_value table unit from hours x
  pub least : (other : Trajectory) → IsTrajectory periods unit from hours other → v ≤ℤ trajectory_value table unit from hours other

-- v is that, or nothing where the run has no trajectory
abbrev pub IsRunValueOf : ℕ → Table → Thermal → ℕ → ℕ → Option ℤ → Type 0
IsRunValueOf periods table unit from hours v =
    MatchOption v (HasNoTrajectory periods unit from hours) (IsLeastRunValue periods table unit from hours)
