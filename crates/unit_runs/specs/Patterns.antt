-- A pattern of one thermal unit as its runs of on hours, and the unit's exact value by these. Source: the graph of A.
-- Frangioni and C. Gentile, "Solving Nonlinear Single-Unit Commitment Problems with Ramping Constraints" (Operations
-- Research 54, 2006), whose arcs are the intervals in which the unit is on.
--
-- Units and periods count from 0 here.
use Rattle.std.specs.Prelude.{ℕ, zero, suc, ◌-◌, ◌<◌, Bool, ◌&&◌, ◌||◌, ◌==◌, ℤ, pos, ◌+ℤ◌, ◌*ℤ◌, ◌≤ℤ◌, IsTrue, if◌then◌else◌, ◌≡◌}
use Rattle.uc_model.specs.Prelude.{sum_below, last_stop, sigma, thermal_unit}
pub use Rattle.uc_model.specs.Prelude.{Commitment, starts}
use Rattle.dual_model.specs.Prelude.{IsPatternAt}
pub use Rattle.uc_model.specs.declared.instance.Instance.{Instance}
pub use Rattle.dual_model.specs.declared.node.Node.{Node}
use Rattle.unit_runs.specs.Runs.{Thermal, Table, HasTrajectory, IsLeastRunValue}

-- a run begins in period t: at a start, or in the first period where the unit was on before
abbrev pub begins : Thermal → Commitment → ℕ → Bool
begins unit on t = starts unit on t || (unit.on0 && (t == 0))

-- how many of the n periods from t on the unit is on for before it is off
abbrev pub hours_on : Commitment → ℕ → ℕ → ℕ
hours_on on zero t = 0
hours_on on (suc n) t = if on t then suc (hours_on on n (suc t)) else 0

-- the hours of the run that begins in period t
abbrev pub run_hours : ℕ → Commitment → ℕ → ℕ
run_hours periods on t = hours_on on (periods - t) t

-- each run of the commitment is one of P, by the period in which it begins and its hours
abbrev pub EachRun : ℕ → Thermal → Commitment → (ℕ → ℕ → Type 0) → Type 0
EachRun periods unit on P = (t : ℕ) → t < periods → IsTrue (begins unit on t) → P t (run_hours periods on t)

-- the sum of f over the runs of the commitment
abbrev pub sum_over_runs : ℕ → Thermal → Commitment → (ℕ → ℕ → ℤ) → ℤ
sum_over_runs periods unit on f = sum_below periods (λ t. if begins unit on t then f t (run_hours periods on t) else pos 0)

-- K times the least start cost at each start
abbrev pub start_costs : ℕ → Table → Thermal → Commitment → ℤ
start_costs periods table unit on =
    sum_below periods (λ t. if starts unit on t then table.k *ℤ sigma unit (last_stop unit on t) t else pos 0)

-- v is the value of the commitment by its runs: the least value of each, and the start costs. There is none where some run
-- has no trajectory
pub record IsValueByRuns (periods : ℕ) (table : Table) (unit : Thermal) (on : Commitment) (v : ℤ) : Type 0 where
  pub value : ℕ → ℕ → ℤ
  pub runs : EachRun periods unit on (λ from hours. IsLeastRunValue periods table unit from hours (value from hours))
  pub total : v ≡ sum_over_runs periods unit on value +ℤ start_costs periods table unit on

-- each run of the commitment has a trajectory
abbrev pub HasTrajectories : ℕ → Thermal → Commitment → Type 0
HasTrajectories periods unit on = EachRun periods unit on (HasTrajectory periods unit)

-- e is the least value by runs of a pattern of unit g at the node
pub record IsLeastByRuns (instance : Instance) (node : Node) (table : Table) (g : ℕ) (e : ℤ) : Type 0 where
  pub on : Commitment
  pub pattern : IsPatternAt instance node g on
  pub value : IsValueByRuns instance.periods table (thermal_unit instance g) on e
  pub least : (other : Commitment) (w : ℤ) → IsPatternAt instance node g other
      → IsValueByRuns instance.periods table (thermal_unit instance g) other w → e ≤ℤ w

-- no pattern of unit g at the node has a trajectory for each of its runs
abbrev pub HasNoRuns : Instance → Node → ℕ → Type 0
HasNoRuns instance node g =
    (on : Commitment) → IsPatternAt instance node g on → ¬ HasTrajectories instance.periods (thermal_unit instance g) on
