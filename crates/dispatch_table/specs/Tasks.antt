-- The task of an instance with a pattern and a curve for each thermal unit, its limits and its costs by parts.
-- Source: the exact dispatch as a linear program of whole numbers; this project's own form.
use Rattle.std.specs.Prelude.{◌≡◌, ℕ, suc, ◌<◌, ◌≤◌, ◌*◌, List, [], ◌∷◌, length, ℤ, pos, ◌*ℤ◌, int_div, unsigned_abs}
use Rattle.uc_model.specs.Prelude.{IsLawfulInstance, thermal_count, Rule, rule_units}
use Rattle.cost_curves.specs.UnitCurves.{AreCurvesOf, curve_in}
use Rattle.dispatch_rules.specs.Prelude.{commitment_at, cost_fraction, Task, Limit, limit, listed, copies}
use Rattle.uc_model.specs.declared.limits.TheConstants.{MAX_POWER, MAX_UNITS}
use Rattle.dispatch_rules.specs.declared.amount.Amount.{Amount}
use Rattle.dispatch_rules.specs.declared.amount.Amount.TheVariants.{Length}
pub use Rattle.dispatch_table.specs.declared.given.Given.{Given}

-- the instance is lawful, and there is a pattern and a curve for each unit
pub record IsGiven (given : Given) : Type 0 where
  pub lawful : IsLawfulInstance given.instance.now
  pub patterns : length given.patterns.now ≡ thermal_count given.instance.now
  pub curves : AreCurvesOf given.instance.now given.curves.now

-- its task, at a scale
abbrev pub task_with : Given → ℤ → Task
task_with given scale =
    record { instance = given.instance.now; on = commitment_at given.patterns.now; corners = curve_in given.curves.now; scale = scale }

-- and before its scale is known
abbrev pub task_of : Given → Task
task_of given = task_with given (pos 1)

-- the limits of a rule at a unit and a period, and at a unit
abbrev pub cell_limits : Task → Rule → ℕ → ℕ → List Limit
cell_limits task rule g t = listed (copies task rule g t) (λ k. limit rule g t k ∷ [])

abbrev pub unit_limits : Task → Rule → ℕ → List Limit
unit_limits task rule g = listed task.instance.periods (cell_limits task rule g)

-- a limit at a unit, a period and a segment that its rule has
pub record IsLimitIn (task : Task) (l : Limit) : Type 0 where
  pub unit : l.unit < rule_units l.rule task.instance
  pub period : l.period < task.instance.periods
  pub segment : l.segment < copies task l.rule l.unit l.period

-- an amount of a unit and a segment that there are
abbrev pub IsAmountIn : Task → Amount → Type 0
IsAmountIn task (Length g t k) = (g < thermal_count task.instance) × (suc k < length (task.corners g))
IsAmountIn task _ = Unit {0}

-- as large as a sum of the outputs of all thermal or all renewable units
abbrev pub IsOutputSum : ℤ → Type 0
IsOutputSum z = unsigned_abs z ≤ MAX_UNITS * MAX_POWER

-- ---- costs
-- what an amount costs, times a scale: the numerator as often as the denominator stands in the scale
abbrev pub scaled_cost : Task → ℤ → Amount → ℤ
scaled_cost task scale amount = (cost_fraction task amount).numerator *ℤ int_div scale (cost_fraction task amount).denominator

-- making it forms the product of these two numbers
abbrev pub AmountForms : Task → ℤ → Amount → ℤ → ℤ → Type 0
AmountForms task scale amount a b = (a ≡ (cost_fraction task amount).numerator) × (b ≡ int_div scale (cost_fraction task amount).denominator)
