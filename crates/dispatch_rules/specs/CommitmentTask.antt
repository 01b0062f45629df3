-- The task of a commitment: an instance, a pattern for each of its thermal units, the corners of their hulls, and the scale by which costs
-- are whole, the least common multiple of the denominators of the amounts' costs, taken amount by amount.
-- Source: the exact dispatch as a linear program of whole numbers; this project's own form.
use Rattle.std.specs.Prelude.{◌≡◌, ℕ, zero, suc, ◌<◌, ◌⊎◌, List, length, slice_index_or, ℤ, pos, int_div, IsTrue}
use Rattle.uc_model.specs.Prelude.{Commitment, is_allowed, commitment_of, thermal_unit, thermal_count}
pub use Rattle.uc_model.specs.declared.pattern.Pattern.{Pattern}
pub use Rattle.uc_model.specs.declared.instance.Instance.{Instance}
use Rattle.cost_curves.specs.LowerHull.{IsLowerHull}
use Rattle.fractions.specs.Fractions.{lowest, joined, JoinForms}
use Rattle.fractions.specs.declared.fraction.Fraction.{Fraction}
use Rattle.dispatch_rules.specs.Cells.{rise_at, width_at}
use Rattle.dispatch_rules.specs.Dispatch.{Task, Amount, Length, Held, Given, Shed, Short, Limit, limit, amounts, amount_at}
use Rattle.uc_model.specs.Rules as model
use Rattle.dispatch_rules.specs.declared.limit.LimitAt.{LimitAt}
use Rattle.dispatch_rules.specs.declared.limit.LimitRule.{LimitRule}
use Rattle.dispatch_rules.specs.declared.limit.LimitRule.TheVariants.{Production, StartCap, StopCap, RampUp, RampDown, RenewableRange, Demand, Reserve, ShedRange, ShortRange}

-- the limit that the code names
abbrev pub rule_of : LimitRule → model.Rule
rule_of Production = model.Production
rule_of StartCap = model.StartCap
rule_of StopCap = model.StopCap
rule_of RampUp = model.RampUp
rule_of RampDown = model.RampDown
rule_of RenewableRange = model.RenewableRange
rule_of Demand = model.Demand
rule_of Reserve = model.Reserve
rule_of ShedRange = model.ShedRange
rule_of ShortRange = model.ShortRange

abbrev pub limit_of : LimitAt → Limit
limit_of at_limit = limit (rule_of at_limit.rule) at_limit.unit at_limit.period at_limit.segment

-- the commitment of unit g; past the last pattern it is off
abbrev pub commitment_at : List Pattern → ℕ → Commitment
commitment_at patterns g = commitment_of (slice_index_or patterns g (record { low = 0; high = 0 }))

-- each unit has a pattern, and it is allowed
pub record AreAllowed (instance : Instance) (patterns : List Pattern) : Type 0 where
  pub count : length patterns ≡ thermal_count instance
  pub allowed : (g : ℕ) → g < thermal_count instance → IsTrue (is_allowed instance.periods (thermal_unit instance g) (commitment_at patterns g))

-- ---- costs
-- what a watt of an amount costs in an hour, in micro-dollars, in lowest terms
abbrev pub cost_fraction : Task → Amount → Fraction
cost_fraction task (Length g t k) = lowest (rise_at (task.corners g) k) (width_at (task.corners g) k)
cost_fraction task (Held g t) = record { numerator = pos 0; denominator = pos 1 }
cost_fraction task (Given w t) = record { numerator = pos 0; denominator = pos 1 }
cost_fraction task (Shed t) = record { numerator = pos task.instance.a; denominator = pos 1 }
cost_fraction task (Short t) = record { numerator = pos task.instance.b; denominator = pos 1 }

abbrev pub fraction_at : Task → ℕ → Fraction
fraction_at task c = cost_fraction task (amount_at task c)

-- the least common multiple of the denominators of the first n amounts' costs
abbrev pub scale_to : Task → ℕ → ℤ
scale_to task zero = pos 1
scale_to task (suc n) = joined (scale_to task n) (fraction_at task n).denominator

-- making it, or an amount's cost by it, forms the product of these two numbers
abbrev pub ScaleForms : Task → ℤ → ℤ → Type 0
ScaleForms task a b = (c : ℕ) × (c < length (amounts task)) × JoinForms (scale_to task c) (fraction_at task c).denominator a b

abbrev pub CostForms : Task → ℤ → ℤ → Type 0
CostForms task a b =
    (c : ℕ) × (c < length (amounts task))
    × (a ≡ (fraction_at task c).numerator) × (b ≡ int_div (scale_to task (length (amounts task))) (fraction_at task c).denominator)

abbrev pub MakingForms : Task → ℤ → ℤ → Type 0
MakingForms task a b = ScaleForms task a b ⊎ CostForms task a b

-- ---- the task
pub record IsTaskOf (instance : Instance) (patterns : List Pattern) (task : Task) : Type 0 where
  pub instance_is : task.instance ≡ instance
  pub on : (g t : ℕ) → task.on g t ≡ commitment_at patterns g t
  pub corners : (g : ℕ) → g < thermal_count instance → IsLowerHull (thermal_unit instance g).points (task.corners g)
  pub scale : task.scale ≡ scale_to task (length (amounts task))
