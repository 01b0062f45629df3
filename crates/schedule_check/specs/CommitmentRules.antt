-- The rules on commitments alone, M1 to M5 and M7, on a unit's row. Source: the rules of the reference model by Knueven, Ostrowski and
-- Watson, as uc_model has them.
use Rattle.std.specs.Prelude.{◌≡◌, ℕ, ◌<◌, ◌⊎◌, List, length, IsTrue, Option, Some, None}
use Rattle.uc_model.specs.Prelude.{rule_number}
pub use Rattle.uc_model.specs.declared.instance.Thermal.{Thermal}
pub use Rattle.uc_model.specs.declared.schedule.Cell.{Cell}
use Rattle.schedule_check.specs.WholeWatts.{UnitRule, rule_of, unit_holds, unit_periods}

abbrev pub IsOnCommitments : UnitRule → Type 0
IsOnCommitments rule = (rule_number (rule_of rule) < 6) ⊎ (rule_number (rule_of rule) ≡ 7)

-- the row keeps the rule in each period of which it speaks
abbrev pub RowKeeps : Thermal → List Cell → UnitRule → Type 0
RowKeeps unit row rule = (t : ℕ) → t < unit_periods rule (length row) → IsTrue (unit_holds rule (length row) unit row t)

-- the rule of this number is the first on commitments that the row breaks
pub record BreaksFirst (unit : Thermal) (row : List Cell) (number : ℕ) : Type 0 where
  pub rule : UnitRule
  pub kind : IsOnCommitments rule
  pub is : number ≡ rule_number (rule_of rule)
  pub breaks : ¬ RowKeeps unit row rule
  pub earlier : (other : UnitRule) → IsOnCommitments other → rule_number (rule_of other) < number → RowKeeps unit row other

-- the number of the first rule on commitments that the row breaks, or none where it keeps them all
abbrev pub IsFirstBrokenRule : Thermal → List Cell → Option ℕ → Type 0
IsFirstBrokenRule unit row None = (rule : UnitRule) → IsOnCommitments rule → RowKeeps unit row rule
IsFirstBrokenRule unit row (Some number) = BreaksFirst unit row number
