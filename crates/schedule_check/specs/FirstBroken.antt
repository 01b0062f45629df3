-- The first place at which a schedule breaks a rule: in the order of the rules M1 to M17, then of the units, then of
-- the periods. Source: the rules of the reference model by Knueven, Ostrowski and Watson; the order is this project's own.
--
-- Units and periods count from 0. A rule on the whole system has the one unit 0, and M7 the one period 0.
use Rattle.std.specs.Prelude.{◌≡◌, ℕ, ◌<◌, Bool, false, IsTrue}
use Rattle.uc_model.specs.Prelude.{Rule, holds_at, rule_number, rule_units, rule_periods, Schedule}
pub use Rattle.uc_model.specs.declared.instance.Instance.{Instance}
pub use Rattle.schedule_check.specs.declared.broken.Broken.{Broken}

-- the rule's test holds for each unit and period of which the rule speaks
abbrev pub HoldsThroughout : Instance → (Rule → ℕ → ℕ → Bool) → Rule → Type 0
HoldsThroughout instance test rule =
    (g t : ℕ) → g < rule_units rule instance → t < rule_periods rule instance → IsTrue (test rule g t)

-- the first place at which the test of a rule fails
pub record FailsFirst (instance : Instance) (test : Rule → ℕ → ℕ → Bool) (broken : Broken) : Type 0 where
  pub rule : Rule
  pub number : broken.rule ≡ rule_number rule
  pub unit : broken.unit < rule_units rule instance
  pub period : broken.period < rule_periods rule instance
  pub fails : test rule broken.unit broken.period ≡ false
  -- each earlier rule holds
  pub rules : (earlier : Rule) → rule_number earlier < rule_number rule → HoldsThroughout instance test earlier
  -- and this one for each earlier unit, and for this unit in each earlier period
  pub units : (g t : ℕ) → g < broken.unit → t < rule_periods rule instance → IsTrue (test rule g t)
  pub periods : (t : ℕ) → t < broken.period → IsTrue (test rule broken.unit t)

-- the first place at which the schedule x over q breaks a rule
abbrev pub IsFirstBroken : Instance → ℕ → Schedule → Broken → Type 0
IsFirstBroken instance q x broken = FailsFirst instance (λ rule. holds_at rule instance q x) broken
