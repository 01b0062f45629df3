-- The first broken rule among the first units. This project's own.
use Rattle.std.specs.Prelude.{◌≡◌, ℕ, ◌<◌, ◌≤◌, List, Option, Some, None}
use Rattle.uc_model.specs.Prelude.{Rule, rule_number}
use Rattle.uc_model.specs.declared.instance.Instance.{Instance}
use Rattle.uc_model.specs.declared.pattern.Pattern.{Pattern}
use Rattle.dispatch_repair.specs.Stuck.{IsCommitmentRule, KeepsRule}
pub use Rattle.dispatch_repair.specs.declared.regularity.BrokenRule.{BrokenRule}

-- the rule and unit are the first among the first n units
pub record IsFirstAmong (instance : Instance) (patterns : List Pattern) (n number unit : ℕ) : Type 0 where
  pub rule : Rule
  pub kind : IsCommitmentRule rule
  pub is : number ≡ rule_number rule
  pub within : unit < n
  pub breaks : ¬ KeepsRule instance patterns rule unit
  pub rules : (earlier : Rule) → IsCommitmentRule earlier → rule_number earlier < number
      → (g : ℕ) → g < n → KeepsRule instance patterns earlier g
  pub units : (g : ℕ) → g < unit → KeepsRule instance patterns rule g

-- the first broken rule of the first n units, or none where they keep them all
abbrev pub IsFirstOf : Instance → List Pattern → ℕ → Option BrokenRule → Type 0
IsFirstOf instance patterns n None = (rule : Rule) → IsCommitmentRule rule → (g : ℕ) → g < n → KeepsRule instance patterns rule g
IsFirstOf instance patterns n (Some broken) = IsFirstAmong instance patterns n broken.rule broken.unit

-- the earlier of a broken rule and one of a later unit: that of the lower number, and of two of one number that of the unit before
abbrev pub IsEarlier : Option BrokenRule → BrokenRule → Option BrokenRule → Type 0
IsEarlier None later result = result ≡ Some later
IsEarlier (Some first) later result = (first.rule ≤ later.rule → result ≡ Some first) × (later.rule < first.rule → result ≡ Some later)
