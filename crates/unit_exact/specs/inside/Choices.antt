-- Choices of where a state ends, and what they cost.
use Rattle.std.specs.Prelude.{◌≡◌, ◌⊎◌, ℤ, ◌≤ℤ◌, Option, Some, None}
pub use Rattle.uc_model.specs.declared.pattern.Pattern.{Pattern}
pub use Rattle.dual_model.specs.declared.choices.Choice.{Choice}
pub use Rattle.dual_model.specs.Prelude.{choice_cost, IsOneOf}

-- the cost is not below the limit: where it is there, so is the limit
abbrev pub IsReached : Option ℤ → Option ℤ → Type 0
IsReached limit cost = (v : ℤ) → cost ≡ Some v → (l : ℤ) × (limit ≡ Some l) × (l ≤ℤ v)

-- what is found of a cost by a limit: it, or none where it is not below the limit
abbrev pub IsCostBelow : Option ℤ → Option ℤ → Option ℤ → Type 0
IsCostBelow limit cost found = (found ≡ cost) ⊎ ((found ≡ None) × IsReached limit cost)

-- the value that is found with a pattern
abbrev pub value_of : Option (ℤ × Pattern) → Option ℤ
value_of None = None
value_of (Some best) = Some best.0
