-- Choices of where a state of a unit ends, and what they cost.
use Rattle.std.specs.Prelude.{◌≡◌, ℕ, ◌⊎◌, ℤ, Option, Some, None, unwrap_or}
pub use Rattle.dual_model.specs.declared.choices.Choice.{Choice}

-- what a choice costs, where there is one
abbrev pub choice_cost : Option Choice → Option ℤ
choice_cost None = None
choice_cost (Some choice) = Some choice.cost

-- a choice is the one that was known, or a switch in period `at`, or none, of this cost
abbrev pub IsOneOf : Option Choice → Option ℤ → Option ℕ → Option Choice → Type 0
IsOneOf known cost at choice = (choice ≡ known) ⊎ ((v : ℤ) × (cost ≡ Some v) × (choice ≡ Some (record { cost = v; at = at })))

-- the period of the chosen switch, or the end of the horizon
abbrev pub ends_at : Choice → ℕ → ℕ
ends_at choice end = unwrap_or choice.at end

abbrev pub next_after : Option Choice → ℕ → ℕ
next_after None end = end
next_after (Some choice) end = ends_at choice end
