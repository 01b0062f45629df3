-- The word that costs are kept as. This project's own form: a cost is kept as itself plus 2^63, so that the order of the words
-- is that of the costs, and the greatest word stands for nothing.
use Rattle.std.specs.Prelude.{ℕ, ◌+◌, ◌<◌, ◌≤◌, ◌==◌, ℤ, pos, ◌-ℤ◌, Option, Some, None, if◌then◌else◌}
use Rattle.uc_model.specs.declared.limits.TheConstants.{COST_MAX}

-- the word of the cost 0
abbrev pub HALF : ℕ
HALF = 9223372036854775808

-- the word of nothing
abbrev pub NOTHING : ℕ
NOTHING = 18446744073709551615

-- the cost that a word stands for
abbrev pub cost_of : ℕ → Option ℤ
cost_of word = if word == NOTHING then None else Some (pos word -ℤ pos HALF)

-- a word of nothing, or of a cost that a schedule can have
pub record IsCostWord (word : ℕ) : Type 0 where
  pub fits : word ≤ NOTHING
  pub cost : word < NOTHING → (HALF ≤ word + COST_MAX) × (word ≤ HALF + COST_MAX)
