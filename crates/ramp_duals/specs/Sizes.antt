-- How large a unit's constant is. The limit in size is this project's.
use Rattle.std.specs.Prelude.{ℕ, ◌^◌}

abbrev pub MAX_CONSTANT : ℕ
MAX_CONSTANT = 10 ^ 30
