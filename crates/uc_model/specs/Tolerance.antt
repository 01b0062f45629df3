-- How far a lower bound may stay below a cost: the relative gap of a mixed-integer solver, in parts per million of the cost's size.
use Rattle.std.specs.Prelude.{ℕ, ◌*◌, ◌/◌, ℤ, unsigned_abs}

-- the part of the cost's size, rounded down
abbrev pub tolerance_of : ℤ → ℕ → ℕ
tolerance_of cost gap = unsigned_abs cost * gap / 1000000
