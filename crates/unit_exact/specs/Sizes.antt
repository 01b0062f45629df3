-- What contracts see of the memory of exact values, and how large these are.
use Rattle.std.specs.Prelude.{ℕ, ◌^◌}

-- for how many periods it is, and for how many points of a unit
pub record Size : Type 0 where
  pub periods : ℕ
  pub points : ℕ

-- the size of an exact value of a unit; the limit is this project's
abbrev pub MAX_EXACT : ℕ
MAX_EXACT = 10 ^ 32
