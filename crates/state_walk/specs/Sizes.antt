-- What contracts see of the memory of exact walks.
use Rattle.std.specs.Prelude.{ℕ}

-- for how many periods it is, and for how many points of a unit
pub record Size : Type 0 where
  pub periods : ℕ
  pub points : ℕ
