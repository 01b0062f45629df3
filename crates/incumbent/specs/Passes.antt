-- What contracts see of an incumbent and of its passes. This project's own form.
use Rattle.std.specs.Prelude.{ℕ, ℤ, Option}
use Rattle.atomic_table.specs.Seated.{TableId}

-- which incumbent it is, and in how many parts the right to close it is cut
pub record Incumbent : Type 0 where
  pub object : TableId
  pub parts : ℕ

-- whose pass it is; the least cost that it has seen, the least that it has published, and what the word held at its last
-- step, each a cost or nothing; and its parts
pub record Known : Type 0 where
  pub object : TableId
  pub seen : Option ℤ
  pub mine : Option ℤ
  pub found : Option ℤ
  pub parts : ℕ
