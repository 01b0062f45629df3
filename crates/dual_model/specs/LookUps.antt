-- The law of a table's look-ups, as a statement. This project's own form of a table.
use Rattle.std.specs.Prelude.{◌≡◌, ℕ}
use Rattle.dual_model.specs.Prices.{Table, IsWellFormed, row_of, unit_rows}

-- the rows of a unit, by the places where units begin, hold what a look-up from the front of all rows finds
abbrev pub LookUpsAgree : Type 0
LookUpsAgree = (table : Table) (g t : ℕ) → IsWellFormed table → row_of (unit_rows table.ramps g) g t ≡ row_of table.ramps g t
