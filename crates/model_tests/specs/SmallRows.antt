-- Start categories with small numbers, as the units that are drawn have them. This project's own.
use Rattle.std.specs.Prelude.{◌≤◌, unsigned_abs}
use Rattle.uc_model.specs.declared.instance.StartRow.{StartRow}

pub record IsSmallRow (row : StartRow) : Type 0 where
  pub lag : row.lag ≤ 5
  pub cost : unsigned_abs row.cost ≤ 128
