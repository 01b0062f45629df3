-- What contracts see of a price table: its numbers. This project's own form.
use Rattle.std.specs.Prelude.{ℕ, List, ℤ}
use Rattle.dual_model.specs.declared.table.RampRow.{RampRow}

-- the number n stands for n / k micro-dollars per watt, and k = 0 marks a ray: `pi` prices demand and `mu` reserve in
-- each period, and `ramps` the ramps of a system of `units` thermal units
pub record PriceTable : Type 0 where
  pub units : ℕ
  pub k : ℤ
  pub pi : List ℤ
  pub mu : List ℤ
  pub ramps : List RampRow
