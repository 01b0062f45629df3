-- The table that the root has before any claim. This project's own.
use Rattle.std.specs.Prelude.{◌≡◌, ◌⊎◌, ◌≤◌, ℤ, ◌<ℤ◌, ◌≤ℤ◌, unsigned_abs}
use Rattle.uc_model.specs.declared.instance.Instance.{Instance}
use Rattle.uc_model.specs.declared.schedule.Printed.{Printed}
use Rattle.dual_model.specs.Prelude.{MAX_VALUE, IsNodeValue, ZERO_SCALE, zero_table, IsLawfulTable, root}
use Rattle.dual_model.specs.declared.table.Table.{Table}
use Rattle.opening_tables.specs.Marginal.{IsMarginalTable}
use Rattle.opening.specs.declared.root_tables.Priced.{Priced}

-- the root's value at the table
pub record IsValueAt (instance : Instance) (table : Table) (value : ℤ) : Type 0 where
  pub lawful : IsLawfulTable instance table
  pub is_value : IsNodeValue instance root table value
  pub size : unsigned_abs value ≤ MAX_VALUE

-- a table of the opening with the root's value there
pub record IsPricedOf (instance : Instance) (priced : Priced) : Type 0 where
  pub valued : IsValueAt instance priced.table priced.value
  pub scale : priced.table.k ≡ ZERO_SCALE

-- the table with the greater value of the root, of that of no prices and that of a schedule's marginal prices; that of no prices
-- where both values are equal
pub record IsGreaterTable (instance : Instance) (printed : Printed) (table : Table) (value : ℤ) : Type 0 where
  pub marginal : Table
  pub is_marginal : IsMarginalTable instance printed marginal
  pub at_zero : ℤ
  pub is_at_zero : IsNodeValue instance root (zero_table instance) at_zero
  pub at_marginal : ℤ
  pub is_at_marginal : IsNodeValue instance root marginal at_marginal
  pub taken :
      ((at_zero <ℤ at_marginal) × (table ≡ marginal) × (value ≡ at_marginal))
      ⊎ ((at_marginal ≤ℤ at_zero) × (table ≡ zero_table instance) × (value ≡ at_zero))
