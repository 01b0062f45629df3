-- The table that the root has before any claim, by how the drop commitment ends. This project's own.
use Rattle.std.specs.Prelude.{◌≡◌, ℤ}
pub use Rattle.uc_model.specs.declared.instance.Instance.{Instance}
use Rattle.dual_model.specs.Prelude.{IsNodeValue, zero_table, root}
pub use Rattle.dual_model.specs.declared.table.Table.{Table}
use Rattle.decommitment.specs.DropCommitment.{Ending, Dispatched, StuckIn}
use Rattle.opening.specs.RootTables.{IsGreaterTable}

-- the root's table and its value
abbrev pub IsRootTable : Instance → Ending → Table → ℤ → Type 0
IsRootTable instance (Dispatched printed cost) table value = IsGreaterTable instance printed table value
IsRootTable instance (StuckIn t) table value = (table ≡ zero_table instance) × IsNodeValue instance root table value
