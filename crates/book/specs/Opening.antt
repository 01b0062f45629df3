-- With what a book begins. This project's own form.
use Rattle.std.specs.Prelude.{ℕ, ◌≤◌, ℤ, pos, ◌<ℤ◌, false, []}
use Rattle.uc_model.specs.Prelude.{IsLawfulInstance, thermal_count}
pub use Rattle.uc_model.specs.declared.instance.Instance.{Instance}
pub use Rattle.uc_model.specs.declared.tolerance.TheConstants.{WHOLE_GAP}
use Rattle.dual_model.specs.Prelude.{IsTableBound, IsLawfulTable, root}
use Rattle.branch_tree.specs.Prelude.{no_table}
pub use Rattle.search_machine.specs.Prelude.{Machine}
pub use Rattle.dual_model.specs.declared.table.Table.{Table}
use Rattle.search_machine.specs.Prelude.{start_of}
pub use Rattle.search_machine.specs.declared.limits.TheConstants.{MAX_BUDGET}

-- the instance, for how many claims there is room, the gap in parts per million, and the root's table with its bound
pub record Opening : Type 0 where
  pub instance : Instance
  pub budget : ℕ
  pub gap : ℕ
  pub table : Table
  pub value : ℤ

-- the instance and the numbers are within their limits, and the table is a lawful one whose bound at the root is the value, by V
pub record IsTrueOpening (opening : Opening) : Type 0 where
  pub instance : IsLawfulInstance opening.instance
  pub budget : opening.budget ≤ MAX_BUDGET
  pub gap : opening.gap ≤ WHOLE_GAP
  pub table : IsLawfulTable opening.instance opening.table
  pub scale : pos 0 <ℤ opening.table.k
  pub bound : IsTableBound false opening.instance root opening.table opening.value

-- the search machine's start, with a desk for each worker that a number of eight binary digits can name
abbrev pub start_by : Opening → Machine
start_by opening =
    start_of (thermal_count opening.instance) opening.instance.periods 256 opening.budget opening.gap opening.table opening.value

-- an opening of nothing
abbrev pub no_opening : Opening
no_opening = record {
  instance = record { periods = 0; demand = []; reserves = []; thermal = []; renewable = []; a = 0; b = 0 };
  budget = 0;
  gap = 0;
  table = no_table;
  value = pos 0;
}
