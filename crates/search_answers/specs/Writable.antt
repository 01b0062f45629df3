-- What a search answers besides, so that it can be written: sizes of numbers and lengths of lists. This project's own limits.
use Rattle.std.specs.Prelude.{Bool, ◌*◌, ◌≤◌, unsigned_abs, All, IfSome, length}
pub use Rattle.uc_model.specs.declared.instance.Instance.{Instance}
pub use Rattle.uc_model.specs.declared.limits.TheConstants.{MAX_PERIODS, MAX_UNITS}
pub use Rattle.dual_model.specs.declared.table.Table.{Table}
use Rattle.dual_model.specs.Prelude.{MAX_VALUE}
use Rattle.branch_tree.specs.Prelude.{written_tables, tree_bound, IsWhole}
pub use Rattle.branch_tree.specs.declared.found.Found.{Found}
use Rattle.found_schedule.specs.Found.{IsFoundIfAny}

-- a table with at most a row for each cell
abbrev pub HasFewRows : Table → Type 0
HasFewRows table = length table.ramps ≤ MAX_UNITS * MAX_PERIODS

-- what was found can be written; where no exact dispatch is used, its schedule is in whole watts
pub record IsWritable (exact_dispatch : Bool) (instance : Instance) (found : Found) : Type 0 where
  pub tree : IsWhole found.tree
  pub schedule : IsFoundIfAny exact_dispatch instance found.schedule
  pub bound : IfSome (tree_bound found.tree) (λ bound. unsigned_abs bound ≤ MAX_VALUE)
  pub tables : All HasFewRows (written_tables found)
