-- That a node's value, of one kind or the other, is a least one or more. This project's own form.
use Rattle.std.specs.Prelude.{Bool, ℤ, ◌*ℤ◌, ◌≤ℤ◌}
use Rattle.dual_model.specs.Prelude.{IsValueOf}
use Rattle.dual_model.specs.declared.table.Table.{Table}
use Rattle.leaf_values.specs.Paths.{Instance, Node}
pub use Rattle.leaf_values.specs.declared.least.Least.{Least}

abbrev pub least_value : Least → ℤ
least_value least = least.times *ℤ least.scale

pub record HasValueFrom (exact : Bool) (instance : Instance) (node : Node) (table : Table) (least : ℤ) : Type 0 where
  pub value : ℤ
  pub is_value : IsValueOf exact instance node table value
  pub enough : least ≤ℤ value
