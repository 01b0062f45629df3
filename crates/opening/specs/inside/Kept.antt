-- The value that is kept of the node that was evaluated last.
pub use Rattle.uc_model.specs.declared.instance.Instance.{Instance}
use Rattle.dual_value.specs.NodeAnswer.{HasSizes, IsValued}
use Rattle.opening.specs.declared.kept.Kept.{Kept}

-- it is the node's value at the table
pub record IsKeptOf (instance : Instance) (kept : Kept) : Type 0 where
  pub value : IsValued instance kept.node kept.table kept.valued
  pub sizes : HasSizes kept.valued
