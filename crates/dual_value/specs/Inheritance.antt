-- What a node inherits from its parent, which decides one cell less: an evaluation at the same table, of which the parts of all
-- other units stay. Source: branch and bound on the commitment variables of the reference model by Knueven, Ostrowski and
-- Watson, with the Lagrangian bound, which is a sum over units.
use Rattle.std.specs.Prelude.{◌≡◌, ℕ, Bool}
use Rattle.dual_model.specs.Prelude.{child}
use Rattle.dual_model.specs.declared.node.Node.{Node}
use Rattle.dual_model.specs.declared.table.Table.{Table}
use Rattle.dual_model.specs.declared.valued.Valued.{Valued}
use Rattle.dual_value.specs.NodeAnswer.{Instance, HasSizes, IsValued}

-- the node decides a cell of unit g, the last of its decisions, and `valued` is what an evaluation answers of the node without it
pub record IsParentOf (instance : Instance) (node : Node) (table : Table) (g : ℕ) (valued : Valued) : Type 0 where
  pub parent : Node
  pub period : ℕ
  pub on : Bool
  pub is : node ≡ child parent g period on
  pub value : IsValued instance parent table valued
  pub sizes : HasSizes valued
