-- The nodes of a certificate's tree in preorder, each with the decisions on its path, and what each has to meet. Source:
-- branch and bound on the commitment variables of the reference model by Knueven, Ostrowski and Watson.
use Rattle.std.specs.Prelude.{true, false, not, List, [], ◌∷◌, ◌++◌, ℤ, Option, Some, None, IsTrue}
pub use Rattle.uc_model.specs.declared.instance.Instance.{Instance}
use Rattle.dual_model.specs.Prelude.{Tree, Ends, Splits, child, is_decided, Leaf, LeafHolds, IsExcluded}
pub use Rattle.dual_model.specs.declared.node.Node.{Node}
pub use Rattle.dual_model.specs.declared.table.Table.{Table}
use Rattle.cert_text.specs.CertificateText.{TreeNode, LeafNode, SplitNode}

-- a node of the tree, and what its path decides
pub record Visit : Type 0 where
  pub place : Node
  pub node : TreeNode

-- the nodes below a place: a split, then those below its off-child, then those below its on-child
abbrev pub visits : Node → Tree Leaf → List Visit
visits place (Ends leaf) = record { place = place; node = LeafNode leaf } ∷ []
visits place (Splits g t off on) =
    record { place = place; node = SplitNode g t } ∷ (visits (child place g t false) off ++ visits (child place g t true) on)

-- a split is on a cell that its path hasn't decided; a leaf is excluded, or bounds the cost by the bound that is claimed
abbrev pub IsSoundNode : Instance → List Table → Option ℤ → Node → TreeNode → Type 0
IsSoundNode instance tables bound place (SplitNode g t) = IsTrue (not (is_decided place g t))
IsSoundNode instance tables (Some b) place (LeafNode leaf) = LeafHolds instance tables b place leaf
IsSoundNode instance tables None place (LeafNode leaf) = IsExcluded instance tables place leaf

abbrev pub IsSound : Instance → List Table → Option ℤ → Visit → Type 0
IsSound instance tables bound visit = IsSoundNode instance tables bound visit.place visit.node
