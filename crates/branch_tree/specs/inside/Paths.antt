-- Paths taken upwards: by which decision a node comes from its parent, and whether its path leaves a cell undecided. This
-- project's own form.
use Rattle.std.specs.Prelude.{◌≡◌, ℕ, ◌<◌, Bool, false, not, [], ◌∷◌, ◌++◌, Some}
use Rattle.std.specs.Option.{option_map_or}
use Rattle.dual_model.specs.Prelude.{is_decided}
use Rattle.dual_model.specs.declared.node.Fixing.{Fixing}
use Rattle.branch_tree.specs.NumberedTree.{Node, NumberedTree, node_at}

-- the node of this number comes by the decision from that of its parent, whose number is less
pub record ComesFrom (tree : NumberedTree) (parent number : ℕ) (fixing : Fixing) : Type 0 where
  pub above : Node
  pub is_above : node_at tree parent ≡ Some above
  pub is_node : node_at tree number ≡ Some (record { fixings = above.fixings ++ fixing ∷ [] })
  pub less : parent < number

-- there is a node of this number, and the path to it leaves the cell undecided
abbrev pub is_undecided_at : NumberedTree → ℕ → ℕ → ℕ → Bool
is_undecided_at tree number g t = option_map_or (λ node. not (is_decided node g t)) (node_at tree number) false
