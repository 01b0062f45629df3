-- By what a proof tells two trees apart: each stands as the list of its nodes in preorder, which gives the tree back.
use Rattle.std.proofs.Common.{inl, inr, ap, sym, ◌∙◌, append_assoc, append-nil, ◌≡◌, ℕ, Bool, List, [], ◌∷◌, ◌++◌, ◌⊎◌, ℤ, slice_index_or, refl}
use Rattle.std.specs.Coded.{Coded, code_by, coded_ℕ, coded_ℤ, coded_bool, coded_list, coded×, coded⊎}
use Rattle.branch_tree.specs.NumberedTree.{Leaf, NumberedTree, EndAt, SplitAt, no_tree}
use Rattle.branch_tree.specs.TreeView.{TreeView}
use Rattle.branch_tree.specs.declared.tree.Leaf.TheVariants as leaf

-- a table, the bound that is stored with it, and its kind
abbrev pub BoundParts : Type 0
BoundParts = ℕ × (ℤ × Bool)

abbrev pub LeafParts : Type 0
LeafParts = (BoundParts ⊎ BoundParts) ⊎ ((ℕ ⊎ ℕ) ⊎ (ℕ ⊎ ℕ))

abbrev pub leaf_parts : Leaf → LeafParts
leaf_parts (leaf.Live table value exact) = inl (inl (table, (value, exact)))
leaf_parts (leaf.Bound table value exact) = inl (inr (table, (value, exact)))
leaf_parts (leaf.Ray table) = inr (inl (inl table))
leaf_parts (leaf.Empty g) = inr (inl (inr g))
leaf_parts (leaf.ExactRay table) = inr (inr (inl table))
leaf_parts (leaf.ExactEmpty g) = inr (inr (inr g))

abbrev pub leaf_of : LeafParts → Leaf
leaf_of (inl (inl parts)) = leaf.Live parts.0 parts.1.0 parts.1.1
leaf_of (inl (inr parts)) = leaf.Bound parts.0 parts.1.0 parts.1.1
leaf_of (inr (inl (inl table))) = leaf.Ray table
leaf_of (inr (inl (inr g))) = leaf.Empty g
leaf_of (inr (inr (inl table))) = leaf.ExactRay table
leaf_of (inr (inr (inr g))) = leaf.ExactEmpty g

pub leaf_of-parts : (leaf : Leaf) → leaf_of (leaf_parts leaf) ≡ leaf
leaf_of-parts (leaf.Live table value exact) = refl
leaf_of-parts (leaf.Bound table value exact) = refl
leaf_of-parts (leaf.Ray table) = refl
leaf_of-parts (leaf.Empty g) = refl
leaf_of-parts (leaf.ExactRay table) = refl
leaf_of-parts (leaf.ExactEmpty g) = refl

-- a leaf with its number, or a split's number, unit and period
abbrev pub NodeParts : Type 0
NodeParts = (ℕ × LeafParts) ⊎ (ℕ × (ℕ × ℕ))

abbrev pub node_parts : NumberedTree → List NodeParts
node_parts (EndAt number leaf) = inl (number, leaf_parts leaf) ∷ []
node_parts (SplitAt number g t off on) = inr (number, (g, t)) ∷ (node_parts off ++ node_parts on)

-- a split of the first two trees, before the others
abbrev pub split_first : ℕ × (ℕ × ℕ) → List NumberedTree → List NumberedTree
split_first cell [] = []
split_first cell (off ∷ []) = []
split_first cell (off ∷ (on ∷ trees)) = SplitAt cell.0 cell.1.0 cell.1.1 off on ∷ trees

-- the trees whose nodes in preorder stand one after another
abbrev pub trees_from : List NodeParts → List NumberedTree
trees_from [] = []
trees_from (inl pair ∷ parts) = EndAt pair.0 (leaf_of pair.1) ∷ trees_from parts
trees_from (inr cell ∷ parts) = split_first cell (trees_from parts)

abbrev pub tree_from_parts : List NodeParts → NumberedTree
tree_from_parts parts = slice_index_or (trees_from parts) 0 no_tree

pub trees_from-node_parts : (tree : NumberedTree) (parts : List NodeParts) → trees_from (node_parts tree ++ parts) ≡ tree ∷ trees_from parts
trees_from-node_parts (EndAt number leaf) parts = ap (λ l. EndAt number l ∷ trees_from parts) (leaf_of-parts leaf)
trees_from-node_parts (SplitAt number g t off on) parts =
    ap (λ rest. split_first (number, (g, t)) (trees_from rest)) (append_assoc (node_parts off) (node_parts on) parts)
    ∙ ap (split_first (number, (g, t)))
    (trees_from-node_parts off (node_parts on ++ parts) ∙ ap (λ trees. off ∷ trees) (trees_from-node_parts on parts))

pub tree_from-node_parts : (tree : NumberedTree) → tree_from_parts (node_parts tree) ≡ tree
tree_from-node_parts tree =
    ap tree_from_parts (sym (append-nil (node_parts tree)))
    ∙ ap (λ trees. slice_index_or trees 0 no_tree) (trees_from-node_parts tree [])

abbrev pub bound_parts_code : Coded BoundParts
bound_parts_code = coded× coded_ℕ (coded× coded_ℤ coded_bool)

abbrev pub leaf_parts_code : Coded LeafParts
leaf_parts_code = coded⊎ (coded⊎ bound_parts_code bound_parts_code) (coded⊎ (coded⊎ coded_ℕ coded_ℕ) (coded⊎ coded_ℕ coded_ℕ))

abbrev pub node_parts_code : Coded NodeParts
node_parts_code = coded⊎ (coded× coded_ℕ leaf_parts_code) (coded× coded_ℕ (coded× coded_ℕ coded_ℕ))

abbrev pub numbered_tree_code : Coded NumberedTree
numbered_tree_code = code_by (List NodeParts) (coded_list node_parts_code) node_parts tree_from_parts tree_from-node_parts

abbrev pub tree_view_code : Coded TreeView
tree_view_code = code_by (ℕ × (ℕ × (ℕ × NumberedTree))) (coded× coded_ℕ (coded× coded_ℕ (coded× coded_ℕ numbered_tree_code)))
    (λ view. (view.units, (view.periods, (view.room, view.nodes))))
    (λ parts. record { units = parts.0; periods = parts.1.0; room = parts.1.1.0; nodes = parts.1.1.1 })
    (λ _. refl)
