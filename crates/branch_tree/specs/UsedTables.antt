-- Which tables a tree uses, and in which order. This project's own form.
use Rattle.std.specs.Prelude.{ℕ, suc, not, ◌==◌, List, [], ◌∷◌, ◌++◌, filter, flat_map, if◌then◌else◌}
use Rattle.dual_model.specs.Prelude.{Tree, Ends, Splits}
use Rattle.branch_tree.specs.declared.tree.Leaf.{Leaf}
use Rattle.branch_tree.specs.declared.tree.Leaf.TheVariants as leaf
use Rattle.branch_tree.specs.declared.tree.Spot.{Spot}
use Rattle.branch_tree.specs.declared.tree.Spot.TheVariants as spot

-- the leaves, those of the off-child of a split before those of its on-child
abbrev pub leaves : {A : Type 0} → Tree A → List A
leaves (Ends leaf) = leaf ∷ []
leaves (Splits g t off on) = leaves off ++ leaves on

-- the tables that a leaf uses
abbrev pub leaf_tables : Leaf → List ℕ
leaf_tables (leaf.Live table value exact) = table ∷ []
leaf_tables (leaf.Bound table value exact) = table ∷ []
leaf_tables (leaf.Ray table) = table ∷ []
leaf_tables (leaf.Empty g) = []
leaf_tables (leaf.ExactRay table) = table ∷ []
leaf_tables (leaf.ExactEmpty g) = []

-- the same of what stands at a node; a split uses none
abbrev pub spot_tables : Spot → List ℕ
spot_tables (spot.Inner g t off on) = []
spot_tables (spot.Leaf leaf) = leaf_tables leaf

-- the tables of all leaves, as often as they are used
abbrev pub stored_tables : Tree Leaf → List ℕ
stored_tables tree = flat_map leaf_tables (leaves tree)

-- each number of a list once, where it first stands
abbrev pub each_once : List ℕ → List ℕ
each_once [] = []
each_once (number ∷ numbers) = number ∷ filter (λ other. not (other == number)) (each_once numbers)

-- the tables that the leaves use, in order of first use
abbrev pub used_tables : Tree Leaf → List ℕ
used_tables tree = each_once (stored_tables tree)

-- the place of a table among those used, and their count where it isn't one of them
abbrev pub place_of : List ℕ → ℕ → ℕ
place_of [] table = 0
place_of (number ∷ used) table = if number == table then 0 else suc (place_of used table)
