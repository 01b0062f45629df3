-- What the leaves of a search's tree claim, and the certificate that a found answer stands for. This project's own form.
use Rattle.std.specs.Prelude.{◌≡◌, ℕ, ◌<◌, true, false, List, [], ℤ, pos, Option, Some, None, All, length, slice_index_or, map}
use Rattle.uc_model.specs.Prelude.{thermal_count, renewable_count}
use Rattle.uc_model.specs.declared.schedule.Printed.{Printed}
use Rattle.dual_model.specs.Prelude.{map_leaves, Bound, Ray, Empty, Certificate, WrittenSchedule}
use Rattle.dual_model.specs.Cover as cover
pub use Rattle.dual_model.specs.declared.table.Table.{Table}
use Rattle.branch_tree.specs.NumberedTree.{Leaf, numbers}
use Rattle.branch_tree.specs.TreeView.{Instance, tree_of}
use Rattle.branch_tree.specs.StoredTree.{tree_bound}
use Rattle.branch_tree.specs.UsedTables.{used_tables, place_of}
use Rattle.branch_tree.specs.declared.tree.Leaf.TheVariants as leaf
pub use Rattle.branch_tree.specs.declared.tree.Tree.{Tree}
use Rattle.branch_tree.specs.declared.layout.Layout.{Layout}
pub use Rattle.branch_tree.specs.declared.found.Found.{Found}

-- what a leaf claims, by values of its kind, with its table under its place in a list; an open leaf counts as a bound
abbrev pub leaf_claim : List ℕ → Leaf → cover.Leaf
leaf_claim tables (leaf.Live table value exact) = Bound exact (place_of tables table)
leaf_claim tables (leaf.Bound table value exact) = Bound exact (place_of tables table)
leaf_claim tables (leaf.Ray table) = Ray false (place_of tables table)
leaf_claim tables (leaf.Empty g) = Empty false g
leaf_claim tables (leaf.ExactRay table) = Ray true (place_of tables table)
leaf_claim tables (leaf.ExactEmpty g) = Empty true g

-- a schedule and its cost
abbrev pub written_of : Option (Printed × ℤ) → Option WrittenSchedule
written_of None = None
written_of (Some pair) = Some (record { printed = pair.0; cost = pair.1 })

-- a table where there is none: no prices
abbrev pub no_table : Table
no_table = record { units = 0; k = pos 0; pi = []; mu = []; ramps = [] }

-- the table of that number
abbrev pub table_at : List Table → ℕ → Table
table_at tables i = slice_index_or tables i no_table

-- the tables that the leaves use, in order of first use
abbrev pub written_tables : Found → List Table
written_tables found = map (table_at found.tables) (used_tables (tree_of found.tree))

-- the layout is that of the tree: the numbers of its nodes in preorder, and of the tables that its leaves use
pub record IsLayoutOf (tree : Tree) (layout : Layout) : Type 0 where
  pub nodes : layout.nodes ≡ numbers tree.nodes
  pub tables : layout.tables ≡ used_tables (tree_of tree)

-- the layout is that of the tree, whose leaves name tables that there are
pub record HasLayout (found : Found) : Type 0 where
  pub layout : IsLayoutOf found.tree found.layout
  pub within : All (λ i. i < length found.tables) (used_tables (tree_of found.tree))

-- the certificate that the found answer stands for
abbrev pub certificate_of : Instance → Found → Certificate
certificate_of instance found = record {
  periods = instance.periods;
  thermal = thermal_count instance;
  renewable = renewable_count instance;
  a = instance.a;
  b = instance.b;
  bound = tree_bound found.tree;
  schedule = written_of found.schedule;
  tables = written_tables found;
  tree = map_leaves (leaf_claim (used_tables (tree_of found.tree))) (tree_of found.tree);
}
