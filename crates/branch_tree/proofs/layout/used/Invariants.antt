-- The tables of the nodes so far are used and marked.
use Rattle.std.proofs.Common.{drop}
use Rattle.std.specs.List.{flat_map}
use Rattle.branch_tree.specs.TreeView.{tree_of}
use Rattle.branch_tree.specs.UsedTables.{stored_tables}
use Rattle.branch_tree.proofs.Preorder.{IsUsedSoFar, tables_at}
use Rattle.branch_tree.proofs.layout.used.Given as goal

abbrev pub invariant-loop-node : goal.invariant-loop-node
invariant-loop-node l =
    IsUsedSoFar (stored_tables (tree_of l.tree)) (flat_map (tables_at l.tree.nodes) (drop l.node-index l.nodes)) l.used.items l.seen.items l.tables
