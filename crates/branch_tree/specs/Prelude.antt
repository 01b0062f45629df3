-- The words that clauses, specifications and proofs of other crates cite, passed on from one place. Declares nothing.
pub use Rattle.branch_tree.specs.NumberedTree.{EndAt, IsNumbered, NumberedTree, SplitAt, Subtree, node_at, node_count, number_of, numbers, replaced, split_leaf, spot_at, spot_of, subtree_at, subtree_below, times, unnumbered}
pub use Rattle.branch_tree.specs.TreeView.{HasFreeCell, Instance, IsFreeAt, IsOpenAt, IsSizeOf, IsWhole, TreeView, tree_of}
pub use Rattle.branch_tree.specs.TreeCode.{tree_view_code}
pub use Rattle.branch_tree.specs.Places.{IsPlaced}
pub use Rattle.branch_tree.specs.StoredTree.{AtMost, IsNodeAt, leaf_bound, least_bound, lesser_bound, tree_bound}
pub use Rattle.branch_tree.specs.TreeLaws.{StoredHolds, claims_of, own_claim}
pub use Rattle.branch_tree.specs.UsedTables.{each_once, leaf_tables, leaves, place_of, stored_tables, used_tables}
pub use Rattle.branch_tree.specs.Closing.{is_closed, is_schedule_within, is_within_gap, status_by, status_of}
pub use Rattle.branch_tree.specs.Kinds.{IsPlainLeaf, IsPlainTree}
pub use Rattle.branch_tree.specs.Claims.{HasLayout, IsLayoutOf, Table, certificate_of, leaf_claim, no_table, table_at, written_of, written_tables}
pub use Rattle.branch_tree.specs.TrueFound.{AreApart, IsOutcome, IsTrueEntry, IsTrueFound, IsTrueLog}
