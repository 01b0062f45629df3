-- None of the leaves so far claims by exact values.
use Rattle.std.proofs.Common.{◌≡◌, false, take}
use Rattle.std.specs.List.{list_any}
use Rattle.branch_tree.specs.Prelude.{tree_of, used_tables}
use Rattle.cert_text.proofs.Parts.{exact_at}
use Rattle.cert_text.proofs.tree.has_exact_leaf.Given as goal

abbrev pub invariant-loop-node : goal.invariant-loop-node
invariant-loop-node l = list_any (exact_at (used_tables (tree_of l.tree)) l.tree.nodes) (take l.node-index l.node-items) ≡ false
