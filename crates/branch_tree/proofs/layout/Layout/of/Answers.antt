-- What holds of the tables of all leaves holds of each once.
use Rattle.std.proofs.Common.{ℕ, ◌<◌, All, List, subst, sym, ◌∙◌}
use Rattle.branch_tree.specs.TreeView.{tree_of}
use Rattle.branch_tree.specs.UsedTables.{stored_tables}
use Rattle.branch_tree.proofs.Preorder.{All-each_once}
use Rattle.branch_tree.proofs.layout.Layout.of.Goals as goal

pub returns-clause-within : goal.returns-clause-within
returns-clause-within c =
    subst (λ (tables : List ℕ). All (λ table. table < c.args.tables) tables) (sym (c.from_vec-2.ensures ∙ c.in_ok-used.ensures))
    (All-each_once (λ table. table < c.args.tables) (stored_tables (tree_of c.args.tree.now)) c.requires)
