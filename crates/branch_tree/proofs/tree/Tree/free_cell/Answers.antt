-- The cells that the places leave undecided are those that the tree does.
use Rattle.std.proofs.Common.{ap, ◌∙◌}
use Rattle.branch_tree.specs.TreeView.{TreeView}
use Rattle.branch_tree.specs.Places.{tree_from}
use Rattle.branch_tree.proofs.FreeCells.{first_is}
use Rattle.branch_tree.proofs.tree.Tree.free_cell.Goals as goal

pub returns : goal.returns
returns c =
    first_is c.args.self.now (tree_from c.deref.result.now 0) c.args.number c.self.inside.units c.self.inside.periods c.first_undecided.result
    (ap (λ ps. tree_from ps 0) c.deref.ensures.value ∙ ap (λ (v : TreeView). v.nodes) c.self.view_is)
    (ap (λ (v : TreeView). v.units) c.self.view_is) (ap (λ (v : TreeView). v.periods) c.self.view_is)
    c.first_undecided.ensures.some c.first_undecided.ensures.none
