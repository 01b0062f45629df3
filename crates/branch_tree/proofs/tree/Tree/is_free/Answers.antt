-- The cells that the places leave undecided are those that the tree does.
use Rattle.std.proofs.Common.{ap, ◌∙◌, rules}
use Rattle.branch_tree.specs.TreeView.{TreeView}
use Rattle.branch_tree.specs.Places.{tree_from}
use Rattle.branch_tree.proofs.FreeCells.{told_free}
use Rattle.branch_tree.proofs.tree.Tree.is_free.Goals as goal

pub returns-then-t-self : goal.returns-then-t-self
returns-then-t-self c =
    told_free c.args.self.now (tree_from c.deref.result.now 0) c.args.number c.self.inside.units c.self.inside.periods c.args.g c.args.t _
    (ap (λ ps. tree_from ps 0) c.deref.ensures.value ∙ ap (λ (v : TreeView). v.nodes) c.self.view_is)
    (ap (λ (v : TreeView). v.units) c.self.view_is) (ap (λ (v : TreeView). v.periods) c.self.view_is) (search rules)
