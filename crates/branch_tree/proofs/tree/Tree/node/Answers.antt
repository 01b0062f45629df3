-- What stands at a place is what the tree has at its number.
use Rattle.branch_tree.proofs.Changes.{stored_spot}
use Rattle.branch_tree.proofs.tree.Tree.node.Goals as goal

pub returns : goal.returns
returns c = stored_spot c.self.inside c.args.self.now c.args.node c.index.result.now c.self.view_is c.self.invariant c.requires c.index.ensures
