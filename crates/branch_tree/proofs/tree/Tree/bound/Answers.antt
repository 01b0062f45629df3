-- The values of the tournament are the bounds that are stored.
use Rattle.branch_tree.proofs.Bounds.{least_is_bound}
use Rattle.branch_tree.proofs.tree.Tree.bound.Goals as goal

pub returns : goal.returns
returns c = least_is_bound c.self.inside c.args.self.now c.least.result c.self.view_is c.self.invariant c.least.ensures
