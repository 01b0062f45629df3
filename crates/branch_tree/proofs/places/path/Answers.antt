-- Each turn takes the decision by which the node that is reached comes from its parent.
use Rattle.std.proofs.Common.{sym, subst, arith}
use Rattle.branch_tree.specs.Places.{tree_from}
use Rattle.branch_tree.proofs.Paths.{IsWayUp, way_begins, way_on}
use Rattle.branch_tree.proofs.places.path.Goals as goal

pub loop-reached-init : goal.loop-reached-init
loop-reached-init c = grind (arith, way_begins, c)

pub loop-reached-preserved : goal.loop-reached-preserved
loop-reached-preserved c = (
  omega (arith, c.above-step.ensures.less),
  subst (IsWayUp (tree_from c.args.places.now 0) c.args.node _) (sym c.in_ok-push.ensures.items)
      (way_on (tree_from c.args.places.now 0) c.args.node c.loop-reached.reached c.above-step.result.0 c.loop-reached.path.items
      c.above-step.result.1 c.above-step.ensures c.loop-reached.invariant.1),
)
