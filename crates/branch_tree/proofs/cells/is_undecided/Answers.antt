-- A child's path has decided what its parent's has, and the cell of its last decision.
use Rattle.std.proofs.Common.{refl, sym, ◌∙◌, arith}
use Rattle.branch_tree.specs.Places.{tree_from}
use Rattle.branch_tree.proofs.Paths.{undecided_on, decided_here}
use Rattle.branch_tree.proofs.cells.is_undecided.Goals as goal

pub loop-reached-init : goal.loop-reached-init
loop-reached-init c = record { within = c.requires.within; same = refl }

pub loop-reached-preserved : goal.loop-reached-preserved
loop-reached-preserved c = record {
  within = omega (arith, c.above-step.ensures.less);
  same = c.loop-reached.invariant.same
      ∙ undecided_on (tree_from c.args.places.now 0) c.above-step.result.0 c.loop-reached.reached c.args.g c.args.t c.above-step.result.1
      c.above-step.ensures (sym c.decides.ensures ∙ c.if-decides.false);
}

pub returns-then-decides : goal.returns-then-decides
returns-then-decides c =
    sym (c.loop-reached.invariant.same
    ∙ decided_here (tree_from c.args.places.now 0) c.above-step.result.0 c.loop-reached.reached c.args.g c.args.t c.above-step.result.1
    c.above-step.ensures (sym c.decides.ensures ∙ c.if-decides.true))

pub returns : goal.returns
returns c = grind (arith, c)
