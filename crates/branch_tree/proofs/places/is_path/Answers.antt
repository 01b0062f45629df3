-- Each turn compares the last decision left with the one by which the node that is reached comes from its parent.
use Rattle.std.proofs.Common.{sym, ◌∙◌, arith}
use Rattle.std.proofs.lemmas.Bool.{true≢false}
use Rattle.branch_tree.specs.Places.{tree_from}
use Rattle.branch_tree.proofs.Paths.{alike_begins, alike_on, alike_not, alike_ends}
use Rattle.branch_tree.proofs.places.is_path.Goals as goal

pub loop-reached-init : goal.loop-reached-init
loop-reached-init c = grind (arith, alike_begins, c)

pub loop-reached-preserved : goal.loop-reached-preserved
loop-reached-preserved c = record {
  within = omega (arith, c.above-step.ensures.less);
  some = omega arith;
  alike = alike_on (tree_from c.args.places.now 0) c.args.node c.loop-reached.reached c.above-step.result.0 c.args.fixings.now
      c.loop-reached.left c.above-step.result.1 c.loop-reached.invariant.some c.above-step.ensures
      (c.ends_with.ensures.0 c.if-not-ends_with.false) c.loop-reached.invariant.alike;
}

pub returns-then-not-ends_with : goal.returns-then-not-ends_with
returns-then-not-ends_with c = (
  (λ h. absurd (true≢false (sym h))),
  (λ e. absurd (alike_not (tree_from c.args.places.now 0) c.args.node c.loop-reached.reached c.above-step.result.0 c.args.fixings.now
      c.loop-reached.left c.above-step.result.1 c.loop-reached.invariant.some c.above-step.ensures
      (λ last. true≢false (sym (c.ends_with.ensures.1 last) ∙ c.if-not-ends_with.true)) c.loop-reached.invariant.alike e)),
)

pub returns : goal.returns
returns c = grind (arith, alike_ends, c)
