-- One term more, and the whole at the end.
use Rattle.std.proofs.Common.{add-one, sym, subst, arith, ◌+ℤ◌, to_z, of_z, slice_set}
use Rattle.std.specs.Int.{w128}
use Rattle.interval_graph.proofs.RunningSums.{added-all, added-more, IsAddedTo}
use Rattle.interval_graph.proofs.sums.add_up.Goals as goal

pub overflow_add-total : goal.overflow_add-total
overflow_add-total c = grind (arith, c)

pub loop-t-init : goal.loop-t-init
loop-t-init c = grind (arith, c)

pub loop-t-preserved : goal.loop-t-preserved
loop-t-preserved c =
    let total = to_z w128 c.loop-t.total-bits in
    subst (λ k. IsAddedTo c.args.rows.now k (to_z w128 (of_z w128 (total +ℤ to_z w128 (of_z w128 c.full_of-total.result)))) (slice_set c.loop-t.sums c.loop-t.t total)) (sym (add-one c.loop-t.t))
    (added-more c.args.rows.now c.loop-t.t total c.full_of-total.result c.loop-t.sums
    c.loop-t-test.true (omega (arith, c.loop-t-test.true, c.requires.rows.periods)) c.full_of-total.ensures.value c.full_of-total.ensures.size c.loop-t.invariant)

pub returns : goal.returns
returns c = added-all c.args.rows.now c.loop-t.t (to_z w128 c.loop-t.total-bits) c.loop-t.sums (omega (arith, c.loop-t-test.false)) c.loop-t.invariant
