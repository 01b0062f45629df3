-- One segment more, by what raising its source does.
use Rattle.std.proofs.Common.{arith, subst, ap, length}
use Rattle.std.proofs.lemmas.Int.{ints, to_z-of_z}
use Rattle.dispatch_repair.specs.Prelude.{IsFilledTo, IsRaise, segment_at}
use Rattle.dispatch_repair.proofs.Filling.{filled_early, filled_none, step}
use Rattle.dispatch_repair.proofs.SourceSlopes.{next_run}
use Rattle.dispatch_repair.proofs.fill.fill.Goals as goal

pub loop-segment-preserved : goal.loop-segment-preserved
loop-segment-preserved c =
    let i = c.loop-segment.segment-index in
    subst (λ k. IsFilledTo c.args.instance.now c.args.order.now c.args.ranges.now c.args.left.now k c.raise.new.amounts c.raise.new.left) (omega arith)
    (step c.args.instance.now c.args.order.now c.args.ranges.now c.args.left.now i c.loop-segment.amounts c.raise.new.amounts c.loop-segment.left c.raise.new.left
    c.requires.order c.loop-segment-test.true c.requires.sources (next_run c.args.instance.now) c.loop-segment.invariant
    (subst (λ w. IsRaise w c.args.ranges.now (segment_at c.args.order.now i) c.loop-segment.amounts c.raise.new.amounts c.loop-segment.left c.raise.new.left)
    (ap length c.as_slice-renewables.ensures) c.raise.ensures))

pub returns : goal.returns
returns c = subst (λ k. IsFilledTo c.args.instance.now c.args.order.now c.args.ranges.now c.args.left.now k c.loop-segment.amounts c.loop-segment.left) (omega (arith, c.loop-segment-test.false, c.loop-segment.auto.segment-index-end)) c.loop-segment.invariant

pub returns-then-left-le0 : goal.returns-then-left-le0
returns-then-left-le0 c =
    filled_early c.args.instance.now c.args.order.now c.args.ranges.now c.args.left.now c.loop-segment.segment-index c.loop-segment.amounts c.loop-segment.left
    c.loop-segment.invariant (grind (arith, ints, to_z-of_z, c.if-left-le0.true, c.loop-segment.invariant.left.need_size))

pub loop-segment-init : goal.loop-segment-init
loop-segment-init c =
    filled_none c.args.instance.now c.args.order.now c.args.ranges.now c.args.left.now c.args.amounts.now c.requires.amounts c.requires.sources c.requires.lows
    c.requires.left
