-- The half that is kept.
use Rattle.std.proofs.Common.{◌+◌, ◌-◌, ◌/◌, sym, ◌∙◌, arith}
use Rattle.period_term.proofs.LeastPlaces.{lies_right, lies_left}
use Rattle.period_term.proofs.cell.least_place.Goals as goal

pub loop-low-preserved-then-falls : goal.loop-low-preserved-then-falls
loop-low-preserved-then-falls c =
    lies_right c.args.corners.now c.args.prices.now.k c.args.prices.now.a c.loop-low.low c.loop-low.high
    (c.loop-low.low + (c.loop-low.high - c.loop-low.low) / 2) _ c.loop-low.invariant (omega arith) (omega arith)
    (sym c.falls.ensures ∙ c.if-falls.true)

pub loop-low-preserved : goal.loop-low-preserved
loop-low-preserved c =
    lies_left c.args.corners.now c.args.prices.now.k c.args.prices.now.a c.loop-low.low c.loop-low.high
    (c.loop-low.low + (c.loop-low.high - c.loop-low.low) / 2) c.loop-low.invariant (omega arith) (omega arith)
    (sym c.falls.ensures ∙ c.if-falls.false)
