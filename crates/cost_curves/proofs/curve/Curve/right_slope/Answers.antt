-- The slope on the left of the next output.
use Rattle.std.proofs.Common.{◌∙◌, sym, subst, ◌<ℤ◌}
use Rattle.cost_curves.specs.LowerHull.{IsLowerHull, width_of}
use Rattle.cost_curves.specs.LeastCost.{IsLeftSlope}
use Rattle.cost_curves.proofs.HullValues.{slope_right}
use Rattle.cost_curves.proofs.CornerSizes.{next-bits}
use Rattle.cost_curves.proofs.curve.Curve.right_slope.Goals as goal

pub returns : goal.returns
returns c = λ points whole.
    let high = subst (λ xs. c.args.p <ℤ width_of xs) (sym c.self.view_is) c.requires.high in
    slope_right points c.args.p c.slope.result
    (subst (λ p. IsLeftSlope points p c.slope.result) (next-bits c.self.inside.corners.items c.args.p c.self.invariant c.requires.low high)
    (c.slope.ensures points (subst (λ xs. IsLowerHull points xs) (sym c.self.view_is ∙ sym c.deref.ensures.value) whole)))
