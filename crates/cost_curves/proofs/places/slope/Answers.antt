-- The corners at the place, and the next, are the ends of the segment.
use Rattle.std.proofs.Common.{◌≡◌, ◌+◌, ◌*◌, suc, arith, ◌∙◌, lit<, ◌-ℤ◌}
use Rattle.std.proofs.lemmas.Int.{to_z-of_z}
use Rattle.uc_model.specs.Prelude.{point_of}
use Rattle.uc_model.specs.declared.limits.TheConstants.{MAX_COST, MAX_POWER}
use Rattle.uc_model.proofs.Common.{narrow}
use Rattle.cost_curves.proofs.HullValues.{slope_is}
use Rattle.cost_curves.proofs.places.slope.Goals as goal

pub returns : goal.returns
returns c = λ points whole.
    let p = c.ranges.p in
    let next : c.place-left.result + 1 ≡ suc c.place-left.result = omega arith in
    let corners = c.args.corners.now in
    let left = c.place-left.result in
    slope_is points corners c.args.p left _ whole c.place-left.ensures.within (simp to_z-of_z at c.place-left.ensures.begins) (simp to_z-of_z at c.place-left.ensures.reaches)
    (narrow c.rise.result (2 * MAX_COST) c.rise.ensures.size (lit< tt) ∙ c.rise.ensures.value ∙ (λ t. (point_of corners (next t)).cost -ℤ (point_of corners left).cost))
    (narrow c.run.result (2 * MAX_POWER) c.run.ensures.size (lit< tt) ∙ c.run.ensures.value ∙ (λ t. (point_of corners (next t)).mw -ℤ (point_of corners left).mw))
