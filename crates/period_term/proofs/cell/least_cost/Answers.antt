-- The term at the least corner, or on the segment that holds the cap.
use Rattle.std.proofs.Common.{sym, subst, ◌∙◌, lit<, pos, ◌≤ℤ◌, arith}
use Rattle.std.specs.Int.{w64}
use Rattle.std.proofs.lemmas.Int.{to_z-of_z}
use Rattle.uc_model.proofs.Common.{int_le-true}
use Rattle.uc_model.proofs.Sizes.{wide}
use Rattle.dual_model.specs.Prelude.{IsTerm}
use Rattle.period_term.specs.inside.Places.{MAX_CORNER_COST, MAX_LEAST}
use Rattle.dual_model.specs.declared.limits.TheConstants.{MAX_CAP}
use Rattle.period_term.proofs.CornerNumbers.{passed-size}
use Rattle.period_term.proofs.LeastPlaces.{corner_term, segment_term, beyond}
use Rattle.period_term.proofs.cell.least_cost.Goals as goal

pub returns-then-is_within-clause-term : goal.returns-then-is_within-clause-term
returns-then-is_within-clause-term c = λ points whole.
    let cap = c.ranges.cap in
    let within = simp to_z-of_z at c.is_within.ensures in
    let k = c.args.prices.now.k in
    let a = c.args.prices.now.a in
    subst (λ z. IsTerm points k a (pos 0) c.args.cap z)
    (sym (wide c.corner_cost.result MAX_CORNER_COST c.corner_cost.ensures.size (lit< tt) ∙ c.corner_cost.ensures.value))
    (corner_term points c.args.corners.now k a c.args.cap c.args.place whole c.requires.prices.scale.low c.requires.sign c.requires.place
    (int_le-true _ _ (sym within ∙ c.if-is_within.true)))

pub cap_place-requires-clause-sign : goal.cap_place-requires-clause-sign
cap_place-requires-clause-sign c = subst (λ z. pos 0 ≤ℤ z) (sym (to_z-of_z w64 c.args.cap c.ranges.cap)) c.requires.sign

pub cap_place-requires-clause-right : goal.cap_place-requires-clause-right
cap_place-requires-clause-right c = beyond _ _ (sym c.is_within.ensures ∙ c.if-is_within.false)

pub segment_cost-requires-clause-cap : goal.segment_cost-requires-clause-cap
segment_cost-requires-clause-cap c = passed-size c.args.cap MAX_CAP c.requires.cap

pub segment_cost-requires-clause-segment : goal.segment_cost-requires-clause-segment
segment_cost-requires-clause-segment c = grind (arith, c)

pub returns-else-is_within-clause-term : goal.returns-else-is_within-clause-term
returns-else-is_within-clause-term c = λ points whole.
    let cap = c.ranges.cap in
    let within = simp to_z-of_z at c.is_within.ensures in
    let k = c.args.prices.now.k in
    let a = c.args.prices.now.a in
    subst (λ z. IsTerm points k a (pos 0) c.args.cap z)
    (sym (wide c.segment_cost.result MAX_LEAST c.segment_cost.ensures.size (lit< tt)))
    (segment_term points c.args.corners.now k a c.args.cap c.segment_cost.result c.cap_place.result c.args.place whole c.requires.prices.scale.low c.requires.sign
    c.requires.place (beyond _ _ (sym within ∙ c.if-is_within.false)) (simp to_z-of_z at c.cap_place.ensures)
    (simp to_z-of_z at c.segment_cost.ensures.floor))
