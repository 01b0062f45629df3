-- The cost between the ends of the segment is the hull's value there, and the least one.
use Rattle.std.proofs.Common.{◌≡◌, ℕ, ◌<◌, ◌∙◌, sym, ap, subst, arith, List, ℤ, pos, to_z, of_z, FitsSigned, unsigned_abs, ◌-ℤ◌, ◌*ℤ◌, ◌≤ℤ◌, Some}
use Rattle.std.specs.Int.{w64}
use Rattle.std.proofs.lemmas.Int.{to_z-of_z}
use Rattle.uc_model.specs.Prelude.{Segment, segment_cost, point_of, output_of}
use Rattle.uc_model.proofs.Common.{Holds, abs_is, IsCeiling-least, linear, mul_comm, mul-sub, sub_nonneg, abs_narrow}
use Rattle.cost_curves.specs.LowerHull.{Point, IsLowerHull, width_of}
use Rattle.cost_curves.specs.LeastCost.{IsLeastCostUp}
use Rattle.cost_curves.specs.inside.Places.{HoldsOutput}
use Rattle.cost_curves.proofs.CornerSizes.{numerator-size}
use Rattle.cost_curves.proofs.FirstSegments.{begins_over, reaches_over, corner_cost, hull_cost-least, segment_least}
use Rattle.cost_curves.proofs.places.ceil_at.Goals as goal

pub whole_up-requires-clause-size : goal.whole_up-requires-clause-size
whole_up-requires-clause-size c = grind (arith, linear, numerator-size, abs_narrow, c)

pub ends_at-found-requires-clause-low : goal.ends_at-found-requires-clause-low
ends_at-found-requires-clause-low c = subst (λ z. pos 0 ≤ℤ z) (sym (to_z-of_z w64 c.whole_up.result (record { sfits = c.whole_up.type_inv }))) c.whole_up.ensures.low

pub ends_at-found-requires-clause-high : goal.ends_at-found-requires-clause-high
ends_at-found-requires-clause-high c =
    let p_fits = c.ranges.p in
    let q_fits = c.ranges.q in
    let ceiling = simp to_z-of_z at c.whole_up.ensures.ceiling in
    let some = c.requires.denominator.0 in
    let width = width_of c.args.corners.now in
    subst (λ z. z ≤ℤ width) (sym (to_z-of_z w64 c.whole_up.result (record { sfits = c.whole_up.type_inv })))
    (IsCeiling-least c.args.p c.args.q c.whole_up.result width (omega (arith, linear, some)) ceiling
    (subst (λ z. c.args.p ≤ℤ z) (mul_comm c.args.q width) c.requires.high))

-- the corners hold the next whole output
held : (corners : List Point) (w : ℤ) (i j : ℕ) → FitsSigned w64 w → HoldsOutput corners (to_z w64 (of_z w64 w)) i j → HoldsOutput corners w i j
held corners w i j fits h = subst (λ z. HoldsOutput corners z i j) (to_z-of_z w64 w fits) h

pub over_left-over-requires-clause-low : goal.over_left-over-requires-clause-low
over_left-over-requires-clause-low c =
    let p_fits = c.ranges.p in
    let q_fits = c.ranges.q in
    let ceiling = simp to_z-of_z at c.whole_up.ensures.ceiling in
    let ends = held c.args.corners.now c.whole_up.result _ _ (record { sfits = c.whole_up.type_inv }) c.ends_at-found.ensures in
    simp to_z-of_z (begins_over c.args.q c.args.p c.whole_up.result (output_of c.args.corners.now c.ends_at-found.result.left) c.requires.denominator.0 c.requires.low
    ceiling ends.begins ends.first)

pub cost_between-requires-clause-low : goal.cost_between-requires-clause-low
cost_between-requires-clause-low c =
    let p_fits = c.ranges.p in
    let q_fits = c.ranges.q in
    let ceiling = simp to_z-of_z at c.whole_up.ensures.ceiling in
    let over = simp to_z-of_z at c.over_left-over.ensures in
    let corners = c.args.corners.now in
    let ends = held corners c.whole_up.result _ _ (record { sfits = c.whole_up.type_inv }) c.ends_at-found.ensures in
    let begins = begins_over c.args.q c.args.p c.whole_up.result (output_of corners c.ends_at-found.result.left) c.requires.denominator.0 c.requires.low
    ceiling ends.begins ends.first in
    subst (λ z. pos 0 ≤ℤ z) (sym (to_z-of_z w64 c.over_left-over.result (record { sfits = c.over_left-over.type_inv }) ∙ over)) (sub_nonneg _ _ begins)

pub cost_between-requires-clause-high : goal.cost_between-requires-clause-high
cost_between-requires-clause-high c =
    let p_fits = c.ranges.p in
    let q_fits = c.ranges.q in
    let ceiling = simp to_z-of_z at c.whole_up.ensures.ceiling in
    let over = simp to_z-of_z at c.over_left-over.ensures in
    let corners = c.args.corners.now in
    let q = c.args.q in
    let left = c.ends_at-found.result.left in
    let right = c.ends_at-found.result.right in
    let ends = held corners c.whole_up.result _ _ (record { sfits = c.whole_up.type_inv }) c.ends_at-found.ensures in
    let reaches = reaches_over q c.args.p c.whole_up.result (output_of corners right) c.requires.denominator.0 ceiling ends.reaches in
    let width : q *ℤ ((point_of corners right).mw -ℤ (point_of corners left).mw) ≡ q *ℤ output_of corners right -ℤ q *ℤ output_of corners left =
    ap (λ z. q *ℤ z) (omega (arith, linear)) ∙ mul-sub q (output_of corners right) (output_of corners left) in
    let high : to_z w64 (of_z w64 c.over_left-over.result) ≤ℤ (q *ℤ ((point_of corners right).mw -ℤ (point_of corners left).mw)) =
    subst (λ z. z ≤ℤ (q *ℤ ((point_of corners right).mw -ℤ (point_of corners left).mw))) (sym (to_z-of_z w64 c.over_left-over.result (record { sfits = c.over_left-over.type_inv }) ∙ over))
    (omega (arith, linear, reaches, width)) in
    simp to_z-of_z high

-- the result on the segment
found : (c : goal.After-cost_between) (points : List Point) → IsLowerHull points c.args.corners.now
    → (s : Segment) × Holds points (unsigned_abs c.args.q) c.args.p s
    × (to_z w64 (of_z w64 c.cost_between.result) ≡ segment_cost points (unsigned_abs c.args.q) c.args.p (Some s))
found c points whole =
    let p_fits = c.ranges.p in
    let q_fits = c.ranges.q in
    let ceiling = simp to_z-of_z at c.whole_up.ensures.ceiling in
    let over = simp to_z-of_z at c.over_left-over.ensures in
    let corners = c.args.corners.now in
    let same = to_z-of_z w64 c.cost_between.result (record { sfits = c.cost_between.type_inv }) in
    let ends = held corners c.whole_up.result _ _ (record { sfits = c.whole_up.type_inv }) c.ends_at-found.ensures in
    let cost = corner_cost points corners c.args.q c.args.p c.whole_up.result (to_z w64 (of_z w64 c.over_left-over.result)) c.cost_between.result
    c.ends_at-found.result.left c.ends_at-found.result.right whole ends c.requires.denominator.0 c.requires.low ceiling
    (to_z-of_z w64 c.over_left-over.result (record { sfits = c.over_left-over.type_inv }) ∙ over)
    c.cost_between.ensures.level (simp to_z-of_z at c.cost_between.ensures.rising) in
    (cost.0, cost.1, same ∙ cost.2)

some : (q : ℤ) → pos 1 ≤ℤ q → 0 < unsigned_abs q
some q h = let same = abs_is q (omega (arith, linear)) in omega (arith, linear, same)

pub returns-clause-least : goal.returns-clause-least
returns-clause-least c = λ points whole.
    let cost = found c points whole in
    subst (λ n. IsLeastCostUp points (unsigned_abs c.args.q) c.args.p n) (sym cost.2)
    (segment_least points (unsigned_abs c.args.q) c.args.p cost.0 (some c.args.q c.requires.denominator.0) cost.1)

pub returns-clause-hull : goal.returns-clause-hull
returns-clause-hull c = λ points whole.
    let cost = found c points whole in
    hull_cost-least points (unsigned_abs c.args.q) c.args.p _ cost.0 (some c.args.q c.requires.denominator.0) cost.1
    (returns-clause-least c points whole)
