-- The cost at the left end, the price of what lies between, and the part of the rise.
use Rattle.std.proofs.Common.{◌≡◌, ◌+◌, ◌*◌, ◌≤◌, suc, sym, subst, arith, lit<, to_z, of_z, ◌+ℤ◌, ◌*ℤ◌, unsigned_abs}
use Rattle.std.specs.Int.{w64, w128}
use Rattle.std.proofs.lemmas.Int.{to_z-of_z}
use Rattle.uc_model.specs.Prelude.{point_of, output_of}
use Rattle.uc_model.proofs.Common.{product-fits, sum-fits}
use Rattle.dual_model.specs.declared.limits.TheConstants.{MAX_CAP, MAX_UNIT_PRICE}
use Rattle.period_term.specs.inside.Places.{LiesOnSegment, over_of, MAX_CORNER_COST, MAX_OVER, MAX_RISE}
use Rattle.period_term.proofs.CornerNumbers.{passed-size, sum_is, product_is, level_is, segment_floor}
use Rattle.period_term.proofs.cell.segment_cost.Goals as goal

pub over-requires-clause-cap : goal.over-requires-clause-cap
over-requires-clause-cap c = passed-size c.args.cap MAX_CAP c.requires.cap

pub product-price-requires : goal.product-price-requires
product-price-requires c = product-fits c.args.prices.now.a c.over.result (2 * MAX_UNIT_PRICE) MAX_OVER c.requires.prices.output c.over.ensures.size (lit< tt)

pub rise_down-requires-clause-cap : goal.rise_down-requires-clause-cap
rise_down-requires-clause-cap c = passed-size c.args.cap MAX_CAP c.requires.cap

pub rise_down-requires-clause-segment : goal.rise_down-requires-clause-segment
rise_down-requires-clause-segment c = subst (λ z. LiesOnSegment c.args.corners.now z c.args.left) (sym (to_z-of_z w64 c.args.cap c.ranges.cap)) c.requires.segment

pub sum-level-requires : goal.sum-level-requires
sum-level-requires c =
    let price = product_is c.args.prices.now.a c.over.result c.product-price.result (2 * MAX_UNIT_PRICE) MAX_OVER c.product-price.ensures c.requires.prices.output c.over.ensures.size (lit< tt) (lit< tt) in
    sum-fits c.corner_cost.result c.product-price.result MAX_CORNER_COST (2 * MAX_UNIT_PRICE * MAX_OVER) c.corner_cost.ensures.size price.1 (lit< tt)

pub sum-requires : goal.sum-requires
sum-requires c = grind (arith, level_is, to_z-of_z, sum-fits, c)

whole : (c : goal.After-sum) → (to_z w128 (of_z w128 c.sum.result) ≡ (c.corner_cost.result +ℤ c.args.prices.now.a *ℤ over_of c.args.corners.now c.args.cap c.args.left) +ℤ c.rise_down.result)
    × (unsigned_abs (to_z w128 (of_z w128 c.sum.result)) ≤ MAX_CORNER_COST + 2 * MAX_UNIT_PRICE * MAX_OVER + MAX_RISE)
whole c = grind (arith, level_is, to_z-of_z, sum_is)

pub returns-clause-size : goal.returns-clause-size
returns-clause-size c = let size = (whole c).1 in omega (arith, size)

pub returns-clause-floor : goal.returns-clause-floor
returns-clause-floor c =
    let corners = c.args.corners.now in
    let i = c.args.left in
    let cap = c.ranges.cap in
    segment_floor c.args.prices.now.k c.args.prices.now.a (point_of corners i).cost (point_of corners (suc i)).cost (output_of corners i) (output_of corners (suc i))
    (over_of corners c.args.cap i) c.corner_cost.result c.rise_down.result _ c.corner_cost.ensures.value
    (whole c).0 (simp to_z-of_z at c.rise_down.ensures.floor)
