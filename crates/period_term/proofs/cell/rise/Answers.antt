-- The difference of both scaled costs.
use Rattle.std.proofs.Common.{◌≡◌, suc, ◌+◌, ◌*◌, ◌^◌, ◌<◌, ◌∙◌, sym, ap, arith, lit<, length, ◌-ℤ◌, ◌*ℤ◌}
use Rattle.uc_model.specs.Prelude.{point_of}
use Rattle.uc_model.specs.declared.limits.TheConstants.{MAX_COST}
use Rattle.uc_model.proofs.Common.{mul-sub, wide-size, sum-fits, difference-size, difference-is}
use Rattle.uc_model.proofs.Sizes.{wide}
use Rattle.period_term.specs.inside.Places.{MAX_RISE}
use Rattle.period_term.proofs.CornerNumbers.{scaled_cost-size, scaled_cost-is}
use Rattle.period_term.proofs.cell.rise.Goals as goal

pub difference-requires : goal.difference-requires
difference-requires c = grind (arith, sum-fits, scaled_cost-size, c)

pub returns-clause-size : goal.returns-clause-size
returns-clause-size c =
    let corners = c.args.corners.now in
    let k = c.args.prices.now.k in
    let first = scaled_cost-size corners k c.scaled.result (c.args.left + 1) c.requires.lawful c.requires.prices.scale (omega (arith, c.requires.within)) c.scaled.ensures in
    let second = scaled_cost-size corners k c.scaled-2.result c.args.left c.requires.lawful c.requires.prices.scale (omega (arith, c.requires.within)) c.scaled-2.ensures in
    wide-size c.difference.result MAX_RISE
    (omega (arith, difference-size c.scaled.result c.scaled-2.result c.difference.result (10 ^ 9 * MAX_COST) (10 ^ 9 * MAX_COST) c.difference.ensures first second))

pub returns-clause-value : goal.returns-clause-value
returns-clause-value c =
    let corners = c.args.corners.now in
    let k = c.args.prices.now.k in
    let next : c.args.left + 1 ≡ suc c.args.left = omega arith in
    let right : c.args.left + 1 < length corners = omega (arith, c.requires.within) in
    let left : c.args.left < length corners = omega (arith, c.requires.within) in
    let first = scaled_cost-size corners k c.scaled.result (c.args.left + 1) c.requires.lawful c.requires.prices.scale right c.scaled.ensures in
    let second = scaled_cost-size corners k c.scaled-2.result c.args.left c.requires.lawful c.requires.prices.scale left c.scaled-2.ensures in
    wide c.difference.result (10 ^ 9 * MAX_COST + 10 ^ 9 * MAX_COST)
    (difference-size c.scaled.result c.scaled-2.result c.difference.result (10 ^ 9 * MAX_COST) (10 ^ 9 * MAX_COST) c.difference.ensures first second) (lit< tt)
    ∙ difference-is c.scaled.result c.scaled-2.result c.difference.result (10 ^ 9 * MAX_COST) (10 ^ 9 * MAX_COST) c.difference.ensures first second (lit< tt)
    ∙ (λ t. (scaled_cost-is corners k c.scaled.result (c.args.left + 1) c.requires.lawful c.requires.prices.scale right c.scaled.ensures
    ∙ ap (λ i. k *ℤ (point_of corners i).cost) next) t
    -ℤ scaled_cost-is corners k c.scaled-2.result c.args.left c.requires.lawful c.requires.prices.scale left c.scaled-2.ensures t)
    ∙ sym (mul-sub k (point_of corners (suc c.args.left)).cost (point_of corners c.args.left).cost)
