-- The sizes of both parts, and of their sum.
use Rattle.std.proofs.Common.{◌*◌, ◌^◌, arith, lit<}
use Rattle.uc_model.specs.declared.limits.TheConstants.{MAX_POWER, MAX_COST}
use Rattle.uc_model.proofs.Common.{wide-size, sum-fits, sum-size, product-size}
use Rattle.dual_model.specs.declared.limits.TheConstants.{MAX_UNIT_PRICE}
use Rattle.period_term.specs.inside.Places.{MAX_CORNER_COST}
use Rattle.period_term.proofs.CornerNumbers.{scaled_cost-size}
use Rattle.period_term.proofs.cell.corner_cost.Goals as goal

pub sum-requires : goal.sum-requires
sum-requires c =
    sum-fits c.scaled.result c.product-price.result (10 ^ 9 * MAX_COST) (2 * MAX_UNIT_PRICE * (2 * MAX_POWER))
    (scaled_cost-size c.args.corners.now c.args.prices.now.k c.scaled.result c.args.place c.requires.lawful c.requires.prices.scale c.requires.within c.scaled.ensures)
    (product-size c.args.prices.now.a c.output.result c.product-price.result (2 * MAX_UNIT_PRICE) (2 * MAX_POWER) c.product-price.ensures c.requires.prices.output c.output.ensures.size)
    (lit< tt)

pub returns-clause-size : goal.returns-clause-size
returns-clause-size c =
    let cost = scaled_cost-size c.args.corners.now c.args.prices.now.k c.scaled.result c.args.place c.requires.lawful c.requires.prices.scale c.requires.within c.scaled.ensures in
    let price = product-size c.args.prices.now.a c.output.result c.product-price.result (2 * MAX_UNIT_PRICE) (2 * MAX_POWER) c.product-price.ensures c.requires.prices.output c.output.ensures.size in
    wide-size c.sum.result MAX_CORNER_COST
    (omega (arith, sum-size c.scaled.result c.product-price.result c.sum.result (10 ^ 9 * MAX_COST) (2 * MAX_UNIT_PRICE * (2 * MAX_POWER)) c.sum.ensures cost price))
