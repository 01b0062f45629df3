-- The cost at the scale, and what is charged.
use Rattle.std.proofs.Common.{◌≤◌, ◌*◌, ◌+◌, ◌^◌, sym, subst, arith, unsigned_abs}
use Rattle.std.proofs.lemmas.Int.{ints}
use Rattle.uc_model.proofs.Common.{from-size, product-size, sum-fits, sum-size, wide-size}
use Rattle.uplift.specs.Sizes.{MAX_CHARGE, MAX_UNIT_COST}
use Rattle.uplift.proofs.thermal.reduced_cost.Goals as goal

cost-size : (c : goal.After-charges) → unsigned_abs c.product-cost.result ≤ MAX_UNIT_COST
cost-size c =
    let scale : unsigned_abs c.args.table.now.k ≤ 10 ^ 9 = omega (arith, ints, c.requires.scale, c.requires.limits.scale) in
    let k : unsigned_abs c.k.result ≤ 10 ^ 9 = subst (λ z. unsigned_abs z ≤ 10 ^ 9) (sym c.k.ensures) scale in
    product-size c.from.result c.row_cost.result c.product-cost.result (10 ^ 9) (168 * 2 ^ 64) c.product-cost.ensures
    (from-size c.k.result c.from.result (10 ^ 9) c.from.ensures k) c.row_cost.ensures.size

pub sum-requires : goal.sum-requires
sum-requires c = sum-fits c.product-cost.result c.charges.result MAX_UNIT_COST (168 * MAX_CHARGE) (cost-size c) c.charges.ensures.size (omega arith)

pub returns-clause-size : goal.returns-clause-size
returns-clause-size c =
    wide-size c.sum.result (MAX_UNIT_COST + 168 * MAX_CHARGE)
    (sum-size c.product-cost.result c.charges.result c.sum.result MAX_UNIT_COST (168 * MAX_CHARGE) c.sum.ensures (cost-size c.before)
    c.charges.ensures.size)
