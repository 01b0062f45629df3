-- The product and the difference are as small as their parts allow.
use Rattle.std.proofs.Common.{◌*◌, ◌≤◌, ap, ◌∙◌, lit<, arith, ◌-ℤ◌, ◌*ℤ◌, unsigned_abs}
use Rattle.uc_model.specs.declared.limits.TheConstants.{MAX_POWER, MAX_TERM}
use Rattle.uc_model.proofs.Common.{difference-is, difference-size, from-size, narrow, product-fits, product-is, product-size, sum-fits, wide-size}
use Rattle.uc_model.proofs.Sizes.{wide}
use Rattle.dual_model.specs.Prelude.{MAX_MOVE}
use Rattle.dual_model.specs.declared.limits.TheConstants.{MAX_UNIT_PRICE}
use Rattle.dual_model.proofs.moves.hour_cost.Goals as goal

pub product-requires : goal.product-requires
product-requires c = grind (arith, product-fits, from-size, c)

pub difference-requires : goal.difference-requires
difference-requires c =
    let minimum = from-size c.args.minimum c.from.result MAX_POWER c.from.ensures c.requires.minimum in
    sum-fits c.args.term c.product.result MAX_TERM (MAX_UNIT_PRICE * MAX_POWER) c.requires.term
    (product-size c.args.price c.from.result c.product.result MAX_UNIT_PRICE MAX_POWER c.product.ensures c.requires.price minimum) (lit< tt)

pub returns : goal.returns
returns c =
    let minimum = from-size c.args.minimum c.from.result MAX_POWER c.from.ensures c.requires.minimum in
    let product = product-size c.args.price c.from.result c.product.result MAX_UNIT_PRICE MAX_POWER c.product.ensures c.requires.price minimum in
    let size : unsigned_abs c.difference.result ≤ MAX_MOVE =
    omega (arith, difference-size c.args.term c.product.result c.difference.result MAX_TERM (MAX_UNIT_PRICE * MAX_POWER) c.difference.ensures c.requires.term product) in
    record {
      value = wide c.difference.result MAX_MOVE size (lit< tt)
          ∙ difference-is c.args.term c.product.result c.difference.result MAX_TERM (MAX_UNIT_PRICE * MAX_POWER) c.difference.ensures c.requires.term product (lit< tt)
          ∙ ap (λ x. c.args.term -ℤ x)
          (product-is c.args.price c.from.result c.product.result MAX_UNIT_PRICE MAX_POWER c.product.ensures c.requires.price minimum (lit< tt) (lit< tt)
          ∙ ap (λ x. c.args.price *ℤ x) (c.from.ensures ∙ narrow c.args.minimum MAX_POWER c.requires.minimum (lit< tt)));
      size = wide-size c.difference.result MAX_MOVE size;
    }
