-- One period more.
use Rattle.std.proofs.Common.{arith, lit<, ◌∙◌, length-set}
use Rattle.dual_model.specs.declared.limits.TheConstants.{MAX_PRICE}
use Rattle.uc_model.proofs.Common.{narrow}
use Rattle.opening_tables.proofs.PricedPeriods.{priced-more}
use Rattle.opening_tables.proofs.marginal_prices.period_prices.Goals as goal

pub loop-t-preserved : goal.loop-t-preserved
loop-t-preserved c = record {
  count = length-set c.loop-t.prices.items c.loop-t.t _ ∙ c.loop-t.invariant.count;
  prices =
      priced-more c.args.instance.now c.args.printed.now c.loop-t.prices.items c.loop-t.t c.period_price.result _
      (omega (arith, c.loop-t.invariant.count, c.loop-t-test.true))
      (narrow c.period_price.result MAX_PRICE c.period_price.ensures.size (lit< tt))
      (record { marginal = c.period_price.ensures.price; size = c.period_price.ensures.size })
      c.loop-t.invariant.prices;
}
