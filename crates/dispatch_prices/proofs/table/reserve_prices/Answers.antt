-- One price more.
use Rattle.std.proofs.Common.{arith}
use Rattle.std.proofs.lemmas.Int.{ints}
use Rattle.dispatch_prices.specs.PricedLimits.{reserve_price}
use Rattle.dispatch_prices.proofs.PriceList.{pushed}
use Rattle.dispatch_prices.proofs.table.reserve_prices.Goals as goal

pub loop-t-preserved : goal.loop-t-preserved
loop-t-preserved c =
    pushed (reserve_price c.args.priced.now) c.loop-t.t c.loop-t.prices.items c.push.new.prices.items _ c.in_ok-push.ensures c.loop-t.invariant
    (omega (arith, ints, c.times.ensures.value, c.times.ensures.size)) (omega (arith, ints, c.times.ensures.size))
