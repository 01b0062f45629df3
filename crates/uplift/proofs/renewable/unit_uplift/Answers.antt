-- What it would gain in the period is the next term.
use Rattle.std.proofs.Common.{arith}
use Rattle.schedule_check.proofs.AddedSums.{added}
use Rattle.uplift.specs.Sizes.{MAX_PRICED}
use Rattle.uplift.specs.inside.Lists.{renewable_uplift_at}
use Rattle.uplift.proofs.renewable.unit_uplift.Goals as goal

pub loop-t-preserved : goal.loop-t-preserved
loop-t-preserved c =
    let next = added c.loop-t.t (renewable_uplift_at c.args.instance.now c.args.printed.now c.args.table.now c.args.w) _ c.period_uplift.result
    c.sum-total.result MAX_PRICED c.loop-t.invariant.value c.period_uplift.ensures.value c.sum-total.ensures c.loop-t.invariant.size
    c.period_uplift.ensures.size (omega (arith, c.loop-t-test.true, c.requires.lawful.periods.1)) in
    record { value = next.value; size = next.size }
