-- A renewable unit more gives its least.
use Rattle.std.proofs.Common.{◌*◌, ◌∙◌, ◌<◌, ap, arith, length, slice_set, subst}
use Rattle.uc_model.specs.Prelude.{renewable_count}
use Rattle.uc_model.proofs.Common.{narrow}
use Rattle.dispatch_repair.specs.Amounts.{MAX_POWER}
use Rattle.decommitment.specs.inside.Fills.{IsBegunTo, hour_period}
use Rattle.decommitment.proofs.Entries.{begun_more}
use Rattle.decommitment.proofs.fill.begin_free.Goals as goal

pub set_amount-requires-clause-amount : goal.set_amount-requires-clause-amount
set_amount-requires-clause-amount c = grind (arith, c)

pub loop-w-preserved : goal.loop-w-preserved
loop-w-preserved c =
    let period = hour_period c.args.system.now c.args.hour.now in
    let range = c.renewable_range-range.ensures in
    let h : c.loop-w.w < renewable_count c.args.system.now.instance.now = subst (λ xs. c.loop-w.w < length xs) c.as_slice-w-end.ensures c.loop-w-test.true in
    let low = narrow c.renewable_range-range.result.low (3 * MAX_POWER) range.low_size (omega arith) in
    subst (λ n. IsBegunTo period n c.with_range-sums.result c.set_amount.new.fill) (omega arith)
    (begun_more period c.loop-w.w c.loop-w.sums c.with_range-sums.result c.renewable_range-range.result c.loop-w.fill c.set_amount.new.fill h c.loop-w.invariant range.low
    range.high range.low_size range.high_size c.with_range-sums.ensures.low c.with_range-sums.ensures.high
    (c.set_amount.ensures.amounts ∙ ap (slice_set c.loop-w.fill.amounts.items c.loop-w.w) low) c.set_amount.ensures.given c.set_amount.ensures.level c.set_amount.ensures.totals)
