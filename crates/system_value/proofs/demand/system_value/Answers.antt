-- The sum so far and one period's value.
use Rattle.std.proofs.Common.{◌≡◌, ◌∙◌, ap, sym, subst, suc, lit<, ◌+◌, ◌*◌, ◌<◌, ◌≤◌, ◌^◌, arith, ◌+ℤ◌, to_z, unsigned_abs}
use Rattle.std.specs.Int.{w128}
use Rattle.uc_model.specs.Prelude.{sum_below}
use Rattle.dual_model.specs.Prelude.{needs_value}
use Rattle.uc_model.proofs.Common.{abs_add, wide-size}
use Rattle.uc_model.proofs.Sizes.{wide}
use Rattle.system_value.specs.Sizes.{MAX_HOUR}
use Rattle.system_value.proofs.demand.system_value.Goals as goal

pub sum-total-requires : goal.sum-total-requires
sum-total-requires c =
    omega (arith, c.requires.lawful.periods.1, c.loop-t-test.true, c.loop-t.invariant.size, wide-size c.period_value.result MAX_HOUR c.period_value.ensures.size)

pub loop-t-preserved : goal.loop-t-preserved
loop-t-preserved c =
    let most = c.loop-t.t * MAX_HOUR in
    let fits : most + MAX_HOUR < 2 ^ 127 = omega (arith, c.requires.lawful.periods.1, c.loop-t-test.true) in
    let next : suc c.loop-t.t ≡ c.loop-t.t + 1 = omega arith in
    let total = to_z w128 c.loop-t.total-bits in
    let whole : c.sum-total.result ≡ total +ℤ c.period_value.result =
    c.sum-total.ensures ∙ (λ i. total +ℤ wide c.period_value.result MAX_HOUR c.period_value.ensures.size (lit< tt) i) in
    let size : unsigned_abs c.sum-total.result ≤ most + MAX_HOUR =
    subst (λ z. unsigned_abs z ≤ most + MAX_HOUR) (sym whole)
    (abs_add total c.period_value.result most MAX_HOUR c.loop-t.invariant.size c.period_value.ensures.size) in
    record {
      value = wide c.sum-total.result (most + MAX_HOUR) size fits ∙ whole ∙ (λ i. c.loop-t.invariant.value i +ℤ c.period_value.ensures.value i)
          ∙ ap (λ n. sum_below n (needs_value c.args.instance.now c.args.table.now)) next;
      size = omega (arith, wide-size c.sum-total.result (most + MAX_HOUR) size);
    }
