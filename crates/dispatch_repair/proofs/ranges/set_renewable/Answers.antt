-- A range more.
use Rattle.std.proofs.Common.{◌≡◌, ◌<◌, arith, pos, length, subst, ap, ◌∙◌}
use Rattle.uc_model.specs.Prelude.{renewable_count}
use Rattle.dispatch_repair.specs.Prelude.{period_after, IsRangeOf}
use Rattle.dispatch_repair.proofs.Places.{renewable_range}
use Rattle.dispatch_repair.proofs.Listed.{below_set}
use Rattle.dispatch_repair.proofs.ranges.set_renewable.Goals as goal

pub loop-w-preserved : goal.loop-w-preserved
loop-w-preserved c = λ patterns before.
    let period = period_after c.args.instance.now patterns c.args.t before in
    let made = c.renewable_range.ensures in
    let h : c.loop-w.w < renewable_count c.args.instance.now = subst (λ xs. c.loop-w.w < length xs) c.as_slice-w-end.ensures c.loop-w-test.true in
    below_set (IsRangeOf period) c.loop-w.ranges c.loop-w.w c.renewable_range.result (record { low = pos 0; high = pos 0 }) (omega (arith, c.loop-w.auto.ranges ∙ c.requires.ranges))
    (c.loop-w.invariant patterns before)
    (renewable_range period c.loop-w.w c.renewable_range.result h (record { low = made.low; high = made.high; low_size = made.low_size; high_size = made.high_size }))

pub returns-clause-ranges : goal.returns-clause-ranges
returns-clause-ranges c = λ patterns before w h.
    let count : length c.as_slice-w-end.result.now ≡ renewable_count c.args.instance.now = ap length c.as_slice-w-end.ensures in
    c.loop-w.invariant patterns before w (omega (arith, h, count, c.loop-w-test.false))
