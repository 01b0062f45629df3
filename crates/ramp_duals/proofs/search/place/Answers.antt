-- The row in the middle tells of all rows on one side of it, since the rows rise.
use Rattle.std.proofs.Common.{◌+◌, ◌-◌, ◌/◌, ◌<◌, arith}
use Rattle.ramp_duals.specs.RampRows.{IsBefore, row_in}
use Rattle.ramp_duals.proofs.RowOrder.{before-earlier}
use Rattle.ramp_duals.proofs.search.place.Goals as goal

pub loop-low-init : goal.loop-low-init
loop-low-init c = (omega arith, omega arith, λ i h. absurd (omega arith), λ i h k. absurd (omega arith))

pub bounds-rows-middle : goal.bounds-rows-middle
bounds-rows-middle c = omega (arith, c.loop-low.invariant.0, c.loop-low.invariant.1, c.loop-low-test.true)

pub loop-low-preserved-then-is_before : goal.loop-low-preserved-then-is_before
loop-low-preserved-then-is_before c =
    let so_far = c.loop-low.invariant in
    let middle = c.loop-low.low + (c.loop-low.high - c.loop-low.low) / 2 in
    let below : middle < c.loop-low.high = omega (arith, c.loop-low-test.true) in
    let known : IsBefore (row_in c.args.rows.now middle) c.args.g c.args.t = c.is_before.ensures.before c.if-is_before.true in (
      omega arith,
      so_far.1,
      λ i h. before-earlier c.args.rows.now c.requires c.args.g c.args.t i middle (omega arith) (omega (arith, so_far.1)) known,
      so_far.3,
    )

pub loop-low-preserved : goal.loop-low-preserved
loop-low-preserved c =
    let so_far = c.loop-low.invariant in
    let middle = c.loop-low.low + (c.loop-low.high - c.loop-low.low) / 2 in
    let below : middle < c.loop-low.high = omega (arith, c.loop-low-test.true) in
    let known : IsBefore (row_in c.args.rows.now middle) c.args.g c.args.t → ⊥ = c.is_before.ensures.later c.if-is_before.false in (
      omega arith,
      omega (arith, so_far.1),
      so_far.2,
      λ i h k l. known (before-earlier c.args.rows.now c.requires c.args.g c.args.t middle i h k l),
    )

pub returns : goal.returns
returns c = grind (arith, c)
