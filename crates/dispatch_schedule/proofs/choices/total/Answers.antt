-- No part is below 0, so the sum stays within that of all.
use Rattle.std.proofs.Common.{◌≡◌, suc, ◌+◌, pos, ◌≤ℤ◌, sym, ap, subst, ◌∙◌, arith, to_z, of_z, w64}
use Rattle.std.proofs.lemmas.Int.{ints}
use Rattle.uc_model.specs.Prelude.{sum_below}
use Rattle.dispatch_schedule.specs.inside.Chosen.{part_of}
use Rattle.dispatch_schedule.proofs.Totals.{part_read, sum_low, part_low, next_is, next_high, first_nonneg}
use Rattle.dispatch_schedule.proofs.choices.total.Goals as goal
use Rattle.dispatch_schedule.proofs.choices.total.Goals.{After-part}

-- the part of the item
part_is : (c : After-part) → c.part.result ≡ part_of c.args.chosen.now c.args.power c.loop-item.item-index
part_is c = c.part.ensures ∙ part_read c.args.chosen.now c.args.power c.loop-item.item-index _ c.loop-item-test.true

pub more-sum-requires-clause-low : goal.more-sum-requires-clause-low
more-sum-requires-clause-low c =
    sum_low c.args.chosen.now c.args.power c.requires.low c.requires.high c.loop-item.item-index c.loop-item-test.true _ c.part.result c.loop-item.invariant (part_is c.before)

pub more-sum-requires-clause-part : goal.more-sum-requires-clause-part
more-sum-requires-clause-part c =
    let low = part_low c.args.chosen.now c.args.power c.requires.low c.requires.high c.loop-item.item-index c.loop-item-test.true _ c.part.result c.loop-item.invariant (part_is c.before) in
    omega (arith, ints)

pub more-sum-requires-clause-high : goal.more-sum-requires-clause-high
more-sum-requires-clause-high c =
    let high = next_high c.args.chosen.now c.args.power c.requires.low c.requires.high c.loop-item.item-index c.loop-item-test.true _ c.part.result c.loop-item.invariant (part_is c.before) in
    omega (arith, ints)

pub loop-item-preserved : goal.loop-item-preserved
loop-item-preserved c =
    let next = next_is c.args.chosen.now c.args.power c.requires.low c.requires.high c.loop-item.item-index c.loop-item-test.true _ c.part.result c.loop-item.invariant (part_is c.before.before) in
    let made = c.more-sum.ensures in
    let value : to_z w64 (of_z w64 c.more-sum.result) ≡ sum_below (suc c.loop-item.item-index) (part_of c.args.chosen.now c.args.power) = omega (arith, ints) in
    let at : suc c.loop-item.item-index ≡ c.loop-item.item-index + 1 = omega arith in
    value ∙ ap (λ n. sum_below n (part_of c.args.chosen.now c.args.power)) at

pub returns-clause-sign : goal.returns-clause-sign
returns-clause-sign c =
    subst (λ z. pos 0 ≤ℤ z) (sym c.loop-item.invariant) (first_nonneg c.args.chosen.now c.args.power c.requires.low c.loop-item.item-index (omega arith))
