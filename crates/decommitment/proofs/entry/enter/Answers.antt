-- The unit's range is empty, or it enters with its least amount at the level.
use Rattle.std.proofs.Common.{◌≡◌, ◌+◌, ◌∙◌, length, arith, sym, ap, subst, slice_set}
use Rattle.uc_model.specs.Prelude.{renewable_count}
use Rattle.uc_model.proofs.Common.{linear, narrow, int_lt-true}
use Rattle.dispatch_repair.proofs.Numbers.{at_most}
use Rattle.decommitment.specs.inside.Fills.{IsSizedAmount, hour_period, part_at}
use Rattle.decommitment.specs.inside.Levels.{IsLeastAt}
use Rattle.decommitment.proofs.Entries.{entered, high_is, least_sized, low_is, part_read}
use Rattle.decommitment.proofs.Steps.{amount_kept}
use Rattle.decommitment.proofs.entry.enter.Goals as goal

pub returns-then-is_empty-clause-entered : goal.returns-then-is_empty-clause-entered
returns-then-is_empty-clause-entered c = grind (arith, linear, part_read, narrow, low_is, high_is, int_lt-true, c)

pub open_at-rest-requires-clause-places : goal.open_at-rest-requires-clause-places
open_at-rest-requires-clause-places c = grind (arith, linear, c)

pub set_amount-requires-clause-amount : goal.set_amount-requires-clause-amount
set_amount-requires-clause-amount c =
    let instance = c.args.system.now.instance.now in
    let period = hour_period c.args.system.now c.args.hour.now in
    let part = c.unit_part-part.result in
    let count : length c.as_slice.result.now ≡ renewable_count instance = ap length c.as_slice.ensures in
    let is : part ≡ part_at period c.args.g =
    part_read c.args.system.now c.args.hour.now c.requires.hour c.args.g _ part c.requires.unit count c.unit_part-part.ensures.is in
    let sized = least_sized period c.args.g part is c.unit_part-part.ensures.sizes c.args.system.now.merit.now.order.items (length c.as_slice.result.now + c.args.g)
    c.args.fill.now.level c.open_at-rest.result.low c.open_at-rest.ensures.least in
    subst IsSizedAmount (sym (amount_kept c.open_at-rest.result.low sized)) sized

pub returns-clause-entered : goal.returns-clause-entered
returns-clause-entered c =
    let instance = c.args.system.now.instance.now in
    let order = c.args.system.now.merit.now.order.items in
    let period = hour_period c.args.system.now c.args.hour.now in
    let fill = c.args.fill.now in
    let part = c.unit_part-part.result in
    let least = c.open_at-rest.result.low in
    let count : length c.as_slice.result.now ≡ renewable_count instance = ap length c.as_slice.ensures in
    let is : part ≡ part_at period c.args.g =
    part_read c.args.system.now c.args.hour.now c.requires.hour c.args.g _ part c.requires.unit count c.unit_part-part.ensures.is in
    let n = length c.as_slice.result.now + c.args.g in
    let kept = amount_kept least (least_sized period c.args.g part is c.unit_part-part.ensures.sizes order n fill.level least c.open_at-rest.ensures.least) in
    entered period c.args.g part is c.unit_part-part.ensures.sizes order c.args.old.now fill c.set_amount.new.fill least c.requires.unit c.requires.given
    (at_most part.reach.range.high part.reach.range.low (sym c.is_empty.ensures ∙ c.if-is_empty.false))
    (subst (λ m. IsLeastAt order (m + c.args.g) fill.level part.reach.range least) count c.open_at-rest.ensures.least)
    (c.set_amount.ensures.amounts ∙ ap (slice_set fill.amounts.items n) kept ∙ ap (λ m. slice_set fill.amounts.items (m + c.args.g) least) count) c.set_amount.ensures.given c.set_amount.ensures.level
    (c.set_amount.ensures.totals ∙ c.exchanged_totals-fill.ensures)
