-- A period without an obstacle is filled in order of merit.
use Rattle.std.proofs.Common.{arith, sym, subst}
use Rattle.std.proofs.lemmas.List.{with_items_is}
use Rattle.dispatch_repair.specs.Prelude.{period_after, AreRangesOf, thermal_amount, IsDispatchedFrom, IsStart, AreInMeritOrder}
use Rattle.dispatch_repair.proofs.Merit.{open_ranges}
use Rattle.dispatch_repair.proofs.Shortages.{dispatched_from}
use Rattle.dispatch_repair.proofs.period.dispatch_period.Goals as goal

pub returns-in-Err-clause-dispatched : goal.returns-in-Err-clause-dispatched
returns-in-Err-clause-dispatched c =
    let before = thermal_amount c.args.instance.now c.args.room.now.amounts.items in
    c.in-Err.ensures before c.set_ranges.ensures.ranges c.set_ranges.ensures.heads

pub fill_from_lows-requires-clause-sources : goal.fill_from_lows-requires-clause-sources
fill_from_lows-requires-clause-sources c =
    let before = thermal_amount c.args.instance.now c.args.room.now.amounts.items in
    let period = period_after c.args.instance.now c.args.patterns.now c.args.t before in
    let start : IsStart period c.in-Ok.start = c.in-Ok.ensures before c.set_ranges.ensures.ranges c.set_ranges.ensures.heads in
    open_ranges period c.deref-in-Ok.result.now c.requires.before.lawful c.requires.before.period start.fillable.ranges
    (subst (AreRangesOf period) (sym c.deref-in-Ok.ensures.value) c.set_ranges.ensures.ranges)

pub fill_from_lows-requires-clause-left : goal.fill_from_lows-requires-clause-left
fill_from_lows-requires-clause-left c =
    let before = thermal_amount c.args.instance.now c.args.room.now.amounts.items in
    (c.in-Ok.ensures before c.set_ranges.ensures.ranges c.set_ranges.ensures.heads).sizes

pub returns-in-Ok-clause-dispatched : goal.returns-in-Ok-clause-dispatched
returns-in-Ok-clause-dispatched c =
    let before = thermal_amount c.args.instance.now c.args.room.now.amounts.items in
    let period = period_after c.args.instance.now c.args.patterns.now c.args.t before in
    let start : IsStart period c.in-Ok.start = c.in-Ok.ensures before c.set_ranges.ensures.ranges c.set_ranges.ensures.heads in
    let shortage = c.in-Ok.start.shortage in
    let is = with_items_is c.set_ranges.new.room.amounts c.fill_from_lows.new.amounts (omega (arith, c.fill_from_lows.ensures.length, c.deref_mut.ensures.len)) in
    subst (λ amounts. IsDispatchedFrom period shortage amounts c.set_ranges.new.room.heads.items) (sym is)
    (dispatched_from c.args.instance.now c.args.patterns.now c.args.t before c.deref.result.now c.deref-in-Ok.result.now c.in-Ok.start c.fill_from_lows.new.amounts
    c.set_ranges.new.room.heads.items c.fill_from_lows.result c.requires.before.lawful c.requires.before.period
    (subst (AreInMeritOrder c.args.instance.now) (sym c.deref.ensures.value) c.set_ranges.ensures.room.order)
    (subst (AreRangesOf period) (sym c.deref-in-Ok.ensures.value) c.set_ranges.ensures.ranges) c.set_ranges.ensures.heads start c.fill_from_lows.ensures.filled)
