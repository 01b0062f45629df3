-- The schedule.
use Rattle.std.proofs.Common.{rules, inr, subst, ap, ◌∙◌, pos, SFits}
use Rattle.std.specs.Int.{w128}
use Rattle.std.proofs.lemmas.Int.{to_z-of_z}
use Rattle.dispatch_schedule.specs.ShownSchedules.{IsShown}
use Rattle.pivot_dispatch.specs.declared.pivot.DispatchAnswer.TheVariants.{Wide}
use Rattle.pivot_dispatch.specs.declared.pivot.WideCause.TheVariants.{Denominator}
use Rattle.pivot_dispatch.proofs.Answering.{cheapest_end, fine_is, schedule_is, wide_is}
use Rattle.pivot_dispatch.proofs.Ended.{cheapest_here}
use Rattle.pivot_dispatch.proofs.ending.Ending.shown.Goals as goal

pub schedule-requires-clause-end : goal.schedule-requires-clause-end
schedule-requires-clause-end c =
    let task = c.requires.ended.0 in
    let ended = c.requires.ended.1 in
    (task, cheapest_end c.args.self.now task ended (cheapest_here c.args.self.now task ended c.requires.allowed c.requires.lawful c.requires.none) c.deref.result.now c.deref.ensures.value)

pub returns-in-Schedule : goal.returns-in-Schedule
returns-in-Schedule c =
    let task = c.requires.ended.0 in
    let ended = c.requires.ended.1 in
    let shown = subst (IsShown task c.args.self.now.last.now.table) c.in-Schedule.is (c.in_ok-schedule.ensures task
    (cheapest_end c.args.self.now task ended (cheapest_here c.args.self.now task ended c.requires.allowed c.requires.lawful c.requires.none) c.deref.result.now c.deref.ensures.value)) in
    schedule_is c.args.self.now task ended c.requires.lawful c.requires.allowed
    (cheapest_here c.args.self.now task ended c.requires.allowed c.requires.lawful c.requires.none) c.args.table (c.requires.table task ended) c.in-Schedule.schedule shown

pub returns-in-Fine : goal.returns-in-Fine
returns-in-Fine c =
    let task = c.requires.ended.0 in
    let ended = c.requires.ended.1 in
    let shown = subst (IsShown task c.args.self.now.last.now.table) c.in-Fine.is (c.in_ok-schedule.ensures task
    (cheapest_end c.args.self.now task ended (cheapest_here c.args.self.now task ended c.requires.allowed c.requires.lawful c.requires.none) c.deref.result.now c.deref.ensures.value)) in
    let fits : SFits w128 c.in-Fine.size = search rules in
    fine_is c.args.self.now task ended (cheapest_here c.args.self.now task ended c.requires.allowed c.requires.lawful c.requires.none) c.in-Fine.size c.met.result shown
    (c.met.ensures ∙ ap (λ z. Wide Denominator z (pos 0) c.args.self.now.pivots) (to_z-of_z w128 c.in-Fine.size fits))

pub returns-in-Wide : goal.returns-in-Wide
returns-in-Wide c =
    let task = c.requires.ended.0 in
    let ended = c.requires.ended.1 in
    let cheapest = cheapest_here c.args.self.now task ended c.requires.allowed c.requires.lawful c.requires.none in
    let shown = subst (IsShown task c.args.self.now.last.now.table) c.in-Wide.is (c.in_ok-schedule.ensures task
    (cheapest_end c.args.self.now task ended (cheapest_here c.args.self.now task ended c.requires.allowed c.requires.lawful c.requires.none) c.deref.result.now c.deref.ensures.value)) in
    wide_is c.args.self.now task ended c.in-Wide.wide.size c.in-Wide.wide.other c.too_large.result (inr (cheapest, inr (inr shown.0))) shown.1 c.too_large.ensures
