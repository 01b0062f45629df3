-- A rest goes on until it may end; then the best of the warm starts and of the cold ones, to a period in which the unit may not be off.
use Rattle.std.proofs.Common.{◌<◌, ◌∙◌, arith}
use Rattle.std.proofs.lemmas.Bool.{le-leb, lt-leb}
use Rattle.uc_model.specs.Prelude.{period_count}
use Rattle.unit_path.specs.inside.Hours.{hour_in}
use Rattle.unit_path.proofs.Entries.{cold_start-entry, off_until-entry}
use Rattle.unit_path.proofs.LeastStarts.{least-from_cold, least-none, least-to}
use Rattle.unit_path.proofs.Switched.{start-fits}
use Rattle.unit_path.proofs.rests.next_start.Goals as goal

pub returns-then-from-until : goal.returns-then-from-until
returns-then-from-until c =
    let until = off_until-entry c.args.terms.now c.args.unit.now c.args.fix.now c.args.since c.args.hours.now c.requires.later c.args.since (omega arith) (omega arith) in
    least-none c.args.terms.now c.args.unit.now c.args.fix.now c.requires.lawful c.requires.sized c.args.since c.min-from.result
    (hour_in c.args.hours.now c.args.since).off_until until.later c.if-from-until.true (omega (arith, c.requires.later.count))
    (λ k low high. c.first_switch.ensures.first k ∙ lt-leb c.first_switch.result k (omega arith))
    (until.at (omega (arith, c.if-from-until.true, c.requires.later.count)))

pub best_warm-best-requires-clause-may : goal.best_warm-best-requires-clause-may
best_warm-best-requires-clause-may c = grind (arith, off_until-entry, le-leb, c)

pub best_warm-best-requires-else-cold-until-clause-may : goal.best_warm-best-requires-else-cold-until-clause-may
best_warm-best-requires-else-cold-until-clause-may c = grind (arith, le-leb, c)

pub from_start-requires-clause-start : goal.from_start-requires-clause-start
from_start-requires-clause-start c = grind (arith, off_until-entry, start-fits, c)

pub returns-then-cold-until : goal.returns-then-cold-until
returns-then-cold-until c =
    let until = off_until-entry c.args.terms.now c.args.unit.now c.args.fix.now c.args.since c.args.hours.now c.requires.later c.args.since (omega arith) (omega arith) in
    let last = (hour_in c.args.hours.now c.args.since).off_until in
    let from = c.min-from.result in
    let short : last < period_count c.args.terms.now = omega (arith, c.if-cold-until.true, c.requires.later.count) in
    least-to c.args.terms.now c.args.unit.now c.args.fix.now c.requires.lawful c.requires.sized c.args.since from last
    (hour_in c.args.hours.now last).start c.best_warm-best.result c.better.result c.from_start.result
    (omega (arith, c.requires.later.count)) c.if-from-until.false short
    (λ k low high. c.first_switch.ensures.first k ∙ lt-leb c.first_switch.result k (omega arith))
    (c.first_switch.ensures.first last ∙ le-leb c.first_switch.result last (omega (arith, c.if-from-until.false, short, c.requires.later.count)))
    (λ k low high. until.before k low high) (until.at short)
    (c.requires.later.hour last until.later short).start c.from_start.ensures
    (record { cost = c.best_warm-best.ensures.cost; start = c.best_warm-best.ensures.start })
    c.better.ensures.cost c.better.ensures.choice

pub returns-else-cold-until : goal.returns-else-cold-until
returns-else-cold-until c =
    let until = off_until-entry c.args.terms.now c.args.unit.now c.args.fix.now c.args.since c.args.hours.now c.requires.later c.args.since (omega arith) (omega arith) in
    let from = c.min-from.result in
    let cold = c.min-cold.result in
    let least = cold_start-entry c.args.terms.now c.args.unit.now c.args.fix.now c.args.since c.args.hours.now c.requires.later c.args.since cold
    (omega (arith, c.requires.later.count)) (omega (arith, c.requires.later.count)) (omega (arith, c.requires.later.count))
    (λ h. c.first_switch.ensures.first cold ∙ le-leb c.first_switch.result cold (omega (arith, h, c.requires.later.count)))
    (λ short k h. c.first_cold.ensures.cold k (omega (arith, short, h, c.requires.later.count))) in
    least-from_cold c.args.terms.now c.args.unit.now c.args.fix.now c.requires.lawful c.requires.sized c.args.since from cold
    (hour_in c.args.hours.now cold).cold_start c.best_warm-best-else-cold-until.result c.better_of.result
    (omega (arith, c.requires.later.count)) (omega (arith, c.requires.later.count)) (omega (arith, c.requires.later.count))
    (λ k low high. c.first_switch.ensures.first k ∙ lt-leb c.first_switch.result k (omega arith))
    (λ k low high. until.before k low (omega (arith, high, c.if-cold-until.false)))
    least
    (record { cost = c.best_warm-best-else-cold-until.ensures.cost; start = c.best_warm-best-else-cold-until.ensures.start })
    c.better_of.ensures.cost c.better_of.ensures.choice
