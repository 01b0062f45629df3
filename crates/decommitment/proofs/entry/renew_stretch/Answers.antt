-- All are alike, or each is renewed.
use Rattle.std.proofs.Common.{◌≡◌, ◌+◌, ◌-◌, arith, subst}
use Rattle.decommitment.specs.inside.Fills.{AreEntered, base_parts, hour_period}
use Rattle.decommitment.proofs.Entries.{entered_alike_from}
use Rattle.decommitment.proofs.entry.renew_stretch.Goals as goal

pub returns-then-are_alike-clause-entered : goal.returns-then-are_alike-clause-entered
returns-then-are_alike-clause-entered c =
    let system = c.args.system.now in
    let hour = c.args.hour.now in
    let base = c.args.base.now in
    let first = c.args.stretch.from in
    let count = c.args.stretch.to - first in
    let all : first + count ≡ c.args.stretch.to = omega (arith, c.requires.order) in
    subst (λ n. AreEntered (hour_period system hour) system.merit.now.order.items (base_parts system hour base) n base.fill.now c.args.fill.now) all
    (entered_alike_from system hour base c.requires.hour c.requires.base first count c.args.fill.now (omega (arith, all, c.requires.within))
    (λ g low high. c.are_alike.ensures c.if-are_alike.true g low (omega (arith, all, high))) c.requires.entered)

pub loop-g-preserved : goal.loop-g-preserved
loop-g-preserved c =
    subst (λ n. AreEntered (hour_period c.args.system.now c.args.hour.now) c.args.system.now.merit.now.order.items
    (base_parts c.args.system.now c.args.hour.now c.args.base.now) n c.args.base.now.fill.now c.renew_unit.new.fill) (omega arith) c.in_default.ensures.entered

pub are_alike-requires-clause-hour : goal.are_alike-requires-clause-hour
are_alike-requires-clause-hour c = omega (arith, c.requires.hour.before.count, c.requires.within)

pub are_alike-requires-clause-base : goal.are_alike-requires-clause-base
are_alike-requires-clause-base c = omega (arith, c.requires.base.fill.was.count, c.requires.within)

pub returns-clause-entered : goal.returns-clause-entered
returns-clause-entered c = grind (arith, c)
