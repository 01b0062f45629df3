-- A unit more enters, with no part before.
use Rattle.std.proofs.Common.{◌≡◌, length, arith, ap, subst}
use Rattle.uc_model.specs.Prelude.{thermal_count}
use Rattle.decommitment.specs.inside.Fills.{AreEntered, IsEntered, Part, hour_period, no_part}
use Rattle.decommitment.proofs.Entries.{entered_more, no_sizes, ready_anew}
use Rattle.decommitment.proofs.fill.enter_all.Goals as goal

pub loop-g-preserved : goal.loop-g-preserved
loop-g-preserved c =
    let period = hour_period c.args.system.now c.args.hour.now in
    let order = c.args.system.now.merit.now.order.items in
    subst (λ n. AreEntered period order (λ g. no_part) n c.args.fill.now c.enter.new.fill) (omega arith)
    (entered_more period order (λ g. no_part) c.loop-g.g c.args.fill.now c.loop-g.fill c.enter.new.fill no_sizes c.loop-g.invariant
    (subst (λ (p : Part). IsEntered period order c.loop-g.g p c.loop-g.fill c.enter.new.fill) c.no_part-none.ensures c.in_default.ensures.entered))

pub returns-clause-ready : goal.returns-clause-ready
returns-clause-ready c =
    let period = hour_period c.args.system.now c.args.hour.now in
    let order = c.args.system.now.merit.now.order.items in
    let count : length c.as_slice-g-end.result.now ≡ thermal_count c.args.system.now.instance.now = ap length c.as_slice-g-end.ensures in
    ready_anew period order c.args.fill.now c.loop-g.fill c.requires.hour.before.lawful c.requires.hour.before.period c.requires.hour.before.sizes c.requires.begun
    (subst (λ n. AreEntered period order (λ g. no_part) n c.args.fill.now c.loop-g.fill) (omega (arith, c.loop-g-test.false, c.loop-g.auto.g-end, count)) c.loop-g.invariant)
