-- A stretch more enters, in the place of the base's.
use Rattle.std.proofs.Common.{◌≡◌, length, arith, ap, subst}
use Rattle.uc_model.specs.Prelude.{thermal_count}
use Rattle.decommitment.specs.inside.Fills.{AreEntered, base_parts, hour_period}
use Rattle.decommitment.proofs.Entries.{ready_again}
use Rattle.decommitment.proofs.fill.renew_all.Goals as goal

pub returns-clause-ready : goal.returns-clause-ready
returns-clause-ready c =
    let count : length c.as_slice-units.result.now ≡ thermal_count c.args.system.now.instance.now = ap length c.as_slice-units.ensures in
    ready_again c.args.system.now c.args.hour.now c.args.base.now c.requires.hour c.requires.base c.loop-done.fill
    (subst (λ n. AreEntered (hour_period c.args.system.now c.args.hour.now) c.args.system.now.merit.now.order.items
    (base_parts c.args.system.now c.args.hour.now c.args.base.now) n c.args.base.now.fill.now c.loop-done.fill)
    (omega (arith, c.loop-done-test.false, c.loop-done.invariant.within, count)) c.loop-done.invariant.entered)

pub renew_stretch-requires-clause-entered : goal.renew_stretch-requires-clause-entered
renew_stretch-requires-clause-entered c = grind (arith, c)

pub loop-done-preserved : goal.loop-done-preserved
loop-done-preserved c = record { within = c.stretch_from-stretch.ensures.within; entered = c.in_default.ensures.entered }
