-- A commitment that is dispatched isn't stuck.
use Rattle.std.proofs.Common.{subst}
use Rattle.dispatch_repair.specs.Prelude.{IsDispatchFault}
use Rattle.dispatch_repair.proofs.OneDispatch.{never_both}
use Rattle.decommitment.proofs.pass.whole.Goals as goal

pub unreachable-requires : goal.unreachable-requires
unreachable-requires c =
    never_both c.args.instance.now c.args.patterns.now c.requires.dispatched.0 c.in-Err-Stuck.field-0-0 c.requires.lawful c.requires.dispatched.1
    (subst (IsDispatchFault c.args.instance.now c.args.patterns.now) c.in-Err-Stuck.field-0-is c.in-Err-Stuck.ensures.fault)
