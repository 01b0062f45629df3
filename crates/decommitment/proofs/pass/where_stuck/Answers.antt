-- A commitment that is stuck isn't dispatched.
use Rattle.dispatch_repair.proofs.OneDispatch.{never_both}
use Rattle.decommitment.proofs.pass.where_stuck.Goals as goal

pub unreachable-requires : goal.unreachable-requires
unreachable-requires c =
    never_both c.args.instance.now c.args.patterns.now _ c.requires.stuck.stuck c.requires.lawful c.in-Ok.ensures.dispatch c.requires.stuck.stuck_by
