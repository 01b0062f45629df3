-- The start.
use Rattle.std.proofs.Common.{subst}
use Rattle.dispatch_table.specs.Start.{IsMade}
use Rattle.pivot_dispatch.proofs.Stopping.{made_wide}
use Rattle.pivot_dispatch.proofs.dispatch.best.Goals as goal

pub returns-in-Wide : goal.returns-in-Wide
returns-in-Wide c =
    made_wide c.args.instance.now c.args.patterns.now c.in-Wide.wide c.too_large.result
    (subst (IsMade c.args.instance.now c.args.patterns.now) c.in-Wide.is c.in_ok-start.ensures) c.too_large.ensures
