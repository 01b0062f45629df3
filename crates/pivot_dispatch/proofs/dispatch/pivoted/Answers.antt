-- The run.
use Rattle.std.proofs.Common.{subst}
use Rattle.pivot_run.specs.Prelude.{IfMet, StopsAt, state_of}
use Rattle.dispatch_table.proofs.StartSizes.{rows_follow}
use Rattle.pivot_dispatch.proofs.Stopping.{stopped_is}
use Rattle.pivot_dispatch.proofs.dispatch.pivoted.Goals as goal

pub run-requires-clause-rows : goal.run-requires-clause-rows
run-requires-clause-rows c = rows_follow c.requires.start.0 c.args.start c.requires.start.1.2

pub returns-in-Err-Met : goal.returns-in-Err-Met
returns-in-Err-Met c =
    let stops = subst (IfMet (StopsAt c.args.start.free (state_of c.args.start.table 0))) c.in-Err-Met.field-0-is c.in-Err-Met.ensures.stop in
    stopped_is c.args.instance.now c.args.patterns.now c.args.start c.in-Err-Met.stop c.stopped.result c.requires.start stops
    (rw c.in-Err-Met.field-0-is at c.stopped.ensures)
