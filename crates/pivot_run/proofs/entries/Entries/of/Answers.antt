-- One number more.
use Rattle.std.proofs.Common.{arith}
use Rattle.pivot_run.proofs.CombinedEntries.{of_added}
use Rattle.pivot_run.proofs.entries.Entries.of.Goals as goal

pub loop-c-preserved : goal.loop-c-preserved
loop-c-preserved c = grind (arith, of_added, c)
