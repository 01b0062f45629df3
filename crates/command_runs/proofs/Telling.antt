-- A report that was written whole and could not be flushed.
use Rattle.std.proofs.Common.{arith, ℕ, List}
use Rattle.outside.specs.Prelude.{SinkState, SinkWrites, SinkCountsFault}
use Rattle.outside.proofs.Appending.{all-appended}
use Rattle.command_runs.specs.Prelude.{FailsToTell}

pub unflushed : (text : List ℕ) (before written end : SinkState) → SinkWrites text before written → SinkCountsFault written end
    → FailsToTell text before end
unflushed text before written end writes fault = grind (arith, all-appended, writes, fault)
