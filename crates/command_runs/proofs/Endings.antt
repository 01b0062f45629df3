-- How a run ends, by what is known of what it came to.
use Rattle.std.proofs.Common.{arith, inr, Option, Result, Ok, Err, IfOk, IfErr}
use Rattle.outside.specs.Prelude.{SinkState}
use Rattle.command_runs.specs.Prelude.{End, Failure, Fault, Found, Ends, IsFaulty, IsEndOf}

pub faulty : (HasFailed : Fault → Option Found → Type 0) (failure : Failure) (before after : SinkState) (end : End)
    → HasFailed failure.fault failure.found → IsEndOf (Err failure) before after end → IsFaulty HasFailed before after end
faulty HasFailed failure before after end failed is = grind (arith, failed, is)

pub ended : (IsDone : End → Type 0) (HasFailed : Fault → Option Found → Type 0) (outcome : Result End Failure) (before after : SinkState) (end : End)
    → IfOk outcome IsDone → IfErr outcome (λ f. HasFailed f.fault f.found) → IsEndOf outcome before after end
    → Ends IsDone HasFailed before after end
ended IsDone HasFailed (Ok answer) before after end done failed is = grind (arith, answer, done, failed, is)
ended IsDone HasFailed (Err failure) before after end done failed is = inr (faulty HasFailed failure before after end failed is)
