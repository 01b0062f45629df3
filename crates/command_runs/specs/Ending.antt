-- How a run ends, by what it came to. This project's own.
use Rattle.std.specs.Prelude.{◌≡◌, ◌⊎◌, true, Option, Result, Ok, Err, None}
use Rattle.outside.specs.Prelude.{SinkState}
pub use Rattle.branch_tree.specs.declared.found.Found.{Found}
use Rattle.report.specs.FaultText.{status_of}
pub use Rattle.report.specs.declared.fault.Fault.{Fault}
use Rattle.report.specs.declared.fault.Fault.TheVariants.{Write}
use Rattle.command_runs.specs.Writing.{TellsFault}
pub use Rattle.command_runs.specs.declared.ending.End.{End}
pub use Rattle.command_runs.specs.declared.ending.Failure.{Failure}

-- the run told no fault, and its end is such a one
pub record IsAnswered (IsDone : End → Type 0) (before after : SinkState) (end : End) : Type 0 where
  pub done : IsDone end
  pub silent : after ≡ before

-- the run met a fault, which has its cause, and told it
pub record IsFaulty (HasFailed : Fault → Option Found → Type 0) (before after : SinkState) (end : End) : Type 0 where
  pub fault : Fault
  pub code : end.code ≡ status_of fault
  pub failure : HasFailed fault end.found
  pub unrolled : end.rolled ≡ None
  pub told : TellsFault fault before after

-- the run came to an end that is such a one, or to such a fault, by the error output before and after
abbrev pub Ends : (End → Type 0) → (Fault → Option Found → Type 0) → SinkState → SinkState → End → Type 0
Ends IsDone HasFailed before after end = IsAnswered IsDone before after end ⊎ IsFaulty HasFailed before after end

-- the end of what the run came to
abbrev pub IsEndOf : Result End Failure → SinkState → SinkState → End → Type 0
IsEndOf (Ok answer) before after end = IsAnswered (λ e. e ≡ answer) before after end
IsEndOf (Err failure) before after end =
    IsFaulty (λ fault found. (fault ≡ failure.fault) × (found ≡ failure.found)) before after end

-- what a run comes to that did what was asked, by whether its report was told
abbrev pub IsReportEnd : {E : Type 0} → Result (Unit {0}) E → Result End Failure → Type 0
IsReportEnd (Ok told) ended = ended ≡ Ok (record { code = 0; found = None; rolled = None })
IsReportEnd (Err failed) ended = ended ≡ Err (record { fault = Write true; found = None })
