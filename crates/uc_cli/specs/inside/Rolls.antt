-- What the steps of a run of `roll` are for each other.
use Rattle.std.specs.Prelude.{◌≡◌, ℕ, true, Option, Some, None}
use Rattle.outside.specs.Prelude.{SinkState}
use Rattle.report.specs.FaultText.{status_of}
use Rattle.report.specs.RolledReport.{rolled_report}
use Rattle.command_runs.specs.Prelude.{IsTold, FailsToTell, TellsFault}
use Rattle.uc_cli.specs.RollRun.{End, Fault, Instance, Rolled, Write}

-- the report is told, and what comes of it is what was rolled
pub record IsToldRoll (instance : Instance) (rounded : ℕ) (rolled : Rolled) (before after : SinkState) (left : Rolled) : Type 0 where
  pub same : left ≡ rolled
  pub told : IsTold (rolled_report instance rolled rounded) before after

-- the report could not be written
pub record IsUntoldRoll (instance : Instance) (rounded : ℕ) (rolled : Rolled) (before after : SinkState) (fault : Fault) (left : Option Rolled)
    : Type 0 where
  pub is_fault : fault ≡ Write true
  pub same : left ≡ Some rolled
  pub report : FailsToTell (rolled_report instance rolled rounded) before after

-- the end of a run by a fault
pub record IsFaultEnd (fault : Fault) (rolled : Option Rolled) (before after : SinkState) (end : End) : Type 0 where
  pub code : end.code ≡ status_of fault
  pub is_rolled : end.rolled ≡ rolled
  pub nothing : end.found ≡ None
  pub told : TellsFault fault before after
