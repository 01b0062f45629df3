-- What writing the certificate and then the report comes to.
use Rattle.std.specs.Prelude.{◌≡◌, ℕ, true, false}
use Rattle.outside.specs.Prelude.{SlotState, SinkState}
use Rattle.branch_tree.specs.declared.found.Found.{Found}
use Rattle.report.specs.FoundReport.{found_report}
use Rattle.command_runs.specs.Prelude.{text_of_certificate, IsSaved, FailsToSave, IsTold, FailsToTell}
use Rattle.uc_cli.specs.Run.{Fault, Instance, Write}

-- the certificate is saved and the report told, by the certificate's slot and the output before and after
pub record AreWritten (gap : ℕ) (instance : Instance) (rounded : ℕ) (found : Found) (old new : SlotState) (before after : SinkState) : Type 0 where
  pub saved : IsSaved (text_of_certificate instance found) old new
  pub told : IsTold (found_report instance found rounded gap) before after

-- the certificate could not be written, and nothing was written to the output
pub record IsNotSaved (instance : Instance) (found : Found) (old new : SlotState) (before after : SinkState) : Type 0 where
  pub certificate : FailsToSave (text_of_certificate instance found) old new
  pub out : after ≡ before

-- the certificate is saved, and the report could not be written
pub record IsNotTold (gap : ℕ) (instance : Instance) (rounded : ℕ) (found : Found) (old new : SlotState) (before after : SinkState) : Type 0 where
  pub saved : IsSaved (text_of_certificate instance found) old new
  pub report : FailsToTell (found_report instance found rounded gap) before after

-- one of them could not be written
abbrev pub AreUnwritten : ℕ → Instance → ℕ → Found → SlotState → SlotState → SinkState → SinkState → Fault → Type 0
AreUnwritten gap instance rounded found old new before after (Write false) = IsNotSaved instance found old new before after
AreUnwritten gap instance rounded found old new before after (Write true) = IsNotTold gap instance rounded found old new before after
AreUnwritten gap instance rounded found old new before after fault = ⊥
