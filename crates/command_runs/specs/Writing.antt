-- What writing the certificate and the report did. This project's own.
use Rattle.std.specs.Prelude.{◌≡◌, ℕ, List, [], Some}
use Rattle.uc_model.specs.declared.instance.Instance.{Instance}
use Rattle.outside.specs.declared.slot.Stage.TheVariants.{Finished}
use Rattle.outside.specs.Prelude.{HasRisen, Tells, Appends, AppendsFront, SlotState, SinkState}
use Rattle.branch_tree.specs.Prelude.{certificate_of}
use Rattle.branch_tree.specs.declared.found.Found.{Found}
use Rattle.cert_text.specs.CertificateText.{written_text}
use Rattle.report.specs.FaultText.{fault_text}
use Rattle.report.specs.declared.fault.Fault.{Fault}

-- the text of the certificate of what was found
abbrev pub text_of_certificate : Instance → Found → List ℕ
text_of_certificate instance found = written_text (certificate_of instance found)

-- the certificate's slot is finished, its bytes, where they are told, are these, and no fault was counted
pub record IsSaved (text : List ℕ) (old new : SlotState) : Type 0 where
  pub finished : new.stage ≡ Finished
  pub written : Tells new.written text
  pub calm : new.faults ≡ old.faults

-- the certificate could not be written: a fault was counted, and a front of it was written
pub record FailsToSave (text : List ℕ) (old new : SlotState) : Type 0 where
  pub rose : HasRisen old.faults new.faults
  pub front : AppendsFront text (Some []) new.written

-- the report was written and flushed, and no fault was counted
pub record IsTold (text : List ℕ) (old new : SinkState) : Type 0 where
  pub written : Appends text old.written new.written
  pub flushed : new.flushed ≡ new.written
  pub calm : new.faults ≡ old.faults

-- the report could not be written or flushed: a fault was counted, and a front of it was written
pub record FailsToTell (text : List ℕ) (old new : SinkState) : Type 0 where
  pub rose : HasRisen old.faults new.faults
  pub front : AppendsFront text old.written new.written

-- the line on the error output, where the count of faults there neither rose nor stands at its last value
abbrev pub TellsFault : Fault → SinkState → SinkState → Type 0
TellsFault fault old new = ¬ HasRisen old.faults new.faults → Appends (fault_text fault) old.written new.written
