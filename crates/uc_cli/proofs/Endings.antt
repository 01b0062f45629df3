-- How the ends of a run follow from its steps: reading and searching (from the files f to g), writing the
-- certificate (from g to h) and the report.
use Rattle.std.proofs.Common.{arith, ◌≡◌, ℕ, true, false, subst, ap, ◌∙◌, Some, None}
use Rattle.outside.specs.declared.slot.Slot.TheVariants as slot
use Rattle.outside.specs.Prelude.{SlotState, SameBut, SinkState}
use Rattle.command_runs.specs.Prelude.{IsSaved, FailsToSave, text_of_certificate, outside_of, HasCause}
use Rattle.command_line.specs.Command.{Solve}
use Rattle.uc_cli.specs.Run.{Fault, Instance, Slot, Write, solve_options, IsAnswer, IsDone, IsFailure, IsUnsaved, IsUntold}
use Rattle.uc_cli.specs.inside.Written.{AreUnwritten, AreWritten, IsNotSaved, IsNotTold}
use Rattle.branch_tree.specs.declared.found.Found.{Found}

-- the certificate's slot is as it was before the instance was read
certificate_same : (f g : Slot → SlotState) → SameBut slot.Instance f g → g slot.CertOut ≡ f slot.CertOut
certificate_same f g same = same slot.CertOut (λ e. cc)

-- a fault before anything was written
pub stopped : (asked : Solve) (f g : Slot → SlotState) (out err_old err_new : SinkState) (fault : Fault)
    → HasCause (solve_options asked) (f slot.Instance) (g slot.Instance) fault → SameBut slot.Instance f g
    → IsFailure asked (outside_of f out err_old) (outside_of g out err_new) fault None
stopped asked f g out err_old err_new (Write _) cause same = absurd cause
stopped asked f g out err_old err_new fault cause same = grind (arith, cause, same)

unsaved : (asked : Solve) (f g h : Slot → SlotState) (before after err_old err_new : SinkState) (instance : Instance) (rounded : ℕ) (found : Found)
    → IsAnswer asked (f slot.Instance) instance rounded found → SameBut slot.Instance f g
    → IsNotSaved instance found (g slot.CertOut) (h slot.CertOut) before after
    → IsUnsaved asked (outside_of f before err_old) (outside_of h after err_new) found
unsaved asked f g h before after err_old err_new instance rounded found answer same is = record {
  has = record { instance = instance; rounded = rounded; answer = answer };
  certificate =
      subst (λ s. FailsToSave (text_of_certificate instance found) s (h slot.CertOut)) (certificate_same f g same) is.certificate;
  out = is.out;
}

saved_since : (f g h : Slot → SlotState) (instance : Instance) (found : Found) → SameBut slot.Instance f g
    → IsSaved (text_of_certificate instance found) (g slot.CertOut) (h slot.CertOut)
    → IsSaved (text_of_certificate instance found) (f slot.CertOut) (h slot.CertOut)
saved_since f g h instance found same saved = grind (arith, same, saved)

untold : (asked : Solve) (f g h : Slot → SlotState) (before after err_old err_new : SinkState) (instance : Instance) (rounded : ℕ) (found : Found)
    → IsAnswer asked (f slot.Instance) instance rounded found → SameBut slot.Instance f g
    → IsNotTold asked.gap instance rounded found (g slot.CertOut) (h slot.CertOut) before after
    → IsUntold asked (outside_of f before err_old) (outside_of h after err_new) found
untold asked f g h before after err_old err_new instance rounded found answer same is = record {
  has = record { instance = instance; rounded = rounded; answer = answer };
  saved = saved_since f g h instance found same is.saved;
  report = is.report;
}

-- a fault at the certificate or at the report
pub unwritten : (asked : Solve) (f g h : Slot → SlotState) (before after err_old err_new : SinkState) (instance : Instance) (rounded : ℕ)
    (found : Found) (fault : Fault) → IsAnswer asked (f slot.Instance) instance rounded found → SameBut slot.Instance f g
    → AreUnwritten asked.gap instance rounded found (g slot.CertOut) (h slot.CertOut) before after fault
    → IsFailure asked (outside_of f before err_old) (outside_of h after err_new) fault (Some found)
unwritten asked f g h before after err_old err_new instance rounded found (Write false) answer same is =
    unsaved asked f g h before after err_old err_new instance rounded found answer same is
unwritten asked f g h before after err_old err_new instance rounded found (Write true) answer same is =
    untold asked f g h before after err_old err_new instance rounded found answer same is
unwritten asked f g h before after err_old err_new instance rounded found fault answer same is = absurd is

calm_each : (f g h : Slot → SlotState) → SameBut slot.Instance f g → SameBut slot.CertOut g h
    → (g slot.Instance).faults ≡ (f slot.Instance).faults → (h slot.CertOut).faults ≡ (g slot.CertOut).faults
    → (s : Slot) → (h s).faults ≡ (f s).faults
calm_each f g h first second read written slot.Instance = ap (λ (s : SlotState). s.faults) (second slot.Instance (λ e. cc)) ∙ read
calm_each f g h first second read written slot.CertIn = grind (arith, first, second, read, written)
calm_each f g h first second read written slot.CertOut = grind (arith, first, second, read, written)

pub done : (asked : Solve) (f g h : Slot → SlotState) (before after err_old err_new : SinkState) (instance : Instance) (rounded : ℕ) (found : Found)
    → IsAnswer asked (f slot.Instance) instance rounded found → SameBut slot.Instance f g → SameBut slot.CertOut g h
    → (g slot.Instance).faults ≡ (f slot.Instance).faults
    → AreWritten asked.gap instance rounded found (g slot.CertOut) (h slot.CertOut) before after
    → IsDone asked (outside_of f before err_old) (outside_of h after err_new) found
done asked f g h before after err_old err_new instance rounded found answer first second calm is = record {
  has = record { instance = instance; rounded = rounded; answer = answer };
  saved = saved_since f g h instance found first is.saved;
  told = is.told;
  calm = calm_each f g h first second calm is.saved.calm;
}
