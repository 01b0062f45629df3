-- What a run of `roll` did, by how it ended. This project's own.
use Rattle.std.specs.Prelude.{◌≡◌, ℕ, ◌+◌, ◌-◌, ◌⊎◌, true, false, Option, Some, None}
pub use Rattle.uc_model.specs.declared.instance.Instance.{Instance}
use Rattle.dual_model.specs.Prelude.{IsClaimTrue}
pub use Rattle.outside.specs.declared.slot.Slot.{Slot}
use Rattle.outside.specs.declared.slot.Slot.TheVariants as slot
use Rattle.outside.specs.Prelude.{SlotState}
use Rattle.branch_tree.specs.Prelude.{tree_bound}
use Rattle.roll.specs.Prelude.{status_of, IsNextWindow}
pub use Rattle.roll.specs.declared.rolled.Rolled.{Rolled}
use Rattle.roll.specs.declared.rolled.Rolled.TheVariants.{Whole, Stopped}
use Rattle.workers.specs.Rolling.{IsRolled}
use Rattle.report.specs.RolledReport.{rolled_report}
use Rattle.report.specs.FaultText.{status_of as status_of_fault}
pub use Rattle.report.specs.declared.fault.Fault.{Fault}
pub use Rattle.report.specs.declared.fault.Fault.TheVariants.{Write}
use Rattle.command_line.specs.Command.{Roll}
use Rattle.command_runs.specs.Prelude.{Outside, most_bytes, HasInstance, HasCause, IsOpenedByNoOther, IsOnlyRead, IsAnswered, IsTold, FailsToTell, TellsFault}
use Rattle.uc_check.specs.Checking.{IsScheduleTrue}
pub use Rattle.command_runs.specs.declared.ending.End.{End}
use Rattle.command_runs.specs.declared.input.ReadOptions.{ReadOptions}

-- how the instance is read, as by `solve`
abbrev pub roll_options : Roll → ReadOptions
roll_options asked = record { exact = asked.exact; shed = asked.shed; spill_reserve = asked.spill_reserve }

-- what is told is true: the schedule obeys every rule of the whole instance, and costs at most what is printed; or of the window that is
-- named, made from the schedule that is kept of the periods before it, the bound, or that there is no schedule, is true
abbrev pub IsRolledTrue : Instance → Rolled → Type 0
IsRolledTrue instance (Whole schedule cost windows) = IsScheduleTrue instance (record { printed = schedule; cost = cost })
IsRolledTrue instance (Stopped window from to kept found) =
    (ahead : Instance) × IsNextWindow instance kept (from - 1) (to + 1 - from) ahead × IsClaimTrue ahead (tree_bound found.tree)

-- what came of the windows of the instance in the file, each searched with the budget and at the gap that are asked
pub record IsRollAnswer (asked : Roll) (file : SlotState) (instance : Instance) (rounded : ℕ) (rolled : Rolled) : Type 0 where
  pub read : HasInstance (roll_options asked) file instance rounded
  pub is_rolled : IsRolled false instance asked.units asked.gap asked.window asked.step rolled
  pub truth : IsRolledTrue instance rolled

-- the instance in the file, and the answer for it
pub record HasRollAnswer (asked : Roll) (before : Outside) (rolled : Rolled) : Type 0 where
  pub instance : Instance
  pub rounded : ℕ
  pub answer : IsRollAnswer asked (before.files slot.Instance) instance rounded rolled

-- the run answered: the report is told
pub record IsRollDone (asked : Roll) (before after : Outside) (rolled : Rolled) : Type 0 where
  pub has : HasRollAnswer asked before rolled
  pub told : IsTold (rolled_report has.instance rolled has.rounded) before.out after.out
  pub calm : (s : Slot) → (after.files s).faults ≡ (before.files s).faults

-- the run found an answer and could not write its report
pub record IsRollUntold (asked : Roll) (before after : Outside) (rolled : Rolled) : Type 0 where
  pub has : HasRollAnswer asked before rolled
  pub report : FailsToTell (rolled_report has.instance rolled has.rounded) before.out after.out

-- a fault ended the run before anything was written
pub record IsRollStopped (asked : Roll) (before after : Outside) (fault : Fault) : Type 0 where
  pub cause : HasCause (roll_options asked) (before.files slot.Instance) (after.files slot.Instance) fault
  pub out : after.out ≡ before.out

-- how a run of `roll` ended with a fault
abbrev pub IsRollFailure : Roll → Outside → Outside → Fault → Option Rolled → Type 0
IsRollFailure asked before after (Write true) (Some rolled) = IsRollUntold asked before after rolled
IsRollFailure asked before after fault None = IsRollStopped asked before after fault
IsRollFailure asked before after fault (Some rolled) = ⊥

-- the run answered what it was asked: with status 0 and a schedule of all periods, or with 10 and a window that has none
pub record IsRollAnswered (asked : Roll) (before after : Outside) (end : End) : Type 0 where
  pub rolled : Rolled
  pub is_rolled : end.rolled ≡ Some rolled
  pub code : end.code ≡ status_of rolled
  pub nothing : end.found ≡ None
  pub done : IsRollDone asked before after rolled

-- the run met a fault, which has its cause, and told it
pub record IsRollFaulty (asked : Roll) (before after : Outside) (end : End) : Type 0 where
  pub fault : Fault
  pub code : end.code ≡ status_of_fault fault
  pub failure : IsRollFailure asked before after fault end.rolled
  pub nothing : end.found ≡ None
  pub told : TellsFault fault before.err after.err

-- the instance's slot alone is opened, by its name in the words, and it is only read
pub record KeepsToInstance (asked : Roll) (before after : Outside) : Type 0 where
  pub instance : IsOpenedByNoOther asked.instance (before.files slot.Instance) (after.files slot.Instance)
  pub read : IsOnlyRead most_bytes (before.files slot.Instance) (after.files slot.Instance)
  pub certificate : after.files slot.CertIn ≡ before.files slot.CertIn
  pub written : after.files slot.CertOut ≡ before.files slot.CertOut

-- a run of `roll`
pub record IsRollRun (asked : Roll) (before after : Outside) (end : End) : Type 0 where
  pub files : KeepsToInstance asked before after
  pub ended : IsAnswered (IsRollAnswered asked before after) before.err after.err end ⊎ IsRollFaulty asked before after end
