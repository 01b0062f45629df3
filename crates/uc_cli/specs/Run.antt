-- What a run of the program did, by how it ended: its exit status, what it leaves on the outside, and what it tells
-- on the error output. This project's own.
use Rattle.std.specs.Prelude.{◌≡◌, ℕ, true, false, Option, Some, None}
pub use Rattle.uc_model.specs.declared.instance.Instance.{Instance}
use Rattle.dual_model.specs.Prelude.{IsClaimTrue, WrittenSchedule}
pub use Rattle.outside.specs.declared.slot.Slot.{Slot}
use Rattle.outside.specs.declared.slot.Slot.TheVariants as slot
use Rattle.outside.specs.Prelude.{SlotState}
use Rattle.branch_tree.specs.Prelude.{tree_bound, status_of, certificate_of, written_of}
use Rattle.search_answers.specs.Pivoted.{IsPivotedFound}
use Rattle.search_answers.specs.SearchResult.{IsSearchResult}
use Rattle.cert_text.specs.CertificateText.{certificate_text, listing_of}
use Rattle.cert_text.specs.TextConditions.{HasText, HasWrittenText}
use Rattle.cert_text.specs.declared.cert.Version.{Version}
use Rattle.branch_tree.specs.declared.found.Found.{Found}
use Rattle.report.specs.FoundReport.{found_report}
pub use Rattle.report.specs.declared.fault.Fault.{Fault}
pub use Rattle.report.specs.declared.fault.Fault.TheVariants.{Words, Write, Memory}
use Rattle.command_runs.specs.Prelude.{Outside, most_bytes, HasInstance, HasCause, IsOpenedByNoOther, IsOnlyRead, Ends, IsFaulty, text_of_certificate, IsSaved, FailsToSave, IsTold, FailsToTell}
use Rattle.command_line.specs.Command.{Solve, Command, Solves, Checks, Demos, Upgrades, Uplifts, Rolls}
use Rattle.uc_check.specs.Checking.{IsCheckRun, IsScheduleTrue}
use Rattle.uc_check.specs.Accepting.{IsAcceptedFor}
use Rattle.uc_check.specs.Upgrading.{IsUpgradeRun}
use Rattle.uc_uplift.specs.Uplifting.{IsUpliftRun}
use Rattle.uc_cli.specs.DemoRun.{IsDemoRun}
use Rattle.uc_cli.specs.RollRun.{IsRollRun}
use Rattle.command_runs.specs.declared.ending.End.{End}
use Rattle.command_runs.specs.declared.input.ReadOptions.{ReadOptions}

-- how the instance is read: with these prices of shortages, and where it is asked, a rounded number is refused
abbrev pub solve_options : Solve → ReadOptions
solve_options asked = record { exact = asked.exact; shed = asked.shed; spill_reserve = asked.spill_reserve }

-- an answer for the instance in the file: what was found, by exact values where these are asked, with the budget and at the gap that are
-- asked; that its schedule obeys and costs at most what is printed; that its bound, or that there is no schedule, is true of every schedule;
-- that its certificate has a text of the grammar; that each text of it, in the version in which it is written or another, is accepted; and that the
-- search kept to the exact dispatch, where this is asked, by which the run's status is 0 or 3 where it is within reach
pub record IsAnswer (asked : Solve) (file : SlotState) (instance : Instance) (rounded : ℕ) (found : Found) : Type 0 where
  pub read : HasInstance (solve_options asked) file instance rounded
  pub search : IsSearchResult asked.exact_units instance asked.units asked.gap found
  pub schedule : (written : WrittenSchedule) → written_of found.schedule ≡ Some written → IsScheduleTrue instance written
  pub claim : IsClaimTrue instance (tree_bound found.tree)
  pub text : HasWrittenText (certificate_of instance found)
  pub accepted : (version : Version) → HasText version (listing_of (certificate_of instance found))
      → IsAcceptedFor asked.shed asked.spill_reserve read.bytes (certificate_text version (certificate_of instance found))
  pub pivoted : IsPivotedFound asked.pivot instance asked.units asked.gap found

-- the instance in the file, and the answer for it
pub record HasAnswer (asked : Solve) (before : Outside) (found : Found) : Type 0 where
  pub instance : Instance
  pub rounded : ℕ
  pub answer : IsAnswer asked (before.files slot.Instance) instance rounded found

-- the run answered: the certificate is saved and the report told
pub record IsDone (asked : Solve) (before after : Outside) (found : Found) : Type 0 where
  pub has : HasAnswer asked before found
  pub saved : IsSaved (text_of_certificate has.instance found) (before.files slot.CertOut) (after.files slot.CertOut)
  pub told : IsTold (found_report has.instance found has.rounded asked.gap) before.out after.out
  pub calm : (s : Slot) → (after.files s).faults ≡ (before.files s).faults

-- the run found an answer and could not write its certificate; nothing was written to the output
pub record IsUnsaved (asked : Solve) (before after : Outside) (found : Found) : Type 0 where
  pub has : HasAnswer asked before found
  pub certificate : FailsToSave (text_of_certificate has.instance found) (before.files slot.CertOut) (after.files slot.CertOut)
  pub out : after.out ≡ before.out

-- the run found an answer, saved its certificate and could not write its report
pub record IsUntold (asked : Solve) (before after : Outside) (found : Found) : Type 0 where
  pub has : HasAnswer asked before found
  pub saved : IsSaved (text_of_certificate has.instance found) (before.files slot.CertOut) (after.files slot.CertOut)
  pub report : FailsToTell (found_report has.instance found has.rounded asked.gap) before.out after.out

-- a fault ended the run before anything was written
pub record IsStopped (asked : Solve) (before after : Outside) (fault : Fault) : Type 0 where
  pub cause : HasCause (solve_options asked) (before.files slot.Instance) (after.files slot.Instance) fault
  pub certificate : after.files slot.CertOut ≡ before.files slot.CertOut
  pub out : after.out ≡ before.out

-- how a run of `solve` ended with a fault
abbrev pub IsFailure : Solve → Outside → Outside → Fault → Option Found → Type 0
IsFailure asked before after (Write false) (Some found) = IsUnsaved asked before after found
IsFailure asked before after (Write true) (Some found) = IsUntold asked before after found
IsFailure asked before after fault None = IsStopped asked before after fault
IsFailure asked before after fault (Some found) = ⊥

-- each slot that isn't unopened was opened by its name in the words; the instance is only read, and no certificate is
pub record KeepsToFiles (asked : Solve) (before after : Outside) : Type 0 where
  pub instance : IsOpenedByNoOther asked.instance (before.files slot.Instance) (after.files slot.Instance)
  pub read : IsOnlyRead most_bytes (before.files slot.Instance) (after.files slot.Instance)
  pub certificate : IsOpenedByNoOther asked.certificate (before.files slot.CertOut) (after.files slot.CertOut)
  pub other : after.files slot.CertIn ≡ before.files slot.CertIn

-- the run answered what it was asked
pub record IsSolved (asked : Solve) (before after : Outside) (end : End) : Type 0 where
  pub found : Found
  pub is_found : end.found ≡ Some found
  pub unrolled : end.rolled ≡ None
  pub code : end.code ≡ status_of found asked.gap
  pub done : IsDone asked before after found

-- a run of `solve`
pub record IsSolveRun (asked : Solve) (before after : Outside) (end : End) : Type 0 where
  pub files : KeepsToFiles asked before after
  pub ended : Ends (IsSolved asked before after) (IsFailure asked before after) before.err after.err end

-- a run of the command
abbrev pub IsRun : Command → Outside → Outside → End → Type 0
IsRun (Solves asked) before after end = IsSolveRun asked before after end
IsRun (Checks asked) before after end = IsCheckRun asked before after end
IsRun (Demos asked) before after end = IsDemoRun asked before after end
IsRun (Upgrades asked) before after end = IsUpgradeRun asked before after end
IsRun (Uplifts asked) before after end = IsUpliftRun asked before after end
IsRun (Rolls asked) before after end = IsRollRun asked before after end

-- a run ends at its words because they aren't taken, or because memory was refused
abbrev pub IsTurnedAway : Fault → Option Found → Type 0
IsTurnedAway Words None = Unit {0}
IsTurnedAway Memory None = Unit {0}
IsTurnedAway fault found = ⊥

-- the words aren't taken: the run tells how the program is called, or that memory was refused, and touches nothing else
pub record IsUsage (before after : Outside) (end : End) : Type 0 where
  pub files : after.files ≡ before.files
  pub out : after.out ≡ before.out
  pub ended : IsFaulty IsTurnedAway before.err after.err end
