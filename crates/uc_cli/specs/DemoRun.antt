-- What a run of `demo` did, by how it ended. This project's own.
use Rattle.std.specs.Prelude.{◌≡◌, ℕ, true, false, Option, Some, None}
use Rattle.dual_model.specs.Prelude.{WrittenSchedule, IsClaimTrue}
use Rattle.outside.specs.Prelude.{SinkState}
use Rattle.branch_tree.specs.Prelude.{written_of, status_of, tree_bound}
pub use Rattle.branch_tree.specs.declared.found.Found.{Found}
use Rattle.demo_gen.specs.Demo.{demo_instance}
use Rattle.search_answers.specs.SearchResult.{IsSearchResult}
use Rattle.report.specs.DemoReport.{demo_report}
use Rattle.report.specs.declared.fault.Fault.{Fault}
use Rattle.report.specs.declared.fault.Fault.TheVariants.{Write, Memory}
use Rattle.command_runs.specs.Prelude.{Outside, Ends, IsTold, FailsToTell}
use Rattle.command_line.specs.Command.{Demo}
use Rattle.uc_check.specs.Checking.{IsScheduleTrue}
use Rattle.command_runs.specs.declared.ending.End.{End}

-- an answer for the instance of the seed: what was found with a budget of 200 claims and at a gap of a thousandth of the cost; that
-- its schedule obeys and costs at most what is printed; and that its bound, or that there is no schedule, is true of every schedule
pub record IsDemoAnswer (seed : ℕ) (found : Found) : Type 0 where
  pub search : IsSearchResult false (demo_instance seed) 200 1000 found
  pub schedule : (written : WrittenSchedule) → written_of found.schedule ≡ Some written → IsScheduleTrue (demo_instance seed) written
  pub claim : IsClaimTrue (demo_instance seed) (tree_bound found.tree)

-- the run answered: the report is told, by the output before and after
pub record IsDemoDone (asked : Demo) (before after : SinkState) (found : Found) : Type 0 where
  pub answer : IsDemoAnswer asked.seed found
  pub told : IsTold (demo_report asked.seed found) before after

-- the run found an answer and could not write its report
pub record IsDemoUntold (asked : Demo) (before after : SinkState) (found : Found) : Type 0 where
  pub answer : IsDemoAnswer asked.seed found
  pub report : FailsToTell (demo_report asked.seed found) before after

-- how a run of `demo` ended with a fault: before the answer only memory is refused, and nothing is written
abbrev pub IsDemoFailure : Demo → SinkState → SinkState → Fault → Option Found → Type 0
IsDemoFailure asked before after (Write true) (Some found) = IsDemoUntold asked before after found
IsDemoFailure asked before after Memory None = after ≡ before
IsDemoFailure asked before after _ _ = ⊥

-- the run answered what it was asked
pub record IsDemoAnswered (asked : Demo) (before after : SinkState) (end : End) : Type 0 where
  pub found : Found
  pub is_found : end.found ≡ Some found
  pub unrolled : end.rolled ≡ None
  pub code : end.code ≡ status_of found 1000
  pub done : IsDemoDone asked before after found

-- a run of `demo`, which touches no file
pub record IsDemoRun (asked : Demo) (before after : Outside) (end : End) : Type 0 where
  pub files : after.files ≡ before.files
  pub ended : Ends (IsDemoAnswered asked before.out after.out) (IsDemoFailure asked before.out after.out) before.err after.err end
