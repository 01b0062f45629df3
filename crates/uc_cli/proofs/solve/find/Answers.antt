-- What the search answers for the instance that was read.
use Rattle.outside.specs.declared.slot.Slot.TheVariants as slot
use Rattle.report.specs.declared.fault.Fault.TheVariants.{Memory}
use Rattle.command_line.specs.Asked.{solve_asked}
use Rattle.command_runs.proofs.HandedUp.{handed_up}
use Rattle.uc_cli.proofs.SearchResults.{answered}
use Rattle.uc_cli.proofs.solve.find.Goals as goal

pub search-requires-clause-options : goal.search-requires-clause-options
search-requires-clause-options g c = λ lifetimes within. record {
  budget = c.requires.budget;
  some = c.requires.workers.0;
  workers = c.requires.workers.1;
  gap = c.requires.gap;
}

pub returns-in_err-found-clause-cause : goal.returns-in_err-found-clause-cause
returns-in_err-found-clause-cause g c =
    handed_up c.from_residual-in_err-found.result Memory _ c.from_residual-in_err-found.ensures.1 tt

pub returns-clause-answer : goal.returns-clause-answer
returns-clause-answer g c =
    answered (solve_asked c.args.asked.now) (g.F.Files.state c.args.files.now slot.Instance) c.in_ok-instance.instance c.in_ok-instance.rounded
    c.in_ok-found.found c.in_ok-instance.ensures.read.lawful c.in_ok-instance.ensures.read c.in_ok-found.ensures.result
    c.in_ok-found.ensures.writable c.in_ok-found.ensures.pivoted c.requires.budget
