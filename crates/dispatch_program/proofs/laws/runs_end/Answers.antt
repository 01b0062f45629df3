-- Pivot by pivot.
use Rattle.dispatch_program.proofs.ProgramRuns.{runs_come, runs_end}
use Rattle.dispatch_program.proofs.laws.runs_end.Goals as goal

pub returns-clause-tables : goal.returns-clause-tables
returns-clause-tables c = runs_come

pub returns-clause-ends : goal.returns-clause-ends
returns-clause-ends c = runs_end
