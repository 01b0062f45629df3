-- Line by line.
use Rattle.dispatch_program.proofs.StartTables.{starts_are_tables}
use Rattle.dispatch_program.proofs.laws.starts_are_tables.Goals as goal

pub returns : goal.returns
returns c = starts_are_tables
