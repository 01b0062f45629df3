-- By values that solve the start and are 1 in one column.
use Rattle.dispatch_program.specs.Prelude.{start_rows}
use Rattle.dispatch_program.proofs.Starts.{start_is}
use Rattle.dispatch_program.proofs.Combined.{unknown_is, right_is}
use Rattle.dispatch_program.proofs.laws.rows_add_rules.Goals as goal

pub returns-clause-unknowns : goal.returns-clause-unknowns
returns-clause-unknowns c = λ p row column kept within. unknown_is p (start_rows p) (start_is p) row kept column within

pub returns-clause-right : goal.returns-clause-right
returns-clause-right c = λ p row kept. right_is p (start_rows p) (start_is p) row kept
