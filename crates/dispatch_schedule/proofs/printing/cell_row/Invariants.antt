-- The cells so far.
use Rattle.dispatch_schedule.specs.inside.Chosen.{IsCellRow}
use Rattle.dispatch_schedule.proofs.printing.cell_row.Given as goal

abbrev pub invariant-loop-t : goal.invariant-loop-t
invariant-loop-t l = IsCellRow l.instance l.patterns l.chosen l.g l.t l.row.items
