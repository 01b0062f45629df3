-- The rows so far.
use Rattle.dispatch_schedule.specs.inside.Chosen.{AreCellRows}
use Rattle.dispatch_schedule.proofs.printing.cell_rows.Given as goal

abbrev pub invariant-loop-g : goal.invariant-loop-g
invariant-loop-g l = AreCellRows l.instance l.patterns l.chosen l.g l.rows.items
