-- The outputs so far.
use Rattle.dispatch_schedule.specs.inside.Chosen.{AreNumbers, renewable_of}
use Rattle.dispatch_schedule.proofs.printing.renewable_row.Given as goal

abbrev pub invariant-loop-t : goal.invariant-loop-t
invariant-loop-t l = AreNumbers (renewable_of l.instance l.chosen l.denominator l.w) l.t l.row.items
