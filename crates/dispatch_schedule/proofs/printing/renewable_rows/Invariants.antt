-- The rows so far.
use Rattle.dispatch_schedule.specs.inside.Chosen.{AreRows, renewable_of}
use Rattle.dispatch_schedule.proofs.printing.renewable_rows.Given as goal

abbrev pub invariant-loop-w : goal.invariant-loop-w
invariant-loop-w l = AreRows (renewable_of l.instance l.chosen l.denominator) l.instance.periods l.w l.rows.items
