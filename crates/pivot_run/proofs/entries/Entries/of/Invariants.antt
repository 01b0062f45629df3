-- Those of the numbers before c.
use Rattle.pivot_run.specs.inside.Entries.{AreEntriesOf}
use Rattle.pivot_run.proofs.entries.Entries.of.Given as goal

abbrev pub invariant-loop-c : goal.invariant-loop-c
invariant-loop-c l = AreEntriesOf l.numbers l.entries.columns.items l.entries.numbers.items l.c
