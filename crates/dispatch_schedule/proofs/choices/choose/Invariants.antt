-- The amounts so far.
use Rattle.dispatch_schedule.specs.inside.Chosen.{AreChosen}
use Rattle.dispatch_schedule.proofs.choices.choose.Given as goal

abbrev pub invariant-loop-c : goal.invariant-loop-c
invariant-loop-c l = AreChosen l.amounts l.values l.denominator l.c l.chosen.items
