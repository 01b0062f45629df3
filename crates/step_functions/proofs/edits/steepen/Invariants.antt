-- The runs so far have the slope added.
use Rattle.std.proofs.Common.{◌≡◌, ◌++◌, take, drop, map}
use Rattle.step_functions.specs.inside.Edits.{with_slope}
use Rattle.step_functions.proofs.edits.steepen.Given as goal

abbrev pub invariant-loop-run : goal.invariant-loop-run
invariant-loop-run l = l.runs ≡ map (with_slope l.slope) (take l.run-index l.initial.runs) ++ drop l.run-index l.initial.runs
