-- What is left lies behind the runs before.
use Rattle.std.proofs.Common.{◌≡◌, ◌+◌, take}
use Rattle.step_functions.specs.Runs.{steps_of}
use Rattle.step_functions.proofs.runs.place_of.Given as goal

abbrev pub invariant-loop-number : goal.invariant-loop-number
invariant-loop-number l = steps_of (take l.number l.runs) + l.rest ≡ l.step
