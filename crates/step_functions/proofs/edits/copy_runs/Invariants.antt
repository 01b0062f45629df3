-- The others so far are there.
use Rattle.std.proofs.Common.{◌≡◌, take, vec_capacity}
use Rattle.step_functions.proofs.edits.copy_runs.Given as goal

abbrev pub invariant-loop-run : goal.invariant-loop-run
invariant-loop-run l = record {
  runs : l.runs.items ≡ take l.run-index l.others;
  capacity : vec_capacity l.runs ≡ vec_capacity l.fn.runs;
}
