-- The others so far are added.
use Rattle.std.proofs.Common.{◌≡◌, vec_capacity}
use Rattle.step_functions.proofs.RunSums.{IsAddedTo}
use Rattle.step_functions.proofs.edits.add_from.Given as goal

abbrev pub invariant-loop-other : goal.invariant-loop-other
invariant-loop-other l =
    IsAddedTo l.initial.runs.items l.others l.runs.items l.fn.used l.used l.from l.rest l.other-index × (vec_capacity l.runs ≡ vec_capacity l.initial.runs)
