-- No desk comes or goes.
use Rattle.std.proofs.Common.{◌≡◌, length}
use Rattle.search_tests.proofs.refused.are_as_told.Given as goal

abbrev pub invariant-loop-act : goal.invariant-loop-act
invariant-loop-act l = length l.state.desks ≡ length l.initial.state.desks
