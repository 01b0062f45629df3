-- No desk comes or goes.
use Rattle.std.proofs.Common.{◌≡◌, length}
use Rattle.search_tests.proofs.random.run.Given as goal

abbrev pub invariant-loop : goal.invariant-loop
invariant-loop l = length l.state.desks ≡ length l.initial.state.desks
