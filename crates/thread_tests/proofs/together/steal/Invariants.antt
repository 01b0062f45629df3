use Rattle.std.proofs.Common.{◌≡◌, ◌≤◌}
use Rattle.thread_tests.proofs.together.steal.Given as goal

abbrev pub invariant-loop : goal.invariant-loop
invariant-loop l = (l.seat.me ≡ 1) × (l.pass.object ≡ l.best.object) × (l.pass.object ≡ l.initial.pass.object)
    × (l.pass.parts ≡ l.initial.pass.parts) × (l.taken ≤ l.counter)
