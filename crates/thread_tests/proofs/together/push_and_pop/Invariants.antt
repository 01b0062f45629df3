use Rattle.std.proofs.Common.{◌≡◌, ◌≤◌, ◌+◌, length}
use Rattle.thread_tests.proofs.together.push_and_pop.Given as goal

-- one node is pushed a round
abbrev pub invariant-loop-node : goal.invariant-loop-node
invariant-loop-node l = (l.seat.room ≡ l.initial.seat.room) × (length l.seat.put ≡ length l.initial.seat.put + l.node)

abbrev pub invariant-loop : goal.invariant-loop
invariant-loop l = (l.pass.object ≡ l.best.object) × (l.pass.object ≡ l.initial.pass.object)
    × (l.pass.parts ≡ l.initial.pass.parts) × (l.taken ≤ l.counter)
