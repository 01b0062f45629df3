use Rattle.std.proofs.Common.{◌≡◌, ◌≤◌, ◌+◌, length}
use Rattle.thread_tests.proofs.pools.take_steps.Given as goal

-- each seat has been given at most one node a step
abbrev pub invariant-loop-is_first : goal.invariant-loop-is_first
invariant-loop-is_first g l = (l.first.me ≡ 0) × (length l.first.others ≡ 1) × (l.first.room ≡ length l.steps + 2)
    × (length l.first.put ≤ l.is_first-index)
    × (l.second.me ≡ 1) × (length l.second.others ≡ 1) × (l.second.room ≡ length l.steps + 2)
    × (length l.second.put ≤ l.is_first-index)
