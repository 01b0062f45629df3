use Rattle.std.proofs.Common.{◌≡◌}
use Rattle.thread_tests.proofs.incumbents.take_turns.Given as goal

-- both passes stay those of the incumbent
abbrev pub invariant-loop-first : goal.invariant-loop-first
invariant-loop-first g l = (l.a.object ≡ l.best.object) × (l.a.object ≡ l.initial.a.object) × (l.a.parts ≡ l.initial.a.parts)
    × (l.b.object ≡ l.best.object) × (l.b.object ≡ l.initial.b.object) × (l.b.parts ≡ l.initial.b.parts)
