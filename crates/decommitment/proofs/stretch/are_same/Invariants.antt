-- Those so far are the same, unless a difference was found.
use Rattle.std.proofs.Common.{ℕ, ◌<◌, ◌≤◌, IsTrue}
use Rattle.decommitment.specs.inside.Stretches.{IsSameAt}
use Rattle.decommitment.proofs.stretch.are_same.Given as goal

abbrev pub invariant-loop-g : goal.invariant-loop-g
invariant-loop-g l = IsTrue l.are_same → (k : ℕ) → l.fn.stretch.from ≤ k → k < l.g → IsSameAt l.renewables l.first l.second k
