-- The evaluator stays the instance's.
use Rattle.std.specs.Prelude.{◌≡◌}
use Rattle.opening.proofs.rays.node_ray.Given as goal

abbrev pub invariant-loop-n : goal.invariant-loop-n
invariant-loop-n l = l.evaluator ≡ l.fn.evaluator
