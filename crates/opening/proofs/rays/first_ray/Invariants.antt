-- The evaluator stays the instance's, and no ray before the next one leaves no schedule.
use Rattle.std.specs.Prelude.{◌≡◌}
use Rattle.opening.specs.Rays.{HasNoRayBelow}
use Rattle.opening.proofs.rays.first_ray.Given as goal

abbrev pub invariant-loop-n : goal.invariant-loop-n
invariant-loop-n l = (l.evaluator ≡ l.fn.evaluator) × HasNoRayBelow l.fn.exact l.fn.evaluator l.n
