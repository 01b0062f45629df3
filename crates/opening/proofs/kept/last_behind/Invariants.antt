-- The decisions so far are the same.
use Rattle.std.proofs.Common.{◌≡◌, ℕ, ◌<◌, get_or}
use Rattle.dual_model.specs.declared.node.Fixing.{Fixing as Decision}
use Rattle.opening.proofs.kept.last_behind.Given as goal

abbrev pub invariant-loop-i : goal.invariant-loop-i
invariant-loop-i l = (k : ℕ) (d : Decision) → k < l.i → get_or l.path k d ≡ get_or l.parent k d
