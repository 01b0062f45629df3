-- Nothing is decided of the units before this one.
use Rattle.std.proofs.Common.{ℕ, ◌<◌}
use Rattle.leaf_values.specs.Paths.{IsUndecided, fix_at}
use Rattle.leaf_values.proofs.fixes.clear.Given as goal

abbrev pub invariant-loop-fix : goal.invariant-loop-fix
invariant-loop-fix l = (g : ℕ) → g < l.fix-index → IsUndecided (fix_at l.fixes g)
