-- What the path has decided so far of each unit.
use Rattle.leaf_values.proofs.DecidedPaths.{AreFixesSoFar}
use Rattle.leaf_values.proofs.fixes.fill_fixes.Given as goal

abbrev pub invariant-loop-fixing : goal.invariant-loop-fixing
invariant-loop-fixing l = AreFixesSoFar l.path l.fixing-index l.fixes
