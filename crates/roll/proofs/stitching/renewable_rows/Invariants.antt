-- The rows so far.
use Rattle.roll.specs.inside.Joined.{AreJoined}
use Rattle.roll.proofs.stitching.renewable_rows.Given as goal

abbrev pub invariant-loop-w : goal.invariant-loop-w
invariant-loop-w l = AreJoined l.kept l.new l.keep l.w l.rows.items
