-- The rows so far.
use Rattle.roll.specs.inside.Joined.{AreStitchedRows}
use Rattle.roll.proofs.stitching.thermal_rows.Given as goal

abbrev pub invariant-loop-g : goal.invariant-loop-g
invariant-loop-g l = AreStitchedRows l.units l.kept l.new l.keep l.g l.rows.items
