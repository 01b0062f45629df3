-- The rows so far.
use Rattle.roll.specs.inside.Joined.{AreEmpty}
use Rattle.roll.proofs.stitching.empty_rows.Given as goal

abbrev pub invariant-loop : goal.invariant-loop
invariant-loop g l = AreEmpty l.counter l.rows.items
