-- The places of the segments so far.
use Rattle.dispatch_repair.specs.Prelude.{rows_of}
use Rattle.decommitment.specs.inside.Levels.{AreOwnPlaces}
use Rattle.decommitment.proofs.merit.own_places.Given as goal

abbrev pub invariant-loop-j : goal.invariant-loop-j
invariant-loop-j l = AreOwnPlaces l.order l.sources l.j (rows_of l.own.items)
