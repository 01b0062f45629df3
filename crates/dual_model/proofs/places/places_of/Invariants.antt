-- The places are those of the rows so far.
use Rattle.dual_model.proofs.UnitRows.{ArePlacesSoFar}
use Rattle.dual_model.proofs.places.places_of.Given as goal

abbrev pub invariant-loop-place : goal.invariant-loop-place
invariant-loop-place l = ArePlacesSoFar l.rows l.place l.places.items
