-- The least amount by the places so far.
use Rattle.std.proofs.Common.{◌≡◌}
use Rattle.decommitment.specs.inside.Levels.{IsLeastOf}
use Rattle.decommitment.proofs.merit.open_by.Given as goal

abbrev pub invariant-loop-place : goal.invariant-loop-place
invariant-loop-place l = record {
  least : IsLeastOf l.order l.places l.level l.place-index l.range l.part.low;
  high : l.part.high ≡ l.range.high;
}
