-- The costs and the room stay.
use Rattle.std.proofs.Common.{◌≡◌}
use Rattle.decommitment.proofs.run.release.Given as goal

abbrev pub invariant-loop : goal.invariant-loop
invariant-loop l = record {
  costs : l.run.costs ≡ l.initial.run.costs;
  room : l.run.room ≡ l.initial.run.room;
}
