-- No places for the sources so far.
use Rattle.std.proofs.Common.{◌≡◌, ℕ, [], length}
use Rattle.dispatch_repair.specs.Prelude.{rows_of}
use Rattle.decommitment.specs.inside.Levels.{places_at}
use Rattle.decommitment.proofs.merit.no_places.Given as goal

abbrev pub invariant-loop : goal.invariant-loop
invariant-loop l = record {
  count : length l.own.items ≡ l.counter;
  empty : (n : ℕ) → places_at (rows_of l.own.items) n ≡ [];
}
