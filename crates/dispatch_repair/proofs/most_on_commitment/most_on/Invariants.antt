-- The units before g have their patterns with the most on periods.
use Rattle.std.proofs.Common.{◌≡◌, ℕ, ◌<◌, length, slice_index_or}
use Rattle.dispatch_repair.specs.Prelude.{IsMostOnOf}
use Rattle.dispatch_repair.proofs.most_on_commitment.most_on.Given as goal

abbrev pub invariant-loop-g : goal.invariant-loop-g
invariant-loop-g l = record {
  count : length l.patterns.items ≡ l.g;
  each : (k : ℕ) → k < l.g → IsMostOnOf l.instance k (slice_index_or l.patterns.items k (record { low = 0; high = 0 }));
}
