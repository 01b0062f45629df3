-- What is unserved and missing in the periods so far.
use Rattle.std.proofs.Common.{◌≡◌, ◌<◌, ℕ, length, pos, slice_index_or}
use Rattle.decommitment.specs.inside.Runs.{lack_at}
use Rattle.decommitment.proofs.price.lacks.Given as goal

abbrev pub invariant-loop-t : goal.invariant-loop-t
invariant-loop-t l = record {
  shed_count : length l.shed.items ≡ l.t;
  short_count : length l.short.items ≡ l.t;
  shed : (k : ℕ) → k < l.t → slice_index_or l.shed.items k (pos 0) ≡ (lack_at l.fills k).shed;
  short : (k : ℕ) → k < l.t → slice_index_or l.short.items k (pos 0) ≡ (lack_at l.fills k).short;
}
