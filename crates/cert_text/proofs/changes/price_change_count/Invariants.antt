-- Those counted, and those that are still to be counted, are all.
use Rattle.std.proofs.Common.{◌≡◌, ℕ, ℤ, ◌+◌, ◌≤◌, length, drop}
use Rattle.table_list.specs.Changes.{Change, price_changes}
use Rattle.cert_text.proofs.changes.price_change_count.Given as goal

abbrev pub invariant-loop-t : goal.invariant-loop-t
invariant-loop-t l = record {
  told : (change : ℕ → ℤ → Change)
      → l.count + length (price_changes change l.t (drop l.t l.olds) (drop l.t l.news)) ≡ length (price_changes change 0 l.olds l.news);
  few : l.count ≤ l.t;
}
