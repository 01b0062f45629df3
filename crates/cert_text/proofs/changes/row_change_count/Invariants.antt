-- Those counted, and those that are still to be counted, are all; each turn passes a row.
use Rattle.std.proofs.Common.{◌≡◌, ◌+◌, ◌≤◌, length}
use Rattle.table_list.specs.Changes.{row_changes}
use Rattle.cert_text.proofs.changes.row_change_count.Given as goal

abbrev pub invariant-loop-passed : goal.invariant-loop-passed
invariant-loop-passed l = record {
  told : l.count + length (row_changes l.olds l.news) ≡ length (row_changes l.before l.after);
  few : l.count + (length l.olds + length l.news) ≤ length l.before + length l.after;
}

abbrev pub decreases-loop-passed : goal.decreases-loop-passed
decreases-loop-passed l = length l.olds + length l.news
