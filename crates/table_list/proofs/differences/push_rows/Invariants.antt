-- The changes so far, and those of the rows that are left, are all; each turn passes a row.
use Rattle.std.proofs.Common.{◌≡◌, ◌+◌, ◌++◌, length, map}
use Rattle.table_list.specs.Changes.{OfRamps, row_changes}
use Rattle.table_list.specs.TableChanges.{changes_of}
use Rattle.table_list.proofs.differences.push_rows.Given as goal

abbrev pub invariant-loop-passed : goal.invariant-loop-passed
invariant-loop-passed l =
    changes_of l.changes.items ++ map OfRamps (row_changes l.olds l.news)
    ≡ changes_of l.initial.changes.items ++ map OfRamps (row_changes l.before l.after)

abbrev pub decreases-loop-passed : goal.decreases-loop-passed
decreases-loop-passed l = length l.olds + length l.news
