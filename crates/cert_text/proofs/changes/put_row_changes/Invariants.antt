-- What ends with the lines that are still to be put has all lines; each turn passes a row.
use Rattle.std.proofs.Common.{◌+◌, length}
use Rattle.std.specs.List.{flat_map}
use Rattle.table_list.specs.Changes.{row_changes}
use Rattle.cert_text.specs.inside.WrittenParts.{row_line}
use Rattle.cert_text.proofs.changes.put_row_changes.Given as goal

abbrev pub invariant-loop-passed : goal.invariant-loop-passed
invariant-loop-passed g l = (end : _)
    → g.O.Out.emits (flat_map row_line (row_changes l.olds l.news)) l.out end
    → g.O.Out.emits (flat_map row_line (row_changes l.before l.after)) l.initial.out end

abbrev pub decreases-loop-passed : goal.decreases-loop-passed
decreases-loop-passed g l = length l.olds + length l.news
