-- What ends with the lines that are still to be put has all lines.
use Rattle.std.proofs.Common.{drop}
use Rattle.std.specs.List.{flat_map}
use Rattle.table_list.specs.TableChanges.{changes_of}
use Rattle.cert_text.specs.CertificateText.{change_line}
use Rattle.cert_text.proofs.changes.put_changes.Given as goal

abbrev pub invariant-loop-change : goal.invariant-loop-change
invariant-loop-change g l = (end : _)
    → g.O.Out.emits (flat_map change_line (drop l.change-index (changes_of l.changes))) l.out end
    → g.O.Out.emits (flat_map change_line (changes_of l.changes)) l.initial.out end
