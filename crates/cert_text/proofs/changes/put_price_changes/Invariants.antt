-- What ends with the lines that are still to be put has all lines.
use Rattle.std.proofs.Common.{drop}
use Rattle.std.specs.List.{flat_map}
use Rattle.table_list.specs.Changes.{price_changes}
use Rattle.cert_text.specs.CertificateText.{change_line}
use Rattle.table_list.specs.Passing.{price_change}
use Rattle.cert_text.proofs.changes.put_price_changes.Given as goal

abbrev pub invariant-loop-t : goal.invariant-loop-t
invariant-loop-t g l = (end : _)
    → g.O.Out.emits (flat_map change_line (price_changes (price_change l.prices) l.t (drop l.t l.olds) (drop l.t l.news))) l.out end
    → g.O.Out.emits (flat_map change_line (price_changes (price_change l.prices) 0 l.olds l.news)) l.initial.out end
