-- The next row is the commitment's.
use Rattle.std.proofs.Common.{◌+◌, sym, subst, ◌∙◌, ap}
use Rattle.std.proofs.lemmas.List.{map_push}
use Rattle.dispatch_repair.specs.Prelude.{rows_of}
use Rattle.dispatch_repair.specs.inside.Rows.{AreCommittedRows}
use Rattle.dispatch_repair.proofs.RowsCommitted.{rows_more}
use Rattle.dispatch_repair.proofs.rows.committed_rows.Goals as goal

pub loop-g-preserved : goal.loop-g-preserved
loop-g-preserved c =
    let row = c.in_ok-committed_row.field-0 in
    subst (AreCommittedRows c.args.instance.now c.args.patterns.now (c.loop-g.g + 1))
    (sym (ap rows_of c.in_ok-push.ensures.items ∙ map_push _ c.loop-g.rows.items row))
    (rows_more c.args.instance.now c.args.patterns.now c.loop-g.g (rows_of c.loop-g.rows.items) row.items c.loop-g.invariant c.in_ok-committed_row.ensures)
