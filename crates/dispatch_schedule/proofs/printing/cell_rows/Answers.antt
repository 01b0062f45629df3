-- The next row.
use Rattle.std.proofs.Common.{List, ◌+◌, sym, subst}
use Rattle.uc_model.specs.declared.schedule.Cell.{Cell}
use Rattle.dispatch_schedule.specs.inside.Chosen.{IsCellRow, AreCellRows}
use Rattle.dispatch_schedule.proofs.Rows.{cell_rows_more}
use Rattle.dispatch_schedule.proofs.printing.cell_rows.Goals as goal

pub loop-g-preserved : goal.loop-g-preserved
loop-g-preserved c =
    let instance = c.args.instance.now in
    let patterns = c.args.patterns.now in
    let chosen = c.args.chosen.now in
    subst (AreCellRows c.args.instance.now c.args.patterns.now c.args.chosen.now (c.loop-g.g + 1)) (sym {A = List (List Cell)} c.in_ok-push.ensures.items)
    (cell_rows_more instance patterns chosen c.loop-g.g c.loop-g.rows.items c.from_vec.result c.loop-g.invariant
    (subst (IsCellRow instance patterns chosen c.loop-g.g c.args.instance.now.periods) (sym c.from_vec.ensures) c.in_ok-row.ensures))
