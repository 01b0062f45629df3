-- The next cell.
use Rattle.std.proofs.Common.{List, ◌+◌, sym, subst}
use Rattle.uc_model.specs.declared.schedule.Cell.{Cell}
use Rattle.dispatch_schedule.specs.inside.Chosen.{IsCellRow}
use Rattle.dispatch_schedule.proofs.Rows.{cells_more}
use Rattle.dispatch_schedule.proofs.printing.cell_row.Goals as goal

pub loop-t-preserved : goal.loop-t-preserved
loop-t-preserved c =
    subst (IsCellRow c.args.instance.now c.args.patterns.now c.args.chosen.now c.args.g (c.loop-t.t + 1)) (sym {A = List Cell} c.in_ok-push.ensures.items)
    (cells_more c.args.instance.now c.args.patterns.now c.args.chosen.now c.args.g c.loop-t.t c.loop-t.row.items c.cell.result c.loop-t.invariant c.cell.ensures)
