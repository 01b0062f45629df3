-- The write into the row is one into its items.
use Rattle.dispatch_repair.proofs.RowsEdits.{row_set}
use Rattle.dispatch_repair.proofs.rows.set_at.Goals as goal

pub returns : goal.returns
returns g c = row_set c.args.rows.now.items c.args.i c.args.t c.index_mut-row.result.now c.args.value.now c.requires.unit c.index_mut-row.ensures.value
