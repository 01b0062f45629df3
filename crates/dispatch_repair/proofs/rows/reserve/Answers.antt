-- The numbers fit, so they are what they are without bits.
use Rattle.dispatch_repair.proofs.RowsWritten.{reserve_is}
use Rattle.dispatch_repair.proofs.rows.reserve.Goals as goal

pub returns : goal.returns
returns c =
    reserve_is c.args.p c.args.head c.args.left c.max.result c.min.result c.requires.output c.requires.head c.requires.left
    c.max.ensures.value c.min.ensures.value
