-- The row at the index is cut.
use Rattle.std.proofs.Common.{arith}
use Rattle.std.proofs.lemmas.List.{length-map}
use Rattle.dispatch_repair.proofs.RowsEdits.{cut_more}
use Rattle.dispatch_repair.proofs.rows.cut.Goals as goal

pub loop-i-preserved : goal.loop-i-preserved
loop-i-preserved g c = grind (arith, length-map, cut_more, g, c)
