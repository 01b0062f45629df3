-- The numbers are as they are passed, and the bits keep them.
use Rattle.std.proofs.Common.{◌≡◌, arith, slice_set, w64, to_z, of_z}
use Rattle.std.proofs.lemmas.Int.{to_z-of_z}
use Rattle.std.proofs.lemmas.List.{get_or_read}
use Rattle.dispatch_repair.specs.inside.Rows.{reserve_of}
use Rattle.dispatch_repair.proofs.RowsEdits.{row_read}
use Rattle.dispatch_repair.proofs.RowsWritten.{left_kept, left_taken}
use Rattle.dispatch_repair.proofs.rows.write_cell.Goals as goal
use Rattle.dispatch_repair.proofs.rows.write_cell.Goals.{After-reserve-r}

reserve_is : (c : After-reserve-r) → to_z w64 (of_z w64 c.reserve-r.result) ≡ reserve_of c.args.p c.args.head c.args.left.now
reserve_is c = grind (arith, to_z-of_z, left_kept)

pub returns-clause-left : goal.returns-clause-left
returns-clause-left c = grind (arith, left_kept, reserve_is, After-reserve-r, left_taken, c)

pub returns-clause-cell : goal.returns-clause-cell
returns-clause-cell c = grind (arith, to_z-of_z, reserve_is, After-reserve-r, row_read, get_or_read, slice_set, c)
