-- They are those that the entry of the number tells.
use Rattle.std.proofs.Common.{arith}
use Rattle.table_list.proofs.Rebuilding.{own_in}
use Rattle.table_list.proofs.list.TableList.changes.Goals as goal

pub returns : goal.returns
returns c = grind (arith, own_in, c)
