-- The changes are those of demand, of reserve and of ramps.
use Rattle.std.proofs.Common.{arith}
use Rattle.cert_text.proofs.Written.{change_count_is}
use Rattle.cert_text.proofs.changes.change_count.Goals as goal

pub returns : goal.returns
returns c = grind (arith, change_count_is, c)
