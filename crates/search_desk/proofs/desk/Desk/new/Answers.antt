-- Nothing was claimed yet.
use Rattle.std.proofs.Common.{arith}
use Rattle.search_desk.proofs.desk.Desk.new.Goals as goal

pub invariant_of-result : goal.invariant_of-result
invariant_of-result g c = grind (arith, g, c)
