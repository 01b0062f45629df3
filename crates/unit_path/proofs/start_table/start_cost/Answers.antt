-- The last stop was a gap before the period.
use Rattle.std.proofs.Common.{arith}
use Rattle.unit_path.proofs.start_table.start_cost.Goals as goal

pub returns-else-since-eq0 : goal.returns-else-since-eq0
returns-else-since-eq0 c = grind (arith, c)
