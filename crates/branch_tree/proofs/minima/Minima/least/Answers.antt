-- The first entry is that of place 0, below which each place lies.
use Rattle.std.proofs.Common.{arith}
use Rattle.branch_tree.proofs.Tournament.{least_first}
use Rattle.branch_tree.proofs.minima.Minima.least.Goals as goal

pub returns : goal.returns
returns c = grind (arith, least_first, c)
