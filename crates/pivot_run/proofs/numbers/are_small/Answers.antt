-- All numbers are small, and past the end all are 0.
use Rattle.std.proofs.Common.{arith}
use Rattle.pivot_run.proofs.Sizes.{small_from}
use Rattle.pivot_run.proofs.numbers.are_small.Goals as goal

pub returns-clause-small : goal.returns-clause-small
returns-clause-small c = λ e. small_from c.args.row.now c.loop-c.c (omega arith) c.loop-c.invariant
