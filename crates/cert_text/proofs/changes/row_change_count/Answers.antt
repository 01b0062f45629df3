-- Each turn counts what is told of the row that it passes.
use Rattle.std.proofs.Common.{arith}
use Rattle.cert_text.proofs.changes.row_change_count.Goals as goal

pub overflow_add-count : goal.overflow_add-count
overflow_add-count c = omega (arith, c.in-Some.ensures.fewer)

pub loop-passed-smaller : goal.loop-passed-smaller
loop-passed-smaller c = omega (arith, c.in-Some.ensures.fewer)

pub loop-passed-preserved : goal.loop-passed-preserved
loop-passed-preserved c = grind (arith, c)

pub returns : goal.returns
returns c = grind (arith, c)
