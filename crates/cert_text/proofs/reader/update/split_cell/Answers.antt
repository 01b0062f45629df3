-- Where the row comes before the first of rising rows, it isn't among them.
use Rattle.std.proofs.Common.{arith}
use Rattle.cert_text.proofs.RowSteps.{no_cell, rising_rest}
use Rattle.cert_text.proofs.reader.update.split_cell.Goals as goal

pub returns-then-is_before-clause-old : goal.returns-then-is_before-clause-old
returns-then-is_before-clause-old c = grind (arith, no_cell, c)

pub returns-else-is_before-clause-rising : goal.returns-else-is_before-clause-rising
returns-else-is_before-clause-rising c = rising_rest c.args.left.now c.requires.rising
