-- A number of six digits is below a million.
use Rattle.std.proofs.Common.{arith}
use Rattle.cert_text.proofs.reader.numbers.take_decimals.Goals as goal

pub returns-clause-bound : goal.returns-clause-bound
returns-clause-bound c = grind (arith, c)
