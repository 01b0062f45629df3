-- A number of few digits is small.
use Rattle.std.proofs.Common.{arith}
use Rattle.std.proofs.Math.Nat.{pow-le-pow_right}
use Rattle.cert_text.proofs.reader.numbers.take_whole.Goals as goal

pub returns-clause-bound : goal.returns-clause-bound
returns-clause-bound c = grind (arith, pow-le-pow_right, c)
