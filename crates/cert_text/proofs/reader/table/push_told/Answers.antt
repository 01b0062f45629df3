-- The table that was told fits those before it, and goes behind them.
use Rattle.std.proofs.Common.{arith}
use Rattle.cert_text.proofs.reader.table.push_told.Goals as goal

pub push-requires : goal.push-requires
push-requires c = grind (arith, c)

pub returns-clause-pushed : goal.returns-clause-pushed
returns-clause-pushed c = grind (arith, c)
