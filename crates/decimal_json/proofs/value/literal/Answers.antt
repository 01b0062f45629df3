use Rattle.std.proofs.Common.{arith}
use Rattle.decimal_json.proofs.Values.{letter_read, letter_missing}
use Rattle.decimal_json.proofs.value.literal.Goals as goal

pub returns-then-not-has_byte-clause-fault : goal.returns-then-not-has_byte-clause-fault
returns-then-not-has_byte-clause-fault c = grind (arith, letter_missing, c)

pub loop-letter-preserved : goal.loop-letter-preserved
loop-letter-preserved c = grind (arith, letter_read, c)
