use Rattle.std.proofs.Common.{arith, refl, true, false}
use Rattle.decimal_json.proofs.Numerals.{no_sign, sign_read}
use Rattle.decimal_json.proofs.number.exponent_sign.Goals as goal

pub returns-then-has_byte-clause-same : goal.returns-then-has_byte-clause-same
returns-then-has_byte-clause-same c = λ outer n ds fs. sign_read c.args.bytes.now c.args.start outer n ds fs false (c.if-has_byte.ensures.stands refl)

pub returns-then-has_byte-2-clause-same : goal.returns-then-has_byte-2-clause-same
returns-then-has_byte-2-clause-same c = λ outer n ds fs. sign_read c.args.bytes.now c.args.start outer n ds fs true (c.if-has_byte-2.ensures.stands refl)

pub returns-else-has_byte-2-clause-same : goal.returns-else-has_byte-2-clause-same
returns-else-has_byte-2-clause-same c = grind (arith, no_sign, c)
