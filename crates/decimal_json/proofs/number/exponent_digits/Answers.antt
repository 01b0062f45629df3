use Rattle.std.proofs.Common.{arith, sym, refl}
use Rattle.decimal_json.proofs.Numerals.{adds_exponent}
use Rattle.decimal_json.proofs.number.exponent_digits.Goals as goal

pub loop-at-init : goal.loop-at-init
loop-at-init c = (omega arith, omega arith, (c.args.first, omega arith, λ outer n ds fs down. refl))

pub loop-at-preserved : goal.loop-at-preserved
loop-at-preserved c = (
  omega arith,
  omega arith,
  adds_exponent c.args.bytes.now c.args.start c.loop-at.at c.args.first c.loop-at.written c.with_digit-written.result c.loop-at.invariant.2 (omega arith) (sym c.if-is_digit_byte.ensures) c.with_digit-written.ensures,
)
