use Rattle.std.proofs.Common.{arith, refl}
use Rattle.decimal_json.proofs.Exits.{passed_on}
use Rattle.decimal_json.proofs.Numerals.{no_fraction, reads_fraction, no_digit_after_point}
use Rattle.decimal_json.proofs.number.add_fraction.Goals as goal

pub returns-then-not-has_byte-clause-read : goal.returns-then-not-has_byte-clause-read
returns-then-not-has_byte-clause-read c = no_fraction c.args.bytes.now c.args.start c.args.digits.now.items (c.if-not-has_byte.ensures.fails refl)

pub returns-in_err-first-clause-fault : goal.returns-in_err-first-clause-fault
returns-in_err-first-clause-fault c = grind (arith, passed_on, no_digit_after_point, c)

pub returns-clause-read : goal.returns-clause-read
returns-clause-read c = grind (arith, reads_fraction, c)
