-- The parser's number is the one that the text writes.
use Rattle.std.proofs.Common.{sym, arith}
use Rattle.clap.specs.Words.{found_of}
use Rattle.clap.proofs.WalkLemmas.{one_text-rows}
use Rattle.command_line.proofs.OptionNumbers.{number_read, number_missing}
use Rattle.command_line.proofs.command.number.Goals as goal

pub returns-in-Some-clause-value : goal.returns-in-Some-clause-value
returns-in-Some-clause-value c =
    (number_read c.args.least c.args.most c.in-Some.number _ _ c.get_one.result (sym (one_text-rows (found_of c.args.given.now) c.args.id.now))
    c.ranges.most.fits c.get_one.ensures.none c.get_one.ensures.value c.in-Some.is).0 c.if-least-number.true c.if-number-most.true

pub returns-in_default-clause-value : goal.returns-in_default-clause-value
returns-in_default-clause-value c =
    (number_read c.args.least c.args.most c.in-Some.number _ _ c.get_one.result (sym (one_text-rows (found_of c.args.given.now) c.args.id.now))
    c.ranges.most.fits c.get_one.ensures.none c.get_one.ensures.value c.in-Some.is).1 (λ both. omega (arith, both.1, c.if-number-most.false))

pub returns-in_default-2-clause-value : goal.returns-in_default-2-clause-value
returns-in_default-2-clause-value c =
    (number_read c.args.least c.args.most c.in-Some.number _ _ c.get_one.result (sym (one_text-rows (found_of c.args.given.now) c.args.id.now))
    c.ranges.most.fits c.get_one.ensures.none c.get_one.ensures.value c.in-Some.is).1 (λ both. omega (arith, both.0, c.if-least-number.false))

pub returns-in_default-3-clause-value : goal.returns-in_default-3-clause-value
returns-in_default-3-clause-value c =
    number_missing c.args.least c.args.most _ _ c.get_one.result (sym (one_text-rows (found_of c.args.given.now) c.args.id.now))
    c.ranges.most.fits c.get_one.ensures.none c.get_one.ensures.value c.in_default.is
