-- Each digit keeps the number, and at the first other byte the run ends.
use Rattle.std.proofs.Common.{◌≡◌, ◌+◌, get_or, true, arith, rules, below_more}
use Rattle.cert_text.specs.inside.Forms.{is_digit}
use Rattle.cert_text.proofs.FormLaws.{number_more, digit_bound, power_more, small_power, run_is, run_longer}
use Rattle.cert_text.proofs.reader.numbers.take_run.Goals as goal

pub returns-then-count-eq-MOST_DIGITS-clause-none : goal.returns-then-count-eq-MOST_DIGITS-clause-none
returns-then-count-eq-MOST_DIGITS-clause-none c = λ _.
    let more = below_more (λ k. is_digit (get_or c.args.bytes.now k 0) ≡ true) c.loop-count.count c.loop-count.invariant.digits (search rules) in
    omega (arith, run_longer c.args.bytes.now (c.loop-count.count + 1) (omega arith) more)

pub overflow_mul-value : goal.overflow_mul-value
overflow_mul-value c = omega (arith, c.loop-count.invariant.bound, small_power c.loop-count.count (omega arith))

pub overflow_add-value : goal.overflow_add-value
overflow_add-value c = omega (arith, c.loop-count.invariant.bound, small_power c.loop-count.count (omega arith), digit_bound (get_or c.args.bytes.now c.loop-count.count 0) c.from.result (search rules) (search rules))

pub loop-count-preserved : goal.loop-count-preserved
loop-count-preserved c = grind (arith, below_more, number_more, power_more, digit_bound, c)

pub returns-else-is_digit_byte-clause-found : goal.returns-else-is_digit_byte-clause-found
returns-else-is_digit_byte-clause-found c =
    run_is c.args.bytes.now c.loop-count.count c.loop-count.value c.loop-count.invariant.within c.loop-count.invariant.digits (λ _. search rules) c.loop-count.invariant.number

pub returns-after-loop-count-clause-found : goal.returns-after-loop-count-clause-found
returns-after-loop-count-clause-found c = grind (arith, run_is, c)
