-- What a run adds is the difference of two sums, and so within the limits; and the sum goes on by it.
use Rattle.std.proofs.Common.{◌+◌, ◌*◌, take, arith}
use Rattle.std.proofs.lemmas.Int.{ints}
use Rattle.step_functions.specs.Runs.{run_of, steps_of}
use Rattle.step_functions.specs.Functions.{MAX_VALUE}
use Rattle.step_functions.proofs.RunSteps.{climb-size, rise-run, steps-take-more, steps-within}
use Rattle.step_functions.proofs.runs.rise.Goals as goal

pub climb-requires : goal.climb-requires
climb-requires c =
    let size = climb-size c.args.runs.now c.loop-run.run-index c.loop-run.rest (2 * MAX_VALUE) c.loop-run-test.true c.if-rest-run.true c.requires.size in
    omega arith

pub overflow_add-result : goal.overflow_add-result
overflow_add-result c =
    let runs = c.args.runs.now in
    let i = c.loop-run.run-index in
    let whole = rise-run runs i c.loop-run.rest c.loop-run-test.true c.if-rest-run.true in
    let within = steps-within runs i c.loop-run.rest c.loop-run-test.true c.if-rest-run.true in
    let after = c.requires.size (steps_of (take i runs) + c.loop-run.rest) within in
    omega (arith, ints)

pub returns-then-rest-run : goal.returns-then-rest-run
returns-then-rest-run c = grind (arith, ints, rise-run, steps-within, c)

pub climb-sum-requires : goal.climb-sum-requires
climb-sum-requires c =
    let size = climb-size c.args.runs.now c.loop-run.run-index (run_of c.args.runs.now c.loop-run.run-index).length (2 * MAX_VALUE) c.loop-run-test.true (omega arith) c.requires.size in
    omega arith

pub overflow_add-sum : goal.overflow_add-sum
overflow_add-sum c =
    let runs = c.args.runs.now in
    let i = c.loop-run.run-index in
    let whole = rise-run runs i (run_of runs i).length c.loop-run-test.true (omega arith) in
    let within = steps-within runs i (run_of runs i).length c.loop-run-test.true (omega arith) in
    let after = c.requires.size (steps_of (take i runs) + (run_of runs i).length) within in
    omega (arith, ints)

pub loop-run-preserved : goal.loop-run-preserved
loop-run-preserved c = grind (arith, ints, steps-take-more, rise-run, steps-within, c)
