-- A must-run unit's only pattern; else off throughout, or on until the first period in which the unit may stop.
use Rattle.std.proofs.Common.{arith}
use Rattle.std.proofs.lemmas.Int.{ints}
use Rattle.uc_model.specs.Prelude.{on_during}
use Rattle.uc_model.proofs.Common.{fewest-from_lowest, lowest-kept_off, none-too_high}
use Rattle.dispatch_repair.proofs.RunPatterns.{fewest-of_run, fewest-must_run, off-of_run}
use Rattle.dispatch_repair.proofs.extreme_patterns.fewest_of.Goals as goal

pub returns-then-unit-clause-pattern : goal.returns-then-unit-clause-pattern
returns-then-unit-clause-pattern c = grind (arith, ints, fewest-must_run, c)

pub returns-then-not-unit-clause-pattern : goal.returns-then-not-unit-clause-pattern
returns-then-not-unit-clause-pattern c =
    fewest-of_run c.args.periods c.args.unit.now c.args.periods c.args.periods c.pattern_on.result c.pattern_on.ensures
    (fewest-from_lowest c.args.periods c.args.unit.now (on_during c.args.periods c.args.periods)
    (lowest-kept_off c.args.periods c.args.unit.now c.requires.lawful c.if-not-unit.true c.if-unit.false))

pub returns-then-not-unit-clause-off : goal.returns-then-not-unit-clause-off
returns-then-not-unit-clause-off c =
    off-of_run c.args.periods c.args.periods c.args.periods c.pattern_on.result c.pattern_on.ensures (omega arith)

pub returns-then-unit-2-clause-pattern : goal.returns-then-unit-2-clause-pattern
returns-then-unit-2-clause-pattern c = grind (arith, ints, c)

pub returns-then-unit-2-clause-off : goal.returns-then-unit-2-clause-off
returns-then-unit-2-clause-off c =
    off-of_run c.args.periods 0 c.first_stop.result c.pattern_on-then-unit-2.result c.pattern_on-then-unit-2.ensures c.first_stop.ensures.within

pub returns-else-unit-2-clause-pattern : goal.returns-else-unit-2-clause-pattern
returns-else-unit-2-clause-pattern c = none-too_high c.args.periods c.args.unit.now c.if-not-unit.false (omega (arith, ints))
