-- On throughout, or from the first period in which the unit may start.
use Rattle.std.proofs.Common.{arith}
use Rattle.std.proofs.lemmas.Int.{ints}
use Rattle.uc_model.specs.Prelude.{on_during}
use Rattle.uc_model.proofs.Common.{most-from_highest, highest-kept_on, none-too_high}
use Rattle.dispatch_repair.proofs.RunPatterns.{most-of_run, off-of_run}
use Rattle.dispatch_repair.proofs.extreme_patterns.most_of.Goals as goal

pub returns-then-unit-2-clause-pattern : goal.returns-then-unit-2-clause-pattern
returns-then-unit-2-clause-pattern c =
    most-of_run c.args.periods c.args.unit.now 0 c.args.periods c.pattern_on.result c.pattern_on.ensures
    (most-from_highest c.args.periods c.args.unit.now (on_during 0 c.args.periods)
    (highest-kept_on c.args.periods c.args.unit.now c.requires.lawful c.requires.some c.if-unit.true (omega (arith, ints))))

pub returns-then-unit-2-clause-off : goal.returns-then-unit-2-clause-off
returns-then-unit-2-clause-off c = off-of_run c.args.periods 0 c.args.periods c.pattern_on.result c.pattern_on.ensures (omega arith)

pub returns-else-unit-2-clause-pattern : goal.returns-else-unit-2-clause-pattern
returns-else-unit-2-clause-pattern c = none-too_high c.args.periods c.args.unit.now c.if-unit.true (omega (arith, ints))

pub returns-in_ok-start-clause-pattern : goal.returns-in_ok-start-clause-pattern
returns-in_ok-start-clause-pattern c = grind (arith, ints, c)

pub returns-in_ok-start-clause-off : goal.returns-in_ok-start-clause-off
returns-in_ok-start-clause-off c =
    off-of_run c.args.periods c.in_ok-start.start c.args.periods c.pattern_on-else-unit.result c.pattern_on-else-unit.ensures (omega arith)
