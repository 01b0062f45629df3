-- The rule in turn is broken first there, those before it hold; or it holds, and after the last turn all do.
use Rattle.std.proofs.Common.{arith, below_more}
use Rattle.schedule_check.specs.FirstBroken.{HoldsThroughout}
use Rattle.schedule_check.specs.WholeWatts.{rule_of}
use Rattle.schedule_check.proofs.RuleOrder.{tried, number_unit}
use Rattle.schedule_check.proofs.FirstPlaces.{numerators, earlier_tried, all_tried, unit_fails, unit_throughout}
use Rattle.schedule_check.proofs.feasibility.first_broken_by_unit.Goals as goal

pub returns-in-Some : goal.returns-in-Some
returns-in-Some c =
    let turn = c.loop-rule.rule-index in
    unit_fails (tried turn) c.args.instance.now c.args.printed.now c.in-Some.place c.number.result c.in-Some.ensures c.number.ensures
    (earlier_tried c.args.instance.now c.args.printed.now turn (omega arith) c.loop-rule.invariant)

pub loop-rule-preserved : goal.loop-rule-preserved
loop-rule-preserved c =
    let here = unit_throughout (tried c.loop-rule.rule-index) c.args.instance.now c.args.printed.now c.in_default.ensures in
    below_more (λ k. HoldsThroughout c.args.instance.now (numerators c.args.instance.now c.args.printed.now) (rule_of (tried k))) _ c.loop-rule.invariant here

pub returns : goal.returns
returns c = grind (arith, all_tried, number_unit, c)
