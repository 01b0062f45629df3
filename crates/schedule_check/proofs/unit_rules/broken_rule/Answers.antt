-- The rule in turn is broken first there, those before it are kept; or it is kept, and after the last turn all are.
use Rattle.std.proofs.Common.{arith, below_more}
use Rattle.schedule_check.specs.CommitmentRules.{RowKeeps}
use Rattle.schedule_check.proofs.CommitmentOrder.{turn, breaks_first, keeps_all, broken_over, keeps_over}
use Rattle.schedule_check.proofs.unit_rules.broken_rule.Goals as goal

pub returns-in-Some : goal.returns-in-Some
returns-in-Some c =
    let n = c.loop-rule.rule-index in
    breaks_first c.args.unit.now c.args.row.now n _ (omega arith) c.loop-rule.invariant
    (broken_over c.args.unit.now c.args.row.now (turn n) _ c.in-Some.ensures) c.number.ensures

pub loop-rule-preserved : goal.loop-rule-preserved
loop-rule-preserved c =
    below_more (λ k. RowKeeps c.args.unit.now c.args.row.now (turn k)) _ c.loop-rule.invariant
    (keeps_over c.args.unit.now c.args.row.now (turn c.loop-rule.rule-index) c.in-None.ensures)

pub returns : goal.returns
returns c = keeps_all c.args.unit.now c.args.row.now c.loop-rule.rule-index (omega arith) c.loop-rule.invariant
