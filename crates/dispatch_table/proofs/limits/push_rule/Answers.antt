-- The limits of a unit more.
use Rattle.std.proofs.Common.{map}
use Rattle.dispatch_rules.specs.Prelude.{limit_of, rule_of}
use Rattle.dispatch_table.specs.Tasks.{task_of, unit_limits}
use Rattle.dispatch_table.proofs.Pushed.{push_listed}
use Rattle.dispatch_table.proofs.limits.push_rule.Goals as goal

pub loop-g-preserved : goal.loop-g-preserved
loop-g-preserved c =
    push_listed (map limit_of c.args.all.now.items) (map limit_of c.loop-g.all.items) (map limit_of c.push_unit.new.all.items) c.loop-g.g
    (unit_limits (task_of c.args.given.now) (rule_of c.args.rule)) c.loop-g.invariant c.in_ok-push_unit.ensures
