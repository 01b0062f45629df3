-- Each number is of a rule.
use Rattle.std.proofs.Common.{◌++◌, [], map, ap, ◌∙◌}
use Rattle.dispatch_rules.specs.Prelude.{limit_of, limits_of, rule_from}
use Rattle.dispatch_table.specs.Tasks.{task_of}
use Rattle.dispatch_table.proofs.Pushed.{push_listed}
use Rattle.dispatch_table.proofs.limits.limits.Goals as goal

pub loop-n-preserved : goal.loop-n-preserved
loop-n-preserved c =
    push_listed [] (map limit_of c.loop-n.all.items) (map limit_of c.push_rule.new.all.items) c.loop-n.n (λ n. limits_of (task_of c.args.given.now) (rule_from n))
    c.loop-n.invariant
    (c.in_ok-push_rule.ensures ∙ ap (λ r. map limit_of c.loop-n.all.items ++ limits_of (task_of c.args.given.now) r) (c.rule_from.ensures c.loop-n-test.true))
