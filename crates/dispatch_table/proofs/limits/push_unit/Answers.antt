-- The limits of a period are as many as its copies.
use Rattle.std.proofs.Common.{◌++◌, ◌∷◌, [], map, ap, ◌∙◌}
use Rattle.dispatch_rules.specs.Prelude.{limit_of, rule_of, limit, listed}
use Rattle.dispatch_table.specs.Tasks.{cell_limits, task_of}
use Rattle.dispatch_table.proofs.Pushed.{push_listed}
use Rattle.dispatch_table.proofs.limits.push_unit.Goals as goal

pub loop-t-preserved : goal.loop-t-preserved
loop-t-preserved c =
    push_listed (map limit_of c.args.all.now.items) (map limit_of c.loop-t.all.items) (map limit_of c.push_copies.new.all.items) c.loop-t.t
    (cell_limits (task_of c.args.given.now) (rule_of c.args.rule) c.args.g) c.loop-t.invariant
    (c.in_ok-push_copies.ensures
    ∙ ap (λ n. map limit_of c.loop-t.all.items ++ listed n (λ k. limit (rule_of c.args.rule) c.args.g c.loop-t.t k ∷ [])) c.copies-copies.ensures)
