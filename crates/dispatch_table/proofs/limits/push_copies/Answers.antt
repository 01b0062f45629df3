-- A limit more.
use Rattle.std.proofs.Common.{◌∷◌, [], map}
use Rattle.dispatch_rules.specs.Prelude.{limit_of, rule_of, limit}
use Rattle.dispatch_table.proofs.Pushed.{map_push, push_listed}
use Rattle.dispatch_table.proofs.limits.push_copies.Goals as goal

pub loop-segment-preserved : goal.loop-segment-preserved
loop-segment-preserved c =
    push_listed (map limit_of c.args.all.now.items) (map limit_of c.loop-segment.all.items) (map limit_of c.push.new.self.items) c.loop-segment.segment
    (λ k. limit (rule_of c.args.rule) c.args.unit c.args.period k ∷ []) c.loop-segment.invariant
    (map_push limit_of c.loop-segment.all.items c.push.new.self.items _ c.in_ok-push.ensures.items)
