-- The amount of a renewable unit more, and what is missing.
use Rattle.std.proofs.Common.{◌∷◌, []}
use Rattle.dispatch_rules.specs.declared.amount.Amount.TheVariants.{Given}
use Rattle.dispatch_table.proofs.Pushed.{push_listed}
use Rattle.dispatch_table.proofs.amounts.push_system.Goals as goal

pub loop-w-preserved : goal.loop-w-preserved
loop-w-preserved c =
    push_listed c.args.all.now.items c.loop-w.all.items c.push.new.self.items c.loop-w.w (λ w. Given w c.args.t ∷ []) c.loop-w.invariant c.in_ok-push.ensures.items
