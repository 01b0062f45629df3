-- The amounts of the renewable units so far.
use Rattle.std.proofs.Common.{◌≡◌, ◌++◌, ◌∷◌, []}
use Rattle.dispatch_rules.specs.declared.amount.Amount.TheVariants.{Given}
use Rattle.dispatch_rules.specs.Prelude.{listed}
use Rattle.dispatch_table.proofs.amounts.push_system.Given as goal

abbrev pub invariant-loop-w : goal.invariant-loop-w
invariant-loop-w l = l.all.items ≡ l.initial.all.items ++ listed l.w (λ w. Given w l.t ∷ [])
