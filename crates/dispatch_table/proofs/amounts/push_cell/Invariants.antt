-- The lengths of the segments so far.
use Rattle.std.proofs.Common.{◌≡◌, ◌++◌, ◌∷◌, []}
use Rattle.dispatch_rules.specs.declared.amount.Amount.TheVariants.{Length}
use Rattle.dispatch_rules.specs.Prelude.{listed}
use Rattle.dispatch_table.proofs.amounts.push_cell.Given as goal

abbrev pub invariant-loop-k : goal.invariant-loop-k
invariant-loop-k l = l.all.items ≡ l.initial.all.items ++ listed l.k (λ k. Length l.g l.t k ∷ [])
