-- The amounts so far are 0.
use Rattle.std.proofs.Common.{◌≡◌, ℕ, ◌<◌, pos}
use Rattle.dispatch_repair.specs.Amounts.{amount_at}
use Rattle.decommitment.proofs.fill.set_zero.Given as goal

abbrev pub invariant-loop-n : goal.invariant-loop-n
invariant-loop-n l = (n : ℕ) → n < l.n → amount_at l.amounts n ≡ pos 0
