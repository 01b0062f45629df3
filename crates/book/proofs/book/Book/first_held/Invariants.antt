-- No unit so far is held.
use Rattle.std.proofs.Common.{ℕ, ◌<◌, ◌+◌}
use Rattle.book.specs.Prelude.{IsHeldBy}
use Rattle.book.proofs.book.Book.first_held.Given as goal

abbrev pub invariant-loop-place : goal.invariant-loop-place
invariant-loop-place g l = (k worker node : ℕ) → k < l.place → ¬ IsHeldBy l.self.claims worker (k + 1) node
