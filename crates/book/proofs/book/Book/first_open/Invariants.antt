-- No node so far is open.
use Rattle.std.proofs.Common.{ℕ, ◌<◌}
use Rattle.search_machine.specs.Prelude.{IsOpen}
use Rattle.book.specs.Prelude.{state_of}
use Rattle.book.proofs.book.Book.first_open.Given as goal

abbrev pub invariant-loop-node : goal.invariant-loop-node
invariant-loop-node g l = (k : ℕ) → k < l.node → ¬ IsOpen (state_of l.self) k
