-- The numbers before c are small.
use Rattle.std.proofs.Common.{ℕ, ◌^◌, ◌<◌, unsigned_abs}
use Rattle.pivot_run.specs.Prelude.{entry}
use Rattle.pivot_run.proofs.numbers.are_small.Given as goal

abbrev pub invariant-loop-c : goal.invariant-loop-c
invariant-loop-c l = (k : ℕ) → k < l.c → unsigned_abs (entry l.row k) < 2 ^ 127
