-- None of the numbers before c is larger than the one found.
use Rattle.std.proofs.Common.{ℕ, ◌<◌, ◌≤◌, length, unsigned_abs}
use Rattle.pivot_run.specs.Prelude.{entry}
use Rattle.pivot_run.proofs.numbers.largest.Given as goal

abbrev pub invariant-loop-c : goal.invariant-loop-c
invariant-loop-c l = ((k : ℕ) → k < l.c → unsigned_abs (entry l.row k) ≤ unsigned_abs (entry l.row l.best)) × (0 < length l.row → l.best < length l.row)
