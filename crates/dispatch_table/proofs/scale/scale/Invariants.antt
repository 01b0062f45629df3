-- The least common multiple of the denominators so far, which small products made.
use Rattle.std.proofs.Common.{◌≡◌, ℕ, ℤ, ◌*◌, ◌^◌, ◌<◌, unsigned_abs}
use Rattle.fractions.specs.Fractions.{JoinForms}
use Rattle.dispatch_rules.specs.Prelude.{fraction_at, scale_to}
use Rattle.dispatch_table.specs.Tasks.{task_of}
use Rattle.dispatch_table.proofs.scale.scale.Given as goal

abbrev pub invariant-loop-c : goal.invariant-loop-c
invariant-loop-c l = record {
  value : l.scale ≡ scale_to (task_of l.given) l.c;
  narrow : (k : ℕ) → k < l.c → (a b : ℤ) → JoinForms (scale_to (task_of l.given) k) (fraction_at (task_of l.given) k).denominator a b → unsigned_abs a * unsigned_abs b < 2 ^ 126;
}
