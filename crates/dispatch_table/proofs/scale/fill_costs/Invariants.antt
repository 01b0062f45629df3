-- The costs so far, which small products made.
use Rattle.std.proofs.Common.{◌≡◌, ℕ, ℤ, ◌*◌, ◌^◌, ◌<◌, unsigned_abs}
use Rattle.pivot_run.specs.Prelude.{entry}
use Rattle.dispatch_rules.specs.Prelude.{amount_at}
use Rattle.dispatch_table.specs.Tasks.{AmountForms, scaled_cost, task_of}
use Rattle.dispatch_table.proofs.scale.fill_costs.Given as goal

abbrev pub invariant-loop-c : goal.invariant-loop-c
invariant-loop-c l = record {
  value : (k : ℕ) → k < l.c → entry l.costs k ≡ scaled_cost (task_of l.given) l.scale (amount_at (task_of l.given) k);
  small : (k : ℕ) → k < l.c → unsigned_abs (entry l.costs k) < 2 ^ 126;
  narrow : (k : ℕ) → k < l.c → (a b : ℤ) → AmountForms (task_of l.given) l.scale (amount_at (task_of l.given) k) a b → unsigned_abs a * unsigned_abs b < 2 ^ 126;
}
