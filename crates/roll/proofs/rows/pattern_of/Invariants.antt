-- The pattern is that of the cells so far, and off behind them.
use Rattle.std.proofs.Common.{◌≡◌, ℕ, ◌<◌, ◌≤◌, false}
use Rattle.uc_model.specs.Prelude.{commitment_of}
use Rattle.schedule_check.specs.WholeWatts.{commitment}
use Rattle.roll.proofs.rows.pattern_of.Given as goal

abbrev pub invariant-loop-t : goal.invariant-loop-t
invariant-loop-t l = record {
  told : (k : ℕ) → k < l.t → commitment_of l.pattern k ≡ commitment l.row k;
  rest : (k : ℕ) → l.t ≤ k → commitment_of l.pattern k ≡ false;
}
