-- The pattern of the run up to the period t.
use Rattle.std.proofs.Common.{◌≡◌, ℕ}
use Rattle.uc_model.specs.Prelude.{commitment_of, on_during}
use Rattle.dispatch_repair.proofs.extreme_patterns.pattern_on.Given as goal

abbrev pub invariant-loop-t : goal.invariant-loop-t
invariant-loop-t l = (k : ℕ) → commitment_of l.pattern k ≡ on_during l.first l.t k
