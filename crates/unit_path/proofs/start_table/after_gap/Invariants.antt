-- The cost is the least of the categories before s + 1.
use Rattle.std.proofs.Common.{◌≡◌}
use Rattle.uc_model.specs.Prelude.{least_below}
use Rattle.unit_path.specs.inside.StartCosts.{is_within_lags, row_of}
use Rattle.unit_path.proofs.start_table.after_gap.Given as goal

abbrev pub invariant-loop-s : goal.invariant-loop-s
invariant-loop-s l = l.cost ≡ least_below l.s (λ s. is_within_lags l.rows s l.gap l.t) (λ s. (row_of l.rows s).cost) l.least
