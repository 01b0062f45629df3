-- The clauses are the lemmas.
use Rattle.unit_runs.proofs.ByRuns
use Rattle.unit_runs.proofs.laws.exact_values_are_sums_over_runs.Goals as goal

pub returns : goal.returns
returns c = record {
  by_runs = ByRuns.exact_values_are_by_runs;
  exact = ByRuns.values_by_runs_are_exact;
  no_runs = ByRuns.unscheduled_units_have_no_runs;
  unscheduled = ByRuns.units_without_runs_are_unscheduled;
}
