-- The clauses are the lemmas.
use Rattle.unit_runs.proofs.ByFix
use Rattle.unit_runs.proofs.laws.least_runs_are_exact.Goals as goal

pub returns : goal.returns
returns c = record { exact = ByFix.least_by_fix_is_exact; none = ByFix.no_runs_by_fix_means_unscheduled }
