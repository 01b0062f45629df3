-- The clauses are the lemmas.
use Rattle.unit_runs.proofs.RunWays
use Rattle.unit_runs.proofs.laws.runs_to_go_are_least.Goals as goal

pub returns : goal.returns
returns c = record { least = RunWays.runs_to_go_are_least; ways = RunWays.ways_are_values }
