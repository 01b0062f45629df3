use Rattle.pivot_closing.proofs.PivotedSteps.{starts_are_pivoted, commits_keep_pivoted}
use Rattle.pivot_closing.proofs.laws.commits_keep_pivoted.Goals as goal

pub returns : goal.returns
returns c = record { start = starts_are_pivoted; commit = commits_keep_pivoted }
