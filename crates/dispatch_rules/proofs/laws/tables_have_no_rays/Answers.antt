-- Limit by limit.
use Rattle.dispatch_rules.proofs.Rays.{no_rays}
use Rattle.dispatch_rules.proofs.Going.{costs_go_on, runs_end_last}
use Rattle.dispatch_rules.proofs.laws.tables_have_no_rays.Goals as goal

pub returns-clause-rays : goal.returns-clause-rays
returns-clause-rays c = no_rays

pub returns-clause-rows : goal.returns-clause-rows
returns-clause-rows c = costs_go_on

pub returns-clause-runs : goal.returns-clause-runs
returns-clause-runs c = runs_end_last
