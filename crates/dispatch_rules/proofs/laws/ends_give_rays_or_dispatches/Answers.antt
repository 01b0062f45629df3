-- By the last rows and the values of the basis.
use Rattle.dispatch_rules.proofs.RunEnds.{runs_give_rays, runs_give_dispatches}
use Rattle.dispatch_rules.proofs.laws.ends_give_rays_or_dispatches.Goals as goal

pub returns-clause-rays : goal.returns-clause-rays
returns-clause-rays c = runs_give_rays

pub returns-clause-dispatches : goal.returns-clause-dispatches
returns-clause-dispatches c = runs_give_dispatches
