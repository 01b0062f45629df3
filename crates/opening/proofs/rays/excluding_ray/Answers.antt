-- Where there is a schedule no ray is positive.
use Rattle.std.proofs.Common.{subst}
use Rattle.schedule_check.specs.Accepted.{IsAcceptedIfFound}
use Rattle.opening.proofs.OpeningRays.{no_ray}
use Rattle.opening.proofs.rays.excluding_ray.Goals as goal

pub returns-in-Some-clause-ray : goal.returns-in-Some-clause-ray
returns-in-Some-clause-ray c =
    let instance = c.args.evaluator.now in
    let accepted = subst (IsAcceptedIfFound instance) c.in-Some.is c.requires.accepted in
    no_ray c.args.exact instance _ _ c.requires.lawful accepted.obeys
