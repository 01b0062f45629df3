-- What the numerators say, the schedule that they stand for says.
use Rattle.schedule_check.proofs.FirstPlaces.{first_stands, numerators_obey}
use Rattle.schedule_check.proofs.feasibility.check.Goals as goal

pub cost-requires-clause-obeys : goal.cost-requires-clause-obeys
cost-requires-clause-obeys c = numerators_obey c.args.instance.now c.args.printed.now c.requires.lawful c.requires.shape.denominator.0 c.in-None.ensures

pub returns-in-Some-clause-broken : goal.returns-in-Some-clause-broken
returns-in-Some-clause-broken c = first_stands c.args.instance.now c.args.printed.now c.in-Some.broken c.requires.lawful c.requires.shape.denominator.0 c.in-Some.ensures

pub returns-in-None-clause-obeys : goal.returns-in-None-clause-obeys
returns-in-None-clause-obeys c = numerators_obey c.args.instance.now c.args.printed.now c.requires.lawful c.requires.shape.denominator.0 c.in-None.ensures
