-- Line by line: a rule's sum, its slack and its right side.
use Rattle.dispatch_program.proofs.LineSums.{values_obey}
use Rattle.dispatch_program.proofs.laws.values_obey_rules.Goals as goal

pub returns : goal.returns
returns c = values_obey
