-- The clause is the lemma.
use Rattle.dual_model.proofs.ValueKinds
use Rattle.dual_model.proofs.laws.child_bound.Goals as goal

pub returns : goal.returns
returns c = ValueKinds.child_bound
