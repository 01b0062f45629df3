-- The clauses are the lemmas.
use Rattle.dual_model.proofs.ValueKinds.{values_are_unique, values_exist}
use Rattle.dual_model.proofs.laws.value_laws.Goals as goal

pub returns : goal.returns
returns c = record { unique = values_are_unique; exists = values_exist }
