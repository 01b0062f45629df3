-- The clauses are the lemmas.
use Rattle.dual_model.proofs.ExactBound.{schedules_are_unit_schedules}
use Rattle.dual_model.proofs.ExactExists.{exact_unit_values_exist}
use Rattle.dual_model.proofs.ExactValues.{exact_unit_values_are_unique, exact_values_rise}
use Rattle.dual_model.proofs.exact.exact_values_of_units.Goals as goal

pub returns : goal.returns
returns c = record { exists = exact_unit_values_exist; unique = exact_unit_values_are_unique; schedule = schedules_are_unit_schedules; child = exact_values_rise }
