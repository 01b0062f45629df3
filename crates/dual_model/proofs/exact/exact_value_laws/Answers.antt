-- The clauses are the lemmas.
use Rattle.dual_model.proofs.ExactExists
use Rattle.dual_model.proofs.ExactValues
use Rattle.dual_model.proofs.WholeWatts
use Rattle.dual_model.proofs.exact.exact_value_laws.Goals as goal

pub returns : goal.returns
returns c = record {
  reach = ExactValues.exact_values_reach;
  bound = WholeWatts.whole_watts_bound;
  some = WholeWatts.whole_watts_exist;
  least = ExactExists.exact_values_are_least;
  exact = ExactExists.least_whole_values_are_exact;
}
