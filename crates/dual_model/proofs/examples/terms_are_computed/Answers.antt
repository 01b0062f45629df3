-- Each example is computed.
use Rattle.std.proofs.Common.{arith}
use Rattle.uc_model.proofs.Common.{linear}
use Rattle.dual_model.proofs.Terms.{is_term, least_reduced_cost, greatest_bound, corner_least, pair_least}
use Rattle.dual_model.proofs.examples.terms_are_computed.Goals as goal

pub returns : goal.returns
unfolding least_reduced_cost greatest_bound corner_least pair_least
returns c = record {
  priced = is_term _ _ _ _ _ (omega arith) (omega (arith, linear));
  down = is_term _ _ _ _ _ (omega arith) (omega (arith, linear));
  below_nought = is_term _ _ _ _ _ (omega arith) (omega (arith, linear));
}
