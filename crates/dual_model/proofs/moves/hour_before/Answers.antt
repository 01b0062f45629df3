-- The hour's cost, of a term that is there.
use Rattle.std.proofs.Common.{arith, slice_index_or}
use Rattle.std.proofs.lemmas.Option.{MatchOption-at_some}
use Rattle.uc_model.proofs.Common.{abs_narrow, narrow, wide-size}
use Rattle.uc_model.proofs.Sizes.{wide}
use Rattle.dual_model.proofs.Hourly.{hour-of_term}
use Rattle.dual_model.proofs.moves.hour_before.Goals as goal

pub hour_cost-requires : goal.hour_cost-requires
hour_cost-requires c = grind (arith, wide-size, MatchOption-at_some, slice_index_or, abs_narrow, c)

pub returns-in-Some-clause-value : goal.returns-in-Some-clause-value
returns-in-Some-clause-value c = grind (arith, MatchOption-at_some, slice_index_or, wide, narrow, hour-of_term, c)
