-- The hour's cost, of the term at the full cap.
use Rattle.std.proofs.Common.{arith, slice_index_or}
use Rattle.uc_model.proofs.Common.{abs_narrow, narrow, wide-size}
use Rattle.uc_model.proofs.Sizes.{wide}
use Rattle.dual_model.proofs.Hourly.{hour-of_term}
use Rattle.unit_path.proofs.hour_costs.full_hour_before.Goals as goal

pub hour_cost-requires : goal.hour_cost-requires
hour_cost-requires c = grind (arith, wide-size, slice_index_or, abs_narrow, c)

pub returns-clause-value : goal.returns-clause-value
returns-clause-value c = grind (arith, slice_index_or, wide, narrow, hour-of_term, c)
