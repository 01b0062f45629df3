-- The last hour of a unit that is on, whose term is at the full cap.
use Rattle.std.proofs.Common.{arith, ne_eqb}
use Rattle.uc_model.proofs.Common.{wide-size}
use Rattle.uc_model.proofs.Sizes.{wide}
use Rattle.unit_path.proofs.LeastStarts.{least-start_end}
use Rattle.unit_path.proofs.LeastStops.{least-end}
use Rattle.unit_path.proofs.path.end.Goals as goal

pub returns : goal.returns
returns c = grind (arith, wide, least-end, ne_eqb, wide-size, least-start_end, c)
