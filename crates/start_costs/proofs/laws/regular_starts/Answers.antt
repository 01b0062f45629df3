use Rattle.start_costs.proofs.RegularStarts.{regular}
use Rattle.start_costs.proofs.laws.regular_starts.Goals as goal

pub returns : goal.returns
returns c = regular
