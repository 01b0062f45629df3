-- Terms that are sized for a unit are rows of terms.
use Rattle.unit_path.proofs.SizedRows.{sized-rows}
use Rattle.number_cases.proofs.interval.interval_cost.Goals as goal

pub fill-requires-clause-rows : goal.fill-requires-clause-rows
fill-requires-clause-rows c = sized-rows c.args.unit.now c.in_ok-terms.terms c.requires.lawful c.in_ok-terms.ensures.sized
