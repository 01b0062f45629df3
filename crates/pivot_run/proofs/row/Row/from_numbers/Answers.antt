-- The numbers that aren't 0 give the row.
use Rattle.std.proofs.Common.{refl, length}
use Rattle.pivot_run.proofs.EntryLists.{spread_is}
use Rattle.pivot_run.proofs.row.Row.from_numbers.Goals as goal

pub returns-in_ok-entries-clause-row : goal.returns-in_ok-entries-clause-row
returns-in_ok-entries-clause-row c = spread_is c.args.numbers.now (length c.args.numbers.now) _ _ refl c.in_ok-entries.ensures.values
