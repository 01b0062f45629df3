-- Each number is negated.
use Rattle.std.proofs.Common.{arith, int_lt}
use Rattle.std.proofs.lemmas.Bool.{cond-true}
use Rattle.pivot_run.proofs.EntryLists.{map_spread}
use Rattle.pivot_run.proofs.SpreadRows.{view_of}
use Rattle.pivot_run.proofs.row.Row.raise.Goals as goal

pub returns-then-at-lt0-clause-value : goal.returns-then-at-lt0-clause-value
returns-then-at-lt0-clause-value c = grind (arith, int_lt, view_of, map_spread, cond-true, c)
