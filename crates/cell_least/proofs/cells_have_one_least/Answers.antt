-- The clauses are the lemmas.
use Rattle.cell_least.proofs.Leasts.{leasts_are_one, terms_are_floors, leasts_bound_cells}
use Rattle.cell_least.proofs.cells_have_one_least.Goals as goal

pub returns : goal.returns
returns c = record { one = leasts_are_one; floor = terms_are_floors; bound = leasts_bound_cells }
