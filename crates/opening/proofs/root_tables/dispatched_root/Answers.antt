-- The evaluator's instance stays.
use Rattle.std.proofs.Common.{sym, subst}
use Rattle.dual_model.specs.Prelude.{HasEachPattern}
use Rattle.opening.proofs.root_tables.dispatched_root.Goals as goal

pub with_value-requires-clause-patterns : goal.with_value-requires-clause-patterns
with_value-requires-clause-patterns c = subst HasEachPattern (sym c.unpriced_root.ensures.kept) c.requires.patterns
