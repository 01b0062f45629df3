-- The patterns are those of the value.
use Rattle.std.proofs.Common.{sym, subst}
use Rattle.dispatch_rules.specs.Prelude.{AreAllowed}
use Rattle.number_cases.proofs.pivot.pivot_of.Goals as goal

pub best-pivot-requires-clause-allowed : goal.best-pivot-requires-clause-allowed
best-pivot-requires-clause-allowed c = subst (AreAllowed c.args.instance.now) (sym c.as_slice.ensures) c.requires.allowed
