-- The cells so far are the unit's.
use Rattle.decommitment.specs.inside.Runs.{IsRowOf}
use Rattle.decommitment.proofs.price.row_of.Given as goal

abbrev pub invariant-loop-t : goal.invariant-loop-t
invariant-loop-t l = IsRowOf l.changed.instance.now l.changed.patterns.now l.changed.fills.now l.g l.t l.row.items
