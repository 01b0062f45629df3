-- The first broken rule of the units so far.
use Rattle.dispatch_repair.specs.inside.Broken.{IsFirstOf}
use Rattle.dispatch_repair.proofs.regularity.first_broken_rule.Given as goal

abbrev pub invariant-loop-unit : goal.invariant-loop-unit
invariant-loop-unit l = IsFirstOf l.instance l.patterns l.unit l.first
