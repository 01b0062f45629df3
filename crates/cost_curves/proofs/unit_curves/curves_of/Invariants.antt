-- The units before the place have their curves.
use Rattle.cost_curves.specs.UnitCurves.{AreCurvesTo}
use Rattle.cost_curves.proofs.unit_curves.curves_of.Given as goal

abbrev pub invariant-loop-unit : goal.invariant-loop-unit
invariant-loop-unit l = AreCurvesTo l.instance l.unit-index l.curves.items
