-- The points of a lawful unit have a lower hull.
use Rattle.std.proofs.Common.{arith}
use Rattle.uc_model.specs.Prelude.{IsLawfulThermal}
use Rattle.uc_model.specs.declared.instance.Thermal.{Thermal}
use Rattle.cost_curves.specs.LowerHull.{AreLawfulPoints}

pub lawful_points : (unit : Thermal) → IsLawfulThermal unit → AreLawfulPoints unit.points
lawful_points unit lawful = grind (arith, lawful)
