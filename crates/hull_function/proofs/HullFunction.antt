-- L on the points of a lawful unit begins at 0 and ends at an output.
use Rattle.std.proofs.Common.{◌-◌, ◌*◌, ◌<◌, ◌≤◌, arith, length, ℤ, pos, ◌-ℤ◌, ◌≤ℤ◌, unsigned_abs}
use Rattle.std.proofs.lemmas.Int.{ints}
use Rattle.uc_model.specs.Prelude.{IsLawfulThermal}
use Rattle.uc_model.proofs.Common.{Rises, outputs_rise}
use Rattle.step_functions.specs.Functions.{Steps}
use Rattle.uc_model.specs.declared.limits.TheConstants.{MAX_POWER}
use Rattle.hull_function.specs.Hulls.{IsHull, IsHullFunction}
use Rattle.uc_model.specs.declared.instance.Thermal.{Thermal}

pub hull-function : (unit : Thermal) (k : ℤ) (f : Steps) → IsLawfulThermal unit → IsHull unit.points k f → IsHullFunction f
hull-function unit k f lawful is =
    let some = lawful.points.0 in
    let rises : Rises unit.points = record { some = some; rising = lawful.rising } in
    let last = length unit.points - 1 in
    let within : last < length unit.points = omega (arith, some) in
    let low = outputs_rise unit.points rises 0 last (omega arith) within in
    let first = lawful.outputs 0 some in
    let end = lawful.outputs last within in
    record {
      first = is.first;
      last = grind (arith, ints, is, low, unit, last, end, first);
      size = is.size;
    }
  where
    apart : (b a : ℤ) → unsigned_abs b ≤ MAX_POWER → unsigned_abs a ≤ MAX_POWER → (b -ℤ a) ≤ℤ pos (2 * MAX_POWER)
    apart b a h k = omega (arith, ints)
