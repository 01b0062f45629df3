-- A unit of a lawful instance at a table of its size within the limits.
use Rattle.std.proofs.Common.{◌≡◌, ℕ, ◌<◌, arith, List, get_or}
use Rattle.std.proofs.lemmas.List.{get_or_read}
use Rattle.uc_model.specs.Prelude.{IsLawfulInstance, thermal_count, thermal_unit}
use Rattle.dual_model.specs.Prelude.{HasSizeOf, IsWithinLimits}
use Rattle.unit_runs.specs.Patterns.{Instance}
use Rattle.hull_function.specs.Hulls.{IsScale}
use Rattle.hull_function.specs.Problems.{IsLawfulProblem, Table, Thermal}

pub scale-of : (instance : Instance) (table : Table) → HasSizeOf instance table → IsWithinLimits table → IsScale table.k
scale-of instance table size limits = record { low = size.form.scale; high = limits.scale }

pub lawful-problem : (instance : Instance) (table : Table) (g : ℕ) → IsLawfulInstance instance → g < thermal_count instance
    → HasSizeOf instance table → IsWithinLimits table → IsLawfulProblem instance.periods table (thermal_unit instance g)
lawful-problem instance table g lawful known size limits = grind (arith, lawful, known, size, limits)

-- the unit that is read is that of the instance
pub unit-read : (instance : Instance) (units : List Thermal) (g : ℕ) (unit : Thermal) → units ≡ instance.thermal → g < thermal_count instance
    → unit ≡ get_or units g unit → unit ≡ thermal_unit instance g
unit-read instance units g unit same h is = grind (arith, get_or_read, same, h, is)
