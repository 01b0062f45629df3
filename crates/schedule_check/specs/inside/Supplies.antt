-- What is summed over units in a period. This project's own.
use Rattle.std.specs.Prelude.{ℕ, ℤ}
use Rattle.uc_model.specs.Prelude.{cell_at, thermal_count, renewable_count}
use Rattle.schedule_check.specs.SizedNumbers.{Printed, output_at}
use Rattle.schedule_check.specs.WholeWatts.{over, thermal_supply_by}
use Rattle.uc_model.specs.declared.instance.Instance.{Instance}
use Rattle.schedule_check.specs.declared.balance.Kind.{Kind}
use Rattle.schedule_check.specs.declared.balance.Kind.TheVariants.{Thermal, Reserve, Renewable}

-- the units that give it
abbrev pub units_of : Kind → Instance → ℕ
units_of Thermal instance = thermal_count instance
units_of Reserve instance = thermal_count instance
units_of Renewable instance = renewable_count instance

-- what each of them gives
abbrev pub given_at : Kind → Instance → Printed → ℕ → ℕ → ℤ
given_at Thermal instance printed g t = thermal_supply_by (over printed.denominator) instance printed g t
given_at Reserve instance printed g t = (cell_at printed g t).r
given_at Renewable instance printed w t = output_at printed w t
