-- What the code's rays name.
use Rattle.std.specs.Prelude.{Bool}
pub use Rattle.uc_model.specs.declared.instance.Thermal.{Thermal}
use Rattle.dual_model.specs.Prelude.{OpeningRay, nowhere, rises_short, falls_short, stays_below}
use Rattle.opening_tables.specs.declared.rays.Ramps.{Ramps}
use Rattle.opening_tables.specs.declared.rays.Ramps.TheVariants.{Free, RiseShort, FallShort, StayBelow}
pub use Rattle.opening_tables.specs.declared.rays.Ray.{Ray}

-- the units with a multiplier of M11, and those with one of M12
abbrev pub up_of : Ramps → Thermal → Bool
up_of Free = nowhere
up_of RiseShort = rises_short
up_of FallShort = nowhere
up_of StayBelow = stays_below

abbrev pub down_of : Ramps → Thermal → Bool
down_of Free = nowhere
down_of RiseShort = nowhere
down_of FallShort = falls_short
down_of StayBelow = nowhere

-- what a ray names in its period
abbrev pub named_by : Ray → OpeningRay
named_by ray = record { demand = ray.demand; reserve = ray.reserve; up = up_of ray.ramps; down = down_of ray.ramps }
