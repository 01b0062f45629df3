-- The instance of a window: some periods of an instance, from the states in which the periods before it leave the units.
-- Source: the rolling horizon of unit commitment, whose windows begin with the state that the last one left.
--
-- Periods count from 0; `start` is the first one of the window, and `len` how many it has.
use Rattle.std.specs.Prelude.{◌≡◌, ℕ, ◌<◌, take, drop}
use Rattle.uc_model.specs.Prelude.{thermal_unit, thermal_count, renewable_unit, renewable_count}
use Rattle.uc_model.specs.declared.instance.Renewable.{Renewable}
use Rattle.roll.specs.Left.{Instance, Thermal, Printed, Carried, CarriedUnit, state_of, IsCarried}

-- the unit with this initial state
abbrev pub continued : Thermal → CarriedUnit → Thermal
continued unit left = record unit { on0 = left.on; p0 = left.output; ut0 = left.time_on; dt0 = left.time_off }

-- a renewable unit with its limits in the window
abbrev pub limits_within : ℕ → ℕ → Renewable → Renewable
limits_within start len unit = record unit {
  minimum = take len (drop start unit.minimum);
  maximum = take len (drop start unit.maximum);
}

-- the window has the demand, reserves and renewable limits of its periods, and each thermal unit with its state; all else
-- is the instance's
pub record IsWindow (instance : Instance) (carried : Carried) (start len : ℕ) (window : Instance) : Type 0 where
  pub periods : window.periods ≡ len
  pub demand : window.demand ≡ take len (drop start instance.demand)
  pub reserves : window.reserves ≡ take len (drop start instance.reserves)
  pub thermal_units : thermal_count window ≡ thermal_count instance
  pub thermal : (g : ℕ) → g < thermal_count instance → thermal_unit window g ≡ continued (thermal_unit instance g) (state_of carried g)
  pub renewable_units : renewable_count window ≡ renewable_count instance
  pub renewable : (w : ℕ) → w < renewable_count instance → renewable_unit window w ≡ limits_within start len (renewable_unit instance w)
  pub a : window.a ≡ instance.a
  pub b : window.b ≡ instance.b

-- the window behind a schedule of the periods before it
pub record IsNextWindow (instance : Instance) (kept : Printed) (start len : ℕ) (window : Instance) : Type 0 where
  pub carried : Carried
  pub is_carried : IsCarried instance kept start carried
  pub is_window : IsWindow instance carried start len window
