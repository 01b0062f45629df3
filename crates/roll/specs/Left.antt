-- The state in which a schedule of the first periods leaves each unit, from which the next window goes on: on or off, with
-- its output and how long it has been so. Source: the initial state of a unit in the pglib-uc format, as the rules of the
-- reference model by Knueven, Ostrowski and Watson take it.
--
-- Periods count from 0; `end` is the first one behind the schedule.
use Rattle.std.specs.Prelude.{◌≡◌, ◌≢◌, ℕ, ◌+◌, ◌-◌, ◌<◌, ◌≤◌, ◌==◌, min, Bool, false, not, ◌&&◌, List, ℤ, pos, ◌+ℤ◌, ◌-ℤ◌, int_lt, length, slice_index_or, if◌then◌else◌}
use Rattle.uc_model.specs.Prelude.{Commitment, stop_reduction, thermal_unit, thermal_count, IsPower}
use Rattle.uc_model.specs.declared.limits.TheConstants.{MAX_TIME}
pub use Rattle.uc_model.specs.declared.instance.Instance.{Instance}
pub use Rattle.uc_model.specs.declared.instance.Thermal.{Thermal}
pub use Rattle.uc_model.specs.declared.schedule.Cell.{Cell}
pub use Rattle.uc_model.specs.declared.schedule.Printed.{Printed}
use Rattle.schedule_check.specs.WholeWatts.{cell, commitment, row_of}
pub use Rattle.roll.specs.declared.state.Carried.{Carried}
pub use Rattle.roll.specs.declared.state.CarriedUnit.{CarriedUnit}

-- the state in the last period has lasted n periods: it is the same in each of the n before the end, and another one in
-- the period before these
pub record HasLasted (on : Commitment) (end n : ℕ) : Type 0 where
  pub some : 1 ≤ n
  pub within : n ≤ end
  pub same : (t : ℕ) → end - n ≤ t → t < end → on t ≡ on (end - 1)
  pub begun : n < end → on (end - n - 1) ≢ on (end - 1)

-- how long the unit has been on, where it has been so for n periods, and how long off: a time before the first period
-- counts where the state has lasted since then
abbrev pub time_on_so_far : Thermal → ℕ → ℕ → ℕ
time_on_so_far unit end n = min MAX_TIME (n + (if (n == end) && unit.on0 then unit.ut0 else 0))

abbrev pub time_off_so_far : Thermal → ℕ → ℕ → ℕ
time_off_so_far unit end n = min MAX_TIME (n + (if (n == end) && not unit.on0 then unit.dt0 else 0))

-- output and reserve of the last cell are above what M10 leaves to a unit that stops behind it,
-- Pmax - Pmin - max(Pmax-SD,0)
abbrev pub is_too_high_to_stop : Thermal → Cell → Bool
is_too_high_to_stop unit last = int_lt (unit.pmax -ℤ unit.pmin -ℤ stop_reduction unit) (last.p +ℤ last.r)

-- such a unit has been on for at most UT - 1 hours, so that M2 holds it on
abbrev pub time_on_left : Thermal → Cell → ℕ → ℕ → ℕ
time_on_left unit last end n =
    if is_too_high_to_stop unit last then min (unit.ut - 1) (time_on_so_far unit end n) else time_on_so_far unit end n

-- total output, the minimum included; that of a unit that is off is 0
abbrev pub total_output : Thermal → Cell → ℤ
total_output unit last = if last.on then unit.pmin +ℤ last.p else pos 0

-- the state of a unit behind its row
pub record IsLeftBy (unit : Thermal) (row : List Cell) (end : ℕ) (left : CarriedUnit) : Type 0 where
  pub state : left.on ≡ commitment row (end - 1)
  pub output : left.output ≡ total_output unit (cell row (end - 1))
  pub lasted : ℕ
  pub has_lasted : HasLasted (commitment row) end lasted
  pub time_on : left.time_on ≡ (if left.on then time_on_left unit (cell row (end - 1)) end lasted else 0)
  pub time_off : left.time_off ≡ (if left.on then 0 else time_off_so_far unit end lasted)

-- the unit's own initial state
abbrev pub initial_state : Thermal → CarriedUnit
initial_state unit = record { on = unit.on0; output = unit.p0; time_on = unit.ut0; time_off = unit.dt0 }

-- before the first period it is the initial state, and behind others what the row leaves
pub record IsLeft (unit : Thermal) (row : List Cell) (end : ℕ) (left : CarriedUnit) : Type 0 where
  pub first : end ≡ 0 → left ≡ initial_state unit
  pub later : 1 ≤ end → IsLeftBy unit row end left

-- the state of thermal unit g in the list; past its end an idle one
abbrev pub state_of : Carried → ℕ → CarriedUnit
state_of carried g = slice_index_or carried.units g (record { on = false; output = pos 0; time_on = 0; time_off = 0 })

-- the states in which the schedule of the periods before `end` leaves the instance's units
pub record IsCarried (instance : Instance) (kept : Printed) (end : ℕ) (carried : Carried) : Type 0 where
  pub units : length carried.units ≡ thermal_count instance
  pub each : (g : ℕ) → g < thermal_count instance → IsLeft (thermal_unit instance g) (row_of kept g) end (state_of carried g)

-- numbers within the limits of an initial state
pub record IsLawfulState (left : CarriedUnit) : Type 0 where
  pub output : IsPower left.output
  pub time_on : left.time_on ≤ MAX_TIME
  pub time_off : left.time_off ≤ MAX_TIME

-- a lawful state of each unit
pub record HasStates (instance : Instance) (carried : Carried) : Type 0 where
  pub units : length carried.units ≡ thermal_count instance
  pub lawful : (g : ℕ) → g < thermal_count instance → IsLawfulState (state_of carried g)
