-- The room of an instance: what its dispatches share; and the rows that they are written into, with the schedule that rows stand for.
-- This project's own.
use Rattle.std.specs.Prelude.{◌≡◌, ℕ, ◌<◌, ◌≤◌, List, pos, length, map}
use Rattle.std.specs.declared.alloc.Global.{Global}
use Rattle.std.specs.declared.vec.Vec.{Vec}
use Rattle.uc_model.specs.Prelude.{cell_at, shed_at, short_at, thermal_count}
use Rattle.uc_model.specs.declared.instance.Instance.{Instance}
use Rattle.uc_model.specs.declared.pattern.Pattern.{Pattern}
pub use Rattle.uc_model.specs.declared.schedule.Printed.{Printed}
use Rattle.schedule_check.specs.SizedNumbers.{output_at}
use Rattle.dispatch_repair.specs.Dispatch.{Cell, HasPeriods, IsCommittedCell, IsFilled, period_after}
use Rattle.dispatch_repair.specs.Period.{output_before}
use Rattle.dispatch_repair.specs.Stuck.{Stuck, Why, IsFirstObstacle}
use Rattle.dispatch_repair.specs.Segments.{source_count, AreInMeritOrder}
pub use Rattle.dispatch_repair.specs.declared.room.Room.{Room}
pub use Rattle.dispatch_repair.specs.declared.rows.Rows.{Rows}
pub use Rattle.dispatch_repair.specs.declared.schedule.Obstacle.{Obstacle}

-- memory for the periods of an instance, with its segments in order of merit
pub record IsRoomOf (instance : Instance) (room : Room) : Type 0 where
  pub order : AreInMeritOrder instance room.order.items
  pub ranges : length room.ranges.items ≡ source_count instance
  pub amounts : length room.amounts.items ≡ source_count instance
  pub heads : length room.heads.items ≡ thermal_count instance

-- the rows' items
abbrev pub rows_of : {X : Type 0} → List (Vec X Global) → List (List X)
rows_of rows = map (λ row. row.items) rows

-- the schedule of the rows
abbrev pub printed_of : Rows → Printed
printed_of rows = record {
  thermal = rows_of rows.thermal.items;
  renewable = rows_of rows.renewable.items;
  shed = rows.shed.items;
  short = rows.short.items;
  denominator = 1;
}

-- a row for each unit, with a cell for each period, and each cell is the commitment's
pub record AreCommitted (instance : Instance) (patterns : List Pattern) (printed : Printed) : Type 0 where
  pub shape : HasPeriods instance instance.periods printed
  pub cells : (g t : ℕ) → g < thermal_count instance → t < instance.periods → IsCommittedCell instance patterns g t (cell_at printed g t)

-- a cell is the commitment's, without any power
pub record IsNewCell (instance : Instance) (patterns : List Pattern) (g t : ℕ) (cell : Cell) : Type 0 where
  pub committed : IsCommittedCell instance patterns g t cell
  pub output : cell.p ≡ pos 0
  pub reserve : cell.r ≡ pos 0

-- the rows have the states and the start categories of the commitment
abbrev pub AreRowsOf : Instance → List Pattern → Rows → Type 0
AreRowsOf instance patterns rows = AreCommitted instance patterns (printed_of rows)

-- unit g's row gives nothing
pub record IsPowerless (instance : Instance) (rows : Rows) (g : ℕ) : Type 0 where
  pub output : (t : ℕ) → t < instance.periods → (cell_at (printed_of rows) g t).p ≡ pos 0
  pub reserve : (t : ℕ) → t < instance.periods → (cell_at (printed_of rows) g t).r ≡ pos 0

-- nor does any thermal unit's
abbrev pub ArePowerless : Instance → Rows → Type 0
ArePowerless instance rows = (g : ℕ) → g < thermal_count instance → IsPowerless instance rows g

-- the first obstacle of a commitment, after the periods of the schedule that were filled before it
pub record IsObstacleOf (instance : Instance) (patterns : List Pattern) (printed : Printed) (obstacle : Obstacle) : Type 0 where
  pub within : obstacle.period < instance.periods
  pub filled : (t : ℕ) → t < obstacle.period → IsFilled instance patterns printed t
  pub first : IsFirstObstacle (period_after instance patterns obstacle.period (λ g. output_before instance printed g obstacle.period)) obstacle.why

-- the schedules are the same in the first periods
pub record AreSameBelow (periods : ℕ) (old new : Printed) : Type 0 where
  pub cells : (g k : ℕ) → k < periods → cell_at new g k ≡ cell_at old g k
  pub outputs : (w k : ℕ) → k < periods → output_at new w k ≡ output_at old w k
  pub shed : (k : ℕ) → k < periods → shed_at new k ≡ shed_at old k
  pub short : (k : ℕ) → k < periods → short_at new k ≡ short_at old k

-- the first periods of a schedule, with their shape
pub record IsPrefixOf (printed : Printed) (periods : ℕ) (prefix : Printed) : Type 0 where
  pub same : AreSameBelow periods printed prefix
  pub shape : (instance : Instance) → HasPeriods instance instance.periods printed → periods ≤ instance.periods → HasPeriods instance periods prefix

-- stuck in a period for this reason, with the schedule of the periods before it
pub record IsStuckAfter (printed : Printed) (period : ℕ) (why : Why) (stuck : Stuck) : Type 0 where
  pub is_period : stuck.period ≡ period
  pub reason : stuck.why ≡ why
  pub prefix : IsPrefixOf printed period stuck.prefix
