-- The words that clauses, specifications and proofs cite, passed on from one place. Declares nothing.
pub use Rattle.roll.specs.Kept.{IsKept, ObeysFirst, Printed, PrintedObeys}
pub use Rattle.roll.specs.Stitched.{IsContinuation, IsStitched, SameDispatch}
pub use Rattle.roll.specs.Left.{Carried, CarriedUnit, Cell, HasLasted, HasStates, Instance, IsCarried, IsLawfulState, IsLeft, IsLeftBy, Printed, Thermal, initial_state, is_too_high_to_stop, state_of, time_off_so_far, time_on_left, time_on_so_far}
pub use Rattle.roll.specs.NextWindow.{IsNextWindow, IsWindow, continued}
pub use Rattle.roll.specs.FirstPeriods.{Instance, first_limits, first_periods}
pub use Rattle.roll.specs.Rolling.{AreAllRolled, AreRolled, Found, Instance, IsNextPlace, IsRolledBy, IsRolledSoFar, IsRolledWindow, IsShownFrom, IsStoppedRoll, IsWholeRoll, Place, Printed, pace, periods_before, status_of}
