-- The periods so far are filled.
use Rattle.dispatch_repair.specs.Prelude.{printed_of, IsRoomOf}
use Rattle.dispatch_repair.proofs.Periods.{AreFilledBelow}
use Rattle.dispatch_repair.proofs.schedule.dispatch_rows.Given as goal

abbrev pub invariant-loop-t : goal.invariant-loop-t
invariant-loop-t l = record {
  room : IsRoomOf l.instance l.room;
  filled : AreFilledBelow l.instance l.patterns l.t (printed_of l.rows) l.room.amounts.items;
}
