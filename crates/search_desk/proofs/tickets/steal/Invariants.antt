use Rattle.std.proofs.Common.{◌≡◌, ◌≤◌, length}
use Rattle.search_desk.proofs.tickets.steal.Given as goal

abbrev pub invariant-loop-step : goal.invariant-loop-step
invariant-loop-step l = (l.seat.me ≡ l.fn.seat.me) × (length l.seat.others ≡ length l.fn.seat.others) × (l.seat.put ≡ l.fn.seat.put)
    × (l.seat.room ≡ l.fn.seat.room) × (1 ≤ l.step)
