-- The seats of a pool of two workers, as the tests use them. This project's own form.
use Rattle.std.specs.Prelude.{◌≡◌, ℕ, ◌+◌, ◌≤◌, length}
use Rattle.steal_pool.specs.Seats.{SeatOf}

-- the seat of that worker, before any call
pub record IsSeat (worker budget : ℕ) (seat : SeatOf) : Type 0 where
  pub me : seat.me ≡ worker
  pub room : seat.room ≡ budget + 2
  pub put : length seat.put ≡ 0
  pub others : length seat.others ≡ 1

-- the seat after one call
pub record StaysSeat (old new : SeatOf) : Type 0 where
  pub me : new.me ≡ old.me
  pub room : new.room ≡ old.room
  pub put : length new.put ≤ length old.put + 1
  pub others : length new.others ≡ length old.others
