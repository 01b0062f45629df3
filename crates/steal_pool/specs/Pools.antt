-- A pool before any call: one seat for each worker. This project's own form.
use Rattle.std.specs.Prelude.{◌≡◌, ℕ, List, length, slice_get, Some}
use Rattle.steal_pool.specs.Seats.{DequeId, SeatOf, IsFresh}

-- the seats are those of workers with these deques, in their order
abbrev pub AreFresh : List DequeId → ℕ → List SeatOf → Type 0
AreFresh deques capacity seats = (i : ℕ) (seat : SeatOf) → slice_get seats i ≡ Some seat → IsFresh deques capacity i seat

-- there are so many workers, each with a deque of its own
abbrev pub IsFreshPool : ℕ → ℕ → List SeatOf → Type 0
IsFreshPool workers capacity seats = (deques : List DequeId) × (length deques ≡ workers) × (length seats ≡ workers) × AreFresh deques capacity seats
