-- The two seats of a pool of two workers.
use Rattle.std.proofs.Common.{◌≡◌, ℕ, ◌+◌, List, [], ◌∷◌, ◌++◌, length, ap, ◌∙◌, arith, length-append, slice_get}
use Rattle.steal_pool.specs.Seats.{DequeId, SeatOf, IsFresh}
use Rattle.steal_pool.specs.Pools.{IsFreshPool}
use Rattle.thread_tests.specs.TwoSeats.{IsSeat}

is_seat : (deques : List DequeId) (budget worker : ℕ) (seat : SeatOf) → length deques ≡ 2 → IsFresh deques (budget + 2) worker seat → IsSeat worker budget seat
is_seat deques budget worker seat two fresh =
    let count = fresh.count in
    record { me = fresh.me; room = fresh.room; put = ap length fresh.put; others = omega arith }

pub both_seats : (budget : ℕ) (seats more rest : List SeatOf) (first second : SeatOf) → IsFreshPool 2 (budget + 2) seats
    → seats ≡ more ++ second ∷ [] → more ≡ rest ++ first ∷ [] → IsSeat 0 budget first × IsSeat 1 budget second
both_seats budget seats more [] first second pool last front =
    let both : seats ≡ first ∷ (second ∷ []) = last ∙ ap (λ l. l ++ second ∷ []) front in (
      is_seat pool.0 budget 0 first pool.1 (pool.3 0 first (ap (λ l. slice_get l 0) both)),
      is_seat pool.0 budget 1 second pool.1 (pool.3 1 second (ap (λ l. slice_get l 1) both)),
    )
both_seats budget seats more (seat ∷ rest) first second pool last front =
    let count : length seats ≡ length more + 1 = ap length last ∙ length-append more (second ∷ []) in
    let more_count : length more ≡ length (seat ∷ rest) + 1 = ap length front ∙ length-append (seat ∷ rest) (first ∷ []) in
    let two = pool.2 in
    absurd (omega arith)
