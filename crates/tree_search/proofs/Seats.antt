-- The seats of a new pool and the workers, as they are put together.
use Rattle.std.proofs.Common.{◌≡◌, ◌∙◌, ℕ, zero, suc, ◌+◌, ◌<◌, ◌≤◌, List, [], ◌∷◌, ◌++◌, length, drop, ap, arith, Some, All, slice_get}
use Rattle.std.proofs.lemmas.List.Elements.{All-cons, All-head, All-nil, All-tail}
use Rattle.steal_pool.specs.Seats.{SeatOf, IsFresh}
use Rattle.steal_pool.specs.Pools.{IsFreshPool}
use Rattle.steal_pool.proofs.Making.{drop_next}

-- the next seat, with what a worker's tickets need of it
pub record IsNextSeat (workers room made : ℕ) (seats behind : List SeatOf) (seat : SeatOf) : Type 0 where
  pub within : made < workers
  pub me : seat.me ≡ made
  pub others : length seat.others + 1 ≡ workers
  pub space : length seat.put + room ≤ seat.room
  pub next : drop (made + 1) seats ≡ behind

get_dropped : (seats : List SeatOf) (made : ℕ) (seat : SeatOf) (behind : List SeatOf) → drop made seats ≡ seat ∷ behind → slice_get seats made ≡ Some seat
get_dropped [] zero seat behind e = absurd (cc)
get_dropped [] (suc made) seat behind e = absurd (cc)
get_dropped (first ∷ seats) zero seat behind e = let same : first ≡ seat = cc in ap (λ (s : SeatOf). Some s) same
get_dropped (first ∷ seats) (suc made) seat behind e = get_dropped seats made seat behind e

pub seat_next : (workers room made : ℕ) (seats rest behind : List SeatOf) (seat : SeatOf) → IsFreshPool workers room seats → drop made seats ≡ rest
    → rest ≡ seat ∷ behind → IsNextSeat workers room made seats behind seat
seat_next workers room made seats rest behind seat pool left first =
    let e : drop made seats ≡ seat ∷ behind = left ∙ first in
    let next = drop_next seats made seat behind e in
    let fresh : IsFresh pool.0 room made seat = pool.3 made seat (get_dropped seats made seat behind e) in
    let put : length seat.put ≡ 0 = ap (λ (l : List ℕ). length l) fresh.put in
    record {
      within = omega (arith, next.0, pool.2);
      me = fresh.me;
      others = omega (arith, fresh.count, pool.1);
      space = omega (arith, put, fresh.room);
      next = next.1;
    }

-- the last element, and those before it
pub last_holds : {X : Type 0} (P : X → Type 0) (xs : List X) (x : X) → All P (xs ++ x ∷ []) → P x
last_holds P [] x each = All-head P x [] each
last_holds P (first ∷ xs) x each = last_holds P xs x (All-tail P first (xs ++ x ∷ []) each)

pub others_hold : {X : Type 0} (P : X → Type 0) (xs : List X) (x : X) → All P (xs ++ x ∷ []) → All P xs
others_hold P [] x each = All-nil P
others_hold P (first ∷ xs) x each =
    All-cons P first xs (All-head P first (xs ++ x ∷ []) each) (others_hold P xs x (All-tail P first (xs ++ x ∷ []) each))
