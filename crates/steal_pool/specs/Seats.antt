-- What contracts see of a seat of the pool. This project's own form.
use Rattle.std.specs.Prelude.{◌≡◌, ℕ, ◌+◌, ◌-◌, ◌<◌, ◌⊎◌, nat_lt, true, false, if◌then◌else◌, List, [], ◌∷◌, ◌++◌, map, length, slice_index_or, slice_set, remove}
use Rattle.steal_pool.specs.Line.{Take, Log, log, take_of, WasEmpty, IsNext}

-- which deque it is
abbrev pub DequeId : Type 0
DequeId = ℕ × ℕ

-- another worker's deque; what the seat took from it; and how many of its places the seat knows to be taken
pub record TheftOf : Type 0 where
  pub deque : DequeId
  pub took : List Take
  pub known : ℕ

-- the worker's number and its own deque; how many pushes can't be refused; all nodes that it pushed, in order, and what it took
-- of them; and the deques of the other workers, in their order
pub record SeatOf : Type 0 where
  pub me : ℕ
  pub deque : DequeId
  pub room : ℕ
  pub put : List ℕ
  pub took : List Take
  pub others : List TheftOf

-- what the seat knows of its own deque
abbrev pub own_log : SeatOf → Log
own_log seat = log true seat.put seat.took

-- what it knows of another's
abbrev pub theft_log : TheftOf → Log
theft_log theft = log false [] theft.took

-- where the deque of another worker stands among those of all others
abbrev pub place_among : ℕ → ℕ → ℕ
place_among me victim = if nat_lt victim me then victim else (victim - 1)

abbrev pub no_theft : TheftOf
no_theft = record { deque = (0, 0); took = []; known = 0 }

abbrev pub theft_at : SeatOf → ℕ → TheftOf
theft_at seat place = slice_index_or seat.others place no_theft

-- a pop took a node
abbrev pub Pops : SeatOf → ℕ → SeatOf → Type 0
Pops old node new = (place : ℕ) × (new ≡ record old { took = old.took ++ take_of place node ∷ [] }) × IsNext (own_log old) place node

-- a try at another's deque took a node
abbrev pub Takes : TheftOf → ℕ → TheftOf → Type 0
Takes old node new = (place : ℕ) × (new ≡ record old { took = old.took ++ take_of place node ∷ []; known = new.known })
    × IsNext (theft_log old) place node

-- a try took nothing: the deque was empty at one moment, or more of its places are known to be taken
abbrev pub TakesNone : TheftOf → TheftOf → Type 0
TakesNone old new = (new ≡ record old { known = new.known }) × ((old.known < new.known) ⊎ WasEmpty (theft_log old))

-- of a seat nothing changed but what it knows of one other deque
abbrev pub ChangesOnly : ℕ → SeatOf → SeatOf → Type 0
ChangesOnly place old new = new ≡ record old { others = slice_set old.others place (theft_at new place) }

-- what was taken of a deque, without what is known
abbrev pub untouched : DequeId → DequeId × List Take
untouched deque = (deque, [])

abbrev pub what_taken : TheftOf → DequeId × List Take
what_taken theft = (theft.deque, theft.took)

-- the seat of the worker of that number, before any call, where the workers have these deques
pub record IsFresh (deques : List DequeId) (capacity worker : ℕ) (seat : SeatOf) : Type 0 where
  pub me : seat.me ≡ worker
  pub deque : seat.deque ≡ slice_index_or deques worker (0, 0)
  pub room : seat.room ≡ capacity
  pub put : seat.put ≡ []
  pub took : seat.took ≡ []
  pub others : map what_taken seat.others ≡ map untouched (remove deques worker)
  pub count : length seat.others + 1 ≡ length deques
