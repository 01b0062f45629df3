-- What a step tells of a whole seat.
use Rattle.std.proofs.Common.{◌≡◌, ◌≢◌, ℕ, zero, suc, ◌<◌, ◌≤◌, List, [], ◌∷◌, length, get_or, set, Option, Some, None, refl, ap, ◌∙◌, arith, IfSome, MatchOption, get_or-set_same}
use Rattle.std.proofs.lemmas.Bool.Decides.{nat_tests}
use Rattle.steal_pool.specs.Line.{Log, takes}
use Rattle.steal_pool.specs.Seats.{TheftOf, SeatOf, own_log, place_among, no_theft, theft_at, Pops}

-- another worker's deque stands among those of the others
pub place_within : (me victim n : ℕ) → victim ≤ n → victim ≢ me → me ≤ n → place_among me victim < n
place_within me victim n fits apart mine = grind (arith, nat_tests)

-- the same of a seat
pub seat_place_within : (before old : SeatOf) (victim place : ℕ) → before ≡ old → victim ≤ length old.others → victim ≢ old.me
    → before.me ≤ length before.others → place ≡ place_among before.me victim → place < length before.others
seat_place_within before old victim place is fits apart mine same = grind (arith, is, fits, apart, mine, same)

-- an element that is there doesn't hang on the default
any_default : (thefts : List TheftOf) (place : ℕ) (a b : TheftOf) → place < length thefts → get_or thefts place a ≡ get_or thefts place b
any_default [] place a b within = absurd (omega arith)
any_default (t ∷ thefts) zero a b within = refl
any_default (t ∷ thefts) (suc place) a b within = any_default thefts place a b (omega arith)

-- what a try at another's deque tells holds of the deque at its place
pub theft_tells : (P : TheftOf → TheftOf → Type 0) (thefts : List TheftOf) (place place' : ℕ) (old new : TheftOf) (seat : SeatOf)
    → place < length thefts → place ≡ place' → thefts ≡ seat.others → old ≡ get_or thefts place old → P old new
    → P (theft_at seat place') (get_or (set thefts place new) place' no_theft)
theft_tells P thefts place place' old new seat within same is value told = grind (arith, any_default, get_or-set_same, within, same, is, value, told)

pub same_seat : (a b : SeatOf) → a.me ≡ b.me → a.deque ≡ b.deque → a.room ≡ b.room → a.put ≡ b.put → a.took ≡ b.took → a.others ≡ b.others → a ≡ b
same_seat a b me deque room put took others = grind arith

-- a pop of the deque is one of the seat
pub pop_tells : (result : Option ℕ) (none : Type 0) (v w : Log) (old new : SeatOf) → MatchOption result none (λ node. takes v (node ∷ []) w) → v ≡ own_log old
    → new ≡ record old { put = w.put; took = w.took } → IfSome result (λ node. Pops old node new)
pop_tells None none v w old new told is changed = tt
pop_tells (Some node) none v w old new told is changed = grind (arith, told, is, changed)

-- a seat whose own deque alone has changed
pub popped_seat : (before after old : SeatOf) → before ≡ old → after ≡ record before { put = after.put; took = after.took }
    → after ≡ record old { put = after.put; took = after.took }
popped_seat before after old was changed = changed ∙ ap (λ (s : SeatOf). record s { put = after.put; took = after.took }) was
