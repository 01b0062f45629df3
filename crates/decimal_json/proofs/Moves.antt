-- One byte more: what the machine of `specs/inside/Scan.antt` does at the bytes of an input from a place on.
use Rattle.std.proofs.Common.{◌≡◌, ℕ, ◌+◌, ◌<◌, suc, List, [], ◌∷◌, drop, length, get_or, refl, sym, ap, ◌∙◌, add-one, drop-cons, Bool, true, false, ◌==◌, ◌||◌, ◌++◌, subst, arith, append_assoc, length-append, inl, ◌⊎◌}
use Rattle.decimal_json.specs.Characters.{is_space}
use Rattle.decimal_json.specs.Value.{Frame}
use Rattle.decimal_json.specs.inside.Scan.{Spot, wanted, first_item, first_key, key_wanted, colon_wanted, ended, next, stop, fault, step, ended_step, finish, after, outcome, scan, Outcome, resumed, FailsAt, MaySpace}
use Rattle.decimal_json.specs.Grammar.{IsSpace}

-- a step at the next byte
pub stepped : (bytes : List ℕ) (at c : ℕ) (outer : List Frame) (spot : Spot) → drop at bytes ≡ c ∷ drop (at + 1) bytes
    → scan bytes at outer spot ≡ resumed bytes (at + 1) (step at outer spot c)
unfolding scan outcome
stepped bytes at c outer spot e = ap (outcome at outer spot) e ∙ ap (λ n. after (step at outer spot c) (λ o s. outcome n o s (drop (at + 1) bytes))) (sym (add-one at))

-- a byte that leads on
pub moved : (bytes : List ℕ) (at c : ℕ) (outer : List Frame) (spot : Spot) (inner : List Frame) (then : Spot) → drop at bytes ≡ c ∷ drop (at + 1) bytes
    → step at outer spot c ≡ next inner then → scan bytes at outer spot ≡ scan bytes (at + 1) inner then
moved bytes at c outer spot inner then e s = stepped bytes at c outer spot e ∙ ap (resumed bytes (at + 1)) s

-- a byte that is a fault
pub stopped : (bytes : List ℕ) (at c : ℕ) (outer : List Frame) (spot : Spot) (k kind : ℕ) → drop at bytes ≡ c ∷ drop (at + 1) bytes
    → step at outer spot c ≡ stop k kind → scan bytes at outer spot ≡ fault k kind
stopped bytes at c outer spot k kind e s = stepped bytes at c outer spot e ∙ ap (resumed bytes (at + 1)) s

-- the end of the input
pub finished : (bytes : List ℕ) (at : ℕ) (outer : List Frame) (spot : Spot) → drop at bytes ≡ []
    → scan bytes at outer spot ≡ finish at outer spot
unfolding scan outcome
finished bytes at outer spot e = ap (outcome at outer spot) e

-- where no byte passes a test, and none that fails it leads on
pub fails_there : (bytes : List ℕ) (at k kind : ℕ) (outer : List Frame) (spot : Spot) (test : ℕ → Bool) → FailsAt test bytes at → finish at outer spot ≡ fault k kind
    → ((c : ℕ) → test c ≡ false → step at outer spot c ≡ stop k kind) → scan bytes at outer spot ≡ fault k kind
unfolding scan outcome
fails_there bytes at k kind outer spot test fails ends stops = go (drop at bytes) (λ c cs e. fails c cs e) where
  go : (rest : List ℕ) → ((c : ℕ) (cs : List ℕ) → rest ≡ c ∷ cs → test c ≡ false) → outcome at outer spot rest ≡ fault k kind
  go [] same = ends
  go (c ∷ cs) same = ap (λ s. after s (λ o t. outcome (suc at) o t cs)) (stops c (same c cs refl))

-- white space leaves the spot as it is
pub spaced : (at c : ℕ) (outer : List Frame) (spot : Spot) → MaySpace spot → is_space c ≡ true → step at outer spot c ≡ next outer spot
unfolding step ended_step
spaced at c outer wanted may e = rw e refl
spaced at c outer first_item may e = rw e refl
spaced at c outer first_key may e = rw e refl
spaced at c outer (key_wanted ms) may e = rw e refl
spaced at c outer (colon_wanted ms k) may e = rw e refl
spaced at c outer (ended v) may e = rw e refl
spaced at c outer _ may e = absurd may

-- the byte at a place, and what follows it
pub byte_and_rest : (bytes : List ℕ) (at : ℕ) → at < length bytes → drop at bytes ≡ get_or bytes at 0 ∷ drop (at + 1) bytes
byte_and_rest bytes at h = rw (add-one, drop-cons bytes at 0) refl

pub past_space : (bytes : List ℕ) (at : ℕ) (outer : List Frame) (spot : Spot) → at < length bytes → is_space (get_or bytes at 0) ≡ true → MaySpace spot
    → scan bytes at outer spot ≡ scan bytes (at + 1) outer spot
past_space bytes at outer spot h e may = moved bytes at (get_or bytes at 0) outer spot outer spot (byte_and_rest bytes at h) (spaced at (get_or bytes at 0) outer spot may e)

-- two spots at which each byte, and the end, do the same
pub same_scan : (bytes : List ℕ) (at : ℕ) (outer : List Frame) (spot other : Spot)
    → ((c : ℕ) (cs : List ℕ) → drop at bytes ≡ c ∷ cs → step at outer spot c ≡ step at outer other c) → finish at outer spot ≡ finish at outer other
    → scan bytes at outer spot ≡ scan bytes at outer other
unfolding scan outcome
same_scan bytes at outer spot other each last = go (drop at bytes) (λ c cs e. each c cs e) where
  go : (rest : List ℕ) → ((c : ℕ) (cs : List ℕ) → rest ≡ c ∷ cs → step at outer spot c ≡ step at outer other c) → outcome at outer spot rest ≡ outcome at outer other rest
  go [] same = last
  go (c ∷ cs) same = ap (λ s. after s (λ o t. outcome (suc at) o t cs)) (same c cs refl)

-- ---- What the machine does at bytes of the grammar, whatever follows them.
-- These bytes lead from a spot to another, whatever follows.
abbrev pub Moves : ℕ → List Frame → Spot → List ℕ → List Frame → Spot → Type 0
Moves at outer spot bs o s = (rest : List ℕ) → outcome at outer spot (bs ++ rest) ≡ outcome (at + length bs) o s rest

pub placed_at : (i j : ℕ) (outer : List Frame) (spot : Spot) (rest : List ℕ) → i ≡ j → outcome i outer spot rest ≡ outcome j outer spot rest
placed_at i j outer spot rest e = ap (λ k. outcome k outer spot rest) e

pub moves_none : (at : ℕ) (outer : List Frame) (spot : Spot) → Moves at outer spot [] outer spot
moves_none at outer spot = λ rest. placed_at at (at + 0) outer spot rest (omega arith)

pub moves_byte : (at c : ℕ) (outer : List Frame) (spot : Spot) (o : List Frame) (s : Spot) → step at outer spot c ≡ next o s → Moves at outer spot (c ∷ []) o s
unfolding outcome
moves_byte at c outer spot o s e = λ rest. ap (λ st. after st (λ o s. outcome (suc at) o s rest)) e ∙ placed_at (suc at) (at + 1) o s rest (omega arith)

pub moves_then : (at : ℕ) (outer : List Frame) (spot : Spot) (xs : List ℕ) (o : List Frame) (s : Spot) (ys : List ℕ) (p : List Frame) (t : Spot)
    → Moves at outer spot xs o s → Moves (at + length xs) o s ys p t → Moves at outer spot (xs ++ ys) p t
moves_then at outer spot xs o s ys p t m n = grind (arith, append_assoc, placed_at, length-append, m, n)

pub moves_on : (at c : ℕ) (outer : List Frame) (spot : Spot) (o : List Frame) (s : Spot) (xs : List ℕ) (p : List Frame) (t : Spot)
    → step at outer spot c ≡ next o s → Moves (at + 1) o s xs p t → Moves at outer spot (c ∷ xs) p t
moves_on at c outer spot o s xs p t e m = moves_then at outer spot (c ∷ []) o s xs p t (moves_byte at c outer spot o s e) m

pub space_moves : (at : ℕ) (outer : List Frame) (spot : Spot) (ws : List ℕ) → IsSpace ws → MaySpace spot → Moves at outer spot ws outer spot
space_moves at outer spot [] space may = moves_none at outer spot
space_moves at outer spot (w ∷ ws) space may = moves_on at w outer spot outer spot ws outer spot (spaced at w outer spot may space.0) (space_moves (at + 1) outer spot ws space.1 may)

-- With limits, these bytes lead from a spot to another; without, a limit may be broken on the way.
pub record Refuses (limited : Bool) (o : Outcome) : Type 0 where
  pub place : ℕ
  pub kind : ℕ
  pub is : o ≡ fault place kind
  pub later : 2 < kind
  pub limits : limited ≡ true → ⊥

abbrev pub Arrives : Bool → ℕ → List Frame → Spot → List ℕ → List Frame → Spot → List ℕ → Type 0
Arrives limited at outer spot bs o s rest = (outcome at outer spot (bs ++ rest) ≡ outcome (at + length bs) o s rest) ⊎ Refuses limited (outcome at outer spot (bs ++ rest))

pub refuses_along : (limited : Bool) (o p : Outcome) → o ≡ p → Refuses limited p → Refuses limited o
refuses_along limited o p e r = subst (λ (x : Outcome). Refuses limited x) (sym e) r

pub arrives_then : (limited : Bool) (at : ℕ) (outer : List Frame) (spot : Spot) (xs : List ℕ) (o : List Frame) (s : Spot) (ys : List ℕ) (p : List Frame) (t : Spot) (rest : List ℕ)
    → Arrives limited at outer spot xs o s (ys ++ rest) → Arrives limited (at + length xs) o s ys p t rest → Arrives limited at outer spot (xs ++ ys) p t rest
arrives_then limited at outer spot xs o s ys p t rest m n = grind (arith, append_assoc, placed_at, length-append, refuses_along, m, n)

pub arrives_by : (limited : Bool) (at : ℕ) (outer : List Frame) (spot : Spot) (bs : List ℕ) (o : List Frame) (s : Spot) (rest : List ℕ) → Moves at outer spot bs o s
    → Arrives limited at outer spot bs o s rest
arrives_by limited at outer spot bs o s rest m = inl (m rest)

-- what may stand behind a value
abbrev pub ends_value : ℕ → Bool
ends_value c = is_space c || ((c == 44) || ((c == 93) || (c == 125)))

abbrev pub Delimits : List ℕ → Type 0
Delimits [] = Unit {0}
Delimits (c ∷ cs) = ends_value c ≡ true

pub delimiter_is : (c : ℕ) (P : ℕ → Type 0) → ends_value c ≡ true → P 32 → P 9 → P 10 → P 13 → P 44 → P 93 → P 125 → P c
delimiter_is c P e space tab line return comma bracket brace = grind (arith, e, space, tab, line, return, comma, bracket, brace)
