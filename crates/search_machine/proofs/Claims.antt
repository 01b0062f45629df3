-- What claims and tickets are after one more, after one that ended, and after each change of a desk.
use Rattle.std.proofs.Common.{◌≡◌, ◌≢◌, ℕ, zero, suc, ◌+◌, ◌⊎◌, cond, List, [], ◌∷◌, ◌++◌, length, set, refl, ap, sym, ◌∙◌, subst, arith, inl, inr, ⊎_elim, Option, Some, None, slice_get, slice_index_or, is_some, ◌<◌, ◌≤◌, true, false, not, ◌||◌, drop, ◌==◌, IsTrue, nat_lt, filter, count_by, get_or-set_same, get_or-set_other, length-set}
use Rattle.std.specs.List.{list_any}
use Rattle.std.proofs.lemmas.List.Sums.{sum_by_push, sum_by-set, sum_by-cons, sum_by-append, get_or-le-sum_by}
use Rattle.std.proofs.lemmas.Option.{slice_get_within, get_or_from_slice_get}
use Rattle.std.proofs.lemmas.Bool.{cases_eq, cases_Bool, eq-eqb, ne_eqb, eqb-true}
use Rattle.std.proofs.lemmas.Bool.Decides.{nat_tests}
use Rattle.branch_tree.specs.Prelude.{NumberedTree, node_count, IsOpenAt}
use Rattle.branch_tree.proofs.Changes.{get-set_other, get-append}
use Rattle.branch_tree.proofs.Subtrees.{one_here, none_here}
use Rattle.branch_tree.proofs.Grown.{open_numbered}
use Rattle.search_machine.specs.Prelude.{Holder, holder_in, IsHeldIn, WorkerState, no_desk, desk_in, Machine, IsHolding, AreHoldersApart, held_count, times_in, IsEachTicketOnce, IsOrderly, with_desk, with_tickets, with_queued, without_first, first_queued, is_in_hand, taken}
use Rattle.search_machine.specs.Orderly.{times_at}

-- ---- reading a list that was changed
-- an item of a list with one more is one of the list, or the last
pub get_push_cases : {A : Type 0} (xs : List A) (y z : A) (i : ℕ) → slice_get (xs ++ y ∷ []) i ≡ Some z
    → (slice_get xs i ≡ Some z) ⊎ ((i ≡ length xs) × (y ≡ z))
get_push_cases [] y z zero e = inr (refl, cc)
get_push_cases [] y z (suc i) e = absurd (cc)
get_push_cases (x ∷ xs) y z zero e = inl e
get_push_cases (x ∷ xs) y z (suc i) e = ⊎_elim
    (λ (l : slice_get xs i ≡ Some z). inl l)
    (λ (r : (i ≡ length xs) × (y ≡ z)). inr (ap suc r.0, r.1))
    (get_push_cases xs y z i e)

pub get_push_last : {A : Type 0} (xs : List A) (y : A) → slice_get (xs ++ y ∷ []) (length xs) ≡ Some y
get_push_last [] y = refl
get_push_last (x ∷ xs) y = get_push_last xs y

-- an item of a list of which one was set is that one, or another of the list
pub get_set_cases : {A : Type 0} (xs : List A) (k i : ℕ) (y z : A) → slice_get (set xs k y) i ≡ Some z
    → ((i ≡ k) × (y ≡ z)) ⊎ ((i ≢ k) × (slice_get xs i ≡ Some z))
get_set_cases [] k i y z e = absurd (cc)
get_set_cases (x ∷ xs) zero zero y z e = inl (refl, cc)
get_set_cases (x ∷ xs) zero (suc i) y z e = inr ((λ h. omega arith), e)
get_set_cases (x ∷ xs) (suc k) zero y z e = inr ((λ h. omega arith), e)
get_set_cases (x ∷ xs) (suc k) (suc i) y z e = ⊎_elim
    (λ (l : (i ≡ k) × (y ≡ z)). inl (ap suc l.0, l.1))
    (λ (r : (i ≢ k) × (slice_get xs i ≡ Some z)). inr ((λ h. r.0 (omega arith)), r.1))
    (get_set_cases xs k i y z e)

-- ---- who holds what
-- the unit of a claim that is held is one more than its place
pub holder_place : (claims : List (Option Holder)) (unit : ℕ) (holder : Holder) → holder_in claims unit ≡ Some holder
    → (claim : ℕ) × (unit ≡ suc claim) × (slice_get claims claim ≡ Some (Some holder))
holder_place claims zero holder e = absurd (cc)
holder_place claims (suc claim) holder e = (claim, refl, held claims claim e)
  where
    held : (xs : List (Option Holder)) (i : ℕ) → slice_index_or xs i None ≡ Some holder → slice_get xs i ≡ Some (Some holder)
    held [] i h = absurd (cc)
    held (x ∷ xs) zero h = ap (λ (y : Option Holder). Some y) h
    held (x ∷ xs) (suc i) h = held xs i h

-- ---- how many are held
pub held_push : (claims : List (Option Holder)) (holder : Holder) → held_count (claims ++ Some holder ∷ []) ≡ held_count claims + 1
held_push claims holder = sum_by_push _ claims (Some holder)

pub held_ended : (claims : List (Option Holder)) (claim : ℕ) (holder : Holder) → slice_get claims claim ≡ Some (Some holder)
    → held_count (set claims claim None) + 1 ≡ held_count claims
held_ended claims claim holder e =
    let within = slice_get_within claims claim (Some holder) e in
    let here = get_or_from_slice_get claims claim (Some holder) None e in
    let one : Option Holder → ℕ = λ x. cond (is_some x) 1 0 in
    omega (arith, sum_by-set one claims claim None None within, ap one here)

-- ---- one more claim
pub holders_push : (nodes : NumberedTree) (claims : List (Option Holder)) (holder : Holder) → AreHoldersApart nodes claims
    → IsOpenAt nodes holder.node → ¬ IsHeldIn claims holder.node → AreHoldersApart nodes (claims ++ Some holder ∷ [])
holders_push nodes claims holder apart live unheld = grind (arith, get_push_cases, apart, live, unheld)

-- ---- a claim that ended, while its leaf was replaced
-- what stands elsewhere stays
abbrev pub StaysElsewhere : NumberedTree → NumberedTree → ℕ → Type 0
StaysElsewhere old new node = (number : ℕ) (at : IsOpenAt old number) → number ≢ node → IsOpenAt new number

pub holders_ended : (old new : NumberedTree) (claims : List (Option Holder)) (claim : ℕ) (holder : Holder) → AreHoldersApart old claims
    → slice_get claims claim ≡ Some (Some holder) → StaysElsewhere old new holder.node → AreHoldersApart new (set claims claim None)
holders_ended old new claims claim holder apart e stays = grind (arith, get_set_cases, apart, e, stays)

-- whoever held another node still does
pub still_held : (claims : List (Option Holder)) (claim : ℕ) (holder : Holder) (node : ℕ) → slice_get claims claim ≡ Some (Some holder)
    → node ≢ holder.node → IsHeldIn claims node → IsHeldIn (set claims claim None) node
still_held claims claim holder node e differ held = grind (arith, get-set_other, e, differ, held)

pub was_held : (claims : List (Option Holder)) (claim : ℕ) (node : ℕ) → IsHeldIn (set claims claim None) node → IsHeldIn claims node
was_held claims claim node held = grind (arith, get_set_cases, held)

-- with one more claim, what was held still is, and nothing else but the new node
pub held_more : (claims : List (Option Holder)) (holder : Holder) (node : ℕ) → IsHeldIn claims node
    → IsHeldIn (claims ++ Some holder ∷ []) node
held_more claims holder node held = grind (arith, get-append, held)

pub held_new : (claims : List (Option Holder)) (worker node : ℕ)
    → IsHeldIn (claims ++ Some (record { worker = worker; node = node }) ∷ []) node
held_new claims worker node = record {
  claim = length claims;
  worker = worker;
  holds = get_push_last claims (Some (record { worker = worker; node = node }));
}

pub held_before : (claims : List (Option Holder)) (holder : Holder) (node : ℕ) → node ≢ holder.node
    → IsHeldIn (claims ++ Some holder ∷ []) node → IsHeldIn claims node
held_before claims holder node differ held = grind (arith, get_push_cases, differ, held)

-- ---- How often a ticket is in a hand or a queue, after each change of a desk.
-- how often the node stands in a list
abbrev pub times_among : List ℕ → ℕ → ℕ
times_among tickets node = count_by (λ ticket. ticket == node) tickets

-- one desk's change
pub times-with_desk : (desks : List WorkerState) (worker : ℕ) (change : WorkerState → WorkerState) (node : ℕ) → worker < length desks
    → times_in (with_desk desks worker change) node + times_at (desk_in desks worker) node
    ≡ times_in desks node + times_at (change (desk_in desks worker)) node
times-with_desk desks worker change node within = grind (arith, sum_by-set, within)

-- a change that keeps the tickets
pub times_kept : (desks : List WorkerState) (worker : ℕ) (change : WorkerState → WorkerState) (node : ℕ) → worker < length desks
    → times_at (change (desk_in desks worker)) node ≡ times_at (desk_in desks worker) node
    → times_in (with_desk desks worker change) node ≡ times_in desks node
times_kept desks worker change node within same = omega (arith, times-with_desk desks worker change node within)

-- tickets that come to a hand
pub times-with_tickets : (desk : WorkerState) (tickets : List ℕ) (node : ℕ)
    → times_at (with_tickets desk tickets) node ≡ times_at desk node + times_among tickets node
times-with_tickets desk tickets node = grind (arith, sum_by-append)

pub times_more : (desks : List WorkerState) (worker : ℕ) (tickets : List ℕ) (node : ℕ) → worker < length desks
    → times_in (with_desk desks worker (λ desk. with_tickets desk tickets)) node ≡ times_in desks node + times_among tickets node
times_more desks worker tickets node within =
    omega (
      arith,
      times-with_desk desks worker (λ desk. with_tickets desk tickets) node within,
      times-with_tickets (desk_in desks worker) tickets node,
    )

-- ---- from the hand to the queue
times-cons : (x : ℕ) (xs : List ℕ) (node : ℕ) → times_among (x ∷ xs) node ≡ cond (x == node) 1 0 + times_among xs node
times-cons x xs node = sum_by-cons (λ (ticket : ℕ). cond (ticket == node) 1 0) x xs

abbrev others : List ℕ → ℕ → List ℕ
others tickets gone = filter (λ ticket. not (ticket == gone)) tickets

others_gone : (x : ℕ) (xs : List ℕ) (gone : ℕ) → (x == gone) ≡ true → others (x ∷ xs) gone ≡ others xs gone
others_gone x xs gone e = ap (λ b. cond (not b) (x ∷ others xs gone) (others xs gone)) e

others_kept : (x : ℕ) (xs : List ℕ) (gone : ℕ) → (x == gone) ≡ false → others (x ∷ xs) gone ≡ x ∷ others xs gone
others_kept x xs gone e = ap (λ b. cond (not b) (x ∷ others xs gone) (others xs gone)) e

-- of the others all stay
times-others : (tickets : List ℕ) (gone node : ℕ) → node ≢ gone → times_among (others tickets gone) node ≡ times_among tickets node
times-others [] gone node differ = refl
times-others (x ∷ xs) gone node differ =
    let rest = times-others xs gone node differ in
    ⊎_elim
    (λ (e : (x == gone) ≡ true).
    let is = eqb-true x gone e in
    let other = ne_eqb x node (λ h. differ (sym h ∙ is)) in
    omega (arith, ap (λ l. times_among l node) (others_gone x xs gone e), rest, times-cons x xs node, none_here x node other))
    (λ (e : (x == gone) ≡ false).
    omega (arith, ap (λ l. times_among l node) (others_kept x xs gone e), rest, times-cons x xs node, times-cons x (others xs gone) node))
    (cases_Bool (x == gone))

times-gone : (tickets : List ℕ) (gone : ℕ) → times_among (others tickets gone) gone ≡ 0
times-gone [] gone = refl
times-gone (x ∷ xs) gone =
    let rest = times-gone xs gone in
    ⊎_elim
    (λ (e : (x == gone) ≡ true). omega (arith, ap (λ l. times_among l gone) (others_gone x xs gone e), rest))
    (λ (e : (x == gone) ≡ false).
    omega (arith, ap (λ l. times_among l gone) (others_kept x xs gone e), rest, times-cons x (others xs gone) gone, none_here x gone e))
    (cases_Bool (x == gone))

some_among : (tickets : List ℕ) (node : ℕ) → list_any (λ ticket. ticket == node) tickets ≡ true → 1 ≤ times_among tickets node
some_among [] node e = absurd (cc)
some_among (x ∷ xs) node e = ⊎_elim
    (λ (h : (x == node) ≡ true). omega (arith, times-cons x xs node, one_here x node h))
    (λ (h : (x == node) ≡ false).
    let later : list_any (λ ticket. ticket == node) xs ≡ true = sym (ap (λ b. b || list_any (λ ticket. ticket == node) xs) h) ∙ e in
    omega (arith, times-cons x xs node, some_among xs node later))
    (cases_Bool (x == node))

times-queued : (desk : WorkerState) (gone node : ℕ) → times_among desk.hand gone ≡ 1
    → times_at (with_queued desk gone) node ≡ times_at desk node
times-queued desk gone node one =
    let queue = sum_by-append (λ (ticket : ℕ). cond (ticket == node) 1 0) desk.queue (gone ∷ []) in
    let last = times-cons gone [] node in
    ⊎_elim
    (λ (e : node ≡ gone).
    let here = one_here gone node (eq-eqb gone node (sym e)) in
    let none = times-gone desk.hand gone in
    let none_now = subst (λ n. times_among (others desk.hand gone) n ≡ 0) (sym e) none in
    let one_now = subst (λ n. times_among desk.hand n ≡ 1) (sym e) one in
    omega (arith, queue, last, here, none_now, one_now))
    (λ (d : node ≡ gone → ⊥).
    omega (arith, queue, last, none_here gone node (ne_eqb gone node (λ h. d (sym h))), times-others desk.hand gone node d))
    (cases_eq node gone)

-- where each ticket is once, the one in the hand is there once
pub tickets_queued : (desks : List WorkerState) (count worker gone : ℕ) → IsEachTicketOnce desks count → worker < length desks
    → IsTrue (is_in_hand (desk_in desks worker) gone)
    → IsEachTicketOnce (with_desk desks worker (λ desk. with_queued desk gone)) count
tickets_queued desks count worker gone once within in_hand node =
    let some = some_among (desk_in desks worker).hand gone in_hand in
    let part = get_or-le-sum_by (λ desk. times_at desk gone) desks worker no_desk within in
    let most = at_most_once count gone in
    let one : times_among (desk_in desks worker).hand gone ≡ 1 = omega (arith, once gone) in
    times_kept desks worker (λ desk. with_queued desk gone) node within (times-queued (desk_in desks worker) gone node one) ∙ once node
  where
    at_most_once : (n k : ℕ) → cond (nat_lt k n) 1 0 ≤ 1
    at_most_once n k = ⊎_elim
        (λ (e : nat_lt k n ≡ true). subst (λ b. cond b 1 0 ≤ 1) (sym e) (omega arith))
        (λ (e : nat_lt k n ≡ false). subst (λ b. cond b 1 0 ≤ 1) (sym e) (omega arith))
        (cases_Bool (nat_lt k n))

-- ---- from a queue to a hand
times-first : (queue : List ℕ) (node : ℕ) → 0 < length queue
    → times_among (drop 1 queue) node + times_among (slice_index_or queue 0 0 ∷ []) node ≡ times_among queue node
times-first [] node some = absurd (omega arith)
times-first (x ∷ xs) node some = omega (arith, times-cons x xs node, times-cons x [] node)

-- what another desk's hand became leaves each queue
queue-with_tickets : (desks : List WorkerState) (worker victim : ℕ) (tickets : List ℕ) → worker < length desks
    → (desk_in (with_desk desks worker (λ desk. with_tickets desk tickets)) victim).queue ≡ (desk_in desks victim).queue
queue-with_tickets desks worker victim tickets within = grind (arith, get_or-set_same, get_or-set_other, cases_eq, within)

pub tickets_taken : (desks : List WorkerState) (count worker victim : ℕ) → IsEachTicketOnce desks count → worker < length desks → victim < length desks
    → 0 < length (desk_in desks victim).queue → IsEachTicketOnce (taken desks worker victim) count
tickets_taken desks count worker victim once within known some node =
    let first = first_queued (desk_in desks victim) ∷ [] in
    let middle = with_desk desks worker (λ desk. with_tickets desk first) in
    let new = with_tickets (desk_in desks worker) first in
    let same = queue-with_tickets desks worker victim first within in
    let more = times_more desks worker first node within in
    let less = times-with_desk middle victim without_first node (omega (arith, length-set desks worker new)) in
    let left = times-first (desk_in desks victim).queue node some in
    let queue = ap (λ q. times_among q node) same in
    let rest = ap (λ q. times_among (drop 1 q) node) same in
    let all : times_in (taken desks worker victim) node ≡ times_in desks node = omega (arith, more, less, left, queue, rest) in
    all ∙ once node

-- ---- two more nodes
two_more : (count node : ℕ) → cond (nat_lt node count) 1 0 + times_among (count ∷ suc count ∷ []) node ≡ cond (nat_lt node (count + 2)) 1 0
two_more count node = grind (arith, nat_tests, times-cons count (suc count ∷ []) node, times-cons (suc count) [] node, times-cons)

pub tickets_more : (desks : List WorkerState) (count worker : ℕ) → IsEachTicketOnce desks count → worker < length desks
    → IsEachTicketOnce (with_desk desks worker (λ desk. with_tickets desk (count ∷ suc count ∷ []))) (count + 2)
tickets_more desks count worker once within node = grind (arith, times_more, two_more, once, within, node)

pub tickets_same : (desks : List WorkerState) (count worker : ℕ) → IsEachTicketOnce desks count → worker < length desks
    → IsEachTicketOnce (with_desk desks worker (λ desk. with_tickets desk [])) count
tickets_same desks count worker once within node = grind (arith, times_more, once, within, node)

-- ---- What a claim that is held means for its node and for the room that is left.
pub record IsHoldable (m : Machine) (worker unit node : ℕ) : Type 0 where
  pub claim : ℕ
  pub unit_is : unit ≡ suc claim
  pub holds : slice_get m.claims claim ≡ Some (Some (record { worker = worker; node = node }))
  pub within : claim < length m.claims
  pub live : IsOpenAt m.tree.nodes node
  pub below : node < node_count m.tree.nodes
  pub room : node_count m.tree.nodes + 2 ≤ m.tree.room
  pub tables : length m.tables ≤ length m.claims

pub holdable : (m : Machine) (worker unit node : ℕ) → IsOrderly m → IsHolding m worker unit node → IsHoldable m worker unit node
holdable m worker unit node orderly holding =
    let place = holder_place m.claims unit (record { worker = worker; node = node }) holding in
    let live = orderly.holders.live place.0 (record { worker = worker; node = node }) place.2 in
    let some = held_ended m.claims place.0 (record { worker = worker; node = node }) place.2 in
    record {
      claim = place.0;
      unit_is = place.1;
      holds = place.2;
      within = slice_get_within m.claims place.0 (Some (record { worker = worker; node = node })) place.2;
      live = live;
      below = open_numbered m.tree.nodes node orderly.placed live;
      room = omega (arith, some, orderly.amounts.nodes, orderly.amounts.claims, orderly.amounts.room);
      tables = omega (arith, some, orderly.amounts.tables);
    }

-- one node is held by a unit
pub one_held : (m : Machine) (a b unit one other : ℕ) → IsHolding m a unit one → IsHolding m b unit other → one ≡ other
one_held m a b unit one other first second = grind (arith, first, second)
