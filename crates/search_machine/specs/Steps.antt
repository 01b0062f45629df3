-- The search machine: its events, where each is legal, and the state after it. This project's own form of branch and bound by
-- several workers; one event is one atomic step of one worker.
use Rattle.std.specs.Prelude.{◌≡◌, ◌≢◌, ℕ, ◌-◌, ◌<◌, ◌==◌, not, Bool, IsTrue, All, List, [], ◌∷◌, ◌++◌, ℤ, Option, Some, None, filter, length, slice_get, slice_set, slice_index_or, drop}
use Rattle.std.specs.List.{list_any}
use Rattle.branch_tree.specs.Prelude.{lesser_bound}
pub use Rattle.branch_tree.specs.declared.found.Outcome.{Outcome}
pub use Rattle.search_machine.specs.declared.event.Event.{Event}
pub use Rattle.search_machine.specs.declared.event.Event.TheVariants.{Claim, Commit, Publish, Look, Push, Pop, Steal}
use Rattle.search_machine.specs.Machine.{Entry, Table, Holder, WorkerState, Machine, IsWorker, desk_in, desk_of, holder_of, IsHolding, IsOpen, entries_of, stored_at}
use Rattle.search_machine.specs.Moves.{Move, kept, tree_after, tickets_of, HasFreeCell, IsMoveLegal}

-- ---- where an event is legal
-- a claim is left, and the node is open
pub record IsClaimable (m : Machine) (node : ℕ) : Type 0 where
  pub left : length m.claims < m.budget
  pub open_node : IsOpen m node

-- the entry isn't at the table with a value of this kind
abbrev pub IsElsewhere : List Table → Table → Bool → Entry → Type 0
IsElsewhere tables table exact entry = entry.exact ≡ exact → slice_get tables entry.table ≢ Some table

-- none of the entries is
abbrev pub IsFresh : Machine → List Entry → Table → Bool → Type 0
IsFresh m entries table exact = All (IsElsewhere m.tables table exact) entries

-- the table is the one that the node stores
abbrev pub IsStoredTable : Machine → ℕ → Table → Type 0
IsStoredTable m node table = slice_get m.tables (stored_at m.tree node).table ≡ Some table

-- the worker holds the unit, and by it a node; no entry of this node is at the table with a value of this kind; at the first one of a
-- node that isn't the root, while a cell is undecided there, the table is the stored one; and the move's condition holds, by the costs
-- that may be pruned by
pub record IsCommittable (IsSeen : ℤ → Type 0) (m : Machine) (worker unit : ℕ) (table : Table) (exact : Bool) (outcome : Outcome) (action : Move)
    : Type 0 where
  pub node : ℕ
  pub holds : IsHolding m worker unit node
  pub fresh : IsFresh m (entries_of m.log node) table exact
  pub first : entries_of m.log node ≡ [] → node ≢ 0 → HasFreeCell m.tree node → IsStoredTable m node table
  pub legal : IsMoveLegal IsSeen m node table exact outcome action

abbrev pub is_in_hand : WorkerState → ℕ → Bool
is_in_hand desk node = list_any (λ ticket. ticket == node) desk.hand

-- where an event is legal, by the costs that each worker may prune by
abbrev pub IsLegalBy : (Machine → ℕ → ℤ → Type 0) → Machine → Event → Type 0
IsLegalBy looked m (Claim worker node) = IsWorker m worker × IsClaimable m node
IsLegalBy looked m (Commit worker unit table exact outcome action) =
    IsWorker m worker × IsCommittable (looked m worker) m worker unit table exact outcome action
IsLegalBy looked m (Publish worker cost) = IsWorker m worker
IsLegalBy looked m (Look worker) = IsWorker m worker
IsLegalBy looked m (Push worker node) = IsWorker m worker × IsTrue (is_in_hand (desk_of m worker) node)
IsLegalBy looked m (Pop worker) = IsWorker m worker × (0 < length (desk_of m worker).queue)
IsLegalBy looked m (Steal worker victim) = IsWorker m worker × IsWorker m victim × (0 < length (desk_of m victim).queue)

-- the worker has seen the cost
abbrev pub HasSeen : Machine → ℕ → ℤ → Type 0
HasSeen m worker seen = (desk_of m worker).seen ≡ Some seen

-- a worker prunes by the cost that it has seen
abbrev pub IsLegal : Machine → Event → Type 0
IsLegal m event = IsLegalBy HasSeen m event

-- any cost at all: of a Prune nothing is asked but its number test
abbrev pub AnyCost : Machine → ℕ → ℤ → Type 0
AnyCost m worker seen = Unit {0}

-- ---- what a worker's desk becomes
-- the tickets come to its hand
abbrev pub with_tickets : WorkerState → List ℕ → WorkerState
with_tickets desk tickets = record desk { hand = desk.hand ++ tickets }

-- the ticket moves from the hand to the back of the queue
abbrev pub with_queued : WorkerState → ℕ → WorkerState
with_queued desk node =
    record desk { hand = filter (λ ticket. not (ticket == node)) desk.hand; queue = desk.queue ++ node ∷ [] }

-- the first ticket leaves the queue
abbrev pub without_first : WorkerState → WorkerState
without_first desk = record desk { queue = drop 1 desk.queue }

abbrev pub first_queued : WorkerState → ℕ
first_queued desk = slice_index_or desk.queue 0 0

-- one worker's desk becomes another
abbrev pub with_desk : List WorkerState → ℕ → (WorkerState → WorkerState) → List WorkerState
with_desk desks worker change = slice_set desks worker (change (desk_in desks worker))

-- ---- the state after an event
-- the evaluation is committed
abbrev pub committed : Machine → ℕ → ℕ → ℕ → Table → Bool → Outcome → Move → Machine
committed m worker unit node table exact outcome action = record m {
  tree = tree_after m.tree node (kept m node table exact outcome) (length m.tables) exact outcome action;
  tables = m.tables ++ table ∷ [];
  claims = slice_set m.claims (unit - 1) None;
  log = m.log ++ (record { unit = unit; worker = worker; node = node; table = length m.tables; exact = exact; outcome = outcome }) ∷ [];
  desks = with_desk m.desks worker (λ desk. with_tickets desk (tickets_of m.tree action));
}

abbrev pub committed_by : Machine → ℕ → ℕ → Table → Bool → Outcome → Move → Option Holder → Machine
committed_by m worker unit table exact outcome action None = m
committed_by m worker unit table exact outcome action (Some holder) = committed m worker unit holder.node table exact outcome action

-- the victim's first ticket comes to the worker's hand
abbrev pub taken : List WorkerState → ℕ → ℕ → List WorkerState
taken desks worker victim =
    with_desk (with_desk desks worker (λ desk. with_tickets desk (first_queued (desk_in desks victim) ∷ []))) victim without_first

abbrev pub after : Machine → Event → Machine
after m (Claim worker node) = record m { claims = m.claims ++ (Some (record { worker = worker; node = node })) ∷ [] }
after m (Commit worker unit table exact outcome action) = committed_by m worker unit table exact outcome action (holder_of m unit)
after m (Publish worker cost) = record m {
  best = lesser_bound m.best (Some cost);
  desks = with_desk m.desks worker (λ desk. record desk { seen = lesser_bound desk.seen (Some cost) });
}
after m (Look worker) = record m { desks = with_desk m.desks worker (λ desk. record desk { seen = m.best }) }
after m (Push worker node) = record m { desks = with_desk m.desks worker (λ desk. with_queued desk node) }
after m (Pop worker) = record m { desks = taken m.desks worker worker }
after m (Steal worker victim) = record m { desks = taken m.desks worker victim }
