-- The same event at two states that differ in the numbers of units alone: where it is legal and true at one, it is so at the other, and
-- it leaves the same.
use Rattle.std.proofs.Common.{arith, ◌≡◌, ◌≢◌, ℕ, ◌-◌, ◌<◌, Bool, true, false, cond, All, List, [], ◌∷◌, length, map, refl, ap, sym, ◌∙◌, subst, Option, Some, None, slice_get, slice_set, ◌==◌}
use Rattle.std.proofs.lemmas.List.{map-append, length-map, nil_from_length}
use Rattle.std.proofs.lemmas.List.Elements.{All-map}
use Rattle.search_machine.specs.Prelude.{Machine, holder_in, holder_of, IsHolding, entries_of, IsMoveLegal, tickets_of, IsTrueEvent, AnyCost, IsLegalBy, committed, after, with_desk, with_tickets}
use Rattle.branch_tree.specs.declared.found.Entry.{Entry}
use Rattle.dual_model.specs.declared.table.Table.{Table}
use Rattle.search_machine.specs.declared.holder.Holder.{Holder}
use Rattle.search_machine.specs.declared.desk.WorkerState.{WorkerState}
use Rattle.search_machine.specs.declared.event.Move.TheVariants.{Again, Prune}
use Rattle.search_machine.specs.declared.event.Move.{Move}
use Rattle.branch_tree.specs.declared.found.Outcome.{Outcome}
use Rattle.uc_model.specs.declared.instance.Instance.{Instance}
use Rattle.search_machine.specs.declared.event.Event.TheVariants as event
use Rattle.search_machine.proofs.Claims.{one_held}
use Rattle.book.specs.Prelude.{with_unit}

-- the state with other claims and desks, and with its log's units renamed
abbrev pub renamed : (ℕ → ℕ) → List (Option Holder) → List WorkerState → Machine → Machine
renamed f claims desks m = record m { claims = claims; log = map (with_unit f) m.log; desks = desks }

-- who holds the unit still holds it by its new name
abbrev pub StillHolds : (ℕ → ℕ) → List (Option Holder) → Machine → ℕ → Type 0
StillHolds f claims m unit = (holder : Holder) → holder_of m unit ≡ Some holder → holder_in claims (f unit) ≡ Some holder

-- ---- the entries of a node
map_cond : {A B : Type 0} (g : A → B) (b : Bool) (x : A) (xs : List A) → cond b (g x ∷ map g xs) (map g xs) ≡ map g (cond b (x ∷ xs) xs)
map_cond g true x xs = refl
map_cond g false x xs = refl

pub entries_renamed : (f : ℕ → ℕ) (log : List Entry) (node : ℕ) → entries_of (map (with_unit f) log) node ≡ map (with_unit f) (entries_of log node)
entries_renamed f [] node = refl
entries_renamed f (entry ∷ log) node =
    ap (λ rest. cond (entry.node == node) (with_unit f entry ∷ rest) rest) (entries_renamed f log node)
    ∙ map_cond (with_unit f) (entry.node == node) entry (entries_of log node)

count_renamed : (f : ℕ → ℕ) (log : List Entry) (node : ℕ) → length (entries_of (map (with_unit f) log) node) ≡ length (entries_of log node)
count_renamed f log node = ap length (entries_renamed f log node) ∙ length-map (entries_of log node) (with_unit f)

none_renamed : (f : ℕ → ℕ) (log : List Entry) (node : ℕ) → entries_of (map (with_unit f) log) node ≡ [] → entries_of log node ≡ []
none_renamed f log node none = nil_from_length (entries_of log node) (sym (count_renamed f log node) ∙ ap length none)

-- ---- a commit
move_renamed : (f : ℕ → ℕ) (claims : List (Option Holder)) (desks : List WorkerState) (m : Machine) (worker node : ℕ) (table : Table) (exact : Bool)
    (outcome : Outcome) (action : Move) → IsMoveLegal (AnyCost m worker) m node table exact outcome action
    → IsMoveLegal (AnyCost (renamed f claims desks m) worker) (renamed f claims desks m) node table exact outcome action
move_renamed f claims desks m worker node table exact outcome Again legal = grind (arith, count_renamed, Again, legal)
move_renamed f claims desks m worker node table exact outcome (Prune seen) legal = grind (arith, seen, legal)
move_renamed f claims desks m worker node table exact outcome _ legal = legal

pub legal_renamed : (f : ℕ → ℕ) (claims : List (Option Holder)) (desks : List WorkerState) (m : Machine) (worker unit : ℕ) (table : Table)
    (exact : Bool) (outcome : Outcome) (action : Move) → length m.desks ≡ length desks → StillHolds f claims m unit
    → IsLegalBy AnyCost m (event.Commit worker unit table exact outcome action)
    → IsLegalBy AnyCost (renamed f claims desks m) (event.Commit worker (f unit) table exact outcome action)
legal_renamed f claims desks m worker unit table exact outcome action same held legal = (
  subst (λ n. worker < n) same legal.0,
  record {
    node = legal.1.node;
    holds = held _ legal.1.holds;
    fresh = subst (All (λ (entry : Entry). entry.exact ≡ exact → slice_get m.tables entry.table ≢ Some table))
        (sym (entries_renamed f m.log legal.1.node))
        (All-map (λ (entry : Entry). entry.exact ≡ exact → slice_get m.tables entry.table ≢ Some table) (with_unit f)
        (entries_of m.log legal.1.node) legal.1.fresh);
    first = λ none. legal.1.first (none_renamed f m.log legal.1.node none);
    legal = move_renamed f claims desks m worker legal.1.node table exact outcome action legal.1.legal;
  },
)

pub true_renamed : (instance : Instance) (f : ℕ → ℕ) (claims : List (Option Holder)) (desks : List WorkerState) (m : Machine) (worker unit : ℕ)
    (table : Table) (exact : Bool) (outcome : Outcome) (action : Move) → StillHolds f claims m unit
    → IsLegalBy AnyCost m (event.Commit worker unit table exact outcome action)
    → IsTrueEvent instance m (event.Commit worker unit table exact outcome action)
    → IsTrueEvent instance (renamed f claims desks m) (event.Commit worker (f unit) table exact outcome action)
true_renamed instance f claims desks m worker unit table exact outcome action held legal told number node holding is_node =
    let own = legal.1.node in
    let one = one_held (renamed f claims desks m) worker worker (f unit) own number (held (record { worker = worker; node = own }) legal.1.holds) holding in
    told number node (subst (IsHolding m worker unit) one legal.1.holds) is_node

-- what the commit leaves, where this holder has the unit
pub after_commit : (m : Machine) (worker unit node : ℕ) (table : Table) (exact : Bool) (outcome : Outcome) (action : Move)
    → IsHolding m worker unit node
    → after m (event.Commit worker unit table exact outcome action) ≡ committed m worker unit node table exact outcome action
after_commit m worker unit node table exact outcome action holds = grind (arith, holds)

pub committed_renamed : (f : ℕ → ℕ) (claims : List (Option Holder)) (desks : List WorkerState) (m : Machine) (worker unit node : ℕ) (table : Table)
    (exact : Bool) (outcome : Outcome) (action : Move)
    → committed (renamed f claims desks m) worker (f unit) node table exact outcome action
    ≡ renamed f (slice_set claims (f unit - 1) None) (with_desk desks worker (λ desk. with_tickets desk (tickets_of m.tree action)))
    (committed m worker unit node table exact outcome action)
committed_renamed f claims desks m worker unit node table exact outcome action = grind (arith, map-append)
