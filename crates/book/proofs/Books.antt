-- What the fields of a book keep after each call.
use Rattle.std.proofs.Common.{◌≡◌, ◌≢◌, ℕ, suc, ◌+◌, ◌-◌, ◌*◌, ◌<◌, ◌≤◌, Bool, List, [], ◌∷◌, length, map, refl, ap, sym, ◌∙◌, subst, arith, Option, Some, None, length-append, length-set, pos, get_or}
use Rattle.std.proofs.lemmas.List.{length-map, get_or-map}
use Rattle.std.proofs.lemmas.Option.{slice_get_within}
use Rattle.uc_model.specs.declared.instance.Instance.{Instance}
use Rattle.dual_model.specs.declared.node.Node.{Node}
use Rattle.dual_model.specs.declared.table.Table.{Table}
use Rattle.std.proofs.lemmas.Bool.{cases_lt}
use Rattle.branch_tree.specs.Prelude.{NumberedTree, IsNumbered, spot_at, node_count, IsNodeAt, StoredHolds, TreeView, IsOpenAt, IsTrueEntry, AreApart, IsTrueLog}
use Rattle.branch_tree.specs.declared.tree.Spot.{Spot}
use Rattle.branch_tree.proofs.Changes.{from_some}
use Rattle.branch_tree.proofs.Subtrees.{part_counted}
use Rattle.branch_tree.specs.declared.found.Entry.{Entry}
use Rattle.branch_tree.specs.declared.found.Outcome.{Outcome}
use Rattle.branch_tree.specs.declared.tree.Leaf.TheVariants as leaf
use Rattle.search_machine.specs.Prelude.{Machine, IsHeldIn, IsLive, IsOpen, IsHolding, spot_stored, stored_at, kept, children_by, tickets_of, IsOrderly, IsTrueOutcome, IsTrueEvent, IsTrueStart, TreeHoldsAt, TreeRunsHold, AnyCost, IsLegalBy}
use Rattle.search_machine.specs.declared.holder.Holder.{Holder}
use Rattle.search_machine.specs.declared.stored.Stored.{Stored}
use Rattle.std.specs.Option.{IfSome}
use Rattle.branch_tree.specs.declared.tree.Spot.TheVariants as spot
use Rattle.search_machine.specs.declared.event.Move.{Move}
use Rattle.search_machine.specs.declared.event.Move.TheVariants.{Again}
use Rattle.search_machine.specs.declared.event.Event.TheVariants as event
use Rattle.search_machine.proofs.Claims.{IsHoldable, holdable, holder_place}
use Rattle.search_machine.proofs.Growth.{tree_grows, leaf_part, holds_of_leaf}
use Rattle.search_machine.proofs.OrderlySteps.{free_for, sound_of}
use Rattle.book.specs.Prelude.{BookView, state_of, claimed, committed, given_back, MayBe, Claim, Status, Committed, GivenBack, holder_by, holders, claim_of, ended, Opening, IsTrueOpening, start_by, with_unit, number_of, replay, replayed, IsReplayed, IsHeldOnce, IsRunning}
use Rattle.book.specs.BookView.{opened}
use Rattle.book.specs.inside.Chains.{raised}
use Rattle.book.specs.inside.Kept.{Rooms, IsKept}
use Rattle.book.proofs.Scales.{scales_raised}
use Rattle.std.specs.Int.{int_max}
use Rattle.std.proofs.lemmas.List.Elements.{All-nil}
use Rattle.book.proofs.Noted.{once_none, once_push, once_ended, holders_push}
use Rattle.book.proofs.Steps.{held_still, opened_replayed, claimed_replayed, committed_replayed, abandoned_replayed}
use Rattle.book.proofs.Units.{held_part, holders_after}

-- ---- the replay is a run, so all that such runs keep holds
start_is : (opening : Opening) → IsTrueOpening opening → IsTrueStart opening.instance (start_by opening)
start_is opening begun = record {
  workers = 256;
  budget = opening.budget;
  gap = opening.gap;
  table = opening.table;
  value = opening.value;
  is_start = refl;
  small = begun.budget;
  whole = begun.gap;
  lawful = begun.table;
  scale = begun.scale;
  bound = begun.bound;
}

pub run_holds : TreeRunsHold → (opening : Opening) (book : BookView) → IsTrueOpening opening → (is : IsReplayed opening book)
    → TreeHoldsAt opening.instance (start_by opening) (replayed book is.desks) × IsOrderly (replayed book is.desks)
run_holds law opening book begun is =
    law opening.instance (start_by opening) (replayed book is.desks) begun.instance
    (record { events = replay book; is_start = start_is opening begun; run = is.run; is = is.gives })

-- what is held is an open leaf, and there is room for its commit
pub held_holds : TreeRunsHold → (opening : Opening) (book : BookView) (rooms : Rooms) (worker unit node : ℕ) → (kept : IsKept opening book rooms)
    → IsHolding (state_of book) worker unit node → IsHoldable (replayed book kept.replayed.desks) worker (number_of book.claims unit) node
held_holds law opening book rooms worker unit node kept holds =
    holdable (replayed book kept.replayed.desks) worker (number_of book.claims unit) node
    (run_holds law opening book kept.begun kept.replayed).1
    (held_still book unit (record { worker = worker; node = node }) holds)

-- what stands at a number is a node
pub spot_below : (tree : NumberedTree) (wanted : ℕ) (s : Spot) → IsNumbered tree → spot_at tree wanted ≡ Some s → wanted < node_count tree
spot_below tree wanted s numbered e = grind (arith, from_some, part_counted, cases_lt, numbered, e)

-- ---- the log with its own units
log_true : (instance : Instance) (tree : TreeView) (tables : List Table) (f : ℕ → ℕ) (log : List Entry)
    → IsTrueLog instance tree tables (map (with_unit f) log) → IsTrueLog instance tree tables log
log_true instance tree tables f log is = record {
  entries = λ k d within.
      let own = subst (IsTrueEntry instance tree tables) (get_or-map (with_unit f) log k d (with_unit f d) within)
      (is.entries k (with_unit f d) (omega (arith, within, length-map log (with_unit f)))) in
      record {
        node = own.node;
        is_node = own.is_node;
        table = own.table;
        is_table = own.is_table;
        lawful = own.lawful;
        outcome = own.outcome;
      };
  apart = λ i j d less within.
      let size = length-map log (with_unit f) in
      let first = get_or-map (with_unit f) log i d (with_unit f d) (omega (arith, less, within)) in
      let second = get_or-map (with_unit f) log j d (with_unit f d) within in
      let own = subst (λ (pair : Entry × Entry). AreApart tables pair.0 pair.1) (λ k. (first k, second k))
      (is.apart i j (with_unit f d) less (omega (arith, within, size))) in
      record { unit = λ e. own.unit (ap f e); pair = own.pair };
}

pub kept_runs : TreeRunsHold → (opening : Opening) (book : BookView) (rooms : Rooms) → IsKept opening book rooms → IsRunning opening book
kept_runs law opening book rooms kept =
    let holds = run_holds law opening book kept.begun kept.replayed in
    record {
      replays = kept.replayed;
      log = log_true opening.instance book.tree book.tables (number_of book.claims) book.log holds.0.log;
      budget = kept.budget;
      gap = kept.gap;
      few = kept.few;
      once = kept.once;
      tree = holds.0;
    }

-- ---- the start
pub kept_start : (opening : Opening) (rooms : Rooms) → IsTrueOpening opening → rooms.count ≡ 1 → rooms.tables ≡ suc (suc opening.budget)
    → rooms.log ≡ opening.budget → rooms.claims ≡ opening.budget → rooms.log_nodes ≡ 2 * opening.budget + 1
    → rooms.claims_nodes ≡ 2 * opening.budget + 1 → length rooms.greatest ≡ rooms.log_nodes → IsKept opening (opened opening) rooms
kept_start opening rooms begun count tables log claims log_nodes claims_nodes greatest = grind (arith, opened_replayed, once_none, All-nil, begun)

-- ---- a claim
pub kept_claimed : (opening : Opening) (book : BookView) (rooms : Rooms) (worker node : ℕ) → IsKept opening book rooms → worker < 256
    → length book.claims ≢ book.budget → IsOpen (state_of book) node → IsKept opening (claimed book worker node) rooms
kept_claimed opening book rooms worker node kept small left open_node =
    grind (arith, claimed_replayed, length-append, holders_push, once_push, kept, small, left, open_node)

-- ---- a claim that ends
ended_once : (claims : List Claim) (unit : ℕ) (status : Status) → ((holder : Holder) → holder_by status holder ≡ None) → IsHeldOnce (holders claims)
    → IsHeldOnce (holders (ended claims unit status))
ended_once claims unit status ends once = grind (arith, holders_after, once_ended, ends, once)

ended_count : (claims : List Claim) (unit : ℕ) (status : Status) → length (ended claims unit status) ≡ length claims
ended_count claims unit status = length-set claims (unit - 1) (record (claim_of claims unit) { status = status })

-- ---- a commit
pub commit_legal : (book : BookView) (worker unit node : ℕ) (given : Node) (table : Table) (exact : Bool) (outcome : Outcome) (action : Move)
    → worker < 256 → IsHolding (state_of book) worker unit node → MayBe book node given table exact outcome action
    → IsLegalBy AnyCost (state_of book) (event.Commit worker unit table exact outcome action)
commit_legal book worker unit node given table exact outcome action small holds may = grind (arith, small, holds, may)

commit_true : (instance : Instance) (book : BookView) (worker unit node : ℕ) (given : Node) (table : Table) (exact : Bool) (outcome : Outcome)
    (action : Move) → IsHolding (state_of book) worker unit node → IsNodeAt book.tree node given
    → IsTrueOutcome exact instance given table outcome
    → IsTrueEvent instance (state_of book) (event.Commit worker unit table exact outcome action)
commit_true instance book worker unit node given table exact outcome action holds is_node told number found holding is_found =
    grind (arith, holds, is_node, told, number, found, holding, is_found)

pub committed_run : (opening : Opening) (book : BookView) (worker unit node : ℕ) (given : Node) (table : Table) (exact : Bool) (outcome : Outcome)
    (action : Move) → IsReplayed opening book → worker < 256 → IsHolding (state_of book) worker unit node
    → MayBe book node given table exact outcome action → IsTrueOutcome exact opening.instance given table outcome
    → IsReplayed opening (committed book worker unit node table exact outcome action)
committed_run opening book worker unit node given table exact outcome action is small holds may told =
    let part = held_part book.claims worker unit node holds in
    let own = suc (length part.before) in
    let pair : (worker, unit) ≡ (part.claim.worker, own) = λ i. (sym part.worker_is i, part.unit_is i) in
    subst (λ (p : ℕ × ℕ). IsReplayed opening (committed book p.0 p.1 node table exact outcome action)) (sym pair)
    (committed_replayed opening book part.before part.after part.claim node table exact outcome action part.is part.status part.node_is is
    (subst (λ (p : ℕ × ℕ). IsLegalBy AnyCost (state_of book) (event.Commit p.0 p.1 table exact outcome action)) pair
    (commit_legal book worker unit node given table exact outcome action small holds may))
    (subst (λ (p : ℕ × ℕ). IsHolding (state_of book) p.0 p.1 node) pair holds)
    (subst (λ (p : ℕ × ℕ). IsTrueEvent opening.instance (state_of book) (event.Commit p.0 p.1 table exact outcome action)) pair
    (commit_true opening.instance book worker unit node given table exact outcome action holds may.is_node told)))

pub kept_committed : TreeRunsHold → (opening : Opening) (book : BookView) (rooms : Rooms) (worker unit node : ℕ) (given : Node) (table : Table)
    (exact : Bool) (outcome : Outcome) (action : Move) → IsKept opening book rooms → worker < 256
    → IsHolding (state_of book) worker unit node → MayBe book node given table exact outcome action
    → IsTrueOutcome exact opening.instance given table outcome
    → IsKept opening (committed book worker unit node table exact outcome action)
    (record rooms { count = rooms.count + length (tickets_of book.tree action); greatest = raised rooms.greatest node table.k })
kept_committed law opening book rooms worker unit node given table exact outcome action kept_is small holds may told =
    let held = held_holds law opening book rooms worker unit node kept_is holds in
    let orderly = (run_holds law opening book kept_is.begun kept_is.replayed).1 in
    let stored = kept (state_of book) node table exact outcome in
    let free = free_for (λ cost. Unit {0}) (state_of book) node table exact outcome action may.legal in
    let grows = tree_grows book.tree node stored (length book.tables) exact outcome action
    (sound_of (replayed book kept_is.replayed.desks) orderly) held.live free in
    let entry : Entry =
    record { unit = unit; worker = worker; node = node; table = length book.tables; exact = exact; outcome = outcome } in
    let tables_more = length-append book.tables (table ∷ []) in
    let log_more = length-append book.log (entry ∷ []) in
    record {
      begun = kept_is.begun;
      budget = kept_is.budget;
      gap = kept_is.gap;
      replayed = committed_run opening book worker unit node given table exact outcome action kept_is.replayed small holds may told;
      few = omega (arith, kept_is.few, ended_count book.claims unit (Committed action));
      once = ended_once book.claims unit (Committed action) (λ holder. refl) kept_is.once;
      paired = omega (arith, tables_more, log_more, kept_is.paired);
      count = omega (arith, grows.count, kept_is.count);
      tables = kept_is.tables;
      log = kept_is.log;
      claims = kept_is.claims;
      log_nodes = omega (arith, kept_is.log_nodes, grows.room);
      claims_nodes = omega (arith, kept_is.claims_nodes, grows.room);
      scales = scales_raised book.tables table rooms.greatest book.log entry refl
          (omega (arith, held.below, held.room, kept_is.log_nodes, kept_is.greatest)) kept_is.scales;
      greatest = length-set rooms.greatest node (int_max (get_or rooms.greatest node (pos 0)) table.k) ∙ kept_is.greatest;
    }

-- ---- a claim given back
pub kept_given_back : (opening : Opening) (book : BookView) (rooms : Rooms) (worker unit node : ℕ) → IsKept opening book rooms
    → IsHolding (state_of book) worker unit node → IsKept opening (given_back book unit) rooms
kept_given_back opening book rooms worker unit node kept_is holds =
    let part = held_part book.claims worker unit node holds in
    record {
      begun = kept_is.begun;
      budget = kept_is.budget;
      gap = kept_is.gap;
      replayed = grind (arith, abandoned_replayed, opening, book, part, kept_is);
      few = omega (arith, kept_is.few, ended_count book.claims unit GivenBack);
      once = ended_once book.claims unit GivenBack (λ holder. refl) kept_is.once;
      paired = kept_is.paired;
      count = kept_is.count;
      tables = kept_is.tables;
      log = kept_is.log;
      claims = kept_is.claims;
      log_nodes = kept_is.log_nodes;
      claims_nodes = kept_is.claims_nodes;
      scales = kept_is.scales;
      greatest = kept_is.greatest;
    }

-- ---- small facts that answers cite
pub some_too : {A : Type 0} (o : Option A) (P Q : A → Type 0) → ((x : A) → P x → Q x) → IfSome o P → IfSome o Q
some_too None P Q turn is = is
some_too (Some x) P Q turn is = turn x is

pub few_children : (a b : ℕ) (action : Move) → length (children_by (a ∷ b ∷ []) action) ≤ 2
few_children a b Again = omega arith
few_children a b _ = omega arith

pub held_is : (m : Machine) (worker unit node : ℕ) → IsHolding m worker unit node → IsHeldIn m.claims node
held_is m worker unit node holds = grind (arith, holder_place, holds)

-- what stands at an open leaf
pub live_open : (tree : NumberedTree) (number : ℕ) (s : Spot) → spot_at tree number ≡ Some s → IsLive s → IsOpenAt tree number
live_open tree number (spot.Leaf (leaf.Live table value exact)) e live = record { table = table; value = value; exact = exact; live = e }
live_open tree number _ e live = absurd live

-- ---- what a commit needs of the fields
pub record HasRoom (book : BookView) (rooms : Rooms) (node : ℕ) : Type 0 where
  pub live : IsOpenAt book.tree.nodes node
  pub below : node < node_count book.tree.nodes
  pub nodes : node_count book.tree.nodes + 2 ≤ book.tree.room
  pub tables : length book.tables < rooms.tables
  pub log : length book.log < rooms.log
  pub log_node : node < rooms.log_nodes
  pub claims_node : node < rooms.claims_nodes
  pub small : rooms.tables ≤ 1000002
  pub room : book.tree.room ≤ 2000001

pub has_room : TreeRunsHold → (opening : Opening) (book : BookView) (rooms : Rooms) (worker unit node : ℕ) → IsKept opening book rooms
    → IsHolding (state_of book) worker unit node → HasRoom book rooms node
has_room law opening book rooms worker unit node kept_is holds =
    let held = held_holds law opening book rooms worker unit node kept_is holds in
    let orderly = (run_holds law opening book kept_is.begun kept_is.replayed).1 in
    let amounts = orderly.amounts in
    record {
      live = held.live;
      below = held.below;
      nodes = held.room;
      tables = omega (arith, held.tables, amounts.claims, kept_is.tables);
      log = omega (arith, held.tables, amounts.claims, kept_is.log, kept_is.paired);
      log_node = omega (arith, held.below, held.room, kept_is.log_nodes);
      claims_node = omega (arith, held.below, held.room, kept_is.claims_nodes);
      small = omega (arith, kept_is.tables, kept_is.budget, kept_is.begun.budget);
      room = omega (arith, amounts.room, kept_is.budget, kept_is.begun.budget);
    }

-- the same of what contracts see
pub room_of : TreeRunsHold → (opening : Opening) (book seen : BookView) (rooms : Rooms) (worker unit node : ℕ) → book ≡ seen → IsKept opening book rooms
    → IsHolding (state_of seen) worker unit node → HasRoom book rooms node
room_of law opening book seen rooms worker unit node same kept_is holds = grind (arith, has_room, law, same, kept_is, holds)

-- the node that is held stores a table that is there
pub stored_within : TreeRunsHold → (opening : Opening) (book : BookView) (rooms : Rooms) (worker unit node : ℕ) → IsKept opening book rooms
    → IsHolding (state_of book) worker unit node → (stored_at book.tree node).table < length book.tables
stored_within law opening book rooms worker unit node kept_is holds =
    let held = held_holds law opening book rooms worker unit node kept_is holds in
    let at = held.live in
    let part = leaf_part book.tree node at in
    let all = (run_holds law opening book kept_is.begun kept_is.replayed).0 in
    let own = holds_of_leaf (StoredHolds opening.instance book.tables) book.tree node (leaf.Live at.table at.value at.exact) part all.stored in
    let within = slice_get_within book.tables at.table own.table own.is_table in
    let here : stored_at book.tree node ≡ record { table = at.table; value = at.value; exact = at.exact } = ap spot_stored at.live in
    subst (λ (s : Stored). s.table < length book.tables) (sym here) within
