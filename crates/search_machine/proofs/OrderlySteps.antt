-- Every legal event keeps the state orderly, and the fields as they must be.
use Rattle.std.proofs.Common.{◌≡◌, ℕ, Bool, ◌+◌, ◌-◌, ◌*◌, ◌<◌, ◌≤◌, ◌==◌, nat_lt, All, List, [], ◌∷◌, ◌++◌, length, set, refl, ap, sym, ◌∙◌, subst, arith, Option, Some, None, ℤ, length-append, length-set, replicate}
use Rattle.std.proofs.lemmas.Bool.Decides.{nat_tests}
use Rattle.std.proofs.lemmas.List.Elements.{All-nil, All-cons, All-append}
use Rattle.std.proofs.lemmas.List.Folds.{sum_by-replicate}
use Rattle.std.proofs.lemmas.List.Sums.{sum_by-cons}
use Rattle.std.proofs.lemmas.Option.{slice_get_within}
use Rattle.branch_tree.specs.Prelude.{node_count, TreeView, IsOpenAt, lesser_bound}
use Rattle.branch_tree.proofs.Grown.{open_numbered, root_placed}
use Rattle.branch_tree.proofs.Subtrees.{one_if}
use Rattle.search_machine.specs.Prelude.{Entry, Table, Holder, WorkerState, Machine, holder_of, IsWorker, desk_in, no_desk, first_desk, start_of, children_by, Again, Outcome, Split, Move, kept, tickets_of, IsFreeFor, IsMoveLegal, Claim, Commit, Look, Pop, Publish, Push, Steal, Event, IsLegalBy, committed, committed_by, after, with_desk, with_tickets, IsClaimable, MAX_BUDGET, WHOLE_GAP, IsOrderly, IsEachTicketOnce, held_count}
use Rattle.search_machine.specs.Orderly.{times_at}
use Rattle.search_machine.proofs.Claims.{holder_place, held_push, held_ended, holders_push, holders_ended, times_kept, tickets_queued, tickets_taken, tickets_more, tickets_same}
use Rattle.search_machine.proofs.Growth.{IsSound, tree_grows}

-- ---- the start
first_tickets : (workers : ℕ) → IsEachTicketOnce (first_desk ∷ replicate workers no_desk) 1
first_tickets workers node =
    let all = sum_by-cons (λ (desk : WorkerState). times_at desk node) first_desk (replicate workers no_desk) in
    let others = sum_by-replicate (λ (desk : WorkerState). times_at desk node) workers no_desk in
    let none : workers * 0 ≡ 0 = grind arith in
    let one : one_if (0 == node) ≡ one_if (nat_lt node 1) = grind (arith, nat_tests) in
    omega (arith, all, others, none, one)

pub orderly_start : (units periods workers budget gap : ℕ) (table : Table) (value : ℤ) → budget ≤ MAX_BUDGET → gap ≤ WHOLE_GAP
    → IsOrderly (start_of units periods workers budget gap table value)
orderly_start units periods workers budget gap table value most whole = grind (arith, root_placed, All-nil, first_tickets, most, whole)

-- ---- the desks
-- only they, and what was published, changed
desks_changed : (m : Machine) (best : Option ℤ) (desks : List WorkerState) → IsOrderly m → IsEachTicketOnce desks (node_count m.tree.nodes)
    → IsOrderly (record m { best = best; desks = desks })
desks_changed m best desks orderly once = grind (arith, orderly, once)

-- a change of a desk that keeps its tickets
seen_changed : (m : Machine) (worker : ℕ) (change : WorkerState → WorkerState) → IsOrderly m → IsWorker m worker
    → ((desk : WorkerState) (node : ℕ) → times_at (change desk) node ≡ times_at desk node)
    → IsEachTicketOnce (with_desk m.desks worker change) (node_count m.tree.nodes)
seen_changed m worker change orderly within same node =
    times_kept m.desks worker change node within (same (desk_in m.desks worker) node) ∙ orderly.tickets node

-- ---- a claim
claimed : (m : Machine) (worker node : ℕ) → IsOrderly m → IsClaimable m node → IsOrderly (after m (Claim worker node))
claimed m worker node orderly legal = grind (arith, held_push, length-append, holders_push, orderly, legal)

-- ---- a commit
pub free_for : (looked : ℤ → Type 0) (m : Machine) (node : ℕ) (table : Table) (exact : Bool) (outcome : Outcome) (action : Move)
    → IsMoveLegal looked m node table exact outcome action → IsFreeFor m.tree node action
free_for looked m node table exact outcome (Split g t) legal = legal.1
free_for looked m node table exact outcome _ legal = tt

-- at most two tickets, and those of the nodes that the move adds
few_tickets : (tree : TreeView) (action : Move) → length (tickets_of tree action) ≤ 2
few_tickets tree Again = omega arith
few_tickets tree _ = omega arith

no_tickets : (m : Machine) (worker : ℕ) → IsOrderly m → IsWorker m worker
    → IsEachTicketOnce (with_desk m.desks worker (λ desk. with_tickets desk [])) (node_count m.tree.nodes + 0)
no_tickets m worker orderly within = grind (arith, tickets_same, orderly, within)

new_tickets : (m : Machine) (worker : ℕ) (action : Move) → IsOrderly m → IsWorker m worker
    → IsEachTicketOnce (with_desk m.desks worker (λ desk. with_tickets desk (tickets_of m.tree action)))
    (node_count m.tree.nodes + length (tickets_of m.tree action))
new_tickets m worker (Split g t) orderly within = tickets_more m.desks (node_count m.tree.nodes) worker orderly.tickets within
new_tickets m worker _ orderly within = no_tickets m worker orderly within

pub sound_of : (m : Machine) → IsOrderly m → IsSound m.tree
sound_of m orderly = record { placed = orderly.placed; cover = orderly.cover }

pub entries_more : (log : List Entry) (entry : Entry) (count later : ℕ) → All (λ entry. entry.node < count) log → entry.node < count → count ≤ later
    → All (λ entry. entry.node < later) (log ++ entry ∷ [])
entries_more log entry count later each own more =
    All-append (λ (e : Entry). e.node < later) log (entry ∷ [])
    (λ k d within. let one = each k d within in omega arith)
    (All-cons (λ (e : Entry). e.node < later) entry [] (omega arith) (All-nil (λ (e : Entry). e.node < later)))

pub committed_orderly : (m : Machine) (worker unit node : ℕ) (table : Table) (exact : Bool) (outcome : Outcome) (action : Move) → IsOrderly m
    → IsWorker m worker → holder_of m unit ≡ Some (record { worker = worker; node = node })
    → IsFreeFor m.tree node action → IsOrderly (committed m worker unit node table exact outcome action)
committed_orderly m worker unit node table exact outcome action orderly within holds free =
    let holder : Holder = record { worker = worker; node = node } in
    let place = holder_place m.claims unit holder holds in
    let at : IsOpenAt m.tree.nodes node = orderly.holders.live place.0 holder place.2 in
    let grows = tree_grows m.tree node (kept m node table exact outcome) (length m.tables) exact outcome action (sound_of m orderly) at free in
    let unit_is : unit - 1 ≡ place.0 = omega (arith, place.1) in
    let claims : set m.claims (unit - 1) None ≡ set m.claims place.0 None = ap (λ i. set m.claims i None) unit_is in
    let fewer = held_ended m.claims place.0 holder place.2 in
    let held = ap held_count claims in
    let same = ap length claims in
    let size = length-set m.claims place.0 None in
    let longer = length-append m.tables (table ∷ []) in
    let amounts = orderly.amounts in
    let some = slice_get_within m.claims place.0 (Some holder) place.2 in
    record {
      placed = grows.sound.placed;
      cover = grows.sound.cover;
      holders = grind (arith, holders_ended, m, node, table, exact, outcome, action, claims, place, holder, orderly, grows);
      entries = entries_more m.log (record { unit = unit; worker = worker; node = node; table = length m.tables; exact = exact; outcome = outcome })
          (node_count m.tree.nodes) _ orderly.entries (open_numbered m.tree.nodes node orderly.placed at) (omega (arith, grows.count));
      tickets = grind (arith, new_tickets, m, worker, action, grows, orderly, within);
      amounts = grind (arith, few_tickets, claims, same, size, amounts, held, fewer, longer, grows, m, action);
    }

-- ---- every event
pub orderly_after : (looked : Machine → ℕ → ℤ → Type 0) (m : Machine) (event : Event) → IsOrderly m → IsLegalBy looked m event
    → IsOrderly (after m event)
orderly_after looked m (Claim worker node) orderly legal = claimed m worker node orderly legal.1
orderly_after looked m (Commit worker unit table exact outcome action) orderly legal =
    subst (λ h. IsOrderly (committed_by m worker unit table exact outcome action h)) (sym legal.1.holds)
    (committed_orderly m worker unit legal.1.node table exact outcome action orderly legal.0 legal.1.holds
    (free_for (looked m worker) m legal.1.node table exact outcome action legal.1.legal))
orderly_after looked m (Publish worker cost) orderly legal =
    desks_changed m _ _ orderly
    (seen_changed m worker (λ desk. record desk { seen = lesser_bound desk.seen (Some cost) }) orderly legal (λ desk node. refl))
orderly_after looked m (Look worker) orderly legal =
    desks_changed m m.best _ orderly (seen_changed m worker (λ desk. record desk { seen = m.best }) orderly legal (λ desk node. refl))
orderly_after looked m (Push worker node) orderly legal = grind (arith, desks_changed, tickets_queued, worker, node, orderly, legal)
orderly_after looked m (Pop worker) orderly legal = grind (arith, desks_changed, tickets_taken, worker, orderly, legal)
orderly_after looked m (Steal worker victim) orderly legal = grind (arith, desks_changed, tickets_taken, worker, victim, orderly, legal)

-- ---- no step changes the size of the tree
pub record IsAsLarge (new old : TreeView) : Type 0 where
  pub units : new.units ≡ old.units
  pub periods : new.periods ≡ old.periods

pub as_large_after : (m : Machine) (event : Event) → IsAsLarge (after m event).tree m.tree
as_large_after m (Commit worker unit table exact outcome action) = grind (arith, worker, unit, table, exact, outcome, action)
as_large_after m _ = record { units = refl; periods = refl }

-- ---- a move adds as many nodes, whichever numbers they have
pub same_count : (a b c d : ℕ) (action : Move) → length (children_by (a ∷ b ∷ []) action) ≡ length (children_by (c ∷ d ∷ []) action)
same_count a b c d Again = refl
same_count a b c d _ = refl
