-- Every legal and true event keeps what is true of the costs, and so runs hold. Before it, what lies within a gap.
use Rattle.std.proofs.Common.{◌≡◌, ℕ, ◌≤◌, ◌⊎◌, true, false, refl, arith, inl, inr, ⊎_elim, ℤ, pos, ◌-ℤ◌, ◌≤ℤ◌, Option, Some, None, IsTrue, Bool, List, [], ◌∷◌, ◌++◌, length, sym, subst, ◌<◌, All, set, ap, ◌∙◌, length-set, IfSome, get_or-set_same, get_or-set_other, replicate}
use Rattle.std.proofs.lemmas.Int.{ints, int_min_is}
use Rattle.std.proofs.lemmas.Bool.{cases_eq}
use Rattle.std.proofs.lemmas.List.Elements.{All-cons}
use Rattle.std.proofs.lemmas.List.{get_or-replicate, length-replicate}
use Rattle.std.proofs.lemmas.Option.{get_or_from_slice_get, slice_get_within}
use Rattle.uc_model.specs.Prelude.{tolerance_of, IsLawfulInstance}
use Rattle.uc_model.proofs.Common.{linear, int_le-true, le-int_le}
use Rattle.dual_model.specs.Prelude.{Ends, Splits, child, EachLeaf, root, map_leaves, AllExcluded, IsLawfulTable, HasLawfulTable, IsLawfulAt}
use Rattle.dual_model.specs.Tree as branch
use Rattle.branch_tree.specs.Prelude.{is_within_gap, AtMost, lesser_bound, least_bound, tree_bound, own_claim, claims_of, IsOpenAt, tree_of}
use Rattle.branch_tree.specs.declared.tree.Leaf.TheVariants as leaf
use Rattle.branch_tree.proofs.Grown.{IsClosedLeaf, each_leaf_map, all_closed}
use Rattle.branch_tree.proofs.Bounds.{at_most_itself, at_most_through, lesser_first, lesser_second, lesser_greatest, stored_bounds_hold, excluded_below}
use Rattle.search_machine.specs.Prelude.{Leaf, Node, WHOLE_GAP, IsBestWithin, IsPrunedWithin, Instance, IsTrueCost, IsTrueEvent, IsTrueStart, IsTrueRun, IsTrueRunBy, IsReachedBy, IsSettled, TreeHoldsAt, HoldsAt, HoldsAlong, RunsHold, StartsAreReached, StepsReach, ReachedStatesHold, TreeRunsHold, after_all, Table, WorkerState, Machine, IsWorker, IsHolding, no_desk, desk_in, first_desk, Outcome, Again, Empty, Prune, Ray, Split, Move, kept, tickets_of, IsMoveLegal, Claim, Commit, Look, Pop, Publish, Push, Steal, Event, IsLegal, IsLegalBy, HasSeen, AnyCost, committed, after, with_desk, with_tickets, with_queued, without_first, first_queued, taken, IsOrderly}
use Rattle.search_machine.proofs.Claims.{holdable}
use Rattle.search_machine.proofs.OrderlySteps.{sound_of}
use Rattle.search_machine.proofs.Growth.{HoldsOfNew, leaf_part, after_holds}
use Rattle.search_machine.proofs.TreeSteps.{IsTrueTree, start_tree, tree_after_event}
use Rattle.search_machine.proofs.Logs.{HasTrueLog, start_logged, logged_after}

-- the law of tolerances
abbrev pub NeverDecreases : Type 0
NeverDecreases = (low high : ℤ) (gap : ℕ) → gap ≤ WHOLE_GAP → low ≤ℤ high
    → (low -ℤ pos (tolerance_of low gap)) ≤ℤ (high -ℤ pos (tolerance_of high gap))

within_lesser : NeverDecreases → (low high value : ℤ) (gap : ℕ) → gap ≤ WHOLE_GAP → low ≤ℤ high
    → IsTrue (is_within_gap high (Some value) gap) → IsTrue (is_within_gap low (Some value) gap)
within_lesser law low high value gap whole below within =
    let lower = law low high gap whole below in
    let old = int_le-true (high -ℤ value) (pos (tolerance_of high gap)) within in
    le-int_le (low -ℤ value) (pos (tolerance_of low gap)) (omega (arith, linear))

-- the best cost is within the gap of what a greater one is
pub best_within : NeverDecreases → (best : Option ℤ) (seen value : ℤ) (gap : ℕ) → gap ≤ WHOLE_GAP → AtMost best (Some seen)
    → IsTrue (is_within_gap seen (Some value) gap) → IsBestWithin best gap (Some value)
best_within law None seen value gap whole below within = absurd below
best_within law (Some best) seen value gap whole below within = within_lesser law best seen value gap whole below within

lesser_within : NeverDecreases → (best : Option ℤ) (cost value : ℤ) (gap : ℕ) → gap ≤ WHOLE_GAP → IsBestWithin best gap (Some value)
    → IsBestWithin (lesser_bound best (Some cost)) gap (Some value)
lesser_within law None cost value gap whole within = absurd within
lesser_within law (Some best) cost value gap whole within = grind (arith, ints, int_min_is, within_lesser, law, whole, within)

-- a pruned leaf stays within the gap
pub pruned_lesser : NeverDecreases → (best : Option ℤ) (cost : ℤ) (gap : ℕ) → gap ≤ WHOLE_GAP → (l : Leaf) → IsPrunedWithin best gap l
    → IsPrunedWithin (lesser_bound best (Some cost)) gap l
pruned_lesser law best cost gap whole (leaf.Bound table value exact) h = lesser_within law best cost value gap whole h
pruned_lesser law best cost gap whole _ h = tt

-- ---- the whole tree
both_within : (best : Option ℤ) (gap : ℕ) (a b : Option ℤ) → (a ≡ None) ⊎ IsBestWithin best gap a → (b ≡ None) ⊎ IsBestWithin best gap b
    → (lesser_bound a b ≡ None) ⊎ IsBestWithin best gap (lesser_bound a b)
both_within best gap None b first second = second
both_within best gap (Some a) None first second = first
both_within None gap (Some a) (Some b) first second = grind (arith, ints, first, second)
both_within (Some best) gap (Some a) (Some b) first second = grind (arith, ints, first, second)

pub closed_within : (best : Option ℤ) (gap : ℕ) (here : Node) (tree : branch.Tree Leaf) → EachLeaf (λ n l. IsClosedLeaf l) here tree
    → EachLeaf (λ n l. IsPrunedWithin best gap l) here tree → (least_bound tree ≡ None) ⊎ IsBestWithin best gap (least_bound tree)
closed_within best gap here (Ends (leaf.Live table value exact)) closed pruned = absurd closed
closed_within best gap here (Ends (leaf.Bound table value exact)) closed pruned = inr pruned
closed_within best gap here (Ends _) closed pruned = inl refl
closed_within best gap here (Splits g t off on) closed pruned =
    both_within best gap (least_bound off) (least_bound on)
    (closed_within best gap (child here g t false) off closed.0 pruned.0)
    (closed_within best gap (child here g t true) on closed.1 pruned.1)

-- ---- Every legal and true event keeps what is true of the costs.
-- the costs are in order, and pruned leaves are within the gap
pub record AreCostsTrue (instance : Instance) (m : Machine) : Type 0 where
  pub least : All (λ desk. AtMost m.best desk.seen) m.desks
  pub priced : IfSome m.best (IsTrueCost instance)
  pub pruned : EachLeaf (λ node l. IsPrunedWithin m.best m.gap l) root (tree_of m.tree)

-- ---- what each worker has seen
-- a list with one item set, where all items and the new one are so
all_set : (P : WorkerState → Type 0) (xs : List WorkerState) (i : ℕ) (y : WorkerState) → All P xs → P y → All P (set xs i y)
all_set P xs i y each own k d within = grind (arith, ints, get_or-set_same, length-set, get_or-set_other, cases_eq, each, own, k, d, within)

-- a desk of the state
desk_seen : (m : Machine) (worker : ℕ) → All (λ desk. AtMost m.best desk.seen) m.desks → IsWorker m worker
    → AtMost m.best (desk_in m.desks worker).seen
desk_seen m worker each within = each worker no_desk within

least_with : (best : Option ℤ) (desks : List WorkerState) (worker : ℕ) (change : WorkerState → WorkerState) → All (λ desk. AtMost best desk.seen) desks
    → AtMost best (change (desk_in desks worker)).seen → All (λ desk. AtMost best desk.seen) (with_desk desks worker change)
least_with best desks worker change each own =
    all_set (λ desk. AtMost best desk.seen) desks worker (change (desk_in desks worker)) each own

least_kept : (best : Option ℤ) (desks : List WorkerState) (worker : ℕ) (change : WorkerState → WorkerState) → ((desk : WorkerState) → (change desk).seen ≡ desk.seen)
    → All (λ desk. AtMost best desk.seen) desks → worker < length desks → All (λ desk. AtMost best desk.seen) (with_desk desks worker change)
least_kept best desks worker change same each within =
    least_with best desks worker change each (subst (AtMost best) (sym (same (desk_in desks worker))) (each worker no_desk within))

taken_least : (m : Machine) (worker victim : ℕ) → All (λ desk. AtMost m.best desk.seen) m.desks → IsWorker m worker → IsWorker m victim
    → All (λ desk. AtMost m.best desk.seen) (taken m.desks worker victim)
taken_least m worker victim each within known =
    let first = first_queued (desk_in m.desks victim) ∷ [] in
    let middle = with_desk m.desks worker (λ desk. with_tickets desk first) in
    least_kept m.best middle victim without_first (λ desk. refl)
    (least_kept m.best m.desks worker (λ desk. with_tickets desk first) (λ desk. refl) each within)
    (omega (arith, length-set m.desks worker (with_tickets (desk_in m.desks worker) first)))

-- ---- a change of the desks alone
moved : (instance : Instance) (m : Machine) (desks : List WorkerState) → AreCostsTrue instance m → All (λ desk. AtMost m.best desk.seen) desks
    → AreCostsTrue instance (record m { desks = desks })
moved instance m desks is least = record { least = least; priced = is.priced; pruned = is.pruned }

-- ---- a commit
pruned_new : NeverDecreases → (m : Machine) (worker node : ℕ) (here : Node) (table : Table) (exact : Bool) (result : Outcome) (action : Move)
    → IsOrderly m → AtMost m.best (desk_in m.desks worker).seen → IsMoveLegal (HasSeen m worker) m node table exact result action
    → HoldsOfNew (λ n l. IsPrunedWithin m.best m.gap l) here (kept m node table exact result) (length m.tables) exact result action
pruned_new law m worker node here table exact result Again orderly least legal = tt
pruned_new law m worker node here table exact result (Split g t) orderly least legal = (tt, tt, tt)
pruned_new law m worker node here table exact result (Prune seen) orderly least legal = grind (arith, ints, best_within, law, orderly, least, legal)
pruned_new law m worker node here table exact result Ray orderly least legal = grind (arith, ints, law, Ray, orderly, least, legal)
pruned_new law m worker node here table exact result Empty orderly least legal = grind (arith, ints, law, Empty, orderly, least, legal)

committed_costs : NeverDecreases → (instance : Instance) (m : Machine) (worker unit node : ℕ) (table : Table) (exact : Bool) (result : Outcome)
    (action : Move) → IsOrderly m → AreCostsTrue instance m → IsWorker m worker → IsHolding m worker unit node
    → IsMoveLegal (HasSeen m worker) m node table exact result action
    → AreCostsTrue instance (committed m worker unit node table exact result action)
committed_costs law instance m worker unit node table exact result action orderly is within holding legal =
    let at : IsOpenAt m.tree.nodes node = (holdable m worker unit node orderly holding).live in
    let part = leaf_part m.tree node at in
    let seen = desk_seen m worker is.least within in
    record {
      least = least_kept m.best m.desks worker (λ desk. with_tickets desk (tickets_of m.tree action)) (λ desk. refl) is.least within;
      priced = is.priced;
      pruned = after_holds (λ n l. IsPrunedWithin m.best m.gap l) (λ n l. IsPrunedWithin m.best m.gap l) (λ n l h. h)
          m.tree node at part (kept m node table exact result) (length m.tables) exact result action (sound_of m orderly) is.pruned
          (pruned_new law m worker node part.part.node table exact result action orderly seen legal);
    }

-- ---- a published cost
priced_lesser : (instance : Instance) (best : Option ℤ) (cost : ℤ) → IfSome best (IsTrueCost instance) → IsTrueCost instance cost
    → IfSome (lesser_bound best (Some cost)) (IsTrueCost instance)
priced_lesser instance None cost h own = own
priced_lesser instance (Some best) cost h own = grind (arith, ints, h, own)

published : NeverDecreases → (instance : Instance) (m : Machine) (worker : ℕ) (cost : ℤ) → IsOrderly m → AreCostsTrue instance m → IsWorker m worker
    → IsTrueCost instance cost → AreCostsTrue instance (after m (Publish worker cost))
published law instance m worker cost orderly is within own =
    let best = lesser_bound m.best (Some cost) in
    let lower : AtMost best m.best = lesser_first m.best (Some cost) in
    let each : All (λ desk. AtMost best desk.seen) m.desks = λ k d l. at_most_through best m.best _ lower (is.least k d l) in
    let seen = each worker no_desk within in
    record {
      least = least_with best m.desks worker (λ desk. record desk { seen = lesser_bound desk.seen (Some cost) }) each
          (lesser_greatest best (desk_in m.desks worker).seen (Some cost) seen (lesser_second m.best (Some cost)));
      priced = priced_lesser instance m.best cost is.priced own;
      pruned = grind (arith, ints, each_leaf_map, pruned_lesser, m, best, law, cost, orderly, is);
    }

-- ---- every event
pub costs_after : NeverDecreases → (instance : Instance) (m : Machine) (event : Event) → IsOrderly m → AreCostsTrue instance m
    → IsLegal m event → IsTrueEvent instance m event → AreCostsTrue instance (after m event)
costs_after law instance m (Claim worker node) orderly is legal told = grind (arith, ints, law, worker, node, orderly, is, legal, told)
costs_after law instance m (Commit worker unit table exact result action) orderly is legal told =
    grind (arith, ints, committed_costs, law, worker, unit, table, exact, result, action, orderly, is, legal, told)
costs_after law instance m (Publish worker cost) orderly is legal told = published law instance m worker cost orderly is legal told
costs_after law instance m (Look worker) orderly is legal told =
    moved instance m _ is (least_with m.best m.desks worker (λ desk. record desk { seen = m.best }) is.least (at_most_itself m.best))
costs_after law instance m (Push worker node) orderly is legal told =
    moved instance m _ is (least_kept m.best m.desks worker (λ desk. with_queued desk node) (λ desk. refl) is.least legal.0)
costs_after law instance m (Pop worker) orderly is legal told = grind (arith, ints, moved, taken_least, law, worker, orderly, is, legal, told)
costs_after law instance m (Steal worker victim) orderly is legal told =
    moved instance m _ is (taken_least m worker victim is.least legal.0 legal.1)

-- ---- A true start is true, what is true of a state is what holds there, and so runs hold.
-- ---- the start
desks_see_nothing : (workers : ℕ) → All (λ (desk : WorkerState). AtMost None desk.seen) (first_desk ∷ replicate workers no_desk)
desks_see_nothing workers = grind (arith, ints, All-cons, get_or-replicate, length-replicate)

start_costs : (instance : Instance) (m : Machine) → IsTrueStart instance m → AreCostsTrue instance m
start_costs instance m start = grind (arith, ints, desks_see_nothing, start)

-- ---- what holds
-- a table of a list of lawful ones is lawful
listed : (instance : Instance) (tables : List Table) → All (IsLawfulTable instance) tables → (number : ℕ) → IsLawfulAt instance tables number
listed instance tables each number table is_table = grind (arith, ints, get_or_from_slice_get, slice_get_within, each, table, is_table)

lawful_claim : (instance : Instance) (tables : List Table) → All (IsLawfulTable instance) tables → (node : Node) (l : Leaf)
    → HasLawfulTable instance tables node (own_claim l)
lawful_claim instance tables each node (leaf.Live table value exact) = listed instance tables each table
lawful_claim instance tables each node (leaf.Bound table value exact) = listed instance tables each table
lawful_claim instance tables each node (leaf.Ray table) = listed instance tables each table
lawful_claim instance tables each node (leaf.Empty g) = tt
lawful_claim instance tables each node (leaf.ExactRay table) = listed instance tables each table
lawful_claim instance tables each node (leaf.ExactEmpty g) = tt

lawful_claims : (instance : Instance) (tables : List Table) → All (IsLawfulTable instance) tables → (node : Node) (tree : branch.Tree Leaf)
    → EachLeaf (HasLawfulTable instance tables) node (map_leaves own_claim tree)
lawful_claims instance tables each node (Ends l) = lawful_claim instance tables each node l
lawful_claims instance tables each node (Splits g t off on) =
    (lawful_claims instance tables each (child node g t false) off, lawful_claims instance tables each (child node g t true) on)

ended : (instance : Instance) (m : Machine) → IsTrueTree instance m → AreCostsTrue instance m → IsSettled m
    → IsBestWithin m.best m.gap (tree_bound m.tree) ⊎ AllExcluded instance m.tables (claims_of m.tree)
ended instance m is costs settled =
    let none : (number : ℕ) → ¬ IsOpenAt m.tree.nodes number =
    λ number at. settled.none_open number (record { live = at; unheld = settled.none_held number }) in
    ⊎_elim
    (λ (e : least_bound (tree_of m.tree) ≡ None). inr (excluded_below instance m.tables root (tree_of m.tree) e is.stored))
    (λ (h : IsBestWithin m.best m.gap (least_bound (tree_of m.tree))). inl h)
    (closed_within m.best m.gap root (tree_of m.tree) (all_closed m.tree.nodes is.orderly.placed.are.numbered none) costs.pruned)

tree_holds_at : (instance : Instance) (start m : Machine) → IsLawfulInstance instance → IsTrueTree instance m → HasTrueLog instance start m
    → TreeHoldsAt instance start m
tree_holds_at instance start m lawful is logged = record {
  cover = is.orderly.cover instance is.size;
  stored = is.stored;
  bound = stored_bounds_hold instance m.tables m.tree lawful (lawful_claims instance m.tables is.lawful root (tree_of m.tree)) is.stored;
  tables = is.lawful;
  log = record { entries = logged.entries; apart = logged.apart };
  first = logged.first;
  own = logged.own;
  few = logged.few;
}

holds_at : (instance : Instance) (start m : Machine) → IsLawfulInstance instance → IsTrueTree instance m → AreCostsTrue instance m
    → HasTrueLog instance start m → HoldsAt instance start m
holds_at instance start m lawful is costs logged = grind (arith, ints, tree_holds_at, ended, lawful, is, costs, logged)

-- ---- the best cost never rises
never_rises : (m : Machine) (event : Event) → AtMost (after m event).best m.best
never_rises m (Claim worker node) = at_most_itself m.best
never_rises m (Commit worker unit table exact outcome action) = grind (arith, ints, worker, unit, table, exact, outcome, action)
never_rises m (Publish worker cost) = lesser_first m.best (Some cost)
never_rises m _ = at_most_itself m.best

-- ---- runs
along : NeverDecreases → (instance : Instance) (start m : Machine) (events : List Event) → IsLawfulInstance instance → IsTrueTree instance m
    → AreCostsTrue instance m → HasTrueLog instance start m → IsTrueRun instance m events → HoldsAlong instance start m events
along law instance start m [] lawful is costs logged run = holds_at instance start m lawful is costs logged
along law instance start m (event ∷ events) lawful is costs logged run = (
  holds_at instance start m lawful is costs logged,
  never_rises m event,
  along law instance start (after m event) events lawful (tree_after_event HasSeen instance m event lawful is run.0 run.1)
      (costs_after law instance m event is.orderly costs run.0 run.1)
      (logged_after HasSeen instance start m event is.orderly run.0 run.1 logged) run.2,
)

pub runs_hold : NeverDecreases → RunsHold
runs_hold law instance m events lawful start run =
    along law instance m m events lawful (start_tree instance m start) (start_costs instance m start) (start_logged instance m start) run

-- ---- one step after another
pub run_more : (looked : Machine → ℕ → ℤ → Type 0) (instance : Instance) (m : Machine) (events : List Event) (event : Event)
    → IsTrueRunBy looked instance m events → IsLegalBy looked (after_all m events) event → IsTrueEvent instance (after_all m events) event
    → IsTrueRunBy looked instance m (events ++ event ∷ [])
run_more looked instance m [] event run legal told = (legal, told, tt)
run_more looked instance m (first ∷ events) event run legal told =
    (run.0, run.1, run_more looked instance (after m first) events event run.2 legal told)

pub after_more : (m : Machine) (events : List Event) (event : Event)
    → after_all m (events ++ event ∷ []) ≡ after (after_all m events) event
after_more m [] event = refl
after_more m (first ∷ events) event = after_more (after m first) events event

pub start_reached_by : (looked : Machine → ℕ → ℤ → Type 0) (instance : Instance) (m : Machine) → IsTrueStart instance m
    → IsReachedBy looked instance m m
start_reached_by looked instance m start = record { events = []; is_start = start; run = tt; is = refl }

pub steps_reach_by : (looked : Machine → ℕ → ℤ → Type 0) (instance : Instance) (start m : Machine) (event : Event)
    → IsReachedBy looked instance start m → IsLegalBy looked m event → IsTrueEvent instance m event
    → IsReachedBy looked instance start (after m event)
steps_reach_by looked instance start m event reached legal told = record {
  events = reached.events ++ event ∷ [];
  is_start = reached.is_start;
  run = grind (arith, ints, run_more, looked, instance, start, reached, event, legal, told);
  is = after_more start reached.events event ∙ ap (λ (x : Machine). after x event) reached.is;
}

pub starts_are_reached : StartsAreReached
starts_are_reached instance m start = start_reached_by HasSeen instance m start

pub steps_reach : StepsReach
steps_reach instance start m event reached legal told = steps_reach_by HasSeen instance start m event reached legal told

last_holds : (instance : Instance) (start m : Machine) (events : List Event) → HoldsAlong instance start m events
    → HoldsAt instance start (after_all m events)
last_holds instance start m [] holds = holds
last_holds instance start m (event ∷ events) holds = last_holds instance start (after m event) events holds.2

pub reached_states_hold : NeverDecreases → ReachedStatesHold
reached_states_hold law instance start m lawful reached =
    subst (HoldsAt instance start) reached.is
    (last_holds instance start start reached.events
    (runs_hold law instance start reached.events lawful reached.is_start reached.run))

-- ---- the tree by itself
tree_along : (looked : Machine → ℕ → ℤ → Type 0) (instance : Instance) (start m : Machine) (events : List Event) → IsLawfulInstance instance
    → IsTrueTree instance m → HasTrueLog instance start m → IsTrueRunBy looked instance m events
    → IsTrueTree instance (after_all m events) × HasTrueLog instance start (after_all m events)
tree_along looked instance start m [] lawful is logged run = (is, logged)
tree_along looked instance start m (event ∷ events) lawful is logged run =
    tree_along looked instance start (after m event) events lawful (tree_after_event looked instance m event lawful is run.0 run.1)
    (logged_after looked instance start m event is.orderly run.0 run.1 logged) run.2

pub tree_reached_holds : (looked : Machine → ℕ → ℤ → Type 0) (instance : Instance) (start m : Machine) → IsLawfulInstance instance
    → IsReachedBy looked instance start m → TreeHoldsAt instance start m × IsOrderly m
tree_reached_holds looked instance start m lawful reached =
    let first = reached.is_start in
    let both = tree_along looked instance start start reached.events lawful (start_tree instance start first)
    (start_logged instance start first) reached.run in
    subst (λ (x : Machine). TreeHoldsAt instance start x × IsOrderly x) reached.is
    (tree_holds_at instance start (after_all start reached.events) lawful both.0 both.1, both.0.orderly)

pub tree_runs_hold : TreeRunsHold
tree_runs_hold instance start m lawful reached = tree_reached_holds AnyCost instance start m lawful reached
