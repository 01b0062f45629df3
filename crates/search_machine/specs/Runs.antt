-- Runs of the search machine, and what holds after each event of one whose commits and published costs are true. Source:
-- branch and bound on the commitment variables of the reference model by Knueven, Ostrowski and Watson; the machine is this
-- project's own.
use Rattle.std.specs.Prelude.{◌≡◌, ℕ, ◌≤◌, ◌⊎◌, Bool, IsTrue, All, IfSome, List, [], ◌∷◌, ℤ, pos, ◌<ℤ◌, Option, Some, None, slice_get, false}
use Rattle.uc_model.specs.Prelude.{IsLawfulInstance, thermal_count}
pub use Rattle.uc_model.specs.declared.tolerance.TheConstants.{WHOLE_GAP}
pub use Rattle.uc_model.specs.declared.instance.Instance.{Instance}
use Rattle.uc_model.specs.declared.schedule.Printed.{Printed}
use Rattle.dual_model.specs.Prelude.{ScheduleHolds, IsTableBound, AllExcluded, IsClaimTrue, IsLawfulTable, root, IsCover, EachLeaf}
pub use Rattle.dual_model.specs.declared.node.Node.{Node}
use Rattle.branch_tree.specs.Prelude.{is_within_gap, node_count, IsOutcome, IsTrueLog, AtMost, IsNodeAt, tree_bound, StoredHolds, claims_of, tree_of}
pub use Rattle.branch_tree.specs.declared.tree.Leaf.{Leaf}
use Rattle.branch_tree.specs.declared.tree.Leaf.TheVariants as leaf
use Rattle.search_machine.specs.Machine.{Table, Machine, IsHolding, IsHeld, IsOpen, start_of, stored_at}
use Rattle.search_machine.specs.Orderly.{MAX_BUDGET, IsEachTicketOnce, IsOrderly}
use Rattle.search_machine.specs.OwnTables.{Owns, HasFewEntries}
use Rattle.search_machine.specs.Steps.{Claim, Commit, Look, Outcome, Pop, Publish, Push, Steal, Event, IsLegal, IsLegalBy, HasSeen, AnyCost, after}

-- ---- true events
-- the outcome, of this kind, is true of the node and the table: all that the machine asks of a value
pub record IsTrueOutcome (exact : Bool) (instance : Instance) (node : Node) (table : Table) (outcome : Outcome) : Type 0 where
  pub lawful : IsLawfulTable instance table
  pub told : IsOutcome exact instance node table outcome

-- the cost is that of a printed schedule that obeys
pub record IsTrueCost (instance : Instance) (cost : ℤ) : Type 0 where
  pub printed : Printed
  pub holds : ScheduleHolds instance (record { printed = printed; cost = cost })

-- a commit is true where its outcome is that of the node held, and a published cost where it is a schedule's
abbrev pub IsTrueEvent : Instance → Machine → Event → Type 0
IsTrueEvent instance m (Claim worker node) = Unit {0}
IsTrueEvent instance m (Commit worker unit table exact outcome action) =
    (number : ℕ) (node : Node) → IsHolding m worker unit number → IsNodeAt m.tree number node → IsTrueOutcome exact instance node table outcome
IsTrueEvent instance m (Publish worker cost) = IsTrueCost instance cost
IsTrueEvent instance m (Look worker) = Unit {0}
IsTrueEvent instance m (Push worker node) = Unit {0}
IsTrueEvent instance m (Pop worker) = Unit {0}
IsTrueEvent instance m (Steal worker victim) = Unit {0}

-- ---- runs
-- the start of a search of the instance: the root stores a lawful table of scale above 0, and its bound there, by V
pub record IsTrueStart (instance : Instance) (m : Machine) : Type 0 where
  pub workers : ℕ
  pub budget : ℕ
  pub gap : ℕ
  pub table : Table
  pub value : ℤ
  pub is_start : m ≡ start_of (thermal_count instance) instance.periods workers budget gap table value
  pub small : budget ≤ MAX_BUDGET
  pub whole : gap ≤ WHOLE_GAP
  pub lawful : IsLawfulTable instance table
  pub scale : pos 0 <ℤ table.k
  pub bound : IsTableBound false instance root table value

-- each event is legal where it comes, by the costs that each worker may prune by, and true
abbrev pub IsTrueRunBy : (Machine → ℕ → ℤ → Type 0) → Instance → Machine → List Event → Type 0
IsTrueRunBy looked instance m [] = Unit {0}
IsTrueRunBy looked instance m (event ∷ events) =
    IsLegalBy looked m event × IsTrueEvent instance m event × IsTrueRunBy looked instance (after m event) events

-- the same where a worker prunes by the cost that it has seen
abbrev pub IsTrueRun : Instance → Machine → List Event → Type 0
IsTrueRun instance m events = IsTrueRunBy HasSeen instance m events

-- the state after all events
abbrev pub after_all : Machine → List Event → Machine
after_all m [] = m
after_all m (event ∷ events) = after_all (after m event) events

-- ---- what holds
-- the best cost is there, and is within the gap of the bound
abbrev pub IsBestWithin : Option ℤ → ℕ → Option ℤ → Type 0
IsBestWithin None gap bound = ⊥
IsBestWithin (Some best) gap bound = IsTrue (is_within_gap best bound gap)

-- a leaf that was pruned has a bound within the gap of the best cost
abbrev pub IsPrunedWithin : Option ℤ → ℕ → Leaf → Type 0
IsPrunedWithin best gap (leaf.Live table value exact) = Unit {0}
IsPrunedWithin best gap (leaf.Bound table value exact) = IsBestWithin best gap (Some value)
IsPrunedWithin best gap (leaf.Ray table) = Unit {0}
IsPrunedWithin best gap (leaf.Empty g) = Unit {0}
IsPrunedWithin best gap (leaf.ExactRay table) = Unit {0}
IsPrunedWithin best gap (leaf.ExactEmpty g) = Unit {0}

-- no node is open or held
pub record IsSettled (m : Machine) : Type 0 where
  pub none_open : (node : ℕ) → ¬ IsOpen m node
  pub none_held : (node : ℕ) → ¬ IsHeld m node

-- of the tree, the tables and the log of a state that a run from this start reached, whatever its workers prune by
pub record TreeHoldsAt (instance : Instance) (start m : Machine) : Type 0 where
  -- the leaves are a cover
  pub cover : IsCover instance (tree_of m.tree)
  -- what each leaf stores holds, so no schedule costs less than the tree's bound, and without one there is none
  pub stored : EachLeaf (StoredHolds instance m.tables) root (tree_of m.tree)
  pub bound : IsClaimTrue instance (tree_bound m.tree)
  -- the tables are lawful, the log is true, the first table is that of the start, and by what the start stores at the root, each node stores what
  -- its entries leave
  pub tables : All (IsLawfulTable instance) m.tables
  pub log : IsTrueLog instance m.tree m.tables m.log
  pub first : slice_get m.tables 0 ≡ slice_get start.tables 0
  pub own : Owns m.tree m.tables m.log (stored_at start.tree 0)
  -- a node with an undecided cell has at most a hundred entries
  pub few : HasFewEntries m.tree m.log

-- of a state that a run from this start reached
pub record HoldsAt (instance : Instance) (start m : Machine) : Type 0 where
  pub tree : TreeHoldsAt instance start m
  -- each node's ticket is in exactly one hand or queue
  pub tickets : IsEachTicketOnce m.desks (node_count m.tree.nodes)
  -- the best cost is that of a schedule, and no greater than what any worker has seen
  pub priced : IfSome m.best (IsTrueCost instance)
  pub least : All (λ desk. AtMost m.best desk.seen) m.desks
  -- each pruned leaf's bound is within the gap of the best cost, though it was pruned by an older one
  pub pruned : EachLeaf (λ node leaf. IsPrunedWithin m.best m.gap leaf) root (tree_of m.tree)
  -- at the end the best cost is within the gap of the bound, or each leaf is excluded
  pub ended : IsSettled m → IsBestWithin m.best m.gap (tree_bound m.tree) ⊎ AllExcluded instance m.tables (claims_of m.tree)

-- before the first event and after each, of events that come after the start; and no event raises the best cost
abbrev pub HoldsAlong : Instance → Machine → Machine → List Event → Type 0
HoldsAlong instance start m [] = HoldsAt instance start m
HoldsAlong instance start m (event ∷ events) =
    HoldsAt instance start m × AtMost (after m event).best m.best × HoldsAlong instance start (after m event) events

-- every run from a true start, of legal and true events
abbrev pub RunsHold : Type 0
RunsHold =
    (instance : Instance) (m : Machine) (events : List Event) → IsLawfulInstance instance → IsTrueStart instance m
    → IsTrueRun instance m events → HoldsAlong instance m m events

-- ---- one step after another
-- a state that a run of legal and true events reaches from this start, which is true, by the costs that each worker may prune by
pub record IsReachedBy (looked : Machine → ℕ → ℤ → Type 0) (instance : Instance) (start m : Machine) : Type 0 where
  pub events : List Event
  pub is_start : IsTrueStart instance start
  pub run : IsTrueRunBy looked instance start events
  pub is : after_all start events ≡ m

-- the same where a worker prunes by the cost that it has seen
abbrev pub IsReached : Instance → Machine → Machine → Type 0
IsReached instance start m = IsReachedBy HasSeen instance start m

-- a true start is reached, each legal and true event leads from a reached state to another, and what holds after the events of
-- runs holds of each reached state
abbrev pub StartsAreReached : Type 0
StartsAreReached = (instance : Instance) (m : Machine) → IsTrueStart instance m → IsReached instance m m

abbrev pub StepsReach : Type 0
StepsReach =
    (instance : Instance) (start m : Machine) (event : Event) → IsReached instance start m → IsLegal m event
    → IsTrueEvent instance m event → IsReached instance start (after m event)

abbrev pub ReachedStatesHold : Type 0
ReachedStatesHold =
    (instance : Instance) (start m : Machine) → IsLawfulInstance instance → IsReached instance start m → HoldsAt instance start m

-- ---- the tree by itself
-- whatever costs the workers prune by: of a state that a run reaches by any, all that is said of the tree, the tables and the log holds, and
-- all that every state keeps
abbrev pub TreeRunsHold : Type 0
TreeRunsHold =
    (instance : Instance) (start m : Machine) → IsLawfulInstance instance → IsReachedBy AnyCost instance start m
    → TreeHoldsAt instance start m × IsOrderly m
