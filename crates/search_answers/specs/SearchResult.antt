-- What a search answers: a true answer, how much of the budget was spent, and what the opening gives at least. This project's own
-- statement.
use Rattle.std.specs.Prelude.{◌≡◌, ◌≢◌, ℕ, ◌+◌, ◌*◌, ◌≤◌, Bool, true, false, All, List, [], ℤ, ◌≤ℤ◌, Option, Some, None, IfSome, length, slice_get}
pub use Rattle.uc_model.specs.declared.instance.Instance.{Instance}
use Rattle.uc_model.specs.declared.pattern.Pattern.{Pattern}
pub use Rattle.uc_model.specs.declared.schedule.Printed.{Printed}
use Rattle.dual_model.specs.Prelude.{ReachesBoundOf, IsFirstUnscheduled, IsFirstEmpty, ray_table, zero_table, Ends, root, HasEachPattern}
use Rattle.opening_tables.specs.Marginal.{IsMarginalTable}
use Rattle.branch_tree.specs.Prelude.{is_closed, is_within_gap, IsPlainTree, node_count, tree_bound, tree_of, IsTrueFound}
use Rattle.branch_tree.specs.declared.found.Found.{Found}
use Rattle.search_machine.specs.Prelude.{bound_of, empty_leaf, ray_leaf, Owns, HasFewEntries}
use Rattle.search_desk.specs.Kinds.{IsOfKind}
use Rattle.decommitment.specs.DropCommitment.{Ending, Dispatched, StuckIn, IsDropCommitment}
use Rattle.decommitment.specs.MostOnStuck.{TellsMostOn}
use Rattle.opening.specs.Blocked.{HasNoBlockedUnit}
use Rattle.opening.specs.Rays.{HasNoRay, IsFirstRay}
use Rattle.dual_model.specs.declared.table.Table.{Table}
use Rattle.search_answers.specs.Opening.{IsRootTable}

-- ---- no schedule by the opening
-- the root is excluded by ray n of the opening, before any claim
pub record IsExcludedByFirst (exact : Bool) (instance : Instance) (n : ℕ) (found : Found) : Type 0 where
  pub number : ℕ
  pub tree : tree_of found.tree ≡ Ends (ray_leaf exact number)
  pub table : slice_get found.tables number ≡ Some (ray_table instance n)
  pub log : found.log ≡ []

-- ---- what the drop commitment gives
-- where it isn't stuck there is a schedule that costs no more
abbrev pub IsNoDearer : Option (Printed × ℤ) → Ending → Type 0
IsNoDearer None (Dispatched printed cost) = ⊥
IsNoDearer (Some priced) (Dispatched printed cost) = priced.1 ≤ℤ cost
IsNoDearer schedule (StuckIn t) = Unit {0}

-- and the bound is at least that of its marginal prices
pub record ReachesMarginal (instance : Instance) (printed : Printed) (bound : ℤ) : Type 0 where
  pub table : Table
  pub is_marginal : IsMarginalTable instance printed table
  pub reached : ReachesBoundOf false instance root table bound

abbrev pub ReachesMarginalOf : Instance → Ending → ℤ → Type 0
ReachesMarginalOf instance (Dispatched printed cost) bound = ReachesMarginal instance printed bound
ReachesMarginalOf instance (StuckIn t) bound = Unit {0}

-- whether its schedule is within the gap of a bound; without a schedule it isn't
abbrev pub is_ending_within : Ending → ℤ → ℕ → Bool
is_ending_within (Dispatched printed cost) bound gap = is_within_gap cost (Some bound) gap
is_ending_within (StuckIn t) bound gap = false

-- ---- what nodes store
-- the root begins with the opening's table, which is the first one, and each node with what its parent stores; a leaf that isn't excluded
-- stores what its own entries leave of that, and the first entry of a node with an undecided cell is at what it begins with. Where the
-- drop commitment's schedule is within the gap of the bound that the root begins with, nothing is evaluated
pub record HoldsOwnTables (instance : Instance) (gap : ℕ) (ending : Ending) (found : Found) : Type 0 where
  pub table : Table
  pub value : ℤ
  pub opening : IsRootTable instance ending table value
  pub is_first : slice_get found.tables 0 ≡ Some table
  pub own : Owns found.tree found.tables found.log (record { table = 0; value = bound_of value table.k; exact = false })
  pub closed : is_ending_within ending (bound_of value table.k) gap ≡ true → found.log ≡ []

-- what a bound has to reach
pub record IsBoundOpened (instance : Instance) (ending : Ending) (bound : ℤ) : Type 0 where
  pub unpriced : ReachesBoundOf false instance root (zero_table instance) bound
  pub marginal : ReachesMarginalOf instance ending bound

-- the drop commitment, where each unit has an allowed pattern, and what it gives; and what nodes store, where no ray of the opening
-- excludes the root
pub record FollowsOpening (exact : Bool) (instance : Instance) (gap : ℕ) (found : Found) : Type 0 where
  pub patterns : List Pattern
  pub ending : Ending
  pub drop : IsDropCommitment instance patterns ending
  pub schedule : IsNoDearer found.schedule ending
  pub bound : IfSome (tree_bound found.tree) (IsBoundOpened instance ending)
  pub own : HasNoRay exact instance → HoldsOwnTables instance gap ending found

-- ---- the answer
-- a blocked unit of the kind excludes the root before any evaluation
abbrev pub IsExcludedByUnit : Bool → ℕ → Found → Type 0
IsExcludedByUnit exact g found = (tree_of found.tree ≡ Ends (empty_leaf exact g)) × (found.log ≡ [])

-- the answer of a search by VE, where `exact`, or else by V, with this budget of claims, and this gap in parts per million of a cost
pub record IsSearchResult (exact : Bool) (instance : Instance) (budget gap : ℕ) (found : Found) : Type 0 where
  pub truth : IsTrueFound instance found
  -- each entry of the log is of the kind, and without VE so is each leaf of the tree
  pub plain : exact ≡ false → IsPlainTree found.tree
  pub of_kind : All (IsOfKind exact) found.log
  -- no more than the budget was spent; and where a leaf isn't excluded, and no schedule is within the gap, the whole
  pub within : length found.log ≤ budget
  pub spent : tree_bound found.tree ≢ None → is_closed found gap ≡ false → length found.log ≡ budget
  -- a claim adds two nodes to the tree at most, and so a leaf, which uses a table
  pub nodes : node_count found.tree.nodes ≤ 2 * budget + 1
  -- where there is neither a schedule nor the answer that there is none, the most-on commitment is stuck
  pub most_on : TellsMostOn instance found.schedule (tree_bound found.tree) found.most_on
  -- a unit without an allowed pattern excludes the root before any evaluation; else by VE so does a unit without a schedule of its own; and
  -- else so does a ray
  pub empty : (g : ℕ) → IsFirstEmpty instance root g → IsExcludedByUnit false g found
  pub unscheduled : exact ≡ true → HasEachPattern instance → (g : ℕ) → IsFirstUnscheduled instance root g → IsExcludedByUnit true g found
  pub ray : (n : ℕ) → IsFirstRay exact instance n → IsExcludedByFirst exact instance n found
  -- else the opening's schedule and bounds are reached
  pub opened : HasEachPattern instance → HasNoBlockedUnit exact instance → FollowsOpening exact instance gap found
  -- a node at which a cell is undecided has at most a hundred entries of the log
  pub few : HasFewEntries found.tree found.log
