-- What holds of the desk, which workers share under a lock, whenever the lock is free. This project's own form.
use Rattle.std.specs.Prelude.{◌≡◌, ◌≢◌, ℕ, ◌+◌, ◌≤◌, Bool, true, false, All, List, ℤ, pos, ◌≤ℤ◌, Option, Some, None, drop, length, slice_get, sum_by}
use Rattle.atomic_table.specs.Seated.{TableId}
pub use Rattle.uc_model.specs.declared.instance.Instance.{Instance}
use Rattle.uc_model.specs.Prelude.{IsLawfulInstance}
use Rattle.dual_model.specs.Prelude.{IsNodeOf, IsLawfulTable, root, EachLeaf}
pub use Rattle.dual_model.specs.declared.table.Table.{Table}
use Rattle.branch_tree.specs.Prelude.{IsPlainTree, tree_of}
pub use Rattle.branch_tree.specs.declared.found.Entry.{Entry}
use Rattle.search_machine.specs.Prelude.{entries_of, IsPrunedWithin}
use Rattle.search_machine.specs.declared.limits.TheConstants.{MAX_BUDGET}
use Rattle.search_machine.specs.declared.event.Move.{Move}
use Rattle.search_machine.specs.declared.event.Move.TheVariants as move
pub use Rattle.incumbent.specs.Passes.{Known}
pub use Rattle.book.specs.BookView.{BookView}
use Rattle.book.specs.Prelude.{stays}
use Rattle.book.specs.declared.claims.Claim.{Claim}
use Rattle.book.specs.declared.claims.Status.{Status}
use Rattle.book.specs.declared.claims.Status.TheVariants.{Held, Committed, GivenBack}
pub use Rattle.book.specs.Opening.{Opening, IsTrueOpening}
use Rattle.opening.specs.Outcomes.{IsSized}
use Rattle.search_desk.specs.Kinds.{IsOfKind}
use Rattle.search_desk.specs.declared.desk.HeldNode.{HeldNode}
use Rattle.search_desk.specs.declared.desk.Taken.{Taken}
use Rattle.search_desk.specs.declared.desk.Taken.TheVariants as taken

-- ---- what was committed
abbrev pub IsSizedEntry : Entry → Type 0
IsSizedEntry entry = IsSized entry.outcome

-- the scale of a table is at most a million and so much more
abbrev pub IsScaledWithin : ℕ → Table → Type 0
IsScaledWithin limit table = table.k ≤ℤ pos (1000000 + limit)

-- so is that of an entry's table
abbrev pub IsScaledEntry : ℕ → List Table → Entry → Type 0
IsScaledEntry limit tables entry = (table : Table) → slice_get tables entry.table ≡ Some table → IsScaledWithin limit table

-- and of each node those of all entries but the first
abbrev pub AreLaterScaled : ℕ → List Table → List Entry → Type 0
AreLaterScaled limit tables log = (node : ℕ) → All (IsScaledEntry limit tables) (drop 1 (entries_of log node))

-- a table for a node that has so many entries: its first one may have any scale
abbrev pub IsLaterWithin : ℕ → ℕ → Table → Type 0
IsLaterWithin limit had table = had ≢ 0 → IsScaledWithin limit table

-- how many commits ended a claim that stands so: one or none
abbrev pub commits_by : Status → ℕ
commits_by Held = 0
commits_by (Committed action) = 1
commits_by GivenBack = 0

abbrev pub commits_of : Claim → ℕ
commits_of claim = commits_by claim.status

-- the claim wasn't given back
abbrev pub IsKeptClaim : Claim → Type 0
IsKeptClaim claim = stays claim ≡ true

-- a node is pruned by the cost that was seen
abbrev pub IsPrunedBy : Option ℤ → Move → Type 0
IsPrunedBy seen (move.Prune cost) = seen ≡ Some cost
IsPrunedBy seen _ = Unit {0}

-- ---- a book
-- a true run's book, by values of the kind: its numbers have a size, the scales of later entries a limit, each pruned leaf is within the gap of the cost that was seen,
-- and as many claims were committed as the log has entries
pub record IsKeptBy (exact : Bool) (opening : Opening) (book : BookView) (seen : Option ℤ) (limit : ℕ) : Type 0 where
  pub begun : IsTrueOpening opening
  pub sized : All IsSizedEntry book.log
  pub scaled : AreLaterScaled limit book.tables book.log
  pub plain : exact ≡ false → IsPlainTree book.tree
  pub of_kind : All (IsOfKind exact) book.log
  pub pruned : EachLeaf (λ node leaf. IsPrunedWithin seen opening.gap leaf) root (tree_of book.tree)
  pub counted : sum_by commits_of book.claims ≡ length book.log

-- ---- the desk
pub record DeskView : Type 0 where
  pub book : BookView
  pub seen : Option ℤ
  pub failed : Bool

-- its pass is of the incumbent and published nothing, its book is kept by what the pass has seen, and no claim was given back but where
-- memory was refused
pub record IsDesk (exact : Bool) (opening : Opening) (incumbent : TableId) (book : BookView) (pass : Known) (failed : Bool) : Type 0 where
  pub object : pass.object ≡ incumbent
  pub mine : pass.mine ≡ None
  pub parts : pass.parts ≡ 1
  pub kept : IsKeptBy exact opening book pass.seen opening.budget
  pub complete : failed ≡ false → All IsKeptClaim book.claims

-- ---- a claim of it
-- a claim of a node of the instance, which stores a lawful table
pub record IsHeldClaim (instance : Instance) (claim : HeldNode) : Type 0 where
  pub lawful : IsLawfulInstance instance
  pub path : IsNodeOf instance claim.path
  pub table : IsLawfulTable instance claim.table
  pub unit : claim.unit ≤ MAX_BUDGET

-- and of this run: its unit is within the budget
pub record IsClaimOf (opening : Opening) (claim : HeldNode) : Type 0 where
  pub held : IsHeldClaim opening.instance claim
  pub unit : claim.unit ≤ opening.budget

abbrev pub IsTakenOf : Opening → Taken → Type 0
IsTakenOf opening (taken.Mine claim) = IsClaimOf opening claim
IsTakenOf opening _ = Unit {0}
