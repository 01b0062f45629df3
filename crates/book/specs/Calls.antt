-- What each call of a book answers, and what it leaves. This project's own form.
use Rattle.std.specs.Prelude.{◌≡◌, ◌≢◌, ℕ, suc, Bool, true, false, [], ◌∷◌, ◌++◌, ℤ, Some, length, slice_get}
use Rattle.branch_tree.specs.Prelude.{spot_at, IsNodeAt, TreeView, HasFreeCell}
use Rattle.branch_tree.specs.declared.tree.Spot.TheVariants as spot
pub use Rattle.dual_model.specs.declared.node.Node.{Node}
use Rattle.search_machine.specs.Prelude.{IsOpen, IsHolding, entries_of, stored_at, IsMoveLegal, kept, tree_after, IsFresh, IsStoredTable}
use Rattle.branch_tree.specs.declared.found.Outcome.{Outcome}
use Rattle.book.specs.BookView.{BookView, Table, state_of}
use Rattle.book.specs.Claims.{Move, Held, Committed, GivenBack, ended}
use Rattle.book.specs.declared.claims.Claimed.{Claimed}
use Rattle.book.specs.declared.claims.Claimed.TheVariants.{Spent, NotOpen, Mine}

-- ---- claim
-- one claim more, by which the worker holds the node
abbrev pub claimed : BookView → ℕ → ℕ → BookView
claimed book worker node = record book {
  claims = book.claims ++ (record { worker = worker; node = node; behind = length book.log; status = Held }) ∷ [];
}

-- Spent where claims equal the budget; else NotOpen where the node isn't open; else the claim is made
abbrev pub IsClaimAnswer : BookView → ℕ → ℕ → BookView → Claimed → Type 0
IsClaimAnswer old worker node new Spent = (length old.claims ≡ old.budget) × (new ≡ old)
IsClaimAnswer old worker node new NotOpen = (length old.claims ≢ old.budget) × (¬ IsOpen (state_of old) node) × (new ≡ old)
IsClaimAnswer old worker node new (Mine unit had) =
    (length old.claims ≢ old.budget) × IsOpen (state_of old) node × (unit ≡ suc (length old.claims))
    × (had ≡ length (entries_of old.log node)) × (new ≡ claimed old worker node)

-- ---- holding
-- some worker holds the unit
pub record IsUnitHeld (book : BookView) (unit : ℕ) : Type 0 where
  pub worker : ℕ
  pub node : ℕ
  pub holds : IsHolding (state_of book) worker unit node

-- the fixings of the unit's node, and what it stores
pub record IsStoredAt (book : BookView) (unit : ℕ) (node : Node) (table : Table) (value : ℤ) : Type 0 where
  pub worker : ℕ
  pub number : ℕ
  pub holds : IsHolding (state_of book) worker unit number
  pub is_node : IsNodeAt book.tree number node
  pub is_table : slice_get book.tables (stored_at book.tree number).table ≡ Some table
  pub is_value : value ≡ (stored_at book.tree number).value

-- ---- children
-- a split stands at the node, with these children
pub record AreChildren (tree : TreeView) (node off on : ℕ) : Type 0 where
  pub g : ℕ
  pub t : ℕ
  pub is : spot_at tree.nodes node ≡ Some (spot.Inner g t off on)

-- ---- commit
-- the node of this number is the given one; no entry of it is at the table with a value of this kind; at the first one of a node that
-- isn't the root, while a cell is undecided there, the table is the stored one; and the move's condition holds, of a Prune its number test
pub record MayBe (book : BookView) (node : ℕ) (given : Node) (table : Table) (exact : Bool) (outcome : Outcome) (action : Move) : Type 0 where
  pub is_node : IsNodeAt book.tree node given
  pub fresh : IsFresh (state_of book) (entries_of book.log node) table exact
  pub first : entries_of book.log node ≡ [] → node ≢ 0 → HasFreeCell book.tree node → IsStoredTable (state_of book) node table
  pub legal : IsMoveLegal (λ cost. Unit {0}) (state_of book) node table exact outcome action

-- the worker holds the unit, and the commit may be one of the node that it holds by it
pub record MayCommit (book : BookView) (worker unit : ℕ) (given : Node) (table : Table) (exact : Bool) (outcome : Outcome) (action : Move)
    : Type 0 where
  pub node : ℕ
  pub holds : IsHolding (state_of book) worker unit node
  pub may : MayBe book node given table exact outcome action

-- the evaluation is entered, and the claim ends in the move
abbrev pub committed : BookView → ℕ → ℕ → ℕ → Table → Bool → Outcome → Move → BookView
committed book worker unit node table exact outcome action = record book {
  tree = tree_after book.tree node (kept (state_of book) node table exact outcome) (length book.tables) exact outcome action;
  tables = book.tables ++ table ∷ [];
  log = book.log
      ++ (record { unit = unit; worker = worker; node = node; table = length book.tables; exact = exact; outcome = outcome }) ∷ [];
  claims = ended book.claims unit (Committed action);
}

-- true where the commit may be made, and then it is; else all is as before
pub record IsCommitted (old : BookView) (worker unit : ℕ) (given : Node) (table : Table) (exact : Bool) (outcome : Outcome) (action : Move)
    (new : BookView) : Type 0 where
  pub may : MayCommit old worker unit given table exact outcome action
  pub is : new ≡ committed old worker unit may.node table exact outcome action

abbrev pub IsCommitAnswer : BookView → ℕ → ℕ → Node → Table → Bool → Outcome → Move → BookView → Bool → Type 0
IsCommitAnswer old worker unit given table exact outcome action new true = IsCommitted old worker unit given table exact outcome action new
IsCommitAnswer old worker unit given table exact outcome action new false =
    (¬ MayCommit old worker unit given table exact outcome action) × (new ≡ old)

-- ---- abandon
-- the claim was given back: its node is open again
abbrev pub given_back : BookView → ℕ → BookView
given_back book unit = record book { claims = ended book.claims unit GivenBack }

-- true where the worker holds the unit, and then it is given back; else all is as before
pub record IsGivenBack (old : BookView) (worker unit : ℕ) (new : BookView) : Type 0 where
  pub node : ℕ
  pub holds : IsHolding (state_of old) worker unit node
  pub is : new ≡ given_back old unit

abbrev pub IsAbandonAnswer : BookView → ℕ → ℕ → BookView → Bool → Type 0
IsAbandonAnswer old worker unit new true = IsGivenBack old worker unit new
IsAbandonAnswer old worker unit new false = ((node : ℕ) → ¬ IsHolding (state_of old) worker unit node) × (new ≡ old)

-- ---- what is open or held
-- the unit is held by this worker, and by it the node, which has so many entries
pub record IsHeldUnit (book : BookView) (unit worker node had : ℕ) : Type 0 where
  pub holds : IsHolding (state_of book) worker unit node
  pub count : had ≡ length (entries_of book.log node)
