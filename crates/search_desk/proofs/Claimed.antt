-- What a worker knows of a node that it holds.
use Rattle.std.proofs.Common.{◌≡◌, ◌≢◌, ℕ, suc, ◌<◌, ◌≤◌, All, List, [], ◌∷◌, ◌++◌, length, ap, sym, subst, arith, ℤ, Some, refl, length-append, slice_get}
use Rattle.std.proofs.lemmas.List.{nil_from_length}
use Rattle.std.proofs.lemmas.Option.{get_or_from_slice_get, slice_get_within}
use Rattle.dual_model.specs.Prelude.{IsNodeOf, IsLawfulTable}
use Rattle.dual_model.specs.declared.node.Node.{Node}
use Rattle.branch_tree.specs.Prelude.{node_count, IsNodeAt}
use Rattle.pivot_closing.proofs.Decided.{node_cells}
use Rattle.book.specs.Prelude.{BookView, state_of, IsClaimAnswer, IsHeldUnit, IsStoredAt, IsUnitHeld, claimed, holders, Opening, IsTrueOpening, number_of, replayed, IsRunning}
use Rattle.book.specs.declared.claims.Claim.{Claim}
use Rattle.book.specs.declared.claims.Claimed.TheVariants.{Mine}
use Rattle.book.specs.declared.claims.Status.TheVariants.{Held}
use Rattle.book.proofs.Units.{held_part}
use Rattle.search_machine.specs.Prelude.{IsHolding, entries_of, holder_in, TreeRunsHold}
use Rattle.book.proofs.Books.{run_holds}
use Rattle.book.proofs.Steps.{held_still}
use Rattle.search_machine.proofs.Claims.{holdable}
use Rattle.search_desk.specs.Desks.{Table, IsLaterWithin, IsScaledWithin}

-- a node of the book's tree is a node of the instance
pub node_of : (opening : Opening) (book : BookView) (number : ℕ) (node : Node) → IsRunning opening book → IsNodeAt book.tree number node
    → IsNodeOf opening.instance node
node_of opening book number node running at = node_cells opening.instance book.tree.nodes number node running.tree.cover at

-- an item of a list of which each is so
pub listed : {A : Type 0} (P : A → Type 0) (xs : List A) (place : ℕ) (x : A) → All P xs → slice_get xs place ≡ Some x → P x
listed P xs place x each is = grind (arith, get_or_from_slice_get, slice_get_within, each, is)

-- the table that the node stores
pub stored_lawful : (opening : Opening) (book : BookView) (unit : ℕ) (node : Node) (table : Table) (value : ℤ) → IsRunning opening book
    → IsStoredAt book unit node table value → IsLawfulTable opening.instance table
stored_lawful opening book unit node table value running is =
    listed (IsLawfulTable opening.instance) book.tables _ table running.tree.tables is.is_table

-- a unit that is held is one of the budget's
pub unit_within : (opening : Opening) (book : BookView) (worker unit node : ℕ) → IsRunning opening book
    → IsHolding (state_of book) worker unit node → unit ≤ opening.budget
unit_within opening book worker unit node running holds =
    let part = held_part book.claims worker unit node holds in
    omega (
      arith,
      part.unit_is,
      ap (λ l. length l) part.is,
      length-append part.before (part.claim ∷ part.after),
      running.few,
      running.budget,
    )

-- the claim that was just made is held
pub claim_held : (old new : BookView) (worker node unit had : ℕ) → IsClaimAnswer old worker node new (Mine unit had) → IsUnitHeld new unit
claim_held old new worker node unit had answer = record {
  worker = worker;
  node = node;
  holds = subst (λ (b : BookView). IsHolding (state_of b) worker unit node) (sym answer.4)
      (subst (λ u. IsHolding (state_of (claimed old worker node)) worker u node) (sym answer.2) (last_held old.claims));
}
  where
    own : Claim
    own = record { worker = worker; node = node; behind = length old.log; status = Held }

    last_held : (claims : List Claim) → holder_in (holders (claims ++ own ∷ [])) (suc (length claims)) ≡ Some (record { worker = worker; node = node })
    last_held [] = refl
    last_held (claim ∷ claims) = last_held claims

-- one node is held by a unit
pub one_node : (book : BookView) (a b unit one other : ℕ) → IsHolding (state_of book) a unit one → IsHolding (state_of book) b unit other → one ≡ other
one_node book a b unit one other first second = grind (arith, first, second)

-- at the first entry of a node the table may have any scale
pub later_of : (book : BookView) (limit worker unit node had holder other : ℕ) (table : Table) → IsHeldUnit book unit worker node had
    → IsLaterWithin limit had table → IsHolding (state_of book) holder unit other → entries_of book.log other ≢ [] → IsScaledWithin limit table
later_of book limit worker unit node had holder other table held later holds some = grind (arith, one_node, nil_from_length, held, later, holds, some)

-- a node that is held is one of the tree
pub held_below : TreeRunsHold → (opening : Opening) (book : BookView) (worker unit node : ℕ) → IsTrueOpening opening → IsRunning opening book
    → IsHolding (state_of book) worker unit node → node < node_count book.tree.nodes
held_below law opening book worker unit node begun running holds =
    let orderly = (run_holds law opening book begun running.replays).1 in
    (holdable (replayed book running.replays.desks) worker (number_of book.claims unit) node orderly
    (held_still book unit (record { worker = worker; node = node }) holds)).below
