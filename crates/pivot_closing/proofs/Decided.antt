-- A commitment at a node at which no cell is undecided is decided there.
-- Cite by `use Rattle.pivot_closing.proofs.Decided.{decided_at, node_cells}`.
use Rattle.std.proofs.Common.{◌≡◌, ℕ, ◌<◌, ◌⊎◌, ⊎_elim, Bool, true, false, not, ◌&&◌, ◌==◌, refl, sym, ap, subst, ◌∙◌, List, [], ◌∷◌, All, IsTrue, Some, if◌then◌else◌}
use Rattle.std.specs.List.{list_all, list_any}
use Rattle.std.proofs.lemmas.Bool.{cases_Bool, and_parts, and_from, or_cases, eqb-true, eq-eqb, not-true, not_from_false, true≢false}
use Rattle.std.proofs.lemmas.List.Elements.{All-head, All-tail, All-cons, All-nil, All-append}
use Rattle.uc_model.specs.Prelude.{Commitment, thermal_count}
use Rattle.uc_model.specs.declared.instance.Instance.{Instance}
use Rattle.dual_model.specs.Prelude.{IsCell, IsNodeOf, keeps, keeps_of, root, child, is_decided, IsCover, IsCoverBelow}
use Rattle.dual_model.specs.declared.node.Fixing.{Fixing}
use Rattle.dual_model.specs.declared.node.Node.{Node}
use Rattle.branch_tree.specs.Prelude.{NumberedTree, EndAt, SplitAt, Subtree, unnumbered, node_at, subtree_at, subtree_below, TreeView, IsSizeOf, HasFreeCell, IsNodeAt}
use Rattle.branch_tree.proofs.Changes.{from_some}
use Rattle.branch_tree.proofs.Subtrees.{IsHere, leaf_case, subtree_cases}
use Rattle.dispatch_rules.specs.Prelude.{Pattern, AreAllowed, commitment_at}
use Rattle.pivot_dispatch.specs.Commitments.{IsDecidedAt}
use Rattle.decided_nodes.specs.Decided.{ArePatternsAt}

-- ---- the decisions of a node
-- a node of a cover decides cells of the instance
cells_below : (instance : Instance) (here : Node) (tree : NumberedTree) (wanted : ℕ) (part : Subtree) → IsNodeOf instance here
    → IsCoverBelow instance here (unnumbered tree) → subtree_below here tree wanted ≡ Some part → IsNodeOf instance part.node
cells_below instance here (EndAt number l) wanted part is cover e =
    let h = leaf_case here number l wanted part e in
    subst (IsNodeOf instance) (sym (ap (λ (p : Subtree). p.node) h.whole)) is
cells_below instance here (SplitAt number g t off on) wanted part is cover e =
    let cell : (b : _) → IsNodeOf instance (child here g t b) = λ b.
    All-append (λ (fixing : Fixing). IsCell instance fixing.g fixing.t) here.fixings ((record { g = g; t = t; on = b }) ∷ []) is
    (All-cons (λ (fixing : Fixing). IsCell instance fixing.g fixing.t) (record { g = g; t = t; on = b }) [] cover.0 (All-nil (λ (fixing : Fixing). IsCell instance fixing.g fixing.t))) in
    ⊎_elim
    (λ (h : IsHere here (SplitAt number g t off on) wanted part). subst (IsNodeOf instance) (sym (ap (λ (p : Subtree). p.node) h.whole)) is)
    (λ (sides : (subtree_below (child here g t false) off wanted ≡ Some part) ⊎ (subtree_below (child here g t true) on wanted ≡ Some part)). ⊎_elim
    (λ (l : subtree_below (child here g t false) off wanted ≡ Some part). cells_below instance (child here g t false) off wanted part (cell false) cover.2 l)
    (λ (r : subtree_below (child here g t true) on wanted ≡ Some part). cells_below instance (child here g t true) on wanted part (cell true) cover.3 r)
    sides)
    (subtree_cases here number g t off on wanted part e)

pub node_cells : (instance : Instance) (tree : NumberedTree) (number : ℕ) (node : Node) → IsCover instance (unnumbered tree)
    → node_at tree number ≡ Some node → IsNodeOf instance node
node_cells instance tree number node cover at =
    let part = from_some (λ (p : Subtree). p.node) (subtree_at tree number) node at in
    subst (IsNodeOf instance) part.2
    (cells_below instance root tree number part.0 (All-nil (λ (fixing : Fixing). IsCell instance fixing.g fixing.t)) cover part.1)

-- a decision of the unit is kept
kept : (g : ℕ) (on : Commitment) (fixing : Fixing) → IsTrue (keeps_of g on fixing) → fixing.g ≡ g → IsTrue (keeps fixing on)
kept g on fixing h same = ⊎_elim
    (λ (apart : IsTrue (not (fixing.g == g))). absurd (true≢false (sym (eq-eqb fixing.g g same) ∙ not-true (fixing.g == g) apart)))
    (λ (is : IsTrue (keeps fixing on)). is)
    (or_cases (not (fixing.g == g)) (keeps fixing on) h)

-- two commitments that keep a decision are the same in its cell
same_kept : (fixing : Fixing) (first second : Commitment) → IsTrue (keeps fixing first) → IsTrue (keeps fixing second) → first fixing.t ≡ second fixing.t
same_kept fixing first second one other = by_bit fixing.on one other
  where
    by_bit : (b : Bool) → IsTrue (if b then first fixing.t else not (first fixing.t)) → IsTrue (if b then second fixing.t else not (second fixing.t))
        → first fixing.t ≡ second fixing.t
    by_bit true h k = h ∙ sym k
    by_bit false h k = not-true (first fixing.t) h ∙ sym (not-true (second fixing.t) k)

-- so they are in each cell that is decided
same_there : (g t : ℕ) (first second : Commitment) (fixings : List Fixing) → list_any (λ fixing. (fixing.g == g) && (fixing.t == t)) fixings ≡ true
    → IsTrue (list_all (keeps_of g first) fixings) → IsTrue (list_all (keeps_of g second) fixings) → first t ≡ second t
same_there g t first second [] some one other = absurd (true≢false (sym some))
same_there g t first second (fixing ∷ rest) some one other =
    let own = and_parts (keeps_of g first fixing) (list_all (keeps_of g first) rest) one in
    let others = and_parts (keeps_of g second fixing) (list_all (keeps_of g second) rest) other in
    ⊎_elim
    (λ (here : IsTrue ((fixing.g == g) && (fixing.t == t))).
    let is = and_parts (fixing.g == g) (fixing.t == t) here in
    let unit = eqb-true fixing.g g is.0 in
    subst (λ s. first s ≡ second s) (eqb-true fixing.t t is.1) (same_kept fixing first second (kept g first fixing own.0 unit) (kept g second fixing others.0 unit)))
    (λ (later : IsTrue (list_any (λ f. (f.g == g) && (f.t == t)) rest)). same_there g t first second rest later own.1 others.1)
    (or_cases ((fixing.g == g) && (fixing.t == t)) (list_any (λ f. (f.g == g) && (f.t == t)) rest) some)

-- where each unit's commitment keeps its decisions, all decisions are kept
all_kept : (instance : Instance) (on : ℕ → Commitment) (fixings : List Fixing) → All (λ fixing. IsCell instance fixing.g fixing.t) fixings
    → ((g : ℕ) → g < thermal_count instance → IsTrue (list_all (keeps_of g (on g)) fixings)) → IsTrue (list_all (λ fixing. keeps fixing (on fixing.g)) fixings)
all_kept instance on [] cells each = refl
all_kept instance on (fixing ∷ rest) cells each =
    let cell = All-head (λ f. IsCell instance f.g f.t) fixing rest cells in
    let own = and_parts (keeps_of fixing.g (on fixing.g) fixing) (list_all (keeps_of fixing.g (on fixing.g)) rest) (each fixing.g cell.unit) in
    and_from _ _ (kept fixing.g (on fixing.g) fixing own.0 refl)
    (all_kept instance on rest (All-tail (λ f. IsCell instance f.g f.t) fixing rest cells)
    (λ g hg. (and_parts (keeps_of g (on g) fixing) (list_all (keeps_of g (on g)) rest) (each g hg)).1))

-- ---- a commitment there
pub allowed_there : (instance : Instance) (node : Node) (patterns : List Pattern) → ArePatternsAt instance node patterns → AreAllowed instance patterns
allowed_there instance node patterns is = record { count = is.count; allowed = λ g hg. (is.each g hg).allowed }

-- a cell of the instance is decided where none is free
pub cell_decided : (tree : TreeView) (instance : Instance) (number : ℕ) (node : Node) (g t : ℕ) → IsSizeOf tree instance → IsNodeAt tree number node
    → ¬ HasFreeCell tree number → g < thermal_count instance → t < instance.periods → is_decided node g t ≡ true
cell_decided tree instance number node g t size at none hg ht = ⊎_elim
    (λ (decided : is_decided node g t ≡ true). decided)
    (λ (free : is_decided node g t ≡ false). absurd (none (record {
      g = g;
      t = t;
      free = record {
        unit = subst (λ n. g < n) size.thermal hg;
        period = subst (λ n. t < n) size.periods ht;
        node = node;
        is_node = at;
        undecided = not_from_false (is_decided node g t) free;
      };
    })))
    (cases_Bool (is_decided node g t))

pub decided_at : (tree : TreeView) (instance : Instance) (number : ℕ) (node : Node) (patterns : List Pattern) → IsSizeOf tree instance
    → IsCover instance (unnumbered tree.nodes) → IsNodeAt tree number node → ¬ HasFreeCell tree number → ArePatternsAt instance node patterns
    → IsDecidedAt instance patterns node
decided_at tree instance number node patterns size cover at none is =
    let cells = node_cells instance tree.nodes number node cover at in
    record {
      cells = cells;
      agrees = all_kept instance (commitment_at patterns) node.fixings cells (λ g hg. (is.each g hg).agrees);
      alone = λ g other hg pattern t ht. same_there g t (commitment_at patterns g) other node.fixings
          (cell_decided tree instance number node g t size at none hg ht) (is.each g hg).agrees pattern.agrees;
    }
