-- Each split takes a cell off those that are undecided, so a cover has few nodes; and a log with one entry a node at most has no more.
-- Cite by `use Rattle.pivot_closing.proofs.TreeSizes.{trees_are_small, entries_within}`.
use Rattle.std.proofs.Common.{◌≡◌, ℕ, zero, suc, ◌+◌, ◌^◌, ◌<◌, ◌≤◌, Bool, true, false, ◌&&◌, ◌||◌, ◌==◌, cond, refl, sym, ap, subst, ◌∙◌, arith, List, [], ◌∷◌, All, length, length-append, filter, Some, ⊎_elim}
use Rattle.std.specs.List.{list_any}
use Rattle.std.proofs.lemmas.Bool.{cases_Bool, cases_lt, and_parts, not-true, eqb-true, true≢false}
use Rattle.std.proofs.lemmas.List.Elements.{All-head, All-tail, All-cons, All-nil, All-append, All-filter, filter-append}
use Rattle.std.proofs.lemmas.Grind.{pow_more}
use Rattle.std.proofs.lemmas.Nat.{pow_pos}
use Rattle.uc_model.specs.Prelude.{thermal_count}
use Rattle.dual_model.specs.Prelude.{IsCell, IsNodeOf, root, child, is_decided, IsCoverBelow}
use Rattle.dual_model.specs.declared.node.Fixing.{Fixing}
use Rattle.dual_model.specs.declared.node.Node.{Node}
use Rattle.branch_tree.specs.Prelude.{NumberedTree, EndAt, SplitAt, Subtree, IsNumbered, unnumbered, node_count, node_at, subtree_at}
use Rattle.branch_tree.specs.declared.found.Entry.{Entry}
use Rattle.branch_tree.proofs.Changes.{from_some}
use Rattle.branch_tree.proofs.Subtrees.{part_counted}
use Rattle.decided_nodes.specs.Pivoting.{cell_count}
use Rattle.pivot_closing.specs.TreeSizes.{Instance, TreesAreSmall}
use Rattle.pivot_closing.proofs.Filtering.{filter_both, few_of_each}

-- ---- paths
-- the decisions on a cell
abbrev decisions_on : ℕ → ℕ → List Fixing → List Fixing
decisions_on g t fixings = filter (λ fixing. (fixing.g == g) && (fixing.t == t)) fixings

-- a node whose path decides cells of the instance, each once at most
record IsPath (instance : Instance) (node : Node) : Type 0 where
  cells : IsNodeOf instance node
  once : (g t : ℕ) → length (decisions_on g t node.fixings) ≤ 1

-- it decides no more cells than there are
few_decided : (instance : Instance) (node : Node) → IsPath instance node → length node.fixings ≤ cell_count instance
few_decided instance node path =
    few_of_each (λ (fixing : Fixing). fixing.g) instance.periods (thermal_count instance) node.fixings (units node.fixings path.cells) (λ g hg.
    let few = few_of_each (λ (fixing : Fixing). fixing.t) 1 instance.periods (filter (λ fixing. fixing.g == g) node.fixings)
    (All-filter (λ fixing. fixing.g == g) (λ fixing. fixing.t < instance.periods) node.fixings (periods node.fixings path.cells))
    (λ t ht. subst (λ (fixings : List Fixing). length fixings ≤ 1) (sym (filter_both (λ (fixing : Fixing). fixing.t == t) (λ fixing. fixing.g == g) node.fixings)) (path.once g t)) in
    omega (arith, few))
  where
    units : (fixings : List Fixing) → All (λ fixing. IsCell instance fixing.g fixing.t) fixings → All (λ fixing. fixing.g < thermal_count instance) fixings
    units [] cells = All-nil (λ fixing. fixing.g < thermal_count instance)
    units (fixing ∷ rest) cells = All-cons (λ f. f.g < thermal_count instance) fixing rest (All-head (λ f. IsCell instance f.g f.t) fixing rest cells).unit
        (units rest (All-tail (λ f. IsCell instance f.g f.t) fixing rest cells))

    periods : (fixings : List Fixing) → All (λ fixing. IsCell instance fixing.g fixing.t) fixings → All (λ fixing. fixing.t < instance.periods) fixings
    periods [] cells = All-nil (λ fixing. fixing.t < instance.periods)
    periods (fixing ∷ rest) cells = All-cons (λ f. f.t < instance.periods) fixing rest (All-head (λ f. IsCell instance f.g f.t) fixing rest cells).period
        (periods rest (All-tail (λ f. IsCell instance f.g f.t) fixing rest cells))

-- the root decides nothing
root_path : (instance : Instance) → IsPath instance root
root_path instance = record { cells = All-nil (λ (fixing : Fixing). IsCell instance fixing.g fixing.t); once = λ g t. omega arith }

-- on a cell that isn't decided there are no decisions
none_on : (g t : ℕ) (fixings : List Fixing) → list_any (λ fixing. (fixing.g == g) && (fixing.t == t)) fixings ≡ false → length (decisions_on g t fixings) ≡ 0
none_on g t [] none = refl
none_on g t (fixing ∷ rest) none = step ((fixing.g == g) && (fixing.t == t)) none (none_on g t rest)
  where
    step : (b : Bool) → (b || list_any (λ f. (f.g == g) && (f.t == t)) rest) ≡ false
        → (list_any (λ f. (f.g == g) && (f.t == t)) rest ≡ false → length (decisions_on g t rest) ≡ 0)
        → length (cond b (fixing ∷ decisions_on g t rest) (decisions_on g t rest)) ≡ 0
    step true h before = absurd (true≢false h)
    step false h before = before h

-- a child decides one cell more
child_path : (instance : Instance) (node : Node) (g t : ℕ) (on : Bool) → IsPath instance node → IsCell instance g t → is_decided node g t ≡ false
    → IsPath instance (child node g t on)
child_path instance node g t on path cell free = record {
  cells = All-append (λ (fixing : Fixing). IsCell instance fixing.g fixing.t) node.fixings (record { g = g; t = t; on = on } ∷ []) path.cells
      (All-cons (λ (fixing : Fixing). IsCell instance fixing.g fixing.t) (record { g = g; t = t; on = on }) [] cell (All-nil (λ (fixing : Fixing). IsCell instance fixing.g fixing.t)));
  once = λ h s. subst (λ (fixings : List Fixing). length fixings ≤ 1)
      (sym (filter-append (λ fixing. (fixing.g == h) && (fixing.t == s)) node.fixings (record { g = g; t = t; on = on } ∷ [])))
      (subst (λ n. n ≤ 1) (sym (length-append (decisions_on h s node.fixings) _)) (one h s));
}
  where
    one : (h s : ℕ) → length (decisions_on h s node.fixings) + length {A = Fixing} (cond ((g == h) && (t == s)) ((record { g = g; t = t; on = on }) ∷ []) []) ≤ 1
    one h s = ⊎_elim
        (λ (here : ((g == h) && (t == s)) ≡ true).
        let parts = and_parts (g == h) (t == s) here in
        let none = none_on g t node.fixings free in
        let same : length (decisions_on h s node.fixings) ≡ 0 =
        ap (λ n. length (decisions_on n s node.fixings)) (sym (eqb-true g h parts.0)) ∙ ap (λ n. length (decisions_on g n node.fixings)) (sym (eqb-true t s parts.1)) ∙ none in
        subst (λ b. length (decisions_on h s node.fixings) + length {A = Fixing} (cond b ((record { g = g; t = t; on = on }) ∷ []) []) ≤ 1) (sym here) (omega (arith, same)))
        (λ (elsewhere : ((g == h) && (t == s)) ≡ false).
        subst (λ b. length (decisions_on h s node.fixings) + length {A = Fixing} (cond b ((record { g = g; t = t; on = on }) ∷ []) []) ≤ 1) (sym elsewhere) (omega (arith, path.once h s)))
        (cases_Bool ((g == h) && (t == s)))

-- ---- trees
-- below a node that leaves so many cells undecided
nodes_below : (instance : Instance) (here : Node) (tree : NumberedTree) (left : ℕ) → IsPath instance here → IsCoverBelow instance here (unnumbered tree)
    → length here.fixings + left ≡ cell_count instance → node_count tree < 2 ^ (left + 1)
nodes_below instance here (EndAt number leaf) left path cover count =
    let more = pow_more 2 left in
    let some = pow_pos left in
    omega arith
nodes_below instance here (SplitAt number g t off on) left path cover count =
    by_left left count (λ n e. nodes_below instance (child here g t false) off n (path_of false) cover.2 e)
    (λ n e. nodes_below instance (child here g t true) on n (path_of true) cover.3 e)
  where
    free : is_decided here g t ≡ false
    free = not-true (is_decided here g t) cover.1

    longer : (b : Bool) → length (child here g t b).fixings ≡ length here.fixings + 1
    longer b = length-append here.fixings ((record { g = g; t = t; on = b }) ∷ [])

    path_of : (b : Bool) → IsPath instance (child here g t b)
    path_of b = child_path instance here g t b path cover.0 free

    by_left : (n : ℕ) → length here.fixings + n ≡ cell_count instance
        → ((m : ℕ) → length (child here g t false).fixings + m ≡ cell_count instance → node_count off < 2 ^ (m + 1))
        → ((m : ℕ) → length (child here g t true).fixings + m ≡ cell_count instance → node_count on < 2 ^ (m + 1))
        → node_count (SplitAt number g t off on) < 2 ^ (n + 1)
    by_left zero e off_side on_side = absurd (let most = few_decided instance (child here g t false) (path_of false) in omega (arith, longer false, most))
    by_left (suc n) e off_side on_side =
        let first = off_side n (omega (arith, longer false, e)) in
        let second = on_side n (omega (arith, longer true, e)) in
        let more = pow_more 2 (n + 1) in
        let same : suc n + 1 ≡ n + 1 + 1 = omega arith in
        subst (λ k. node_count (SplitAt number g t off on) < 2 ^ k) (sym same) (omega (arith, first, second, more))

pub trees_are_small : TreesAreSmall
trees_are_small instance tree cover =
    nodes_below instance root tree (cell_count instance) (root_path instance) cover (omega arith)

-- ---- logs
-- the entry's node is one of the tree
pub record IsOfNode (tree : NumberedTree) (entry : Entry) : Type 0 where
  pub node : Node
  pub is_node : node_at tree entry.node ≡ Some node

node_within : (tree : NumberedTree) (entry : Entry) → IsNumbered tree → IsOfNode tree entry → entry.node < node_count tree
node_within tree entry numbered of =
    let part = from_some (λ (p : Subtree). p.node) (subtree_at tree entry.node) of.node of.is_node in
    let counted = part_counted root tree entry.node part.0 part.1 in
    ⊎_elim
    (λ (within : entry.node < node_count tree). within)
    (λ (past : node_count tree ≤ entry.node). absurd (let none = numbered.none entry.node past in omega arith))
    (cases_lt entry.node (node_count tree))

pub entries_below : (tree : NumberedTree) (log : List Entry) → IsNumbered tree → All (IsOfNode tree) log → All (λ entry. entry.node < node_count tree) log
entries_below tree [] numbered of = All-nil (λ entry. entry.node < node_count tree)
entries_below tree (entry ∷ rest) numbered of =
    All-cons (λ e. e.node < node_count tree) entry rest (node_within tree entry numbered (All-head (IsOfNode tree) entry rest of))
    (entries_below tree rest numbered (All-tail (IsOfNode tree) entry rest of))

-- where each node has one entry at most, there are no more than nodes
pub entries_within : (tree : NumberedTree) (log : List Entry) → IsNumbered tree → All (IsOfNode tree) log
    → ((number : ℕ) → number < node_count tree → length (filter (λ entry. entry.node == number) log) ≤ 1) → length log ≤ node_count tree
entries_within tree log numbered nodes once =
    let few = few_of_each (λ (entry : Entry). entry.node) 1 (node_count tree) log (entries_below tree log numbered nodes) once in
    omega (arith, few)
