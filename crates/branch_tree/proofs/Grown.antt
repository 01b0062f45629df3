-- A placed tree after an open leaf of it was closed or split: it is placed again, what stands elsewhere stays, and what holds
-- of each leaf holds again where it holds of what was grown.
use Rattle.std.proofs.Common.{◌≡◌, ◌≢◌, ℕ, suc, ◌+◌, ◌<◌, ◌≤◌, ◌⊎◌, true, false, cond, List, [], ◌∷◌, ◌++◌, set, refl, ap, sym, ◌∙◌, subst, arith, ⊎_elim, Some, None, Option, length-append, length-set, slice_get}
use Rattle.std.specs.Option.{option_or, option_map}
use Rattle.std.proofs.lemmas.Bool.{eq-eqb, ne_eqb, cases_lt}
use Rattle.std.proofs.lemmas.Option.{slice_get-get_or}
use Rattle.dual_model.specs.Prelude.{root, child, EachLeaf}
use Rattle.dual_model.specs.Tree as branch
use Rattle.branch_tree.specs.NumberedTree.{Node, Spot, Leaf, NumberedTree, EndAt, SplitAt, Subtree, IsNumbered, unnumbered, number_of, spot_of, node_count, times, subtree_below, subtree_at, spot_at, node_at, replaced, split_leaf}
use Rattle.branch_tree.specs.Places.{Place, ArePlacesOf, IsPlaced}
use Rattle.branch_tree.specs.TreeView.{IsOpenAt}
use Rattle.branch_tree.specs.declared.tree.Leaf.TheVariants as leaf
use Rattle.branch_tree.specs.declared.tree.Spot.TheVariants as spot
use Rattle.branch_tree.proofs.Subtrees.{replaced_nowhere, AreApart, IsHere, IsOff, IsOn, apart_off, apart_on, subtree_cases, leaf_sides, not_root, part_counted, no_part, side_part}
use Rattle.branch_tree.proofs.Changes.{are_apart, part_place, spot_is, from_some, get-set_other, get-set_same, get-append, open_place, open_within, closed_places, split_places}
use Rattle.branch_tree.proofs.Preorder.{IsPart, whole_part, off_side, on_side, part_spot}

-- ---- a root alone
pub root_placed : (l : Leaf) → IsPlaced (EndAt 0 l)
root_placed l = record {
  places = (record { parent = 0; spot = spot.Leaf l }) ∷ [];
  are = grind arith;
}
  where
    once : (number : ℕ) → number < 1 → times number (EndAt 0 l) ≡ 1
    once number below = let first : 0 ≡ number = omega arith in ap (λ b. cond b 1 0) (eq-eqb 0 number first)

    none : (number : ℕ) → 1 ≤ number → times number (EndAt 0 l) ≡ 0
    none number past = ap (λ b. cond b 1 0) (ne_eqb 0 number (λ e. omega arith))

-- ---- the place of an open leaf
pub record HasOpen (tree : NumberedTree) (placed : IsPlaced tree) (wanted : ℕ) (at : IsOpenAt tree wanted) : Type 0 where
  pub place : Place
  pub stands : slice_get placed.places wanted ≡ Some place
  pub is : place.spot ≡ spot.Leaf (leaf.Live at.table at.value at.exact)

pub open_spot : (tree : NumberedTree) (wanted : ℕ) (placed : IsPlaced tree) (at : IsOpenAt tree wanted) → HasOpen tree placed wanted at
open_spot tree wanted placed at =
    let within = open_within placed.places tree wanted placed.are at in
    let nothing : Place = record { parent = 0; spot = spot.Leaf (leaf.Empty 0) } in
    let stands = slice_get-get_or placed.places wanted nothing within in
    record { place = _; stands = stands; is = open_place placed.places tree wanted _ placed.are stands at }

-- its number is below the count of the nodes
pub open_below : (tree : NumberedTree) (wanted : ℕ) → IsNumbered tree → IsOpenAt tree wanted → wanted < node_count tree
open_below tree wanted numbered at = grind (arith, from_some, part_counted, cases_lt, numbered, at)

pub open_numbered : (tree : NumberedTree) (wanted : ℕ) → IsPlaced tree → IsOpenAt tree wanted → wanted < node_count tree
open_numbered tree wanted placed at = open_below tree wanted placed.are.numbered at

-- what stands at a number has a place
spot_place : (tree : NumberedTree) (number : ℕ) (s : Spot) (placed : IsPlaced tree) → spot_at tree number ≡ Some s
    → (place : Place) × (slice_get placed.places number ≡ Some place) × (place.spot ≡ s)
spot_place tree number s placed e =
    let part = from_some (λ (p : Subtree). spot_of p.tree) (subtree_at tree number) s e in
    let stands = part_place placed.places tree number part.0 placed.are part.1 in
    (record { parent = stands.0; spot = spot_of part.0.tree }, stands.1, part.2)

-- ---- another leaf
abbrev pub closed_tree : NumberedTree → ℕ → Leaf → NumberedTree
closed_tree tree wanted new = replaced wanted (λ (l : Leaf). EndAt wanted new) tree

closed_are : (tree : NumberedTree) (wanted : ℕ) (new : Leaf) (placed : IsPlaced tree) (at : IsOpenAt tree wanted)
    → ArePlacesOf (closed_tree tree wanted new)
    (set placed.places wanted (record { parent = (open_spot tree wanted placed at).place.parent; spot = spot.Leaf new }))
closed_are tree wanted new placed at =
    let here = open_spot tree wanted placed at in
    closed_places placed.places tree wanted here.place (leaf.Live at.table at.value at.exact) new placed.are here.stands here.is

pub closed_placed : (tree : NumberedTree) (wanted : ℕ) (new : Leaf) → IsPlaced tree → IsOpenAt tree wanted
    → IsPlaced (closed_tree tree wanted new)
closed_placed tree wanted new placed at = record { places = _; are = closed_are tree wanted new placed at }

pub closed_count : (tree : NumberedTree) (wanted : ℕ) (new : Leaf) → IsPlaced tree → IsOpenAt tree wanted
    → node_count (closed_tree tree wanted new) ≡ node_count tree
closed_count tree wanted new placed at =
    let now : Place = record { parent = (open_spot tree wanted placed at).place.parent; spot = spot.Leaf new } in
    omega (arith, (closed_are tree wanted new placed at).count, placed.are.count, length-set placed.places wanted now)

pub closed_there : (tree : NumberedTree) (wanted : ℕ) (new : Leaf) → IsPlaced tree → IsOpenAt tree wanted
    → spot_at (closed_tree tree wanted new) wanted ≡ Some (spot.Leaf new)
closed_there tree wanted new placed at =
    let here = open_spot tree wanted placed at in
    let now : Place = record { parent = here.place.parent; spot = spot.Leaf new } in
    spot_is (set placed.places wanted now) (closed_tree tree wanted new) wanted now (closed_are tree wanted new placed at)
    (get-set_same placed.places wanted now here.place here.stands)

pub closed_elsewhere : (tree : NumberedTree) (wanted : ℕ) (new : Leaf) (number : ℕ) (s : Spot) → IsPlaced tree → IsOpenAt tree wanted
    → number ≢ wanted → spot_at tree number ≡ Some s → spot_at (closed_tree tree wanted new) number ≡ Some s
closed_elsewhere tree wanted new number s placed at differ e =
    let here = open_spot tree wanted placed at in
    let now : Place = record { parent = here.place.parent; spot = spot.Leaf new } in
    let other = spot_place tree number s placed e in
    spot_is (set placed.places wanted now) (closed_tree tree wanted new) number other.0 (closed_are tree wanted new placed at)
    (get-set_other placed.places wanted number now other.0 differ other.1)
    ∙ ap (λ (x : Spot). Some x) other.2

-- ---- a split
abbrev pub split_tree : NumberedTree → ℕ → ℕ → ℕ → NumberedTree
split_tree tree wanted g t = replaced wanted (split_leaf wanted g t (node_count tree) (suc (node_count tree))) tree

-- the places after a split into children of this number and the next
abbrev split_list : List Place → ℕ → ℕ → ℕ → ℕ → Place → List Place
split_list places wanted g t count was =
    set places wanted (record { parent = was.parent; spot = spot.Inner g t count (suc count) })
    ++ (record { parent = wanted; spot = was.spot }) ∷ (record { parent = wanted; spot = was.spot }) ∷ []

split_are : (tree : NumberedTree) (wanted g t : ℕ) (placed : IsPlaced tree) (at : IsOpenAt tree wanted)
    → ArePlacesOf (split_tree tree wanted g t)
    (split_list placed.places wanted g t (node_count tree) (open_spot tree wanted placed at).place)
split_are tree wanted g t placed at =
    let here = open_spot tree wanted placed at in
    subst (λ n. ArePlacesOf (replaced wanted (split_leaf wanted g t n (suc n)) tree) (split_list placed.places wanted g t n here.place))
    placed.are.count
    (split_places placed.places tree wanted g t here.place (leaf.Live at.table at.value at.exact) placed.are here.stands here.is)

pub split_placed : (tree : NumberedTree) (wanted g t : ℕ) → IsPlaced tree → IsOpenAt tree wanted → IsPlaced (split_tree tree wanted g t)
split_placed tree wanted g t placed at = record { places = _; are = split_are tree wanted g t placed at }

pub split_count : (tree : NumberedTree) (wanted g t : ℕ) → IsPlaced tree → IsOpenAt tree wanted
    → node_count (split_tree tree wanted g t) ≡ node_count tree + 2
split_count tree wanted g t placed at =
    let was = (open_spot tree wanted placed at).place in
    let now : Place = record { parent = was.parent; spot = spot.Inner g t (node_count tree) (suc (node_count tree)) } in
    let child : Place = record { parent = wanted; spot = was.spot } in
    omega (
      arith,
      (split_are tree wanted g t placed at).count,
      placed.are.count,
      length-set placed.places wanted now,
      length-append (set placed.places wanted now) (child ∷ child ∷ []),
    )

pub split_elsewhere : (tree : NumberedTree) (wanted g t number : ℕ) (s : Spot) → IsPlaced tree → IsOpenAt tree wanted
    → number ≢ wanted → spot_at tree number ≡ Some s → spot_at (split_tree tree wanted g t) number ≡ Some s
split_elsewhere tree wanted g t number s placed at differ e =
    let was = (open_spot tree wanted placed at).place in
    let now : Place = record { parent = was.parent; spot = spot.Inner g t (node_count tree) (suc (node_count tree)) } in
    let child : Place = record { parent = wanted; spot = was.spot } in
    let other = spot_place tree number s placed e in
    spot_is (set placed.places wanted now ++ child ∷ child ∷ []) (split_tree tree wanted g t) number other.0
    (split_are tree wanted g t placed at)
    (get-append (set placed.places wanted now) (child ∷ child ∷ []) number other.0
    (get-set_other placed.places wanted number now other.0 differ other.1))
    ∙ ap (λ (x : Spot). Some x) other.2

-- ---- what was grown hangs from its number
pub part_there : (here : Node) (tree : NumberedTree) (wanted : ℕ) (grow : Leaf → NumberedTree) (part : Subtree) (old : Leaf) → AreApart tree
    → ((l : Leaf) → number_of (grow l) ≡ wanted) → subtree_below here tree wanted ≡ Some part → spot_of part.tree ≡ spot.Leaf old
    → subtree_below here (replaced wanted grow tree) wanted ≡ Some (record { node = part.node; tree = grow old })
part_there here (EndAt number l) wanted grow part old apart number_is e is = grind (arith, number, apart, number_is, e, is)
part_there here (SplitAt number g t off on) wanted grow part old apart number_is e is =
    let there : Subtree = record { node = part.node; tree = grow old } in
    let left = subtree_below (child here g t false) (replaced wanted grow off) wanted in
    let right = subtree_below (child here g t true) (replaced wanted grow on) wanted in
    ⊎_elim
    (λ (l : IsOff here g t off on wanted part).
    let some = part_counted (child here g t false) off wanted part l.0 in
    let below = part_there (child here g t false) off wanted grow part old (apart_off number g t off on apart) number_is l.0 is in
    side_part here number g t (replaced wanted grow off) (replaced wanted grow on) wanted there
    (not_root number g t off on wanted apart (omega arith)) (ap (λ o. option_or o right) below))
    (λ (r : IsOn here g t off on wanted part).
    let some = part_counted (child here g t true) on wanted part r.0 in
    let nothing : left ≡ None =
    ap (λ tree. subtree_below (child here g t false) tree wanted) (replaced_nowhere wanted grow off r.1)
    ∙ no_part (child here g t false) off wanted r.1 in
    let below = part_there (child here g t true) on wanted grow part old (apart_on number g t off on apart) number_is r.0 is in
    side_part here number g t (replaced wanted grow off) (replaced wanted grow on) wanted there
    (not_root number g t off on wanted apart (omega arith)) (λ i. option_or (nothing i) (below i)))
    (leaf_sides here number g t off on wanted part old apart e is)

-- the node of a leaf that was replaced by another is the same
pub closed_node : (tree : NumberedTree) (wanted : ℕ) (new : Leaf) (node : Node) → IsPlaced tree → IsOpenAt tree wanted
    → node_at tree wanted ≡ Some node → node_at (closed_tree tree wanted new) wanted ≡ Some node
closed_node tree wanted new node placed at is =
    let part = from_some (λ (p : Subtree). spot_of p.tree) (subtree_at tree wanted) (spot.Leaf (leaf.Live at.table at.value at.exact)) at.live in
    let there = part_there root tree wanted (λ (l : Leaf). EndAt wanted new) part.0 (leaf.Live at.table at.value at.exact)
    (are_apart tree placed.places placed.are) (λ l. refl) part.1 part.2 in
    ap (λ (o : Option Subtree). option_map (λ (p : Subtree). p.node) o) there
    ∙ (sym (ap (λ (o : Option Subtree). option_map (λ (p : Subtree). p.node) o) part.1) ∙ is)

-- ---- what holds of each leaf
pub each_leaf_map : (P Q : Node → Leaf → Type 0) → ((n : Node) (l : Leaf) → P n l → Q n l) → (here : Node) (tree : branch.Tree Leaf)
    → EachLeaf P here tree → EachLeaf Q here tree
each_leaf_map P Q turn here (branch.Ends l) each = turn here l each
each_leaf_map P Q turn here (branch.Splits g t off on) each =
    (each_leaf_map P Q turn (child here g t false) off each.0, each_leaf_map P Q turn (child here g t true) on each.1)

pub leaf_there : (P : Node → Leaf → Type 0) (here : Node) (tree : NumberedTree) (wanted : ℕ) (part : Subtree)
    → subtree_below here tree wanted ≡ Some part → EachLeaf P here (unnumbered tree) → EachLeaf P part.node (unnumbered part.tree)
leaf_there P here (EndAt number l) wanted part e each = grind (arith, number, l, e, each)
leaf_there P here (SplitAt number g t off on) wanted part e each = ⊎_elim
    (λ (h : IsHere here (SplitAt number g t off on) wanted part).
    subst (λ (p : Subtree). EachLeaf P p.node (unnumbered p.tree)) (sym h.whole) each)
    (λ (sides : (subtree_below (child here g t false) off wanted ≡ Some part) ⊎ (subtree_below (child here g t true) on wanted ≡ Some part)).
    ⊎_elim
    (λ (l : subtree_below (child here g t false) off wanted ≡ Some part). leaf_there P (child here g t false) off wanted part l each.0)
    (λ (r : subtree_below (child here g t true) on wanted ≡ Some part). leaf_there P (child here g t true) on wanted part r each.1)
    sides)
    (subtree_cases here number g t off on wanted part e)

-- where one leaf is replaced, what held of the others holds
pub each_leaf_replaced : (P Q : Node → Leaf → Type 0) → ((n : Node) (l : Leaf) → P n l → Q n l)
    → (here : Node) (tree : NumberedTree) (wanted : ℕ) (grow : Leaf → NumberedTree) (part : Subtree) (old : Leaf) → AreApart tree
    → subtree_below here tree wanted ≡ Some part → spot_of part.tree ≡ spot.Leaf old
    → EachLeaf P here (unnumbered tree) → EachLeaf Q part.node (unnumbered (grow old))
    → EachLeaf Q here (unnumbered (replaced wanted grow tree))
each_leaf_replaced P Q turn here (EndAt number l) wanted grow part old apart e is each grown = grind (arith, turn, number, apart, e, is, each, grown)
each_leaf_replaced P Q turn here (SplitAt number g t off on) wanted grow part old apart e is each grown = ⊎_elim
    (λ (l : IsOff here g t off on wanted part). (
      each_leaf_replaced P Q turn (child here g t false) off wanted grow part old (apart_off number g t off on apart) l.0 is each.0 grown,
      subst (λ tree. EachLeaf Q (child here g t true) (unnumbered tree)) (sym (replaced_nowhere wanted grow on l.1))
          (each_leaf_map P Q turn (child here g t true) (unnumbered on) each.1),
    ))
    (λ (r : IsOn here g t off on wanted part). (
      subst (λ tree. EachLeaf Q (child here g t false) (unnumbered tree)) (sym (replaced_nowhere wanted grow off r.1))
          (each_leaf_map P Q turn (child here g t false) (unnumbered off) each.0),
      each_leaf_replaced P Q turn (child here g t true) on wanted grow part old (apart_on number g t off on apart) r.0 is each.1 grown,
    ))
    (leaf_sides here number g t off on wanted part old apart e is)

-- ---- where no leaf is open
abbrev pub IsClosedLeaf : Leaf → Type 0
IsClosedLeaf (leaf.Live table value exact) = ⊥
IsClosedLeaf _ = Unit {0}

closed_below : (whole tree : NumberedTree) → IsNumbered whole → IsPart whole tree → ((number : ℕ) → ¬ IsOpenAt whole number)
    → (here : Node) → EachLeaf (λ n l. IsClosedLeaf l) here (unnumbered tree)
closed_below whole (EndAt number l) numbered part none here = by_leaf l refl
  where
    by_leaf : (x : Leaf) → l ≡ x → IsClosedLeaf l
    by_leaf (leaf.Live table value exact) e = absurd (none number (record {
      table = table;
      value = value;
      exact = exact;
      live = part_spot whole (EndAt number l) part ∙ ap (λ (y : Leaf). Some (spot.Leaf y)) e;
    }))
    by_leaf (leaf.Bound table value exact) e = subst IsClosedLeaf (sym e) tt
    by_leaf _ e = subst IsClosedLeaf (sym e) tt
closed_below whole (SplitAt number g t off on) numbered part none here = (
  closed_below whole off numbered (off_side whole number g t off on numbered part) none (child here g t false),
  closed_below whole on numbered (on_side whole number g t off on numbered part) none (child here g t true),
)

pub all_closed : (tree : NumberedTree) → IsNumbered tree → ((number : ℕ) → ¬ IsOpenAt tree number)
    → EachLeaf (λ n l. IsClosedLeaf l) root (unnumbered tree)
all_closed tree numbered none = closed_below tree tree numbered (whole_part tree) none root
