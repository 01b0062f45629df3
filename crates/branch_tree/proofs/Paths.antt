-- The way up from a node: its parent's place, and the decision between them. Along it are found the decisions of the node, whether
-- given decisions are these, and whether a cell is undecided.
use mathlib.Core.Bool.{or-true, or-false}
use Rattle.std.proofs.Common.{◌≡◌, ◌≢◌, ℕ, ◌-◌, ◌<◌, ◌≤◌, ◌⊎◌, ◌↔◌, Bool, true, false, not, ◌&&◌, ◌||◌, List, [], ◌∷◌, ◌++◌, length, length-append, reverse, take, get_or, ap, sym, ◌∙◌, subst, arith, inl, inr, ⊎_elim, Option, Some, append_assoc, append-nil, ◌==◌, slice_get}
use Rattle.std.proofs.lemmas.Bool.{cases_eq, cases_lt, eqb-true, eq-eqb, ne_eqb, true≢false}
use Rattle.std.proofs.lemmas.List.{reverse-append, same_from_push, take_all, take_more, length-take-le}
use Rattle.std.proofs.lemmas.List.Folds.{list_any-append}
use Rattle.std.specs.Option.{option_map, option_map_or}
use Rattle.std.proofs.lemmas.Option.{same_Some, slice_get_within}
use Rattle.dual_model.specs.Prelude.{root, child, is_decided}
use Rattle.dual_model.specs.declared.node.Fixing.{Fixing}
use Rattle.branch_tree.specs.NumberedTree.{Node, NumberedTree, EndAt, SplitAt, Subtree, IsNumbered, number_of, subtree_below, subtree_at, node_at}
use Rattle.branch_tree.specs.Places.{Place, HasPlaces, ArePlacesOf}
use Rattle.branch_tree.specs.inside.Paths.{ComesFrom, is_undecided_at}
use Rattle.branch_tree.specs.declared.tree.Spot.TheVariants as spot
use Rattle.branch_tree.proofs.Subtrees.{AreApart, IsHere, apart_off, apart_on, at_root, off_part, on_part, subtree_cases, part_number, children_hang}
use Rattle.branch_tree.proofs.Changes.{are_apart, part_placed, part_place, place_part}

-- a split of this number hangs from a node
pub record HangsSplit (here : Node) (tree : NumberedTree) (node : Node) (number g t : ℕ) (off on : NumberedTree) : Type 0 where
  pub hangs : subtree_below here tree number ≡ Some (record { node = node; tree = SplitAt number g t off on })

-- the part is one child of it
abbrev pub IsChild : Node → ℕ → ℕ → NumberedTree → NumberedTree → Subtree → Type 0
IsChild node g t off on part =
    (part ≡ record { node = child node g t false; tree = off }) ⊎ (part ≡ record { node = child node g t true; tree = on })

-- the split above a part, and that the part's place names it
pub record HasParent (places : List Place) (here : Node) (tree : NumberedTree) (wanted : ℕ) (part : Subtree) : Type 0 where
  pub node : Node
  pub number : ℕ
  pub g : ℕ
  pub t : ℕ
  pub off : NumberedTree
  pub on : NumberedTree
  pub split : HangsSplit here tree node number g t off on
  pub is_child : IsChild node g t off on part
  pub named : (place : Place) → slice_get places wanted ≡ Some place → place.parent ≡ number

parent_named : (places : List Place) (parent : ℕ) (tree : NumberedTree) (wanted : ℕ) → HasPlaces places parent tree → number_of tree ≡ wanted
    → (place : Place) → slice_get places wanted ≡ Some place → place.parent ≡ parent
parent_named places parent tree wanted has is place e = grind (arith, has, is, e)

root_part : (here : Node) (tree : NumberedTree) (wanted : ℕ) (part : Subtree) → number_of tree ≡ wanted → subtree_below here tree wanted ≡ Some part
    → part ≡ record { node = here; tree = tree }
root_part here tree wanted part is e = grind (arith, is, e)

-- a split is the parent of its children
parent_here : (places : List Place) (here : Node) (m a b : ℕ) (left right : NumberedTree) (wanted : ℕ) (part : Subtree) → IsChild here a b left right part
    → ((place : Place) → slice_get places wanted ≡ Some place → place.parent ≡ m) → HasParent places here (SplitAt m a b left right) wanted part
parent_here places here m a b left right wanted part is_child named = record {
  node = here;
  number = m;
  g = a;
  t = b;
  off = left;
  on = right;
  split = record { hangs = at_root here (SplitAt m a b left right) };
  is_child = is_child;
  named = named;
}

-- a parent in a tree is one in a tree that has all its parts
parent_above : (places : List Place) (below here : Node) (side whole : NumberedTree) (wanted : ℕ) (part : Subtree)
    → ((number : ℕ) (p : Subtree) → subtree_below below side number ≡ Some p → subtree_below here whole number ≡ Some p)
    → HasParent places below side wanted part → HasParent places here whole wanted part
parent_above places below here side whole wanted part raise above = grind (arith, raise, above)

-- one side of a split: a child of it, or lower
parent_on_side : (places : List Place) (below here : Node) (side whole : NumberedTree) (wanted : ℕ) (part : Subtree)
    → ((number : ℕ) (p : Subtree) → subtree_below below side number ≡ Some p → subtree_below here whole number ≡ Some p)
    → (number_of side ≡ wanted → HasParent places here whole wanted part)
    → (number_of side ≢ wanted → HasParent places below side wanted part) → HasParent places here whole wanted part
parent_on_side places below here side whole wanted part raise own lower = grind (arith, parent_above, cases_eq, raise, own, lower)

pub has_parent : (places : List Place) (parent : ℕ) (here : Node) (tree : NumberedTree) (wanted : ℕ) (part : Subtree)
    → HasPlaces places parent tree → AreApart tree → subtree_below here tree wanted ≡ Some part → number_of tree ≢ wanted
    → HasParent places here tree wanted part
has_parent places parent here (EndAt m leaf) wanted part has apart e differ = grind (arith, m, leaf, has, apart, e, differ)
has_parent places parent here (SplitAt m a b left right) wanted part has apart e differ = ⊎_elim
    (λ (h : IsHere here (SplitAt m a b left right) wanted part). absurd (differ h.number))
    (λ (sides : (subtree_below (child here a b false) left wanted ≡ Some part) ⊎ (subtree_below (child here a b true) right wanted ≡ Some part)).
    ⊎_elim
    (λ (l : subtree_below (child here a b false) left wanted ≡ Some part).
    parent_on_side places (child here a b false) here left (SplitAt m a b left right) wanted part (λ n p. off_part here m a b left right n p apart)
    (λ is. parent_here places here m a b left right wanted part (inl (root_part (child here a b false) left wanted part is l)) (parent_named places m left wanted has.3 is))
    (has_parent places m (child here a b false) left wanted part has.3 (apart_off m a b left right apart) l))
    (λ (r : subtree_below (child here a b true) right wanted ≡ Some part).
    parent_on_side places (child here a b true) here right (SplitAt m a b left right) wanted part (λ n p. on_part here m a b left right n p apart)
    (λ is. parent_here places here m a b left right wanted part (inr (root_part (child here a b true) right wanted part is r)) (parent_named places m right wanted has.4 is))
    (has_parent places m (child here a b true) right wanted part has.4 (apart_on m a b left right apart) r))
    sides)
    (subtree_cases here m a b left right wanted part e)

-- the two children have two numbers
children_differ : (tree : NumberedTree) (node : Node) (number g t : ℕ) (off on : NumberedTree) → AreApart tree
    → HangsSplit root tree node number g t off on → number_of on ≡ number_of off → ⊥
children_differ tree node number g t off on apart split same = grind (arith, children_hang, same_Some, same_from_push, true≢false, apart, split, same)

-- ---- a step up
-- the node of a part
pub node_from_part : (tree : NumberedTree) (number : ℕ) (part : Subtree) → subtree_at tree number ≡ Some part → node_at tree number ≡ Some part.node
node_from_part tree number part e = ap (λ (o : Option Subtree). option_map (λ (p : Subtree). p.node) o) e

-- which split stands above, and by which decision the node comes from it
pub record IsStepUp (places : List Place) (tree : NumberedTree) (reached parent : ℕ) : Type 0 where
  pub g : ℕ
  pub t : ℕ
  pub off : ℕ
  pub on : ℕ
  pub above : ℕ
  pub stands : slice_get places parent ≡ Some (record { parent = above; spot = spot.Inner g t off on })
  pub up : ComesFrom tree parent reached (record { g = g; t = t; on = (on == reached) })

stepped : (places : List Place) (tree : NumberedTree) (reached : ℕ) (part : Subtree) (node : Node) (number g t : ℕ)
    (off on : NumberedTree) (bit : Bool) (side : NumberedTree) → ArePlacesOf tree places → HangsSplit root tree node number g t off on
    → number < reached → subtree_at tree reached ≡ Some part → part ≡ record { node = child node g t bit; tree = side }
    → (number_of on == reached) ≡ bit → IsStepUp places tree reached number
stepped places tree reached part node number g t off on bit side are split nearer is_part is side_is =
    let above : Subtree = record { node = node; tree = SplitAt number g t off on } in
    let stands = part_place places tree number above are split.hangs in
    record {
      g = g;
      t = t;
      off = number_of off;
      on = number_of on;
      above = stands.0;
      stands = stands.1;
      up = grind (arith, node_from_part, tree, number, reached, g, t, on, side_is, above, node, split, part, is_part, is, nearer);
    }

step_by : (places : List Place) (tree : NumberedTree) (reached : ℕ) (part : Subtree) (place : Place) → ArePlacesOf tree places
    → slice_get places reached ≡ Some place → subtree_at tree reached ≡ Some part → HasParent places root tree reached part
    → IsStepUp places tree reached place.parent
step_by places tree reached part place are e is_part h =
    let placed = part_placed places 0 root tree h.number (record { node = h.node; tree = SplitAt h.number h.g h.t h.off h.on }) are.placed h.split.hangs in
    let number = part_number root tree reached part is_part in
    subst (IsStepUp places tree reached) (sym (h.named place e)) (⊎_elim
    (λ (is : part ≡ record { node = child h.node h.g h.t false; tree = h.off }).
    let here : number_of h.off ≡ reached = sym (ap (λ (p : Subtree). number_of p.tree) is) ∙ number in
    stepped places tree reached part h.node h.number h.g h.t h.off h.on false h.off are h.split
    (subst (λ n. h.number < n) here placed.placed.1) is_part is
    (ne_eqb (number_of h.on) reached (λ same. children_differ tree h.node h.number h.g h.t h.off h.on (are_apart tree places are) h.split (same ∙ sym here))))
    (λ (is : part ≡ record { node = child h.node h.g h.t true; tree = h.on }).
    let here : number_of h.on ≡ reached = sym (ap (λ (p : Subtree). number_of p.tree) is) ∙ number in
    stepped places tree reached part h.node h.number h.g h.t h.off h.on true h.on are h.split
    (subst (λ n. h.number < n) here placed.placed.2) is_part is (eq-eqb (number_of h.on) reached here))
    h.is_child)

pub step_up : (places : List Place) (tree : NumberedTree) (reached : ℕ) (place : Place) → ArePlacesOf tree places → reached ≢ 0
    → slice_get places reached ≡ Some place → IsStepUp places tree reached place.parent
step_up places tree reached place are differ e =
    let part = place_part places tree reached are (slice_get_within places reached place e) in
    step_by places tree reached part.0 place are e part.1
    (has_parent places 0 root tree reached part.0 are.placed (are_apart tree places are) part.1 (λ same. differ (sym same ∙ are.numbered.root)))

-- the node of the number 0 is the root
pub root_node : (tree : NumberedTree) → IsNumbered tree → node_at tree 0 ≡ Some root
root_node tree numbered = grind (arith, numbered)

-- each place has a node
pub place_node : (places : List Place) (tree : NumberedTree) (wanted : ℕ) → ArePlacesOf tree places → wanted < length places
    → (node : Node) × (node_at tree wanted ≡ Some node)
place_node places tree wanted are within =
    let part = place_part places tree wanted are within in (part.0.node, node_from_part tree wanted part.0 part.1)

-- the node with these decisions
abbrev pub node_of : List Fixing → Node
node_of fixings = record { fixings = fixings }

-- ---- the decisions of a node
-- those still to find are those of the node that is reached; those found stand from the last on
pub record IsWayUp (tree : NumberedTree) (wanted reached : ℕ) (found : List Fixing) : Type 0 where
  pub node : Node
  pub is_node : node_at tree reached ≡ Some node
  pub way : node_at tree wanted ≡ Some (node_of (node.fixings ++ reverse found))

pub way_begins : (places : List Place) (tree : NumberedTree) (wanted : ℕ) → ArePlacesOf tree places → wanted < length places
    → IsWayUp tree wanted wanted []
way_begins places tree wanted are within =
    let here = place_node places tree wanted are within in
    record { node = here.0; is_node = here.1; way = here.1 ∙ (λ i. Some (node_of (sym (append-nil here.0.fixings) i))) }

pub way_on : (tree : NumberedTree) (wanted reached parent : ℕ) (found : List Fixing) (fixing : Fixing) → ComesFrom tree parent reached fixing
    → IsWayUp tree wanted reached found → IsWayUp tree wanted parent (found ++ fixing ∷ [])
way_on tree wanted reached parent found fixing from up = grind (arith, same_Some, append_assoc, reverse-append, from, up)

-- ---- whether some decisions are those of a node
-- all are those of the one node exactly where the first ones are those of the other
abbrev pub AreAlike : NumberedTree → ℕ → ℕ → List Fixing → ℕ → Type 0
AreAlike tree wanted reached fixings left =
    (node_at tree wanted ≡ Some (node_of fixings)) ↔ (node_at tree reached ≡ Some (node_of (take left fixings)))

pub alike_begins : (tree : NumberedTree) (wanted left : ℕ) (fixings : List Fixing) → left ≡ length fixings → AreAlike tree wanted wanted fixings left
alike_begins tree wanted left fixings all = grind (arith, take_all, all)

-- the last of a child's decisions is that by which it comes from its parent, and the others are its parent's
pub last_decision : (tree : NumberedTree) (parent number : ℕ) (fixing last : Fixing) (before : List Fixing) → ComesFrom tree parent number fixing
    → node_at tree number ≡ Some (node_of (before ++ last ∷ [])) → (node_at tree parent ≡ Some (node_of before)) × (fixing ≡ last)
last_decision tree parent number fixing last before from e = grind (arith, same_Some, same_from_push, from, e)

last_taken : (fixings : List Fixing) (left : ℕ) (d : Fixing) → 0 < left → left ≤ length fixings
    → take left fixings ≡ take (left - 1) fixings ++ get_or fixings (left - 1) d ∷ []
last_taken fixings left d some within = grind (arith, take_more, some, within)

-- the last decision is the one by which the node that is reached comes from its parent
abbrev pub IsLastOf : List Fixing → ℕ → Fixing → Type 0
IsLastOf fixings left fixing = (0 < left) × (get_or fixings (left - 1) fixing ≡ fixing)

pub alike_on : (tree : NumberedTree) (wanted reached parent : ℕ) (fixings : List Fixing) (left : ℕ) (fixing : Fixing) → left ≤ length fixings
    → ComesFrom tree parent reached fixing → IsLastOf fixings left fixing → AreAlike tree wanted reached fixings left
    → AreAlike tree wanted parent fixings (left - 1)
alike_on tree wanted reached parent fixings left fixing within from last alike =
    let before = take (left - 1) fixings in
    let parts : take left fixings ≡ before ++ fixing ∷ [] =
    last_taken fixings left fixing last.0 within ∙ ap (λ f. before ++ f ∷ []) last.1 in (
      (λ e. (last_decision tree parent reached fixing fixing before from (alike.0 e ∙ (λ i. Some (node_of (parts i))))).0),
      (λ e.
          let same = same_Some from.above (node_of before) (sym from.is_above ∙ e) in
          alike.1 (from.is_node ∙ ((λ i. Some (node_of ((same i).fixings ++ fixing ∷ []))) ∙ (λ i. Some (node_of (sym parts i)))))),
    )

pub alike_not : (tree : NumberedTree) (wanted reached parent : ℕ) (fixings : List Fixing) (left : ℕ) (fixing : Fixing) → left ≤ length fixings
    → ComesFrom tree parent reached fixing → (IsLastOf fixings left fixing → ⊥) → AreAlike tree wanted reached fixings left
    → node_at tree wanted ≡ Some (node_of fixings) → ⊥
alike_not tree wanted reached parent fixings left fixing within from differ alike e = ⊎_elim
    (λ (some : 0 < left).
    let last = get_or fixings (left - 1) fixing in
    differ (
      some,
      sym (last_decision tree parent reached fixing last (take (left - 1) fixings) from
          (alike.0 e ∙ (λ i. Some (node_of (last_taken fixings left fixing some within i))))).1,
    ))
    (λ (none : left ≤ 0).
    let before = from.above.fixings in
    let same = same_Some (node_of (before ++ fixing ∷ [])) (node_of (take left fixings)) (sym from.is_node ∙ alike.0 e) in
    omega (arith, ap (λ (n : Node). length n.fixings) same, length-append before (fixing ∷ []), length-take-le left fixings within))
    (cases_lt 0 left)

pub alike_ends : (tree : NumberedTree) (wanted reached : ℕ) (fixings : List Fixing) (left : ℕ) → IsNumbered tree → reached ≡ 0 → left ≤ length fixings
    → AreAlike tree wanted reached fixings left → ((left == 0) ≡ true) ↔ (node_at tree wanted ≡ Some (node_of fixings))
alike_ends tree wanted reached fixings left numbered top within alike =
    let here : node_at tree reached ≡ Some root = ap (node_at tree) top ∙ root_node tree numbered in (
      (λ none. alike.1 (here ∙ (λ i. Some (node_of (sym (ap (λ n. take n fixings) (eqb-true left 0 none)) i))))),
      (λ e.
          let same = same_Some root (node_of (take left fixings)) (sym here ∙ alike.0 e) in
          let none : left ≡ 0 = omega (arith, ap (λ (n : Node). length n.fixings) same, length-take-le left fixings within) in
          eq-eqb left 0 none),
    )

-- ---- whether a cell is undecided
abbrev pub decides : ℕ → ℕ → Fixing → Bool
decides g t = λ fixing. (fixing.g == g) && (fixing.t == t)

-- whether it is at a node, where there is one
abbrev undecided_by : ℕ → ℕ → Option Node → Bool
undecided_by g t found = option_map_or (λ node. not (is_decided node g t)) found false

-- a child's path has decided what its parent's has, and the cell of its last decision
undecided_from : (tree : NumberedTree) (parent number g t : ℕ) (fixing : Fixing) (from : ComesFrom tree parent number fixing)
    → is_undecided_at tree number g t ≡ not (is_decided from.above g t || (decides g t fixing || false))
undecided_from tree parent number g t fixing from = grind (arith, list_any-append)

pub undecided_on : (tree : NumberedTree) (parent number g t : ℕ) (fixing : Fixing) → ComesFrom tree parent number fixing
    → decides g t fixing ≡ false → is_undecided_at tree number g t ≡ is_undecided_at tree parent g t
undecided_on tree parent number g t fixing from other =
    let above = is_decided from.above g t in
    undecided_from tree parent number g t fixing from
    ∙ (ap (λ b. not (above || (b || false))) other ∙ (ap not (or-false above) ∙ sym (ap (undecided_by g t) from.is_above)))

pub decided_here : (tree : NumberedTree) (parent number g t : ℕ) (fixing : Fixing) → ComesFrom tree parent number fixing
    → decides g t fixing ≡ true → is_undecided_at tree number g t ≡ false
decided_here tree parent number g t fixing from this =
    let above = is_decided from.above g t in
    undecided_from tree parent number g t fixing from ∙ (ap (λ b. not (above || (b || false))) this ∙ ap not (or-true above))
