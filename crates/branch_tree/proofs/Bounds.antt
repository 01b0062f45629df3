-- The least stored bound: below each leaf's, and the greatest such; what the leaves store bounds the cost, and leaves no schedule where none stores a bound.
use Rattle.std.proofs.Common.{◌≡◌, ℕ, ◌⊎◌, Bool, true, false, List, length, get_or, map, ℤ, refl, ap, sym, ◌∙◌, subst, arith, ⊎_elim, Option, Some, None, slice_get, inl, inr, ◌≤ℤ◌}
use Rattle.std.proofs.lemmas.List.{get_or-map}
use Rattle.std.proofs.lemmas.Option.{slice_get_within, slice_get-get_or, get_or_from_slice_get}
use Rattle.uc_model.proofs.Common.{linear}
use Rattle.dual_model.specs.Prelude.{root, child, Ends, Splits, map_leaves, EachLeaf, HasBlockedUnit, IsBoundedBy, HasBoundOf, IsExcluded, LeafHolds, IsClaimTrue}
use Rattle.dual_model.specs.Tree as branch
use Rattle.dual_model.proofs.Covers.{covers_bound, covers_exclude}
use Rattle.branch_tree.specs.NumberedTree.{Node, NumberedTree, EndAt, SplitAt, Subtree, unnumbered, spot_of, subtree_below}
use Rattle.branch_tree.specs.Places.{Inside, Place, HasPlaces, ArePlacesOf, tree_from, place_bound, view_of, IsStored}
use Rattle.branch_tree.specs.inside.Minima.{IsLeastOf}
pub use Rattle.branch_tree.specs.StoredTree.{AtMost}
use Rattle.branch_tree.specs.StoredTree.{spot_bound, lesser_bound, least_bound, tree_bound}
use Rattle.branch_tree.specs.declared.tree.Spot.TheVariants as spot
use Rattle.branch_tree.specs.TreeView.{Instance, TreeView, tree_of}
use Rattle.branch_tree.specs.TreeLaws.{Leaf, Table, own_claim, claims_of, StoredHolds, StoredBoundsHold}
use Rattle.branch_tree.specs.declared.tree.Leaf.TheVariants as leaf
use Rattle.branch_tree.proofs.Subtrees.{IsHere, subtree_cases}
use Rattle.branch_tree.proofs.Changes.{place_part, part_place, bound_count}
pub use Rattle.branch_tree.proofs.Lesser.{at_most_itself, at_most_through, at_most_both, lesser_first, lesser_second, lesser_greatest}

-- ---- over the places
-- what is at most each place's bound is at most the tree's
pub least_reaches : (places : List Place) (parent : ℕ) (tree : NumberedTree) (least : Option ℤ) → HasPlaces places parent tree
    → ((k : ℕ) (place : Place) → slice_get places k ≡ Some place → AtMost least (spot_bound place.spot))
    → AtMost least (least_bound (unnumbered tree))
least_reaches places parent (EndAt number leaf) least has below =
    below number (record { parent = parent; spot = spot.Leaf leaf }) has.place
least_reaches places parent (SplitAt number g t off on) least has below =
    lesser_greatest least (least_bound (unnumbered off)) (least_bound (unnumbered on))
    (least_reaches places number off least has.3 below) (least_reaches places number on least has.4 below)

-- the tree's bound is at most that of each part
pub bound_reaches : (here : Node) (tree : NumberedTree) (wanted : ℕ) (part : Subtree) → subtree_below here tree wanted ≡ Some part
    → AtMost (least_bound (unnumbered tree)) (least_bound (unnumbered part.tree))
bound_reaches here (EndAt number leaf) wanted part e = grind (arith, linear, number, leaf, e)
bound_reaches here (SplitAt number g t off on) wanted part e =
    let left = least_bound (unnumbered off) in
    let right = least_bound (unnumbered on) in
    ⊎_elim
    (λ (h : IsHere here (SplitAt number g t off on) wanted part).
    subst (λ (p : Subtree). AtMost (lesser_bound left right) (least_bound (unnumbered p.tree))) (sym h.whole)
    (at_most_itself (lesser_bound left right)))
    (λ (sides : (subtree_below (child here g t false) off wanted ≡ Some part) ⊎ (subtree_below (child here g t true) on wanted ≡ Some part)).
    ⊎_elim
    (λ (l : subtree_below (child here g t false) off wanted ≡ Some part).
    at_most_through (lesser_bound left right) left (least_bound (unnumbered part.tree)) (lesser_first left right)
    (bound_reaches (child here g t false) off wanted part l))
    (λ (r : subtree_below (child here g t true) on wanted ≡ Some part).
    at_most_through (lesser_bound left right) right (least_bound (unnumbered part.tree)) (lesser_second left right)
    (bound_reaches (child here g t true) on wanted part r))
    sides)
    (subtree_cases here number g t off on wanted part e)

-- the bound of a part that is what stands there
stands_bound : (bound : Option ℤ) (tree : NumberedTree) → AtMost bound (least_bound (unnumbered tree)) → AtMost bound (spot_bound (spot_of tree))
stands_bound bound (EndAt number leaf) h = h
stands_bound bound (SplitAt number g t off on) h = tt

-- the tree's bound is at most what is stored at each place
pub bound_below_place : (places : List Place) (tree : NumberedTree) (k : ℕ) (place : Place) → ArePlacesOf tree places
    → slice_get places k ≡ Some place → AtMost (least_bound (unnumbered tree)) (spot_bound place.spot)
bound_below_place places tree k place are e =
    let part = place_part places tree k are (slice_get_within places k place e) in
    let stands = part_place places tree k part.0 are part.1 in
    let same : Some (record { parent = stands.0; spot = spot_of part.0.tree }) ≡ Some place = sym stands.1 ∙ e in
    let one : record { parent = stands.0; spot = spot_of part.0.tree } ≡ place = cc in
    subst (λ (p : Place). AtMost (least_bound (unnumbered tree)) (spot_bound p.spot)) one
    (stands_bound (least_bound (unnumbered tree)) part.0.tree (bound_reaches root tree k part.0 part.1))

-- the bound that is stored at a place is the value there
value_is : (values : List (Option ℤ)) (places : List Place) (k : ℕ) (place : Place) → values ≡ map place_bound places
    → slice_get places k ≡ Some place → get_or values k None ≡ spot_bound place.spot
value_is values places k place are stands =
    ap (λ vs. get_or vs k None) are
    ∙ (get_or-map place_bound places k place None (slice_get_within places k place stands)
    ∙ ap place_bound (get_or_from_slice_get places k place place stands))

-- the least of the values is the tree's bound
pub least_is_bound : (a : Inside) (value : TreeView) (least : Option ℤ) → view_of a ≡ value → IsStored a → IsLeastOf a.bounds.values least
    → least ≡ tree_bound value
least_is_bound a value least seen stored is =
    let places = a.places.items in
    let tree = tree_from places 0 in
    let bound = least_bound (unnumbered tree) in
    let count : length a.bounds.values ≡ length places = bound_count a stored in
    at_most_both least bound
    (least_reaches places 0 tree least stored.places.placed (λ k place e.
    let within = slice_get_within places k place e in
    subst (AtMost least) (value_is a.bounds.values places k place stored.bounds e) (is.below k (omega arith))))
    (is.greatest bound (λ k within.
    let nothing : Place = record { parent = 0; spot = spot.Leaf (leaf.Empty 0) } in
    let stands = slice_get-get_or places k nothing (omega arith) in
    subst (AtMost bound) (sym (value_is a.bounds.values places k (get_or places k nothing) stored.bounds stands))
    (bound_below_place places tree k (get_or places k nothing) stored.places stands)))
    ∙ ap tree_bound seen

-- ---- What the leaves store bounds the cost, and leaves no schedule where none stores a bound.
-- a table that bounds by more bounds by less
lower_bound : (exact : Bool) (instance : Instance) (tables : List Table) (node : Node) (table : ℕ) (value b : ℤ) → b ≤ℤ value
    → IsBoundedBy exact instance tables node table value → IsBoundedBy exact instance tables node table b
lower_bound exact instance tables node table value b below h = record {
  table = h.table;
  is_table = h.is_table;
  scale = h.scale;
  bounds = ⊎_elim
      (λ (has : HasBoundOf exact instance node h.table value).
      inl (record { bound = has.bound; is_bound = has.is_bound; enough = (omega (arith, linear, has.enough)) }))
      (λ (blocked : HasBlockedUnit exact instance node). inr blocked)
      h.bounds;
}

leaf_holds : (instance : Instance) (tables : List Table) (node : Node) (b : ℤ) (leaf : Leaf) → AtMost (Some b) (least_bound (Ends leaf))
    → StoredHolds instance tables node leaf → LeafHolds instance tables b node (own_claim leaf)
leaf_holds instance tables node b (leaf.Live table value exact) below h = lower_bound exact instance tables node table value b below h
leaf_holds instance tables node b (leaf.Bound table value exact) below h = lower_bound exact instance tables node table value b below h
leaf_holds instance tables node b (leaf.Ray table) below h = h
leaf_holds instance tables node b (leaf.Empty g) below h = h
leaf_holds instance tables node b (leaf.ExactRay table) below h = h
leaf_holds instance tables node b (leaf.ExactEmpty g) below h = h

holds_below : (instance : Instance) (tables : List Table) (node : Node) (b : ℤ) (tree : branch.Tree Leaf) → AtMost (Some b) (least_bound tree)
    → EachLeaf (StoredHolds instance tables) node tree → EachLeaf (LeafHolds instance tables b) node (map_leaves own_claim tree)
holds_below instance tables node b (Ends leaf) below h = leaf_holds instance tables node b leaf below h
holds_below instance tables node b (Splits g t off on) below h =
    let left = least_bound off in
    let right = least_bound on in (
      holds_below instance tables (child node g t false) b off (at_most_through (Some b) (lesser_bound left right) left below (lesser_first left right)) h.0,
      holds_below instance tables (child node g t true) b on (at_most_through (Some b) (lesser_bound left right) right below (lesser_second left right)) h.1,
    )

leaf_excluded : (instance : Instance) (tables : List Table) (node : Node) (leaf : Leaf) → least_bound (Ends leaf) ≡ None
    → StoredHolds instance tables node leaf → IsExcluded instance tables node (own_claim leaf)
leaf_excluded instance tables node (leaf.Live table value exact) none h = absurd (cc)
leaf_excluded instance tables node (leaf.Bound table value exact) none h = absurd (cc)
leaf_excluded instance tables node (leaf.Ray table) none h = h
leaf_excluded instance tables node (leaf.Empty g) none h = h
leaf_excluded instance tables node (leaf.ExactRay table) none h = h
leaf_excluded instance tables node (leaf.ExactEmpty g) none h = h

both_none : (a b : Option ℤ) → lesser_bound a b ≡ None → (a ≡ None) × (b ≡ None)
both_none None b none = (refl, none)
both_none (Some a) None none = absurd (cc)
both_none (Some a) (Some b) none = absurd (cc)

pub excluded_below : (instance : Instance) (tables : List Table) (node : Node) (tree : branch.Tree Leaf) → least_bound tree ≡ None
    → EachLeaf (StoredHolds instance tables) node tree → EachLeaf (IsExcluded instance tables) node (map_leaves own_claim tree)
excluded_below instance tables node (Ends leaf) none h = leaf_excluded instance tables node leaf none h
excluded_below instance tables node (Splits g t off on) none h =
    let sides = both_none (least_bound off) (least_bound on) none in
    (excluded_below instance tables (child node g t false) off sides.0 h.0, excluded_below instance tables (child node g t true) on sides.1 h.1)

pub stored_bounds_hold : StoredBoundsHold
stored_bounds_hold instance tables tree lawful tabled holds = claimed (tree_bound tree) refl
  where
    claimed : (bound : Option ℤ) → tree_bound tree ≡ bound → IsClaimTrue instance bound
    claimed (Some b) is = covers_bound instance tables (claims_of tree) b lawful tabled
        (holds_below instance tables root b (tree_of tree) (subst (λ bound. AtMost bound (tree_bound tree)) is (at_most_itself (tree_bound tree))) holds)
    claimed None is = covers_exclude instance tables (claims_of tree) lawful tabled (excluded_below instance tables root (tree_of tree) is holds)
