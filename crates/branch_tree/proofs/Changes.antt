-- The places of a tree, what stands at them, and what a replaced leaf, `close` and `split` make of them, of the cover and of the fields.
use Rattle.std.proofs.Common.{◌≡◌, ℕ, zero, suc, ◌+◌, ◌-◌, ◌<◌, ◌≤◌, ◌⊎◌, true, false, List, [], ◌∷◌, length, get_or, drop, refl, ap, sym, ◌∙◌, subst, arith, ⊎_elim, Option, Some, None, ◌==◌, slice_get, get_or-drop, ◌≢◌, ◌*◌, ◌++◌, set, length-append, length-set, map, append_assoc, ℤ, IsTrue, not}
use Rattle.std.specs.Option.{option_map}
use Rattle.std.specs.Vec.{vec_capacity}
use Rattle.std.proofs.lemmas.Bool.{cases_lt, cases_eq, eq-eqb, ne_eqb}
use Rattle.std.proofs.lemmas.List.{map-set, map-append, length-map}
use Rattle.std.proofs.lemmas.Option.{slice_get_within, same_Some, slice_get-get_or, slice_get_read, get_or_from_slice_get}
use Rattle.dual_model.specs.Prelude.{root, child, is_decided, IsCoverBelow, IsCover, IsCell}
use Rattle.branch_tree.specs.NumberedTree.{Node, Spot, NumberedTree, EndAt, SplitAt, Subtree, no_tree, number_of, spot_of, node_count, times, subtree_below, subtree_at, spot_at, Leaf, replaced, unnumbered, split_leaf}
use Rattle.branch_tree.specs.Places.{Inside, Place, HasPlace, HasPlaces, ArePlacesOf, grown_from, trees_of, tree_from, place_bound, IsStored, view_of}
use Rattle.branch_tree.specs.declared.tree.Spot.TheVariants as spot
use Rattle.branch_tree.specs.StoredTree.{leaf_bound}
use Rattle.branch_tree.specs.TreeView.{Instance, TreeView, IsSizeOf, IsOpenAt, IsFreeAt, tree_of, IsWhole}
use Rattle.branch_tree.specs.declared.tree.Leaf.TheVariants as leaf
use Rattle.branch_tree.proofs.Subtrees.{same_or_not, none_here, one_if, leaves_at, number_of-replaced, total-replaced, replaced_nowhere, AreApart, IsHere, subtree_cases, leaf_case, part_number, some_part, IsOff, IsOn, apart_off, apart_on, leaf_sides}

-- ---- the tree that the places stand for
grown_at : (places : List Place) (first k : ℕ) (place : Place) → slice_get places k ≡ Some place
    → get_or (trees_of first places) k no_tree ≡ grown_from (first + k) place.spot (drop (suc k) (trees_of first places))
grown_at [] first k place e = absurd (cc)
grown_at (p ∷ places) first zero place e =
    let later = trees_of (suc first) places in
    let same : p.spot ≡ place.spot = ap (λ (o : Option Place). spot_or o) e in
    ap (λ s. grown_from first s later) same ∙ ap (λ n. grown_from n place.spot later) (omega arith)
  where
    spot_or : Option Place → Spot
    spot_or None = place.spot
    spot_or (Some q) = q.spot
grown_at (p ∷ places) first (suc k) place e =
    grown_at places (suc first) k place e ∙ ap (λ n. grown_from n place.spot (drop (suc k) (trees_of (suc first) places))) (omega arith)

child_at : (trees : List NumberedTree) (number child : ℕ) (tree : NumberedTree) → number < child → get_or trees child no_tree ≡ tree
    → get_or (drop (suc number) trees) (child - suc number) no_tree ≡ tree
child_at trees number child tree later is = grind (arith, get_or-drop, later, is)

pub tree_is : (places : List Place) (parent : ℕ) (tree : NumberedTree) → HasPlaces places parent tree
    → tree_from places (number_of tree) ≡ tree
tree_is places parent (EndAt number leaf) has =
    grown_at places 0 number (record { parent = parent; spot = spot.Leaf leaf }) has.place
    ∙ ap (λ n. EndAt n leaf) (omega arith)
tree_is places parent (SplitAt number g t off on) has =
    let trees = trees_of 0 places in
    grown_at places 0 number (record { parent = parent; spot = spot.Inner g t (number_of off) (number_of on) }) has.0.place
    ∙ (ap (λ n. SplitAt n g t (get_or (drop (suc number) trees) (number_of off - suc n) no_tree) (get_or (drop (suc number) trees) (number_of on - suc n) no_tree)) (omega arith)
    ∙ (λ i. SplitAt number g t (child_at trees number (number_of off) off has.1 (tree_is places number off has.3) i)
    (child_at trees number (number_of on) on has.2 (tree_is places number on has.4) i)))

-- ---- the numbers are those of the places
pub number_within : (places : List Place) (parent : ℕ) (tree : NumberedTree) (number : ℕ) → HasPlaces places parent tree
    → 1 ≤ times number tree → number < length places
number_within places parent (EndAt m leaf) number has some = grind (arith, slice_get_within, none_here, same_or_not, m, leaf, has, some)
number_within places parent (SplitAt m g t off on) number has some = ⊎_elim
    (λ (h : (m ≡ number) × ((m == number) ≡ true)).
    subst (λ n. n < length places) h.0
    (slice_get_within places m (record { parent = parent; spot = spot.Inner g t (number_of off) (number_of on) }) has.0.place))
    (λ (h : ((m ≡ number) → ⊥) × ((m == number) ≡ false)).
    let none = none_here m number h.1 in
    ⊎_elim
    (λ (l : 0 < times number off). number_within places m off number has.3 (omega arith))
    (λ (l : times number off ≤ 0). number_within places m on number has.4 (omega arith))
    (cases_lt 0 (times number off)))
    (same_or_not m number)

pub times_past : (places : List Place) (parent : ℕ) (tree : NumberedTree) (number : ℕ) → HasPlaces places parent tree
    → length places ≤ number → times number tree ≡ 0
times_past places parent tree number has past = grind (arith, number_within, cases_lt, has, past)

pub are_apart : (tree : NumberedTree) (places : List Place) → ArePlacesOf tree places → AreApart tree
are_apart tree places are number = grind (arith, are, number)

-- ---- what stands at a place
pub record IsPlacedPart (places : List Place) (part : Subtree) : Type 0 where
  pub parent : ℕ
  pub placed : HasPlaces places parent part.tree

pub part_placed : (places : List Place) (parent : ℕ) (here : Node) (tree : NumberedTree) (wanted : ℕ) (part : Subtree)
    → HasPlaces places parent tree → subtree_below here tree wanted ≡ Some part → IsPlacedPart places part
part_placed places parent here (EndAt number leaf) wanted part has e =
    let h = leaf_case here number leaf wanted part e in
    record { parent = parent; placed = subst (λ (p : Subtree). HasPlaces places parent p.tree) (sym h.whole) has }
part_placed places parent here (SplitAt number g t off on) wanted part has e = ⊎_elim
    (λ (h : IsHere here (SplitAt number g t off on) wanted part).
    record { parent = parent; placed = subst (λ (p : Subtree). HasPlaces places parent p.tree) (sym h.whole) has })
    (λ (sides : (subtree_below (child here g t false) off wanted ≡ Some part) ⊎ (subtree_below (child here g t true) on wanted ≡ Some part)).
    ⊎_elim
    (part_placed places number (child here g t false) off wanted part has.3)
    (part_placed places number (child here g t true) on wanted part has.4)
    sides)
    (subtree_cases here number g t off on wanted part e)

-- the place of the root
pub root_place : (places : List Place) (parent : ℕ) (tree : NumberedTree) → HasPlaces places parent tree → HasPlace places parent tree
root_place places parent (EndAt number leaf) has = has
root_place places parent (SplitAt number g t off on) has = has.0

-- a part stands at its number
pub part_place : (places : List Place) (tree : NumberedTree) (wanted : ℕ) (part : Subtree) → ArePlacesOf tree places
    → subtree_at tree wanted ≡ Some part
    → (parent : ℕ) × (slice_get places wanted ≡ Some (record { parent = parent; spot = spot_of part.tree }))
part_place places tree wanted part are e =
    let placed = part_placed places 0 root tree wanted part are.placed e in (
      placed.parent,
      subst (λ n. slice_get places n ≡ Some (record { parent = placed.parent; spot = spot_of part.tree }))
          (part_number root tree wanted part e) (root_place places placed.parent part.tree placed.placed).place,
    )

-- each place has a part
pub place_part : (places : List Place) (tree : NumberedTree) (wanted : ℕ) → ArePlacesOf tree places → wanted < length places
    → (part : Subtree) × (subtree_at tree wanted ≡ Some part)
place_part places tree wanted are within = grind (arith, some_part, are_apart, are, within)

-- what stands at a place is what the tree has at its number
pub spot_is : (places : List Place) (tree : NumberedTree) (wanted : ℕ) (place : Place) → ArePlacesOf tree places
    → slice_get places wanted ≡ Some place → spot_at tree wanted ≡ Some place.spot
spot_is places tree wanted place are e =
    let part = place_part places tree wanted are (slice_get_within places wanted place e) in
    let stands = part_place places tree wanted part.0 are part.1 in
    let same : Some (record { parent = stands.0; spot = spot_of part.0.tree }) ≡ Some place = sym stands.1 ∙ e in
    ap (λ (o : Option Subtree). option_map (λ (p : Subtree). spot_of p.tree) o) part.1
    ∙ ap (λ (o : Option Place). option_map (λ (p : Place). p.spot) o) same

pub from_some : {A B : Type 0} (f : A → B) (o : Option A) (y : B) → option_map f o ≡ Some y → (x : A) × (o ≡ Some x) × (f x ≡ y)
from_some f None y e = absurd (cc)
from_some f (Some x) y e = (x, refl, cc)

-- ---- What a tree with a replaced leaf is stored as: its places, and that it is whole.
-- ---- the places
-- one place of a leaf was changed for what is grown there, and others were added
pub record IsChanged (old new : List Place) (wanted : ℕ) (was : Place) (grow : Leaf → NumberedTree) : Type 0 where
  pub leaf : Leaf
  pub is_leaf : was.spot ≡ spot.Leaf leaf
  pub at_leaf : slice_get old wanted ≡ Some was
  pub others : (n : ℕ) (place : Place) → n ≢ wanted → slice_get old n ≡ Some place → slice_get new n ≡ Some place
  pub number : (l : Leaf) → number_of (grow l) ≡ wanted
  pub grown : HasPlaces new was.parent (grow leaf)

pub places_changed : (old new : List Place) (wanted : ℕ) (was : Place) (grow : Leaf → NumberedTree) → IsChanged old new wanted was grow
    → (parent : ℕ) (tree : NumberedTree) → HasPlaces old parent tree → HasPlaces new parent (replaced wanted grow tree)
places_changed old new wanted was grow change parent (EndAt number leaf) has = grind (arith, change, number, leaf, has)
places_changed old new wanted was grow change parent (SplitAt number g t off on) has =
    let here : Place = record { parent = parent; spot = spot.Inner g t (number_of off) (number_of on) } in
    let elsewhere : number ≢ wanted = λ e.
    let stood : slice_get old wanted ≡ Some here = subst (λ n. slice_get old n ≡ Some here) e has.0.place in
    let same : was ≡ here = same_Some was here (sym change.at_leaf ∙ stood) in
    let spots : spot.Leaf change.leaf ≡ spot.Inner g t (number_of off) (number_of on) = sym change.is_leaf ∙ ap (λ (p : Place). p.spot) same in
    cc in
    let left = number_of-replaced wanted grow change.number off in
    let right = number_of-replaced wanted grow change.number on in (
      record {
        place = grind (arith, change, number, here, elsewhere, has, parent, g, t, left, right);
      },
      subst (λ n. number < n) (sym left) has.1,
      subst (λ n. number < n) (sym right) has.2,
      places_changed old new wanted was grow change number off has.3,
      places_changed old new wanted was grow change number on has.4,
    )

-- where a leaf stands, each node of the number is one
pub leaves_there : (places : List Place) (parent : ℕ) (tree : NumberedTree) (wanted : ℕ) (was : Place) (leaf : Leaf)
    → HasPlaces places parent tree → slice_get places wanted ≡ Some was → was.spot ≡ spot.Leaf leaf
    → leaves_at wanted tree ≡ times wanted tree
leaves_there places parent (EndAt number l) wanted was leaf has stands is = refl
leaves_there places parent (SplitAt number g t off on) wanted was leaf has stands is =
    let left = leaves_there places number off wanted was leaf has.3 stands is in
    let right = leaves_there places number on wanted was leaf has.4 stands is in
    ⊎_elim
    (λ (h : (number ≡ wanted) × ((number == wanted) ≡ true)).
    let here : Place = record { parent = parent; spot = spot.Inner g t (number_of off) (number_of on) } in
    let stood : slice_get places wanted ≡ Some here = subst (λ n. slice_get places n ≡ Some here) h.0 has.0.place in
    let same : was ≡ here = same_Some was here (sym stands ∙ stood) in
    let spots : spot.Leaf leaf ≡ spot.Inner g t (number_of off) (number_of on) = sym is ∙ ap (λ (p : Place). p.spot) same in
    absurd (cc))
    (λ (h : ((number ≡ wanted) → ⊥) × ((number == wanted) ≡ false)). omega (arith, none_here number wanted h.1))
    (same_or_not number wanted)

-- the places after such a change are those of the tree after it
pub are_changed : (old new : List Place) (wanted extra : ℕ) (was : Place) (grow : Leaf → NumberedTree) (tree : NumberedTree)
    → ArePlacesOf tree old → IsChanged old new wanted was grow
    → length new ≡ length old + extra
    → ((leaf : Leaf) → node_count (grow leaf) ≡ 1 + extra)
    → ((number : ℕ) → (more : ℕ) × ((leaf : Leaf) → times number (grow leaf) ≡ one_if (wanted == number) + more)
    × (number < length old → more ≡ 0) × (length old ≤ number → number < length new → more ≡ 1))
    → ArePlacesOf (replaced wanted grow tree) new
are_changed old new wanted extra was grow tree are change longer bigger each =
    let within = slice_get_within old wanted was change.at_leaf in
    let count = are.count in
    let leaves : leaves_at wanted tree ≡ 1 =
    leaves_there old 0 tree wanted was change.leaf are.placed change.at_leaf change.is_leaf ∙ are.numbered.once wanted (omega arith) in
    let counted : node_count (replaced wanted grow tree) ≡ node_count tree + extra =
    total-replaced (λ number. 1) wanted extra grow bigger tree
    ∙ (ap (λ n. node_count tree + n * extra) leaves ∙ grind arith) in
    record {
      placed = places_changed old new wanted was grow change 0 tree are.placed;
      count = omega arith;
      numbered = record {
        root = number_of-replaced wanted grow change.number tree ∙ are.numbered.root;
        once = λ number below.
            let own = each number in
            let timed : times number (replaced wanted grow tree) ≡ times number tree + own.0 =
            total-replaced (λ n. one_if (n == number)) wanted own.0 grow own.1 tree
            ∙ (ap (λ n. times number tree + n * own.0) leaves ∙ grind arith) in
            ⊎_elim
            (λ (l : number < length old).
            let once = are.numbered.once number (omega arith) in
            let none = own.2 l in
            omega arith)
            (λ (l : length old ≤ number).
            let none = times_past old 0 tree number are.placed l in
            let one = own.3 l (omega arith) in
            omega arith)
            (cases_lt number (length old));
        none = λ number past. times_past new 0 (replaced wanted grow tree) number
            (places_changed old new wanted was grow change 0 tree are.placed) (omega arith);
      };
    }

-- ---- What `close` and `split` make of the places and of the cover.
-- ---- reading a list that was written
pub get-set_other : {A : Type 0} (xs : List A) (i j : ℕ) (x y : A) → j ≢ i → slice_get xs j ≡ Some y → slice_get (set xs i x) j ≡ Some y
get-set_other (z ∷ xs) zero zero x y differ e = absurd (differ refl)
get-set_other (z ∷ xs) (suc i) (suc j) x y differ e = get-set_other xs i j x y (λ same. differ (ap suc same)) e
get-set_other _ _ _ x y differ e = e

pub get-set_same : {A : Type 0} (xs : List A) (i : ℕ) (x y : A) → slice_get xs i ≡ Some y → slice_get (set xs i x) i ≡ Some x
get-set_same [] i x y e = absurd (cc)
get-set_same (z ∷ xs) zero x y e = refl
get-set_same (z ∷ xs) (suc i) x y e = get-set_same xs i x y e

pub get-append : {A : Type 0} (xs ys : List A) (i : ℕ) (x : A) → slice_get xs i ≡ Some x → slice_get (xs ++ ys) i ≡ Some x
get-append [] ys i x e = absurd (cc)
get-append (z ∷ xs) ys zero x e = e
get-append (z ∷ xs) ys (suc i) x e = get-append xs ys i x e

pub get-append_past : {A : Type 0} (xs ys : List A) (i : ℕ) → slice_get (xs ++ ys) (length xs + i) ≡ slice_get ys i
get-append_past [] ys i = let e : 0 + i ≡ i = omega arith in ap (slice_get ys) e
get-append_past (z ∷ xs) ys i =
    let e : suc (length xs) + i ≡ suc (length xs + i) = omega arith in
    ap (slice_get (z ∷ xs ++ ys)) e ∙ get-append_past xs ys i

-- ---- an open leaf
-- where an open leaf stands, its place holds it
pub open_place : (places : List Place) (tree : NumberedTree) (wanted : ℕ) (place : Place) → ArePlacesOf tree places
    → slice_get places wanted ≡ Some place → (at : IsOpenAt tree wanted) → place.spot ≡ spot.Leaf (leaf.Live at.table at.value at.exact)
open_place places tree wanted place are e at =
    let part = from_some (λ (p : Subtree). spot_of p.tree) (subtree_at tree wanted) (spot.Leaf (leaf.Live at.table at.value at.exact)) at.live in
    let stands = part_place places tree wanted part.0 are part.1 in
    let same : Some place ≡ Some (record { parent = stands.0; spot = spot_of part.0.tree }) = sym e ∙ stands.1 in
    let one : place ≡ record { parent = stands.0; spot = spot_of part.0.tree } = cc in
    ap (λ (p : Place). p.spot) one ∙ part.2

pub open_within : (places : List Place) (tree : NumberedTree) (wanted : ℕ) → ArePlacesOf tree places → IsOpenAt tree wanted
    → wanted < length places
open_within places tree wanted are at =
    let part = from_some (λ (p : Subtree). spot_of p.tree) (subtree_at tree wanted) (spot.Leaf (leaf.Live at.table at.value at.exact)) at.live in
    let stands = part_place places tree wanted part.0 are part.1 in
    slice_get_within places wanted (record { parent = stands.0; spot = spot_of part.0.tree }) stands.1

-- ---- another leaf
pub closed_places : (places : List Place) (tree : NumberedTree) (wanted : ℕ) (was : Place) (old new : Leaf) → ArePlacesOf tree places
    → slice_get places wanted ≡ Some was → was.spot ≡ spot.Leaf old
    → ArePlacesOf (replaced wanted (λ (leaf : Leaf). EndAt wanted new) tree)
    (set places wanted (record { parent = was.parent; spot = spot.Leaf new }))
closed_places places tree wanted was old new are stands is =
    let now : Place = record { parent = was.parent; spot = spot.Leaf new } in
    are_changed places (set places wanted now) wanted 0 was (λ leaf. EndAt wanted new) tree are
    (record {
      leaf = old;
      is_leaf = is;
      at_leaf = stands;
      others = λ n place differ e. get-set_other places wanted n now place differ e;
      number = λ l. refl;
      grown = record { place = get-set_same places wanted now was stands };
    })
    (omega (arith, length-set places wanted now))
    (λ leaf. refl)
    (λ number. (0, (λ leaf. omega arith), (λ below. refl), (λ low high. absurd (omega (arith, length-set places wanted now)))))

-- ---- a split
is_same : (a b : ℕ) → a ≡ b → one_if (a == b) ≡ 1
is_same a b e = ap one_if (eq-eqb a b e)

differs : (a b : ℕ) → (a ≡ b → ⊥) → one_if (a == b) ≡ 0
differs a b d = ap one_if (ne_eqb a b d)

pub split_places : (places : List Place) (tree : NumberedTree) (wanted g t : ℕ) (was : Place) (old : Leaf) → ArePlacesOf tree places
    → slice_get places wanted ≡ Some was → was.spot ≡ spot.Leaf old
    → ArePlacesOf (replaced wanted (split_leaf wanted g t (length places) (suc (length places))) tree)
    (set places wanted (record { parent = was.parent; spot = spot.Inner g t (length places) (suc (length places)) })
    ++ (record { parent = wanted; spot = was.spot }) ∷ (record { parent = wanted; spot = was.spot }) ∷ [])
split_places places tree wanted g t was old are stands is =
    let off = length places in
    let on = suc (length places) in
    let now : Place = record { parent = was.parent; spot = spot.Inner g t off on } in
    let child : Place = record { parent = wanted; spot = was.spot } in
    let front = set places wanted now in
    let back = child ∷ child ∷ [] in
    let new = front ++ back in
    let within = slice_get_within places wanted was stands in
    let same = length-set places wanted now in
    let longer = length-append front back in
    let first : slice_get new off ≡ Some child =
    let e : off ≡ length front + 0 = omega arith in ap (slice_get new) e ∙ get-append_past front back 0 in
    let second : slice_get new on ≡ Some child =
    let e : on ≡ length front + 1 = omega arith in ap (slice_get new) e ∙ get-append_past front back 1 in
    let child_is : child ≡ record { parent = wanted; spot = spot.Leaf old } = λ i. record { parent = wanted; spot = is i } in
    are_changed places new wanted 2 was (split_leaf wanted g t off on) tree are
    (record {
      leaf = old;
      is_leaf = is;
      at_leaf = stands;
      others = λ n place differ e. get-append front back n place (get-set_other places wanted n now place differ e);
      number = λ l. refl;
      grown = (
        record { place = get-append front back wanted now (get-set_same places wanted now was stands) },
        within,
        omega arith,
        record { place = first ∙ ap Some child_is },
        record { place = second ∙ ap Some child_is },
      );
    })
    (omega arith)
    (λ leaf. refl)
    (λ number. (
      one_if (off == number) + one_if (on == number),
      (λ leaf. omega arith),
      (λ below. omega (arith, differs off number (λ e. omega arith), differs on number (λ e. omega arith))),
      (λ low high. ⊎_elim
          (λ (e : off ≡ number). omega (arith, is_same off number e, differs on number (λ d. omega arith)))
          (λ (d : off ≡ number → ⊥).
          let e : on ≡ number = omega arith in
          omega (arith, is_same on number e, differs off number d))
          (cases_eq off number)),
    ))

-- ---- the cover
pub cover_closed : (instance : Instance) (here : Node) (tree : NumberedTree) (wanted : ℕ) (new : Leaf)
    → IsCoverBelow instance here (unnumbered tree)
    → IsCoverBelow instance here (unnumbered (replaced wanted (λ (leaf : Leaf). EndAt wanted new) tree))
cover_closed instance here (EndAt number leaf) wanted new cover = grind (arith, number, cover)
cover_closed instance here (SplitAt number g t off on) wanted new cover = (
  cover.0,
  cover.1,
  cover_closed instance (child here g t false) off wanted new cover.2,
  cover_closed instance (child here g t true) on wanted new cover.3,
)

-- a split of a leaf on a free cell of the instance
pub cover_split : (instance : Instance) (here : Node) (tree : NumberedTree) (wanted g t off on : ℕ) (part : Subtree) (leaf : Leaf)
    → AreApart tree → subtree_below here tree wanted ≡ Some part → spot_of part.tree ≡ spot.Leaf leaf
    → IsCell instance g t → IsTrue (not (is_decided part.node g t))
    → IsCoverBelow instance here (unnumbered tree)
    → IsCoverBelow instance here (unnumbered (replaced wanted (split_leaf wanted g t off on) tree))
cover_split instance here (EndAt number l) wanted g t off on part leaf apart e is cell undecided cover =
    grind (arith, number, l, apart, e, is, cell, undecided, cover)
cover_split instance here (SplitAt number a b left right) wanted g t off on part leaf apart e is cell undecided cover =
    let grow = split_leaf wanted g t off on in
    ⊎_elim
    (λ (l : IsOff here a b left right wanted part). (
      cover.0,
      cover.1,
      cover_split instance (child here a b false) left wanted g t off on part leaf (apart_off number a b left right apart) l.0 is cell undecided cover.2,
      subst (λ tree. IsCoverBelow instance (child here a b true) (unnumbered tree)) (sym (replaced_nowhere wanted grow right l.1)) cover.3,
    ))
    (λ (r : IsOn here a b left right wanted part). (
      cover.0,
      cover.1,
      subst (λ tree. IsCoverBelow instance (child here a b false) (unnumbered tree)) (sym (replaced_nowhere wanted grow left r.1)) cover.2,
      cover_split instance (child here a b true) right wanted g t off on part leaf (apart_on number a b left right apart) r.0 is cell undecided cover.3,
    ))
    (leaf_sides here number a b left right wanted part leaf apart e is)

-- what a free cell is for the cover of any instance of the size
pub free_split : (tree : TreeView) (places : List Place) (wanted g t off on : ℕ) (instance : Instance)
    → ArePlacesOf tree.nodes places → IsOpenAt tree.nodes wanted → IsFreeAt tree wanted g t → IsSizeOf tree instance
    → IsCover instance (tree_of tree)
    → IsCover instance (unnumbered (replaced wanted (split_leaf wanted g t off on) tree.nodes))
free_split tree places wanted g t off on instance are at free size cover =
    let part = from_some (λ (p : Subtree). spot_of p.tree) (subtree_at tree.nodes wanted) (spot.Leaf (leaf.Live at.table at.value at.exact)) at.live in
    let node = from_some (λ (p : Subtree). p.node) (subtree_at tree.nodes wanted) free.node free.is_node in
    let parts : Some part.0 ≡ Some node.0 = sym part.1 ∙ node.1 in
    let one : part.0 ≡ node.0 = cc in
    let is_node : part.0.node ≡ free.node = ap (λ (p : Subtree). p.node) one ∙ node.2 in
    cover_split instance root tree.nodes wanted g t off on part.0 (leaf.Live at.table at.value at.exact) (are_apart tree.nodes places are) part.1 part.2
    (record { unit = subst (λ n. g < n) (sym size.thermal) free.unit; period = subst (λ n. t < n) (sym size.periods) free.period })
    (subst (λ n. IsTrue (not (is_decided n g t))) (sym is_node) free.undecided) cover

-- ---- The fields after a change: what they keep, and what contracts see of them.
-- fields that are kept as they must be, and of which contracts see this
pub record IsMade (b : Inside) (value : TreeView) : Type 0 where
  pub stored : IsStored b
  pub view : view_of b ≡ value
  pub whole : IsWhole (view_of b)

-- the size and the room stayed
pub record IsAlike (a b : Inside) : Type 0 where
  pub units : b.units ≡ a.units
  pub periods : b.periods ≡ a.periods
  pub room : vec_capacity b.places ≡ vec_capacity a.places

made : (a b : Inside) (value : TreeView) (nodes : NumberedTree) → view_of a ≡ value → IsStored a → IsAlike a b
    → ArePlacesOf nodes b.places.items → b.bounds ≡ record a.bounds { values = map place_bound b.places.items }
    → length b.places.items ≤ value.room
    → ((instance : Instance) → IsSizeOf value instance → IsCover instance (unnumbered nodes))
    → IsMade b (record value { nodes = nodes })
made a b value nodes seen stored alike are bounds within cover = grind (arith, tree_is, seen, stored, alike, are, within, cover)

-- the place that an open leaf has
pub record HasOpenPlace (places : List Place) (wanted : ℕ) : Type 0 where
  pub place : Place
  pub stands : slice_get places wanted ≡ Some place
  pub leaf : Leaf
  pub is_leaf : place.spot ≡ spot.Leaf leaf

open_at : (places : List Place) (tree : NumberedTree) (wanted : ℕ) → ArePlacesOf tree places → IsOpenAt tree wanted → HasOpenPlace places wanted
open_at places tree wanted are at =
    let within = open_within places tree wanted are at in
    let nothing : Place = record { parent = 0; spot = spot.Leaf (leaf.Empty 0) } in
    let stands = slice_get-get_or places wanted nothing within in
    record { place = _; stands = stands; leaf = leaf.Live at.table at.value at.exact; is_leaf = open_place places tree wanted _ are stands at }

-- the bounds of the places after a split: none at its node, and its children's at the end
split_bounds : (values : List (Option ℤ)) (places : List Place) (wanted : ℕ) (now child : Place) → values ≡ map place_bound places
    → place_bound now ≡ None
    → (set values wanted None ++ place_bound child ∷ []) ++ place_bound child ∷ []
    ≡ map place_bound (set places wanted now ++ child ∷ child ∷ [])
split_bounds values places wanted now child are none = grind (arith, append_assoc, map-set, map-append, are, none)

pub close_made : (a b : Inside) (value : TreeView) (wanted : ℕ) (new : Leaf) → view_of a ≡ value → IsStored a → IsAlike a b
    → IsOpenAt value.nodes wanted
    → ((was : Place) → slice_get a.places.items wanted ≡ Some was
    → b.places.items ≡ set a.places.items wanted (record was { spot = spot.Leaf new }))
    → b.bounds ≡ record a.bounds { values = set a.bounds.values wanted (leaf_bound new) }
    → IsMade b (record value { nodes = replaced wanted (λ (leaf : Leaf). EndAt wanted new) value.nodes })
close_made a b value wanted new seen stored alike at changed bounds =
    let are : ArePlacesOf value.nodes a.places.items = subst (λ (v : TreeView). ArePlacesOf v.nodes a.places.items) seen stored.places in
    let was : IsWhole value = subst IsWhole seen stored.whole in
    let here = open_at a.places.items value.nodes wanted are at in
    let now : Place = record { parent = here.place.parent; spot = spot.Leaf new } in
    let items : b.places.items ≡ set a.places.items wanted now = changed here.place here.stands in
    let places = closed_places a.places.items value.nodes wanted here.place here.leaf new are here.stands here.is_leaf in
    made a b value (replaced wanted (λ (leaf : Leaf). EndAt wanted new) value.nodes) seen stored alike
    (subst (ArePlacesOf (replaced wanted (λ (leaf : Leaf). EndAt wanted new) value.nodes)) (sym items) places)
    (bounds ∙ ap (λ (vs : List (Option ℤ)). record a.bounds { values = vs }) (ap (λ vs. set vs wanted (leaf_bound new)) stored.bounds
    ∙ (sym (map-set place_bound a.places.items wanted now) ∙ ap (map place_bound) (sym items))))
    (omega (arith, ap length items, length-set a.places.items wanted now, are.count, was.within))
    (λ instance size. cover_closed instance root value.nodes wanted new (was.cover instance size))

pub split_made : (a b : Inside) (value : TreeView) (wanted g t off on : ℕ) (read : Place) (bound : Option ℤ) → view_of a ≡ value → IsStored a → IsAlike a b
    → IsOpenAt value.nodes wanted → IsFreeAt value wanted g t → node_count value.nodes + 2 ≤ value.room
    → off ≡ length a.places.items → on ≡ suc (length a.places.items)
    → ((was : Place) → slice_get a.places.items wanted ≡ Some was
    → b.places.items ≡ set a.places.items wanted (record was { spot = spot.Inner g t off on })
    ++ (record { parent = wanted; spot = was.spot }) ∷ (record { parent = wanted; spot = was.spot }) ∷ [])
    → read ≡ get_or a.places.items wanted read → bound ≡ place_bound read
    → b.bounds ≡ record a.bounds { values = (set a.bounds.values wanted None ++ bound ∷ []) ++ bound ∷ [] }
    → IsMade b (record value { nodes = replaced wanted (split_leaf wanted g t off on) value.nodes })
split_made a b value wanted g t off on read bound seen stored alike at free room is_off is_on changed is_read is_bound bounds =
    let are : ArePlacesOf value.nodes a.places.items = subst (λ (v : TreeView). ArePlacesOf v.nodes a.places.items) seen stored.places in
    let was : IsWhole value = subst IsWhole seen stored.whole in
    let here = open_at a.places.items value.nodes wanted are at in
    let now : Place = record { parent = here.place.parent; spot = spot.Inner g t off on } in
    let child : Place = record { parent = wanted; spot = here.place.spot } in
    let front = set a.places.items wanted now in
    let items : b.places.items ≡ front ++ child ∷ child ∷ [] = changed here.place here.stands in
    let places : ArePlacesOf (replaced wanted (split_leaf wanted g t off on) value.nodes) (front ++ child ∷ child ∷ []) =
    subst (λ m. ArePlacesOf (replaced wanted (split_leaf wanted g t off m) value.nodes)
    (set a.places.items wanted (record { parent = here.place.parent; spot = spot.Inner g t off m }) ++ child ∷ child ∷ [])) (sym is_on)
    (subst (λ n. ArePlacesOf (replaced wanted (split_leaf wanted g t n (suc (length a.places.items))) value.nodes)
    (set a.places.items wanted (record { parent = here.place.parent; spot = spot.Inner g t n (suc (length a.places.items)) }) ++ child ∷ child ∷ [])) (sym is_off)
    (split_places a.places.items value.nodes wanted g t here.place here.leaf are here.stands here.is_leaf)) in
    made a b value (replaced wanted (split_leaf wanted g t off on) value.nodes) seen stored alike
    (subst (ArePlacesOf (replaced wanted (split_leaf wanted g t off on) value.nodes)) (sym items) places)
    (bounds ∙ ap (λ (vs : List (Option ℤ)). record a.bounds { values = vs })
    (ap (λ (x : Option ℤ). (set a.bounds.values wanted None ++ x ∷ []) ++ x ∷ [])
    (is_bound ∙ ap place_bound (is_read ∙ get_or_from_slice_get a.places.items wanted here.place read here.stands))
    ∙ (split_bounds a.bounds.values a.places.items wanted now child stored.bounds refl ∙ ap (map place_bound) (sym items))))
    (omega (arith, ap length items, length-append front (child ∷ child ∷ []), length-set a.places.items wanted now, are.count))
    (λ instance size. free_split value a.places.items wanted g t off on instance are at free size (was.cover instance size))

-- a bound for each place
pub bound_count : (a : Inside) → IsStored a → length a.bounds.values ≡ length a.places.items
bound_count a stored = ap length stored.bounds ∙ length-map a.places.items place_bound

-- there is room for the bounds of two more places
pub room_for_two : (a : Inside) (value : TreeView) → view_of a ≡ value → IsStored a → node_count value.nodes + 2 ≤ value.room
    → length a.bounds.values + 2 ≤ a.bounds.room
room_for_two a value seen stored room = grind (arith, bound_count, seen, stored)

-- the places of a stored tree are as many as its nodes, and that of an open leaf is one of them
pub stored_count : (a : Inside) (value : TreeView) → view_of a ≡ value → IsStored a → length a.places.items ≡ node_count value.nodes
stored_count a value seen stored = stored.places.count ∙ ap (λ (v : TreeView). node_count v.nodes) seen

pub stored_within : (a : Inside) (value : TreeView) (wanted : ℕ) → view_of a ≡ value → IsStored a → IsOpenAt value.nodes wanted
    → wanted < length a.places.items
stored_within a value wanted seen stored at =
    open_within a.places.items value.nodes wanted (subst (λ (v : TreeView). ArePlacesOf v.nodes a.places.items) seen stored.places) at

-- what stands at a place is what the tree has at its number
pub stored_spot : (a : Inside) (value : TreeView) (wanted : ℕ) (place : Place) → view_of a ≡ value → IsStored a
    → wanted < node_count value.nodes → place ≡ get_or a.places.items wanted place → spot_at value.nodes wanted ≡ Some place.spot
stored_spot a value wanted place seen stored within read =
    let are : ArePlacesOf value.nodes a.places.items = subst (λ (v : TreeView). ArePlacesOf v.nodes a.places.items) seen stored.places in
    spot_is a.places.items value.nodes wanted place are
    (slice_get_read a.places.items (length a.places.items) wanted place refl (omega (arith, are.count)) read)
