-- Where the parts of a tree hang, by their numbers, and what a replaced leaf changes in these.
use Rattle.std.proofs.Common.{◌≡◌, ℕ, ◌+◌, ◌*◌, ◌≤◌, ◌⊎◌, Bool, true, false, cond, refl, ap, sym, ◌∙◌, subst, arith, ⊎_elim, ◌==◌, ◌<◌, Some, None}
use Rattle.std.specs.Option.{option_or}
use Rattle.std.proofs.lemmas.Bool.{eq-eqb, cases_lt}
use Rattle.dual_model.specs.Prelude.{child}
use Rattle.branch_tree.specs.NumberedTree.{Leaf, NumberedTree, EndAt, SplitAt, number_of, total, times, replaced, Node, Subtree, spot_of, subtree_below}
use Rattle.branch_tree.specs.declared.tree.Spot.TheVariants as spot

-- two numbers are the same, or a test tells them apart
pub same_or_not : (a b : ℕ) → ((a ≡ b) × ((a == b) ≡ true)) ⊎ (((a ≡ b) → ⊥) × ((a == b) ≡ false))
same_or_not a b = grind arith

-- what the test adds to a count
abbrev pub one_if : Bool → ℕ
one_if b = cond b 1 0

pub one_here : (a b : ℕ) → (a == b) ≡ true → one_if (a == b) ≡ 1
one_here a b h = ap one_if h

pub none_here : (a b : ℕ) → (a == b) ≡ false → one_if (a == b) ≡ 0
none_here a b h = ap one_if h

-- how many leaves have the number
abbrev pub leaves_at : ℕ → NumberedTree → ℕ
leaves_at wanted (EndAt number leaf) = cond (number == wanted) 1 0
leaves_at wanted (SplitAt number g t off on) = leaves_at wanted off + leaves_at wanted on

pub times_root : (tree : NumberedTree) → 1 ≤ times (number_of tree) tree
times_root (EndAt number leaf) = subst (λ b. 1 ≤ cond b 1 0) (sym (eq-eqb number number refl)) (omega arith)
times_root (SplitAt number g t off on) = grind (arith, number, g, t, off, on)

pub number_of-replaced : (wanted : ℕ) (grow : Leaf → NumberedTree) → ((leaf : Leaf) → number_of (grow leaf) ≡ wanted)
    → (tree : NumberedTree) → number_of (replaced wanted grow tree) ≡ number_of tree
number_of-replaced wanted grow is (EndAt number leaf) = grind (arith, is, number)
number_of-replaced wanted grow is (SplitAt number g t off on) = refl

-- where what is grown weighs so much more than the leaf, the tree does for each such leaf
pub total-replaced : (weight : ℕ → ℕ) (wanted extra : ℕ) (grow : Leaf → NumberedTree)
    → ((leaf : Leaf) → total weight (grow leaf) ≡ weight wanted + extra)
    → (tree : NumberedTree) → total weight (replaced wanted grow tree) ≡ total weight tree + leaves_at wanted tree * extra
total-replaced weight wanted extra grow is (EndAt number leaf) = grind (arith, is, number)
total-replaced weight wanted extra grow is (SplitAt number g t off on) =
    grind (arith, is, number, g, t, off, on, (total-replaced weight wanted extra grow is off), (total-replaced weight wanted extra grow is on))

-- without a node of the number nothing is replaced
pub replaced_nowhere : (wanted : ℕ) (grow : Leaf → NumberedTree) (tree : NumberedTree) → times wanted tree ≡ 0
    → replaced wanted grow tree ≡ tree
replaced_nowhere wanted grow (EndAt number leaf) none = grind (arith, number, leaf, none)
replaced_nowhere wanted grow (SplitAt number g t off on) none =
    grind (arith, number, g, t, off, on, none, (replaced_nowhere wanted grow off (omega arith)), (replaced_nowhere wanted grow on (omega arith)))

-- ---- Where the parts of a tree hang, by their numbers.
-- no two nodes have one number
abbrev pub AreApart : NumberedTree → Type 0
AreApart tree = (number : ℕ) → times number tree ≤ 1

pub apart_off : (number g t : ℕ) (off on : NumberedTree) → AreApart (SplitAt number g t off on) → AreApart off
apart_off number g t off on apart n = omega (arith, apart n)

pub apart_on : (number g t : ℕ) (off on : NumberedTree) → AreApart (SplitAt number g t off on) → AreApart on
apart_on number g t off on apart n = omega (arith, apart n)

-- the root has the number, or it stands on either side
pub record IsHere (here : Node) (tree : NumberedTree) (wanted : ℕ) (part : Subtree) : Type 0 where
  pub number : number_of tree ≡ wanted
  pub whole : part ≡ record { node = here; tree = tree }

pub at_root : (here : Node) (tree : NumberedTree) → subtree_below here tree (number_of tree) ≡ Some (record { node = here; tree = tree })
at_root here (EndAt number leaf) = grind (arith, number, leaf)
at_root here (SplitAt number g t off on) = grind (arith, number, g, t, off, on)

pub subtree_cases : (here : Node) (number g t : ℕ) (off on : NumberedTree) (wanted : ℕ) (part : Subtree)
    → subtree_below here (SplitAt number g t off on) wanted ≡ Some part
    → IsHere here (SplitAt number g t off on) wanted part
    ⊎ ((subtree_below (child here g t false) off wanted ≡ Some part) ⊎ (subtree_below (child here g t true) on wanted ≡ Some part))
subtree_cases here number g t off on wanted part e = grind (arith, e)

pub leaf_case : (here : Node) (number : ℕ) (leaf : Leaf) (wanted : ℕ) (part : Subtree)
    → subtree_below here (EndAt number leaf) wanted ≡ Some part → IsHere here (EndAt number leaf) wanted part
leaf_case here number leaf wanted part e = grind (arith, e)

-- the leaf that is reached is the one that stands there
pub record IsLeafAt (here : Node) (number : ℕ) (l old : Leaf) (wanted : ℕ) (part : Subtree) : Type 0 where
  pub number_is : number ≡ wanted
  pub test : (number == wanted) ≡ true
  pub same : l ≡ old
  pub node : part.node ≡ here

-- what hangs from a number has it, and so some node does
pub part_number : (here : Node) (tree : NumberedTree) (wanted : ℕ) (part : Subtree) → subtree_below here tree wanted ≡ Some part
    → number_of part.tree ≡ wanted
part_number here (EndAt number leaf) wanted part e = grind (arith, number, leaf, e)
part_number here (SplitAt number g t off on) wanted part e = ⊎_elim
    (λ (h : IsHere here (SplitAt number g t off on) wanted part). ap (λ (p : Subtree). number_of p.tree) h.whole ∙ h.number)
    (λ (sides : (subtree_below (child here g t false) off wanted ≡ Some part) ⊎ (subtree_below (child here g t true) on wanted ≡ Some part)).
    ⊎_elim (part_number (child here g t false) off wanted part) (part_number (child here g t true) on wanted part) sides)
    (subtree_cases here number g t off on wanted part e)

pub part_counted : (here : Node) (tree : NumberedTree) (wanted : ℕ) (part : Subtree) → subtree_below here tree wanted ≡ Some part
    → 1 ≤ times wanted tree
part_counted here (EndAt number leaf) wanted part e = grind (arith, number, leaf, e)
part_counted here (SplitAt number g t off on) wanted part e = ⊎_elim
    (λ (h : IsHere here (SplitAt number g t off on) wanted part).
    subst (λ n. 1 ≤ times n (SplitAt number g t off on)) h.number (times_root (SplitAt number g t off on)))
    (λ (sides : (subtree_below (child here g t false) off wanted ≡ Some part) ⊎ (subtree_below (child here g t true) on wanted ≡ Some part)).
    ⊎_elim
    (λ (l : subtree_below (child here g t false) off wanted ≡ Some part).
    let some = part_counted (child here g t false) off wanted part l in omega arith)
    (λ (r : subtree_below (child here g t true) on wanted ≡ Some part).
    let some = part_counted (child here g t true) on wanted part r in omega arith)
    sides)
    (subtree_cases here number g t off on wanted part e)

-- and nothing hangs from another number
pub no_part : (here : Node) (tree : NumberedTree) (wanted : ℕ) → times wanted tree ≡ 0 → subtree_below here tree wanted ≡ None
no_part here tree wanted none = grind (arith, part_counted, none)

-- the number of a part on a side of a split isn't that of the split
pub not_root : (number g t : ℕ) (off on : NumberedTree) (wanted : ℕ) → AreApart (SplitAt number g t off on) → 1 ≤ times wanted off + times wanted on
    → number ≡ wanted → ⊥
not_root number g t off on wanted apart some e = omega (arith, apart wanted, one_here number wanted (eq-eqb number wanted e))

pub side_part : (here : Node) (number g t : ℕ) (off on : NumberedTree) (wanted : ℕ) (part : Subtree) → (number ≡ wanted → ⊥)
    → option_or (subtree_below (child here g t false) off wanted) (subtree_below (child here g t true) on wanted) ≡ Some part
    → subtree_below here (SplitAt number g t off on) wanted ≡ Some part
side_part here number g t off on wanted part other e = grind (arith, other, e)

-- the part on one side of a split is that of the whole
pub off_part : (here : Node) (number g t : ℕ) (off on : NumberedTree) (wanted : ℕ) (part : Subtree)
    → AreApart (SplitAt number g t off on) → subtree_below (child here g t false) off wanted ≡ Some part
    → subtree_below here (SplitAt number g t off on) wanted ≡ Some part
off_part here number g t off on wanted part apart e = grind (arith, part_counted, side_part, not_root, apart, e)

pub on_part : (here : Node) (number g t : ℕ) (off on : NumberedTree) (wanted : ℕ) (part : Subtree)
    → AreApart (SplitAt number g t off on) → subtree_below (child here g t true) on wanted ≡ Some part
    → subtree_below here (SplitAt number g t off on) wanted ≡ Some part
on_part here number g t off on wanted part apart e = grind (arith, part_counted, side_part, not_root, no_part, apart, e)

-- a leaf below a split stands on one of its sides, and its number isn't on the other
abbrev pub IsOff : Node → ℕ → ℕ → NumberedTree → NumberedTree → ℕ → Subtree → Type 0
IsOff here g t off on wanted part = (subtree_below (child here g t false) off wanted ≡ Some part) × (times wanted on ≡ 0)

abbrev pub IsOn : Node → ℕ → ℕ → NumberedTree → NumberedTree → ℕ → Subtree → Type 0
IsOn here g t off on wanted part = (subtree_below (child here g t true) on wanted ≡ Some part) × (times wanted off ≡ 0)

pub leaf_sides : (here : Node) (number g t : ℕ) (off on : NumberedTree) (wanted : ℕ) (part : Subtree) (old : Leaf)
    → AreApart (SplitAt number g t off on) → subtree_below here (SplitAt number g t off on) wanted ≡ Some part → spot_of part.tree ≡ spot.Leaf old
    → IsOff here g t off on wanted part ⊎ IsOn here g t off on wanted part
leaf_sides here number g t off on wanted part old apart e is = grind (arith, part_counted, subtree_cases, apart, e, is)

-- each number of a node has its part
pub some_part : (here : Node) (tree : NumberedTree) (wanted : ℕ) → AreApart tree → 1 ≤ times wanted tree
    → (part : Subtree) × (subtree_below here tree wanted ≡ Some part)
some_part here (EndAt number leaf) wanted apart some = ⊎_elim
    (λ (h : (number ≡ wanted) × ((number == wanted) ≡ true)). (
      record { node = here; tree = EndAt number leaf },
      subst (λ n. subtree_below here (EndAt number leaf) n ≡ Some (record { node = here; tree = EndAt number leaf })) h.0 (at_root here (EndAt number leaf)),
    ))
    (λ (h : ((number ≡ wanted) → ⊥) × ((number == wanted) ≡ false)).
    absurd (omega (arith, none_here number wanted h.1)))
    (same_or_not number wanted)
some_part here (SplitAt number g t off on) wanted apart some = ⊎_elim
    (λ (h : (number ≡ wanted) × ((number == wanted) ≡ true)). (
      record { node = here; tree = SplitAt number g t off on },
      subst (λ n. subtree_below here (SplitAt number g t off on) n ≡ Some (record { node = here; tree = SplitAt number g t off on })) h.0
          (at_root here (SplitAt number g t off on)),
    ))
    (λ (h : ((number ≡ wanted) → ⊥) × ((number == wanted) ≡ false)).
    let none = none_here number wanted h.1 in
    ⊎_elim
    (λ (l : 0 < times wanted off).
    let p = some_part (child here g t false) off wanted (apart_off number g t off on apart) (omega arith) in
    (p.0, off_part here number g t off on wanted p.0 apart p.1))
    (λ (l : times wanted off ≤ 0).
    let p = some_part (child here g t true) on wanted (apart_on number g t off on apart) (omega arith) in
    (p.0, on_part here number g t off on wanted p.0 apart p.1))
    (cases_lt 0 (times wanted off)))
    (same_or_not number wanted)

-- the children of a split hang from it
pub record HasChildren (here : Node) (tree : NumberedTree) (node : Node) (g t : ℕ) (off on : NumberedTree) : Type 0 where
  pub off_child : subtree_below here tree (number_of off) ≡ Some (record { node = child node g t false; tree = off })
  pub on_child : subtree_below here tree (number_of on) ≡ Some (record { node = child node g t true; tree = on })

pub children_hang : (here : Node) (tree : NumberedTree) (wanted : ℕ) (node : Node) (number g t : ℕ) (off on : NumberedTree)
    → AreApart tree → subtree_below here tree wanted ≡ Some (record { node = node; tree = SplitAt number g t off on })
    → HasChildren here tree node g t off on
children_hang here (EndAt m leaf) wanted node number g t off on apart e = grind (arith, m, leaf, apart, e)
children_hang here (SplitAt m a b left right) wanted node number g t off on apart e =
    let part : Subtree = record { node = node; tree = SplitAt number g t off on } in
    ⊎_elim
    (λ (h : IsHere here (SplitAt m a b left right) wanted part).
    let same : SplitAt number g t off on ≡ SplitAt m a b left right = ap (λ (p : Subtree). p.tree) h.whole in
    let at : node ≡ here = ap (λ (p : Subtree). p.node) h.whole in
    let is_g : g ≡ a = cc in
    let is_t : t ≡ b = cc in
    let is_off : off ≡ left = cc in
    let is_on : on ≡ right = cc in
    let off_child : subtree_below here (SplitAt m a b left right) (number_of left) ≡ Some (record { node = child here a b false; tree = left }) =
    off_part here m a b left right (number_of left) (record { node = child here a b false; tree = left }) apart (at_root (child here a b false) left) in
    let on_child : subtree_below here (SplitAt m a b left right) (number_of right) ≡ Some (record { node = child here a b true; tree = right }) =
    on_part here m a b left right (number_of right) (record { node = child here a b true; tree = right }) apart (at_root (child here a b true) right) in
    record { off_child = rw (at, is_g, is_t, is_off) off_child; on_child = rw (at, is_g, is_t, is_on) on_child })
    (λ (sides : (subtree_below (child here a b false) left wanted ≡ Some part) ⊎ (subtree_below (child here a b true) right wanted ≡ Some part)).
    ⊎_elim
    (λ (l : subtree_below (child here a b false) left wanted ≡ Some part).
    let below = children_hang (child here a b false) left wanted node number g t off on (apart_off m a b left right apart) l in
    record {
      off_child = off_part here m a b left right (number_of off) (record { node = child node g t false; tree = off }) apart below.off_child;
      on_child = off_part here m a b left right (number_of on) (record { node = child node g t true; tree = on }) apart below.on_child;
    })
    (λ (r : subtree_below (child here a b true) right wanted ≡ Some part).
    let below = children_hang (child here a b true) right wanted node number g t off on (apart_on m a b left right apart) r in
    record {
      off_child = on_part here m a b left right (number_of off) (record { node = child node g t false; tree = off }) apart below.off_child;
      on_child = on_part here m a b left right (number_of on) (record { node = child node g t true; tree = on }) apart below.on_child;
    })
    sides)
    (subtree_cases here m a b left right wanted part e)
