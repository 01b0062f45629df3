-- What a move keeps of the tree: it is a cover again, what is open elsewhere stays open, and each path stays.
use Rattle.std.proofs.Common.{◌≡◌, ℕ, Bool, suc, ◌+◌, length, refl, ◌∙◌, arith, ℤ, false, true, ap, subst, Option, Some, ◌≢◌, ◌<◌, ◌⊎◌, sym, ⊎_elim}
use Rattle.std.specs.Option.{option_map}
use Rattle.uc_model.specs.declared.instance.Instance.{Instance}
use Rattle.dual_model.specs.Prelude.{root, IsCover, child, EachLeaf}
use Rattle.dual_model.specs.declared.node.Node.{Node}
use Rattle.branch_tree.specs.Prelude.{node_count, NumberedTree, EndAt, SplitAt, Subtree, unnumbered, spot_of, subtree_at, node_at, split_leaf, number_of, subtree_below, spot_at, replaced, IsPlaced, TreeView, IsSizeOf, IsOpenAt, IsFreeAt, tree_of}
use Rattle.branch_tree.specs.declared.tree.Leaf.TheVariants as leaf
use Rattle.branch_tree.specs.declared.tree.Spot.TheVariants as spot
use Rattle.branch_tree.proofs.Changes.{cover_closed, free_split, are_apart, from_some, place_part}
use Rattle.branch_tree.proofs.Grown.{closed_placed, closed_count, closed_there, closed_elsewhere, closed_node, split_placed, split_count, split_elsewhere, part_there, leaf_there, each_leaf_replaced}
use Rattle.branch_tree.proofs.Subtrees.{number_of-replaced, AreApart, IsHere, apart_off, apart_on, at_root, subtree_cases, leaf_case, off_part, on_part}
use Rattle.search_machine.specs.declared.stored.Stored.{Stored}
use Rattle.branch_tree.specs.declared.tree.Leaf.{Leaf}
use Rattle.branch_tree.specs.declared.tree.Spot.{Spot}
use Rattle.search_machine.specs.Prelude.{Again, Empty, Outcome, Prune, Ray, Split, Move, closed, split, live_leaf, bound_leaf, ray_leaf, empty_leaf, tree_after, tickets_of, IsFreeFor, HasFreeCell}
use Rattle.search_machine.specs.Moves.{unit_of}
use Rattle.search_machine.proofs.Claims.{StaysElsewhere}

-- the tree's nodes have places, and it is a cover of each instance of its size
pub record IsSound (tree : TreeView) : Type 0 where
  pub placed : IsPlaced tree.nodes
  pub cover : (instance : Instance) → IsSizeOf tree instance → IsCover instance (tree_of tree)

-- the tree is sound again, with so many nodes more, and what was open elsewhere is
pub record Grows (old new : TreeView) (node added : ℕ) : Type 0 where
  pub sound : IsSound new
  pub count : node_count new.nodes ≡ node_count old.nodes + added
  pub stays : StaysElsewhere old.nodes new.nodes node
  pub units : new.units ≡ old.units
  pub periods : new.periods ≡ old.periods
  pub room : new.room ≡ old.room

pub closed_grows : (tree : TreeView) (node : ℕ) (l : Leaf) → IsSound tree → IsOpenAt tree.nodes node → Grows tree (closed tree node l) node 0
closed_grows tree node l sound at = record {
  sound = record {
    placed = closed_placed tree.nodes node l sound.placed at;
    cover = λ instance size. grind (arith, cover_closed, instance, tree, node, l, sound, size);
  };
  count = omega (arith, closed_count tree.nodes node l sound.placed at);
  stays = λ number other differ. record {
    table = other.table;
    value = other.value;
    exact = other.exact;
    live = closed_elsewhere tree.nodes node l number (spot.Leaf (leaf.Live other.table other.value other.exact)) sound.placed at differ other.live;
  };
  units = refl;
  periods = refl;
  room = refl;
}

pub split_grows : (tree : TreeView) (node g t : ℕ) → IsSound tree → IsOpenAt tree.nodes node → IsFreeAt tree node g t
    → Grows tree (split tree node g t) node 2
split_grows tree node g t sound at free = record {
  sound = record {
    placed = split_placed tree.nodes node g t sound.placed at;
    cover = λ instance size. grind (arith, free_split, tree, instance, size, sound, node, g, t, at, free);
  };
  count = split_count tree.nodes node g t sound.placed at;
  stays = λ number other differ. record {
    table = other.table;
    value = other.value;
    exact = other.exact;
    live = split_elsewhere tree.nodes node g t number (spot.Leaf (leaf.Live other.table other.value other.exact)) sound.placed at differ other.live;
  };
  units = refl;
  periods = refl;
  room = refl;
}

-- ---- an open leaf that stores something else is still open, and the same cells are free
pub open_again : (tree : TreeView) (node : ℕ) (stored : Stored) → IsPlaced tree.nodes → IsOpenAt tree.nodes node
    → IsOpenAt (closed tree node (live_leaf stored)).nodes node
open_again tree node stored placed at = record {
  table = stored.table;
  value = stored.value;
  exact = stored.exact;
  live = closed_there tree.nodes node (live_leaf stored) placed at;
}

pub free_again : (tree : TreeView) (node g t : ℕ) (l : Leaf) → IsPlaced tree.nodes → IsOpenAt tree.nodes node → IsFreeAt tree node g t
    → IsFreeAt (closed tree node l) node g t
free_again tree node g t l placed at free = record {
  unit = free.unit;
  period = free.period;
  node = free.node;
  is_node = closed_node tree.nodes node l free.node placed at free.is_node;
  undecided = free.undecided;
}

both_grow : (a b c : TreeView) (node : ℕ) → Grows a b node 0 → Grows b c node 2 → Grows a c node 2
both_grow a b c node first second = grind (arith, first, second)

pub tree_grows : (tree : TreeView) (node : ℕ) (stored : Stored) (number : ℕ) (exact : Bool) (outcome : Outcome) (action : Move) → IsSound tree
    → IsOpenAt tree.nodes node → IsFreeFor tree node action
    → Grows tree (tree_after tree node stored number exact outcome action) node (length (tickets_of tree action))
tree_grows tree node stored number exact outcome (Split g t) sound at free =
    let l = live_leaf stored in
    let first = closed_grows tree node l sound at in
    both_grow tree (closed tree node l) (split (closed tree node l) node g t) node first
    (split_grows (closed tree node l) node g t first.sound (open_again tree node stored sound.placed at)
    (free_again tree node g t l sound.placed at free))
tree_grows tree node stored number exact outcome _ sound at free = closed_grows tree node _ sound at

-- ---- What a move makes of a claim on each leaf: it holds of all leaves again where it holds of the new ones.
-- the part that an open leaf is
pub record IsLeafPart (tree : TreeView) (number : ℕ) (l : Leaf) : Type 0 where
  pub part : Subtree
  pub hangs : subtree_at tree.nodes number ≡ Some part
  pub is : spot_of part.tree ≡ spot.Leaf l

pub leaf_part : (tree : TreeView) (number : ℕ) (at : IsOpenAt tree.nodes number) → IsLeafPart tree number (leaf.Live at.table at.value at.exact)
leaf_part tree number at = grind arith

pub part_node : (tree : TreeView) (number : ℕ) (l : Leaf) (part : IsLeafPart tree number l) → node_at tree.nodes number ≡ Some part.part.node
part_node tree number l part = ap (λ (o : Option Subtree). option_map (λ (p : Subtree). p.node) o) part.hangs

-- what holds of each leaf holds of it
at_leaf : (P : Node → Leaf → Type 0) (node : Node) (tree : NumberedTree) (l : Leaf) → spot_of tree ≡ spot.Leaf l
    → EachLeaf P node (unnumbered tree) → P node l
at_leaf P node (EndAt number x) l is each = let same : x ≡ l = cc in subst (P node) same each
at_leaf P node (SplitAt number g t off on) l is each = absurd (cc)

pub holds_of_leaf : (P : Node → Leaf → Type 0) (tree : TreeView) (number : ℕ) (l : Leaf) (part : IsLeafPart tree number l)
    → EachLeaf P root (tree_of tree) → P part.part.node l
holds_of_leaf P tree number l part each =
    at_leaf P part.part.node part.part.tree l part.is (leaf_there P root tree.nodes number part.part part.hangs each)

-- what holds of both leaves that a ray excludes holds of that of a kind, and the same of a unit's
pub of_ray : (P : Leaf → Type 0) (exact : Bool) (number : ℕ) → P (leaf.Ray number) → P (leaf.ExactRay number) → P (ray_leaf exact number)
of_ray P false number one other = one
of_ray P true number one other = other

pub of_empty : (P : Leaf → Type 0) (exact : Bool) (g : ℕ) → P (leaf.Empty g) → P (leaf.ExactEmpty g) → P (empty_leaf exact g)
of_empty P false g one other = one
of_empty P true g one other = other

-- the claim holds of the leaves that the move makes at the node
abbrev pub HoldsOfNew : (Node → Leaf → Type 0) → Node → Stored → ℕ → Bool → Outcome → Move → Type 0
HoldsOfNew P node stored number exact outcome Again = P node (live_leaf stored)
HoldsOfNew P node stored number exact outcome (Split g t) =
    P node (live_leaf stored)
    × P (child node g t false) (live_leaf stored)
    × P (child node g t true) (live_leaf stored)
HoldsOfNew P node stored number exact outcome (Prune seen) = P node (bound_leaf stored)
HoldsOfNew P node stored number exact outcome Ray = P node (ray_leaf exact number)
HoldsOfNew P node stored number exact outcome Empty = P node (empty_leaf exact (unit_of outcome))

closed_holds : (P Q : Node → Leaf → Type 0) → ((n : Node) (l : Leaf) → P n l → Q n l) → (tree : TreeView) (number : ℕ) (old new : Leaf)
    (part : IsLeafPart tree number old) → IsSound tree → EachLeaf P root (tree_of tree) → Q part.part.node new
    → EachLeaf Q root (tree_of (closed tree number new))
closed_holds P Q turn tree number old new part sound each own =
    each_leaf_replaced P Q turn root tree.nodes number (λ (l : Leaf). EndAt number new) part.part old
    (are_apart tree.nodes sound.placed.places sound.placed.are) part.hangs part.is each own

pub after_holds : (P Q : Node → Leaf → Type 0) → ((n : Node) (l : Leaf) → P n l → Q n l) → (tree : TreeView) (number : ℕ)
    (at : IsOpenAt tree.nodes number) (part : IsLeafPart tree number (leaf.Live at.table at.value at.exact)) (stored : Stored)
    (table : ℕ) (exact : Bool) (outcome : Outcome) (action : Move) → IsSound tree → EachLeaf P root (tree_of tree)
    → HoldsOfNew Q part.part.node stored table exact outcome action
    → EachLeaf Q root (tree_of (tree_after tree number stored table exact outcome action))
after_holds P Q turn tree number at part stored table exact outcome (Split g t) sound each new =
    let old = leaf.Live at.table at.value at.exact in
    let l = live_leaf stored in
    let middle = closed tree number l in
    let first = closed_holds P Q turn tree number old l part sound each new.0 in
    let apart = are_apart tree.nodes sound.placed.places sound.placed.are in
    let there = part_there root tree.nodes number (λ (x : Leaf). EndAt number l) part.part old apart (λ x. refl) part.hangs part.is in
    let grown = closed_grows tree number l sound at in
    each_leaf_replaced Q Q (λ n x q. q) root middle.nodes number
    (split_leaf number g t (node_count middle.nodes) (suc (node_count middle.nodes)))
    (record { node = part.part.node; tree = EndAt number l }) l
    (are_apart middle.nodes grown.sound.placed.places grown.sound.placed.are) there refl first (new.1, new.2)
after_holds P Q turn tree number at part stored table exact outcome _ sound each new =
    closed_holds P Q turn tree number (leaf.Live at.table at.value at.exact) _ part sound each new

-- ---- What a replaced leaf keeps of the paths of a tree: each node that was there has its number again, and what stands there.
-- ---- paths
-- the node still has the number
record IsStillThere (here : Node) (tree : NumberedTree) (number : ℕ) (node : Node) : Type 0 where
  part : Subtree
  hangs : subtree_below here tree number ≡ Some part
  is : part.node ≡ node

root_stays : (here : Node) (tree : NumberedTree) (wanted : ℕ) (grow : Leaf → NumberedTree) (number : ℕ) (part : Subtree)
    → ((l : Leaf) → number_of (grow l) ≡ wanted) → IsHere here tree number part
    → IsStillThere here (replaced wanted grow tree) number part.node
root_stays here tree wanted grow number part number_is h = record {
  part = record { node = here; tree = replaced wanted grow tree };
  hangs = grind (arith, number_of-replaced, at_root, here, wanted, grow, tree, number_is, h);
  is = sym (ap (λ (p : Subtree). p.node) h.whole);
}

part_stays : (here : Node) (tree : NumberedTree) (wanted : ℕ) (grow : Leaf → NumberedTree) (number : ℕ) (part : Subtree)
    → ((l : Leaf) → number_of (grow l) ≡ wanted) → AreApart (replaced wanted grow tree) → subtree_below here tree number ≡ Some part
    → IsStillThere here (replaced wanted grow tree) number part.node
part_stays here (EndAt m l) wanted grow number part number_is apart e =
    root_stays here (EndAt m l) wanted grow number part number_is (leaf_case here m l number part e)
part_stays here (SplitAt m g t off on) wanted grow number part number_is apart e =
    let left = replaced wanted grow off in
    let right = replaced wanted grow on in
    ⊎_elim
    (λ (h : IsHere here (SplitAt m g t off on) number part). root_stays here (SplitAt m g t off on) wanted grow number part number_is h)
    (λ (sides : (subtree_below (child here g t false) off number ≡ Some part) ⊎ (subtree_below (child here g t true) on number ≡ Some part)).
    ⊎_elim
    (λ (l : subtree_below (child here g t false) off number ≡ Some part).
    let below = part_stays (child here g t false) off wanted grow number part number_is (apart_off m g t left right apart) l in
    record { part = below.part; hangs = off_part here m g t left right number below.part apart below.hangs; is = below.is })
    (λ (r : subtree_below (child here g t true) on number ≡ Some part).
    let below = part_stays (child here g t true) on wanted grow number part number_is (apart_on m g t left right apart) r in
    record { part = below.part; hangs = on_part here m g t left right number below.part apart below.hangs; is = below.is })
    sides)
    (subtree_cases here m g t off on number part e)

node_stays : (tree : NumberedTree) (wanted : ℕ) (grow : Leaf → NumberedTree) (number : ℕ) (node : Node)
    → ((l : Leaf) → number_of (grow l) ≡ wanted) → AreApart (replaced wanted grow tree) → node_at tree number ≡ Some node
    → node_at (replaced wanted grow tree) number ≡ Some node
node_stays tree wanted grow number node number_is apart e =
    let part = from_some (λ (p : Subtree). p.node) (subtree_at tree number) node e in
    let new = part_stays root tree wanted grow number part.0 number_is apart part.1 in
    ap (λ (o : Option Subtree). option_map (λ (p : Subtree). p.node) o) new.hangs
    ∙ ap (λ (n : Node). Some n) (new.is ∙ part.2)

-- ---- after a move
closed_stays : (tree : TreeView) (wanted : ℕ) (l : Leaf) → IsSound tree → IsOpenAt tree.nodes wanted → (number : ℕ) (node : Node)
    → node_at tree.nodes number ≡ Some node → node_at (closed tree wanted l).nodes number ≡ Some node
closed_stays tree wanted l sound at number node e =
    let grown = closed_grows tree wanted l sound at in
    node_stays tree.nodes wanted (λ (x : Leaf). EndAt wanted l) number node (λ x. refl)
    (are_apart (closed tree wanted l).nodes grown.sound.placed.places grown.sound.placed.are) e

pub node_after : (tree : TreeView) (wanted : ℕ) (stored : Stored) (table : ℕ) (exact : Bool) (outcome : Outcome) (action : Move) → IsSound tree
    → IsOpenAt tree.nodes wanted → IsFreeFor tree wanted action → (number : ℕ) (node : Node) → node_at tree.nodes number ≡ Some node
    → node_at (tree_after tree wanted stored table exact outcome action).nodes number ≡ Some node
node_after tree wanted stored table exact outcome (Split g t) sound at free number node e =
    let middle = closed tree wanted (live_leaf stored) in
    let grown = tree_grows tree wanted stored table exact outcome (Split g t) sound at free in
    node_stays middle.nodes wanted (split_leaf wanted g t (node_count middle.nodes) (suc (node_count middle.nodes))) number node (λ x. refl)
    (are_apart (split middle wanted g t).nodes grown.sound.placed.places grown.sound.placed.are)
    (closed_stays tree wanted (live_leaf stored) sound at number node e)
node_after tree wanted stored table exact outcome _ sound at free number node e = closed_stays tree wanted _ sound at number node e

spot_after : (tree : TreeView) (wanted : ℕ) (stored : Stored) (table : ℕ) (exact : Bool) (outcome : Outcome) (action : Move) → IsSound tree
    → IsOpenAt tree.nodes wanted → (number : ℕ) (s : Spot) → number ≢ wanted → spot_at tree.nodes number ≡ Some s
    → spot_at (tree_after tree wanted stored table exact outcome action).nodes number ≡ Some s
spot_after tree wanted stored table exact outcome (Split g t) sound at number s differ e =
    let l = live_leaf stored in
    let middle = closed tree wanted l in
    let grown = closed_grows tree wanted l sound at in
    split_elsewhere middle.nodes wanted g t number s grown.sound.placed (open_again tree wanted stored sound.placed at) differ
    (closed_elsewhere tree.nodes wanted l number s sound.placed at differ e)
spot_after tree wanted stored table exact outcome _ sound at number s differ e =
    closed_elsewhere tree.nodes wanted _ number s sound.placed at differ e

-- a number below the count is that of a part
part_below : (tree : TreeView) (number : ℕ) → IsSound tree → number < node_count tree.nodes
    → (part : Subtree) × (subtree_at tree.nodes number ≡ Some part)
part_below tree number sound within =
    place_part sound.placed.places tree.nodes number sound.placed.are (omega (arith, sound.placed.are.count))

-- what is open elsewhere, at a node that was there, was open before
pub open_before : (tree : TreeView) (wanted : ℕ) (stored : Stored) (table : ℕ) (exact : Bool) (outcome : Outcome) (action : Move) → IsSound tree
    → IsOpenAt tree.nodes wanted → (number : ℕ) → number ≢ wanted → number < node_count tree.nodes
    → IsOpenAt (tree_after tree wanted stored table exact outcome action).nodes number → IsOpenAt tree.nodes number
open_before tree wanted stored table exact outcome action sound at number differ within new =
    let part = part_below tree number sound within in
    let was : spot_at tree.nodes number ≡ Some (spot_of part.0.tree) =
    ap (λ (o : Option Subtree). option_map (λ (p : Subtree). spot_of p.tree) o) part.1 in
    let stays = spot_after tree wanted stored table exact outcome action sound at number (spot_of part.0.tree) differ was in
    record { table = new.table; value = new.value; exact = new.exact; live = was ∙ (sym stays ∙ new.live) }

-- a cell that is free at a node that was there was free before
pub free_before : (tree : TreeView) (wanted : ℕ) (stored : Stored) (table : ℕ) (exact : Bool) (outcome : Outcome) (action : Move) → IsSound tree
    → IsOpenAt tree.nodes wanted → IsFreeFor tree wanted action → (number : ℕ) → number < node_count tree.nodes
    → HasFreeCell (tree_after tree wanted stored table exact outcome action) number → HasFreeCell tree number
free_before tree wanted stored table exact outcome action sound at free number within new =
    let part = part_below tree number sound within in
    let was : node_at tree.nodes number ≡ Some part.0.node =
    ap (λ (o : Option Subtree). option_map (λ (p : Subtree). p.node) o) part.1 in
    let stays = node_after tree wanted stored table exact outcome action sound at free number part.0.node was in
    let grows = tree_grows tree wanted stored table exact outcome action sound at free in
    record {
      g = new.g;
      t = new.t;
      free = grind (arith, new, grows, was, stays);
    }

-- ---- the node of the move is open afterwards only where the move is Again
abbrev pub IsAgain : Move → Type 0
IsAgain Again = Unit {0}
IsAgain _ = ⊥

abbrev IsNotLive : Leaf → Type 0
IsNotLive l = (table : ℕ) (value : ℤ) (exact : Bool) → spot.Leaf l ≢ spot.Leaf (leaf.Live table value exact)

not_open : (tree : NumberedTree) (number : ℕ) (s : Spot) → spot_at tree number ≡ Some s
    → ((table : ℕ) (value : ℤ) (exact : Bool) → s ≢ spot.Leaf (leaf.Live table value exact)) → ¬ IsOpenAt tree number
not_open tree number s stands differ at = grind (arith, stands, differ, at)

pub open_again_only : (tree : TreeView) (wanted : ℕ) (stored : Stored) (table : ℕ) (exact : Bool) (outcome : Outcome) (action : Move)
    → IsSound tree → IsOpenAt tree.nodes wanted → IsOpenAt (tree_after tree wanted stored table exact outcome action).nodes wanted → IsAgain action
open_again_only tree wanted stored table exact outcome Again sound at new = tt
open_again_only tree wanted stored table exact outcome (Split g t) sound at new =
    let l = live_leaf stored in
    let middle = closed tree wanted l in
    let grow = split_leaf wanted g t (node_count middle.nodes) (suc (node_count middle.nodes)) in
    let grown = closed_grows tree wanted l sound at in
    let again = open_again tree wanted stored sound.placed at in
    let part = leaf_part middle wanted again in
    let old = leaf.Live again.table again.value again.exact in
    let there = part_there root middle.nodes wanted grow part.part old
    (are_apart middle.nodes grown.sound.placed.places grown.sound.placed.are) (λ x. refl) part.hangs part.is in
    not_open (split middle wanted g t).nodes wanted (spot_of (grow old))
    (ap (λ (o : Option Subtree). option_map (λ (p : Subtree). spot_of p.tree) o) there) (λ a b k e. cc) new
open_again_only tree wanted stored table exact outcome (Prune seen) sound at new =
    not_open (closed tree wanted (bound_leaf stored)).nodes wanted (spot.Leaf (bound_leaf stored))
    (closed_there tree.nodes wanted (bound_leaf stored) sound.placed at) (λ a b k e. cc) new
open_again_only tree wanted stored table exact outcome Ray sound at new =
    not_open (closed tree wanted (ray_leaf exact table)).nodes wanted (spot.Leaf (ray_leaf exact table))
    (closed_there tree.nodes wanted (ray_leaf exact table) sound.placed at) (of_ray IsNotLive exact table (λ a b k e. cc) (λ a b k e. cc)) new
open_again_only tree wanted stored table exact outcome Empty sound at new =
    not_open (closed tree wanted (empty_leaf exact (unit_of outcome))).nodes wanted (spot.Leaf (empty_leaf exact (unit_of outcome)))
    (closed_there tree.nodes wanted (empty_leaf exact (unit_of outcome)) sound.placed at)
    (of_empty IsNotLive exact (unit_of outcome) (λ a b k e. cc) (λ a b k e. cc)) new
