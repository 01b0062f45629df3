-- What the flat list of a tree's nodes means. This project's own form: a place a node, at its number; children come after
-- their parent.
use Rattle.std.specs.Prelude.{◌≡◌, ℕ, suc, ◌-◌, ◌<◌, List, [], ◌∷◌, ℤ, Option, Some, length, map, slice_get, slice_index_or}
use Rattle.std.specs.Vec.{vec_capacity}
use Rattle.branch_tree.specs.NumberedTree.{Spot, NumberedTree, EndAt, SplitAt, IsNumbered, no_tree, number_of, spot_of, node_count}
use Rattle.branch_tree.specs.TreeView.{TreeView, IsWhole}
use Rattle.branch_tree.specs.StoredTree.{spot_bound}
use Rattle.branch_tree.specs.declared.tree.Spot.TheVariants as spot
pub use Rattle.branch_tree.specs.declared.places.Place.{Place}
pub use Rattle.branch_tree.specs.declared.tree.Tree.TheInside.{Inside}

-- the tree of a place of this number, by those of the later places
abbrev pub grown_from : ℕ → Spot → List NumberedTree → NumberedTree
grown_from number (spot.Leaf leaf) later = EndAt number leaf
grown_from number (spot.Inner g t off on) later =
    SplitAt number g t (slice_index_or later (off - suc number) no_tree) (slice_index_or later (on - suc number) no_tree)

-- the trees of the places, of which the first has this number
abbrev pub trees_of : ℕ → List Place → List NumberedTree
trees_of first [] = []
trees_of first (place ∷ places) = grown_from first place.spot (trees_of (suc first) places) ∷ trees_of (suc first) places

-- the tree that hangs from the place of this number
abbrev pub tree_from : List Place → ℕ → NumberedTree
tree_from places number = slice_index_or (trees_of 0 places) number no_tree

-- the root of the tree has its place, under this parent
pub record HasPlace (places : List Place) (parent : ℕ) (tree : NumberedTree) : Type 0 where
  pub place : slice_get places (number_of tree) ≡ Some (record { parent = parent; spot = spot_of tree })

-- each node of the tree has its place, under its parent and before its children
abbrev pub HasPlaces : List Place → ℕ → NumberedTree → Type 0
HasPlaces places parent (EndAt number leaf) = HasPlace places parent (EndAt number leaf)
HasPlaces places parent (SplitAt number g t off on) =
    HasPlace places parent (SplitAt number g t off on) × (number < number_of off) × (number < number_of on)
    × HasPlaces places number off × HasPlaces places number on

-- the places are those of the tree and no others; the root's parent is written as 0
pub record ArePlacesOf (tree : NumberedTree) (places : List Place) : Type 0 where
  pub placed : HasPlaces places 0 tree
  pub count : length places ≡ node_count tree
  pub numbered : IsNumbered tree

-- the tree's nodes have places
pub record IsPlaced (tree : NumberedTree) : Type 0 where
  pub places : List Place
  pub are : ArePlacesOf tree places

-- the places are those of the tree that hangs from the first
abbrev pub AreWellPlaced : List Place → Type 0
AreWellPlaced places = ArePlacesOf (tree_from places 0) places

-- the bound that is stored at a place, where a leaf stands there that isn't excluded
abbrev pub place_bound : Place → Option ℤ
place_bound place = spot_bound place.spot

-- what contracts see of these fields, and what they keep
abbrev pub view_of : Inside → TreeView
view_of a = record { units = a.units; periods = a.periods; room = vec_capacity a.places; nodes = tree_from a.places.items 0 }

-- the values of the tournament are the bounds stored at the places: each of its entries is the least over the leaves at a
-- place and below it, and its first over all
pub record IsStored (a : Inside) : Type 0 where
  pub places : AreWellPlaced a.places.items
  pub bounds : a.bounds.values ≡ map place_bound a.places.items
  pub room : a.bounds.room ≡ vec_capacity a.places
  pub whole : IsWhole (view_of a)

-- a split stands there
abbrev pub IsInner : Spot → Type 0
IsInner (spot.Inner g t off on) = Unit {0}
IsInner (spot.Leaf leaf) = ⊥
