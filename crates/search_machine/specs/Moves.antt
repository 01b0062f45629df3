-- What a commit makes of its node: what the node stores then, and the move by which the claim ends, with its condition and
-- its effect. This project's own form of branch and bound.
use Rattle.std.specs.Prelude.{◌≡◌, ℕ, suc, ◌<◌, ◌⊎◌, ◌&&◌, Bool, true, false, IsTrue, List, [], ◌∷◌, ℤ, pos, int_lt, ◌<ℤ◌, Some, length, if◌then◌else◌}
use Rattle.std.specs.Int.{int_div_euclid}
use Rattle.branch_tree.specs.Prelude.{EndAt, node_count, replaced, split_leaf, TreeView, IsFreeAt, is_within_gap}
pub use Rattle.branch_tree.specs.Prelude.{HasFreeCell}
pub use Rattle.branch_tree.specs.declared.found.Outcome.{Outcome}
use Rattle.branch_tree.specs.declared.found.Outcome.TheVariants as outcome
use Rattle.branch_tree.specs.declared.tree.Leaf.TheVariants as leaf
pub use Rattle.search_machine.specs.declared.event.Move.{Move}
pub use Rattle.search_machine.specs.declared.event.Move.TheVariants.{Again, Split, Prune, Ray, Empty}
use Rattle.search_machine.specs.Machine.{Table, Machine, entries_of, stored_at}
use Rattle.search_machine.specs.declared.stored.Stored.{Stored}
use Rattle.branch_tree.specs.declared.tree.Leaf.{Leaf}

-- ---- what a node stores after an evaluation
-- floor(V/K) or floor(VE/K), in micro-dollars, where K > 0
abbrev pub bound_of : ℤ → ℤ → ℤ
bound_of v k = int_div_euclid v k

-- the new table, which has this number, with the kind of its value, where K > 0 and its bound is greater; else the old one
abbrev pub kept_after : Stored → ℕ → ℤ → Bool → Outcome → Stored
kept_after old number k exact (outcome.Value v) =
    if int_lt (pos 0) k && int_lt old.value (bound_of v k) then record { table = number; value = bound_of v k; exact = exact } else old
kept_after old number k exact (outcome.Empty g) = old

-- what the move Again leaves at the node after this evaluation
abbrev pub kept : Machine → ℕ → Table → Bool → Outcome → Stored
kept m node table exact outcome = kept_after (stored_at m.tree node) (length m.tables) table.k exact outcome

-- ---- the effect
-- the leaf of that number is this one
abbrev pub closed : TreeView → ℕ → Leaf → TreeView
closed tree node leaf = record tree { nodes = replaced node (λ _. EndAt node leaf) tree.nodes }

-- the leaf of that number is split, and its children store what it stored
abbrev pub split : TreeView → ℕ → ℕ → ℕ → TreeView
split tree node g t =
    record tree { nodes = replaced node (split_leaf node g t (node_count tree.nodes) (suc (node_count tree.nodes))) tree.nodes }

-- the open leaf that stores this, and the one that is closed
abbrev pub live_leaf : Stored → Leaf
live_leaf stored = leaf.Live stored.table stored.value stored.exact

abbrev pub bound_leaf : Stored → Leaf
bound_leaf stored = leaf.Bound stored.table stored.value stored.exact

-- the leaf that a ray of this kind of value excludes, and the one that a blocked unit of this kind does
abbrev pub ray_leaf : Bool → ℕ → Leaf
ray_leaf false number = leaf.Ray number
ray_leaf true number = leaf.ExactRay number

abbrev pub empty_leaf : Bool → ℕ → Leaf
empty_leaf false g = leaf.Empty g
empty_leaf true g = leaf.ExactEmpty g

-- the unit that the outcome names
abbrev pub unit_of : Outcome → ℕ
unit_of (outcome.Value v) = 0
unit_of (outcome.Empty g) = g

-- the tree after the move, where the evaluation, of a value of this kind at the table of that number, would leave this at the node
abbrev pub tree_after : TreeView → ℕ → Stored → ℕ → Bool → Outcome → Move → TreeView
tree_after tree node stored number exact outcome Again = closed tree node (live_leaf stored)
tree_after tree node stored number exact outcome (Split g t) = split (closed tree node (live_leaf stored)) node g t
tree_after tree node stored number exact outcome (Prune seen) = closed tree node (bound_leaf stored)
tree_after tree node stored number exact outcome Ray = closed tree node (ray_leaf exact number)
tree_after tree node stored number exact outcome Empty = closed tree node (empty_leaf exact (unit_of outcome))

-- of two nodes, those that the move adds
abbrev pub children_by : List ℕ → Move → List ℕ
children_by both (Split g t) = both
children_by both _ = []

-- the tickets of the nodes that the move adds
abbrev pub tickets_of : TreeView → Move → List ℕ
tickets_of tree action = children_by (node_count tree.nodes ∷ suc (node_count tree.nodes) ∷ []) action

-- ---- the condition
abbrev pub IsValue : Outcome → Type 0
IsValue (outcome.Value v) = Unit {0}
IsValue (outcome.Empty g) = ⊥

abbrev pub IsPositive : Outcome → Type 0
IsPositive (outcome.Value v) = pos 0 <ℤ v
IsPositive (outcome.Empty g) = ⊥

abbrev pub IsEmpty : Outcome → Type 0
IsEmpty (outcome.Value v) = ⊥
IsEmpty (outcome.Empty g) = Unit {0}

-- a split is on a cell that is undecided at the node
abbrev pub IsFreeFor : TreeView → ℕ → Move → Type 0
IsFreeFor tree node (Split g t) = IsFreeAt tree node g t
IsFreeFor tree node _ = Unit {0}

-- with one entry more the node has fewer than a hundred, or no cell is undecided there
abbrev pub MayGoOn : Machine → ℕ → Type 0
MayGoOn m node = (suc (length (entries_of m.log node)) < 100) ⊎ (¬ HasFreeCell m.tree node)

-- the cost is one that may be pruned by, and the bound that the node would store is within the gap of it
pub record MayPrune (IsSeen : ℤ → Type 0) (gap : ℕ) (stored : Stored) (seen : ℤ) : Type 0 where
  pub looked : IsSeen seen
  pub within : IsTrue (is_within_gap seen (Some stored.value) gap)

-- the condition of each move, by the costs that may be pruned by
abbrev pub IsMoveLegal : (ℤ → Type 0) → Machine → ℕ → Table → Bool → Outcome → Move → Type 0
IsMoveLegal looked m node table exact outcome Again = IsValue outcome × MayGoOn m node
IsMoveLegal looked m node table exact outcome (Split g t) = IsValue outcome × IsFreeAt m.tree node g t
IsMoveLegal looked m node table exact outcome (Prune seen) =
    IsValue outcome × MayPrune looked m.gap (kept m node table exact outcome) seen
IsMoveLegal looked m node table exact outcome Ray = (table.k ≡ pos 0) × IsPositive outcome
IsMoveLegal looked m node table exact outcome Empty = IsEmpty outcome
