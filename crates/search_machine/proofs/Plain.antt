-- Where each evaluation is by V, so is what each leaf and each entry has.
use Rattle.std.proofs.Common.{arith, ◌≡◌, ◌==◌, ℕ, Bool, false, true, cond, All, ℤ, refl, sym, subst, Option, Some, None, int_lt, ◌&&◌, pos, length}
use Rattle.std.specs.Option.{option_or, option_map}
use Rattle.std.proofs.lemmas.List.Elements.{All-push}
use Rattle.dual_model.specs.Prelude.{root, child, EachLeaf}
use Rattle.branch_tree.specs.Prelude.{IsPlainLeaf, IsPlainTree, NumberedTree, EndAt, SplitAt, Subtree, unnumbered, spot_of, subtree_below, replaced}
use Rattle.branch_tree.specs.declared.tree.Leaf.{Leaf}
use Rattle.branch_tree.specs.declared.tree.Leaf.TheVariants as leaf
use Rattle.branch_tree.specs.declared.found.Outcome.TheVariants as outcome
use Rattle.search_machine.specs.Prelude.{Entry, Table, Holder, Machine, holder_of, spot_stored, stored_at, Node, Outcome, Move, Again, Split, Prune, Ray, Empty, bound_of, kept_after, live_leaf, bound_leaf, empty_leaf, kept, tree_after, Event, Claim, Commit, committed, committed_by, after}
use Rattle.search_machine.specs.declared.stored.Stored.{Stored}
use Rattle.search_machine.specs.Moves.{unit_of}

-- the tree and the log know no exact value
pub record IsPlainState (m : Machine) : Type 0 where
  pub tree : IsPlainTree m.tree
  pub entries : All (λ entry. entry.exact ≡ false) m.log

-- a commit is by V
abbrev pub IsPlainEvent : Event → Type 0
IsPlainEvent (Commit worker unit table exact outcome action) = exact ≡ false
IsPlainEvent _ = Unit {0}

-- ---- what a node stores
abbrev IsPlainBelow : Node → NumberedTree → Type 0
IsPlainBelow here tree = EachLeaf (λ node leaf. IsPlainLeaf leaf) here (unnumbered tree)

abbrev part_stored : Option Subtree → Stored
part_stored part = spot_stored (option_map (λ (p : Subtree). spot_of p.tree) part)

below_plain : (here : Node) (tree : NumberedTree) (wanted : ℕ) → IsPlainBelow here tree
    → (part_stored (subtree_below here tree wanted)).exact ≡ false
below_plain here (EndAt number l) wanted plain = grind (arith, number, l, plain)
below_plain here (SplitAt number g t off on) wanted plain =
    by_test (number == wanted)
    (either left right (below_plain (child here g t false) off wanted plain.0) (below_plain (child here g t true) on wanted plain.1))
  where
    left : Option Subtree
    left = subtree_below (child here g t false) off wanted

    right : Option Subtree
    right = subtree_below (child here g t true) on wanted

    either : (a b : Option Subtree) → (part_stored a).exact ≡ false → (part_stored b).exact ≡ false → (part_stored (option_or a b)).exact ≡ false
    either None b first second = second
    either (Some a) b first second = first

    by_test : (b : Bool) → (part_stored (option_or left right)).exact ≡ false
        → (part_stored (cond b (Some (record { node = here; tree = SplitAt number g t off on })) (option_or left right))).exact ≡ false
    by_test true sides = refl
    by_test false sides = sides

kept_plain : (old : Stored) (number : ℕ) (k : ℤ) (result : Outcome) → old.exact ≡ false → (kept_after old number k false result).exact ≡ false
kept_plain old number k (outcome.Value v) plain = by_test (int_lt (pos 0) k && int_lt old.value (bound_of v k))
  where
    by_test : (b : Bool) → (cond b (record { table = number; value = bound_of v k; exact = false }) old).exact ≡ false
    by_test true = refl
    by_test false = plain
kept_plain old number k (outcome.Empty g) plain = plain

-- ---- what a move makes
replaced_plain : (here : Node) (tree : NumberedTree) (wanted : ℕ) (grow : Leaf → NumberedTree)
    → ((node : Node) (l : Leaf) → IsPlainLeaf l → IsPlainBelow node (grow l)) → IsPlainBelow here tree
    → IsPlainBelow here (replaced wanted grow tree)
replaced_plain here (EndAt number l) wanted grow grown plain = grind (arith, number, grown, plain)
replaced_plain here (SplitAt number g t off on) wanted grow grown plain = (
  replaced_plain (child here g t false) off wanted grow grown plain.0,
  replaced_plain (child here g t true) on wanted grow grown plain.1,
)

closed_plain : (tree : NumberedTree) (wanted : ℕ) (l : Leaf) → IsPlainLeaf l → IsPlainBelow root tree
    → IsPlainBelow root (replaced wanted (λ (x : Leaf). EndAt wanted l) tree)
closed_plain tree wanted l own plain = replaced_plain root tree wanted (λ (x : Leaf). EndAt wanted l) (λ node x h. own) plain

moved_plain : (m : Machine) (node : ℕ) (stored : Stored) (number : ℕ) (result : Outcome) (action : Move) → stored.exact ≡ false
    → IsPlainTree m.tree → IsPlainTree (tree_after m.tree node stored number false result action)
moved_plain m node stored number result Again own plain = closed_plain m.tree.nodes node (live_leaf stored) own plain
moved_plain m node stored number result (Split g t) own plain = grind (arith, replaced_plain, closed_plain, g, t, own, plain)
moved_plain m node stored number result (Prune seen) own plain = closed_plain m.tree.nodes node (bound_leaf stored) own plain
moved_plain m node stored number result Ray own plain = closed_plain m.tree.nodes node (leaf.Ray number) tt plain
moved_plain m node stored number result Empty own plain = closed_plain m.tree.nodes node (empty_leaf false (unit_of result)) tt plain

-- ---- every event
committed_plain : (m : Machine) (worker unit node : ℕ) (table : Table) (result : Outcome) (action : Move) → IsPlainState m
    → IsPlainState (committed m worker unit node table false result action)
committed_plain m worker unit node table result action is = record {
  tree = moved_plain m node (kept m node table false result) (length m.tables) result action
      (kept_plain (stored_at m.tree node) (length m.tables) table.k result (below_plain root m.tree.nodes node is.tree)) is.tree;
  entries = All-push (λ (entry : Entry). entry.exact ≡ false) m.log
      (record { unit = unit; worker = worker; node = node; table = length m.tables; exact = false; outcome = result }) is.entries refl;
}

pub plain_after : (m : Machine) (event : Event) → IsPlainState m → IsPlainEvent event → IsPlainState (after m event)
plain_after m (Commit worker unit table exact result action) is plain =
    subst (λ kind. IsPlainState (committed_by m worker unit table kind result action (holder_of m unit))) (sym plain)
    (by_holder (holder_of m unit))
  where
    by_holder : (holder : Option Holder) → IsPlainState (committed_by m worker unit table false result action holder)
    by_holder None = is
    by_holder (Some holder) = committed_plain m worker unit holder.node table result action is
plain_after m (Claim worker node) is plain = record { tree = is.tree; entries = is.entries }
plain_after m _ is plain = record { tree = is.tree; entries = is.entries }
