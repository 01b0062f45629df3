-- What the leaves store by their own entries is no less than what the root begins with, and of a size where that and each value of the log is.
use Rattle.std.proofs.Common.{◌≡◌, ⊎_elim, ℕ, ◌≤◌, Bool, true, false, cond, List, [], ◌∷◌, All, sym, subst, arith, ℤ, pos, ◌≤ℤ◌, ◌<ℤ◌, Option, Some, None, ◌&&◌, ◌==◌, IfSome, int_lt, unsigned_abs}
use Rattle.std.proofs.lemmas.Bool.{and_parts, cases_Bool}
use Rattle.std.proofs.lemmas.Int.{ints}
use Rattle.std.proofs.lemmas.List.Elements.{All-filter, All-head, All-tail}
use Rattle.uc_model.proofs.Common.{IsFloor-int_div_euclid, le_refl, le_trans, linear, floor-size, int_lt-true}
use Rattle.dual_model.specs.Prelude.{child, MAX_VALUE}
use Rattle.branch_tree.specs.Prelude.{table_at, NumberedTree, EndAt, SplitAt, unnumbered, AtMost, leaf_bound, least_bound, lesser_bound}
use Rattle.branch_tree.specs.declared.found.Outcome.TheVariants as outcome
use Rattle.branch_tree.specs.declared.tree.Leaf.{Leaf}
use Rattle.branch_tree.specs.declared.tree.Leaf.TheVariants as leaf
use Rattle.branch_tree.proofs.Bounds.{lesser_greatest}
use Rattle.search_machine.specs.declared.stored.Stored.{Stored}
use Rattle.search_machine.specs.Prelude.{entries_of, bound_of, kept_after, HoldsStored, OwnsBelow, stored_after, stored_by}
use Rattle.opening.specs.Outcomes.{IsSized}
use Rattle.branch_tree.specs.declared.found.Entry.{Entry}
use Rattle.dual_model.specs.declared.table.Table.{Table}
use Rattle.search_desk.specs.Desks.{IsSizedEntry}
use Rattle.dual_model.specs.declared.node.Node.{Node}
use Rattle.branch_tree.specs.declared.found.Outcome.{Outcome}

-- ---- no less
kept_rises : (old : Stored) (number : ℕ) (k : ℤ) (exact : Bool) (result : Outcome) → old.value ≤ℤ (kept_after old number k exact result).value
kept_rises old number k exact (outcome.Value v) =
    let taken = int_lt (pos 0) k && int_lt old.value (bound_of v k) in
    let new : Stored = record { table = number; value = bound_of v k; exact = exact } in
    ⊎_elim
    (λ (e : taken ≡ true).
    subst (λ b. old.value ≤ℤ (cond b new old).value) (sym e) (let l : old.value <ℤ bound_of v k = int_lt-true old.value (bound_of v k) (and_parts _ _ e).1 in omega (arith, linear)))
    (λ (e : taken ≡ false). subst (λ b. old.value ≤ℤ (cond b new old).value) (sym e) (le_refl old.value))
    (cases_Bool taken)
kept_rises old number k exact (outcome.Empty g) = le_refl old.value

stored_rises : (tables : List Table) (stored : Stored) (entries : List Entry) → stored.value ≤ℤ (stored_after tables stored entries).value
stored_rises tables stored [] = le_refl stored.value
stored_rises tables stored (entry ∷ entries) =
    let next = stored_by tables stored entry in
    le_trans stored.value next.value (stored_after tables next entries).value
    (kept_rises stored entry.table (table_at tables entry.table).k entry.exact entry.outcome) (stored_rises tables next entries)

leaf_above : (least : ℤ) (stored : Stored) (l : Leaf) → least ≤ℤ stored.value → HoldsStored stored l → AtMost (Some least) (leaf_bound l)
leaf_above least stored (leaf.Ray table) below h = tt
leaf_above least stored (leaf.Empty g) below h = tt
leaf_above least stored (leaf.ExactRay table) below h = tt
leaf_above least stored (leaf.ExactEmpty g) below h = tt
leaf_above least stored _ below h = subst (λ v. least ≤ℤ v) (sym h.1) below

-- each leaf's bound is at least a value that is no greater than what is inherited
pub least_above : (units periods : ℕ) (tables : List Table) (log : List Entry) (here : Node) (least : ℤ) (inherited : Stored) (tree : NumberedTree)
    → least ≤ℤ inherited.value → OwnsBelow units periods tables log here inherited tree → AtMost (Some least) (least_bound (unnumbered tree))
least_above units periods tables log here least inherited (EndAt number l) below own =
    let stored = stored_after tables inherited (entries_of log number) in
    leaf_above least stored l (le_trans least inherited.value stored.value below (stored_rises tables inherited (entries_of log number))) own.1
least_above units periods tables log here least inherited (SplitAt number g t off on) below own =
    let stored = stored_after tables inherited (entries_of log number) in
    let risen = le_trans least inherited.value stored.value below (stored_rises tables inherited (entries_of log number)) in
    lesser_greatest (Some least) (least_bound (unnumbered off)) (least_bound (unnumbered on))
    (least_above units periods tables log (child here g t false) least stored off risen own.1)
    (least_above units periods tables log (child here g t true) least stored on risen own.2)

-- ---- of a size
abbrev pub IsSmall : ℤ → Type 0
IsSmall value = unsigned_abs value ≤ MAX_VALUE

-- the bound of a value of that size
pub bound_small : (v k : ℤ) → pos 0 <ℤ k → IsSmall v → IsSmall (bound_of v k)
bound_small v k scale small = floor-size v k (bound_of v k) MAX_VALUE scale (IsFloor-int_div_euclid v k scale) small

kept_small : (old : Stored) (number : ℕ) (k : ℤ) (exact : Bool) (result : Outcome) → IsSmall old.value → IsSized result
    → IsSmall (kept_after old number k exact result).value
kept_small old number k exact (outcome.Value v) small sized =
    let taken = int_lt (pos 0) k && int_lt old.value (bound_of v k) in
    let new : Stored = record { table = number; value = bound_of v k; exact = exact } in
    ⊎_elim
    (λ (e : taken ≡ true).
    subst (λ b. IsSmall (cond b new old).value) (sym e) (bound_small v k (int_lt-true (pos 0) k (and_parts _ _ e).0) sized))
    (λ (e : taken ≡ false). subst (λ b. IsSmall (cond b new old).value) (sym e) small)
    (cases_Bool taken)
kept_small old number k exact (outcome.Empty g) small sized = small

stored_small : (tables : List Table) (stored : Stored) (entries : List Entry) → IsSmall stored.value → All IsSizedEntry entries
    → IsSmall (stored_after tables stored entries).value
stored_small tables stored [] small sized = small
stored_small tables stored (entry ∷ entries) small sized =
    stored_small tables (stored_by tables stored entry) entries
    (kept_small stored entry.table (table_at tables entry.table).k entry.exact entry.outcome small (All-head IsSizedEntry entry entries sized))
    (All-tail IsSizedEntry entry entries sized)

leaf_small : (stored : Stored) (l : Leaf) → IsSmall stored.value → HoldsStored stored l → IfSome (leaf_bound l) IsSmall
leaf_small stored (leaf.Ray table) small h = tt
leaf_small stored (leaf.Empty g) small h = tt
leaf_small stored (leaf.ExactRay table) small h = tt
leaf_small stored (leaf.ExactEmpty g) small h = tt
leaf_small stored _ small h = subst IsSmall (sym h.1) small

lesser_small : (a b : Option ℤ) → IfSome a IsSmall → IfSome b IsSmall → IfSome (lesser_bound a b) IsSmall
lesser_small None b left right = right
lesser_small (Some a) None left right = left
lesser_small (Some a) (Some b) left right = grind (arith, ints)

pub least_small : (units periods : ℕ) (tables : List Table) (log : List Entry) (here : Node) (inherited : Stored) (tree : NumberedTree)
    → IsSmall inherited.value → All IsSizedEntry log → OwnsBelow units periods tables log here inherited tree
    → IfSome (least_bound (unnumbered tree)) IsSmall
least_small units periods tables log here inherited (EndAt number l) small sized own =
    leaf_small (stored_after tables inherited (entries_of log number)) l
    (stored_small tables inherited (entries_of log number) small (All-filter (λ entry. entry.node == number) IsSizedEntry log sized)) own.1
least_small units periods tables log here inherited (SplitAt number g t off on) small sized own =
    let stored = stored_after tables inherited (entries_of log number) in
    let kept = stored_small tables inherited (entries_of log number) small (All-filter (λ entry. entry.node == number) IsSizedEntry log sized) in
    lesser_small (least_bound (unnumbered off)) (least_bound (unnumbered on))
    (least_small units periods tables log (child here g t false) stored off kept sized own.1)
    (least_small units periods tables log (child here g t true) stored on kept sized own.2)
