-- The certificate of a tree has the tables that the leaves use, in order of first use. What a leaf stores by the number of its table holds by
-- the table's place among them.
use Rattle.std.proofs.Common.{arith, ◌≡◌, ◌∙◌, ◌⊎◌, ⊎_elim, inl, inr, ℕ, suc, ◌<◌, Bool, true, false, not, ◌||◌, cond, All, List, [], ◌∷◌, ◌++◌, get_or, length, refl, ap, sym, subst, ℤ, ◌≤ℤ◌, Option, Some, None, filter, map, slice_get}
use Rattle.std.proofs.lemmas.Bool.{cases_Bool, cases_eq, eq-eqb, ne_eqb}
use Rattle.std.proofs.lemmas.List.Concat.{flat_map-append}
use Rattle.std.proofs.lemmas.List.Elements.{All-append, All-cons, All-map, All-nil}
use Rattle.std.proofs.lemmas.Option.{get_or_from_slice_get, slice_get-map, slice_get_within}
use Rattle.uc_model.specs.declared.instance.Instance.{Instance}
use Rattle.uc_model.specs.declared.schedule.Printed.{Printed}
use Rattle.uc_model.proofs.Common.{le_trans}
use Rattle.dual_model.specs.Prelude.{CertificateHolds, ClaimHolds, ScheduleHolds, WrittenSchedule, HasBoundOf, IsBoundedBy, IsExcluded, IsExcludedByRay, LeafHolds, has_bound, is_bound, HasBlockedUnit, IsClaimTrue, IsInfeasible, IsLawfulTable, Ends, Splits, root, child, map_leaves, EachLeaf, IsCover, IsCoverBelow}
use Rattle.dual_model.specs.Tree as branch
use Rattle.dual_model.specs.declared.node.Node.{Node}
use Rattle.dual_model.specs.declared.table.Table.{Table}
use Rattle.branch_tree.specs.Prelude.{certificate_of, leaf_claim, no_table, table_at, written_of, written_tables, AtMost, leaf_bound, least_bound, lesser_bound, tree_bound, StoredHolds, tree_of, each_once, leaf_tables, leaves, place_of, stored_tables, used_tables}
use Rattle.branch_tree.specs.declared.found.Found.{Found}
use Rattle.branch_tree.specs.declared.tree.Leaf.{Leaf}
use Rattle.branch_tree.specs.declared.tree.Leaf.TheVariants as leaf
use Rattle.branch_tree.proofs.Bounds.{at_most_itself, at_most_through, lesser_first, lesser_second}
use Rattle.branch_tree.proofs.Preorder.{unlike}
use Rattle.found_schedule.specs.Found.{IsFoundIfAny}

-- ---- a number among others
abbrev IsAmong : List ℕ → ℕ → Type 0
IsAmong [] number = ⊥
IsAmong (first ∷ numbers) number = (first ≡ number) ⊎ IsAmong numbers number

among_left : (firsts lasts : List ℕ) (number : ℕ) → IsAmong firsts number → IsAmong (firsts ++ lasts) number
among_left [] lasts number h = absurd h
among_left (first ∷ firsts) lasts number h =
    ⊎_elim (λ (same : first ≡ number). inl same) (λ (rest : IsAmong firsts number). inr (among_left firsts lasts number rest)) h

among_right : (firsts lasts : List ℕ) (number : ℕ) → IsAmong lasts number → IsAmong (firsts ++ lasts) number
among_right [] lasts number h = h
among_right (first ∷ firsts) lasts number h = inr (among_right firsts lasts number h)

among_filter : (test : ℕ → Bool) (numbers : List ℕ) (number : ℕ) → test number ≡ true → IsAmong numbers number → IsAmong (filter test numbers) number
among_filter test [] number passes h = absurd h
among_filter test (first ∷ numbers) number passes h =
    let kept = filter test numbers in
    ⊎_elim
    (λ (e : test first ≡ true).
    subst (λ b. IsAmong (cond b (first ∷ kept) kept) number) (sym e)
    (⊎_elim (λ (same : first ≡ number). inl same) (λ (rest : IsAmong numbers number). inr (among_filter test numbers number passes rest)) h))
    (λ (e : test first ≡ false).
    subst (λ b. IsAmong (cond b (first ∷ kept) kept) number) (sym e)
    (⊎_elim (λ (same : first ≡ number). absurd (cc)) (λ (rest : IsAmong numbers number). among_filter test numbers number passes rest) h))
    (cases_Bool (test first))

among_once : (numbers : List ℕ) (number : ℕ) → IsAmong numbers number → IsAmong (each_once numbers) number
among_once [] number h = absurd h
among_once (first ∷ numbers) number h = ⊎_elim
    (λ (same : first ≡ number). inl same)
    (λ (differ : first ≡ number → ⊥).
    let rest : IsAmong numbers number = ⊎_elim (λ (same : first ≡ number). absurd (differ same)) (λ (later : IsAmong numbers number). later) h in
    inr (among_filter (unlike first) (each_once numbers) number (ap not (ne_eqb number first (λ e. differ (sym e)))) (among_once numbers number rest)))
    (cases_eq first number)

-- ---- the place of a table
-- at its place stands the number
at_place : (used : List ℕ) (number : ℕ) → IsAmong used number → slice_get used (place_of used number) ≡ Some number
at_place [] number h = absurd h
at_place (first ∷ used) number h = ⊎_elim
    (λ (same : first ≡ number).
    ap (λ b. slice_get (first ∷ used) (cond b 0 (suc (place_of used number)))) (eq-eqb first number same) ∙ ap (λ n. Some n) same)
    (λ (differ : first ≡ number → ⊥).
    let rest : IsAmong used number = ⊎_elim (λ (same : first ≡ number). absurd (differ same)) (λ (later : IsAmong used number). later) h in
    ap (λ b. slice_get (first ∷ used) (cond b 0 (suc (place_of used number)))) (ne_eqb first number differ) ∙ at_place used number rest)
    (cases_eq first number)

-- and among the written tables the table
written_at : (tables : List Table) (used : List ℕ) (number : ℕ) (table : Table) → IsAmong used number → slice_get tables number ≡ Some table
    → slice_get (map (table_at tables) used) (place_of used number) ≡ Some table
written_at tables used number table among is = grind (arith, slice_get-map, at_place, get_or_from_slice_get, among, is)

-- ---- the leaves' tables
-- the leaf's table is one of these
abbrev IsNamed : List ℕ → Leaf → Type 0
IsNamed used (leaf.Live table value exact) = IsAmong used table
IsNamed used (leaf.Bound table value exact) = IsAmong used table
IsNamed used (leaf.Ray table) = IsAmong used table
IsNamed used (leaf.Empty g) = Unit {0}
IsNamed used (leaf.ExactRay table) = IsAmong used table
IsNamed used (leaf.ExactEmpty g) = Unit {0}

named_leaf : (used : List ℕ) (l : Leaf) → ((number : ℕ) → IsAmong (leaf_tables l ++ []) number → IsAmong used number) → IsNamed used l
named_leaf used (leaf.Empty g) turn = tt
named_leaf used (leaf.ExactEmpty g) turn = tt
named_leaf used _ turn = turn _ (inl refl)

each_named : (used : List ℕ) (here : Node) (tree : branch.Tree Leaf) → ((number : ℕ) → IsAmong (stored_tables tree) number → IsAmong used number)
    → EachLeaf (λ node l. IsNamed used l) here tree
each_named used here (Ends l) turn = named_leaf used l turn
each_named used here (Splits g t off on) turn =
    let left = stored_tables off in
    let right = stored_tables on in
    let parted = flat_map-append leaf_tables (leaves off) (leaves on) in (
      each_named used (child here g t false) off
          (λ number h. turn number (subst (λ numbers. IsAmong numbers number) (sym parted) (among_left left right number h))),
      each_named used (child here g t true) on
          (λ number h. turn number (subst (λ numbers. IsAmong numbers number) (sym parted) (among_right left right number h))),
    )

-- ---- what a leaf claims
bounded_there : (exact : Bool) (instance : Instance) (tables : List Table) (used : List ℕ) (node : Node) (number : ℕ) (value b : ℤ) → IsAmong used number
    → b ≤ℤ value → IsBoundedBy exact instance tables node number value
    → IsBoundedBy exact instance (map (table_at tables) used) node (place_of used number) b
bounded_there exact instance tables used node number value b among below h = record {
  table = h.table;
  is_table = written_at tables used number h.table among h.is_table;
  scale = h.scale;
  bounds = ⊎_elim
      (λ (has : HasBoundOf exact instance node h.table value).
      inl (record { bound = has.bound; is_bound = has.is_bound; enough = le_trans b value has.bound below has.enough }))
      (λ (blocked : HasBlockedUnit exact instance node). inr blocked)
      h.bounds;
}

excluded_there : (exact : Bool) (instance : Instance) (tables : List Table) (used : List ℕ) (node : Node) (number : ℕ) → IsAmong used number
    → IsExcludedByRay exact instance tables node number → IsExcludedByRay exact instance (map (table_at tables) used) node (place_of used number)
excluded_there exact instance tables used node number among h = grind (arith, written_at, among, h)

leaf_holds : (instance : Instance) (tables : List Table) (used : List ℕ) (node : Node) (b : ℤ) (l : Leaf) → IsNamed used l → AtMost (Some b) (leaf_bound l)
    → StoredHolds instance tables node l → LeafHolds instance (map (table_at tables) used) b node (leaf_claim used l)
leaf_holds instance tables used node b (leaf.Live table value exact) named below h =
    bounded_there exact instance tables used node table value b named below h
leaf_holds instance tables used node b (leaf.Bound table value exact) named below h =
    bounded_there exact instance tables used node table value b named below h
leaf_holds instance tables used node b (leaf.Ray table) named below h = excluded_there false instance tables used node table named h
leaf_holds instance tables used node b (leaf.Empty g) named below h = h
leaf_holds instance tables used node b (leaf.ExactRay table) named below h = excluded_there true instance tables used node table named h
leaf_holds instance tables used node b (leaf.ExactEmpty g) named below h = h

leaf_excluded : (instance : Instance) (tables : List Table) (used : List ℕ) (node : Node) (l : Leaf) → IsNamed used l → leaf_bound l ≡ None
    → StoredHolds instance tables node l → IsExcluded instance (map (table_at tables) used) node (leaf_claim used l)
leaf_excluded instance tables used node (leaf.Ray table) named none h = excluded_there false instance tables used node table named h
leaf_excluded instance tables used node (leaf.Empty g) named none h = h
leaf_excluded instance tables used node (leaf.ExactRay table) named none h = excluded_there true instance tables used node table named h
leaf_excluded instance tables used node (leaf.ExactEmpty g) named none h = h
leaf_excluded instance tables used node _ named none h = absurd (cc)

-- ---- what the tree claims
each_holds : (instance : Instance) (tables : List Table) (used : List ℕ) (here : Node) (b : ℤ) (tree : branch.Tree Leaf)
    → EachLeaf (λ node l. IsNamed used l) here tree → AtMost (Some b) (least_bound tree) → EachLeaf (StoredHolds instance tables) here tree
    → EachLeaf (LeafHolds instance (map (table_at tables) used) b) here (map_leaves (leaf_claim used) tree)
each_holds instance tables used here b (Ends l) named below h = leaf_holds instance tables used here b l named below h
each_holds instance tables used here b (Splits g t off on) named below h =
    let left = least_bound off in
    let right = least_bound on in (
      each_holds instance tables used (child here g t false) b off named.0
          (at_most_through (Some b) (lesser_bound left right) left below (lesser_first left right)) h.0,
      each_holds instance tables used (child here g t true) b on named.1
          (at_most_through (Some b) (lesser_bound left right) right below (lesser_second left right)) h.1,
    )

both_none : (a b : Option ℤ) → lesser_bound a b ≡ None → (a ≡ None) × (b ≡ None)
both_none None b none = (refl, none)
both_none (Some a) None none = absurd (cc)
both_none (Some a) (Some b) none = absurd (cc)

each_excluded : (instance : Instance) (tables : List Table) (used : List ℕ) (here : Node) (tree : branch.Tree Leaf)
    → EachLeaf (λ node l. IsNamed used l) here tree → least_bound tree ≡ None → EachLeaf (StoredHolds instance tables) here tree
    → EachLeaf (IsExcluded instance (map (table_at tables) used)) here (map_leaves (leaf_claim used) tree)
each_excluded instance tables used here (Ends l) named none h = leaf_excluded instance tables used here l named none h
each_excluded instance tables used here (Splits g t off on) named none h =
    let sides = both_none (least_bound off) (least_bound on) none in (
      each_excluded instance tables used (child here g t false) off named.0 sides.0 h.0,
      each_excluded instance tables used (child here g t true) on named.1 sides.1 h.1,
    )

-- a leaf of the tree with a bound is one
leaf_bounds : (used : List ℕ) (l : Leaf) (b : ℤ) → leaf_bound l ≡ Some b → is_bound (leaf_claim used l) ≡ true
leaf_bounds used (leaf.Live table value exact) b some = refl
leaf_bounds used (leaf.Bound table value exact) b some = refl
leaf_bounds used _ b some = absurd (cc)

some_bounds : (used : List ℕ) (tree : branch.Tree Leaf) (b : ℤ) → least_bound tree ≡ Some b → has_bound (map_leaves (leaf_claim used) tree) ≡ true
some_bounds used (Ends l) b some = leaf_bounds used l b some
some_bounds used (Splits g t off on) b some =
    either (least_bound off) (least_bound on) (has_bound (map_leaves (leaf_claim used) off)) (has_bound (map_leaves (leaf_claim used) on))
    some (λ c is. some_bounds used off c is) (λ c is. some_bounds used on c is)
  where
    or_true : (x : Bool) → (x || true) ≡ true
    or_true true = refl
    or_true false = refl

    either : (left right : Option ℤ) (x y : Bool) → lesser_bound left right ≡ Some b → ((c : ℤ) → left ≡ Some c → x ≡ true)
        → ((c : ℤ) → right ≡ Some c → y ≡ true) → (x || y) ≡ true
    either None right x y is first second = ap (λ z. x || z) (second b is) ∙ or_true x
    either (Some c) right x y is first second = ap (λ z. z || y) (first c refl)

covered : (instance : Instance) (used : List ℕ) (here : Node) (tree : branch.Tree Leaf) → IsCoverBelow instance here tree
    → IsCoverBelow instance here (map_leaves (leaf_claim used) tree)
covered instance used here (Ends l) h = tt
covered instance used here (Splits g t off on) h = (h.0, h.1, covered instance used (child here g t false) off h.2, covered instance used (child here g t true) on h.3)

-- ---- the schedule
schedule_holds : (exact_dispatch : Bool) (instance : Instance) (schedule : Option (Printed × ℤ)) → IsFoundIfAny exact_dispatch instance schedule
    → (written : WrittenSchedule) → written_of schedule ≡ Some written → ScheduleHolds instance written
schedule_holds exact_dispatch instance None found written e = absurd (cc)
schedule_holds exact_dispatch instance (Some pair) found written e = grind (arith, pair, found, e)

-- there is none where none obeys
no_schedule : (exact_dispatch : Bool) (instance : Instance) (schedule : Option (Printed × ℤ)) → IsFoundIfAny exact_dispatch instance schedule
    → IsInfeasible instance → written_of schedule ≡ None
no_schedule exact_dispatch instance None found infeasible = refl
no_schedule exact_dispatch instance (Some pair) found infeasible = absurd (infeasible _ _ found.obeys)

-- ---- the certificate
-- the written tables are lawful
pub written_lawful : (instance : Instance) (found : Found) → All (IsLawfulTable instance) found.tables
    → All (λ i. i < length found.tables) (used_tables (tree_of found.tree)) → All (IsLawfulTable instance) (written_tables found)
written_lawful instance found lawful within =
    All-map (IsLawfulTable instance) (table_at found.tables) (used_tables (tree_of found.tree)) (λ k d inside. lawful (get_or (used_tables (tree_of found.tree)) k d) no_table (within k d inside))

pub certificate_holds : (exact_dispatch : Bool) (instance : Instance) (found : Found) → IsFoundIfAny exact_dispatch instance found.schedule → IsCover instance (tree_of found.tree)
    → All (IsLawfulTable instance) found.tables → All (λ i. i < length found.tables) (used_tables (tree_of found.tree))
    → EachLeaf (StoredHolds instance found.tables) root (tree_of found.tree) → IsClaimTrue instance (tree_bound found.tree)
    → CertificateHolds instance (certificate_of instance found)
certificate_holds exact_dispatch instance found accepted cover lawful within stored true_claim = record {
  periods = refl;
  thermal = refl;
  renewable = refl;
  penalty = (refl, refl);
  tables = written_lawful instance found lawful within;
  tree = covered instance (used_tables (tree_of found.tree)) root (tree_of found.tree) cover;
  schedule = schedule_holds exact_dispatch instance found.schedule accepted;
  claim = claimed (tree_bound found.tree) refl;
}
  where
    named : EachLeaf (λ node l. IsNamed (used_tables (tree_of found.tree)) l) root (tree_of found.tree)
    named = each_named (used_tables (tree_of found.tree)) root (tree_of found.tree) (among_once (stored_tables (tree_of found.tree)))

    claimed : (bound : Option ℤ) → tree_bound found.tree ≡ bound → ClaimHolds instance (certificate_of instance found) bound
    claimed (Some b) is = (
      some_bounds (used_tables (tree_of found.tree)) (tree_of found.tree) b is,
      each_holds instance found.tables (used_tables (tree_of found.tree)) root b (tree_of found.tree) named
          (subst (λ bound. AtMost bound (tree_bound found.tree)) is (at_most_itself (tree_bound found.tree))) stored,
    )
    claimed None is = (
      no_schedule exact_dispatch instance found.schedule accepted (subst (IsClaimTrue instance) is true_claim),
      each_excluded instance found.tables (used_tables (tree_of found.tree)) root (tree_of found.tree) named is stored,
    )

-- ---- the tables of the leaves are there
leaf_within : (instance : Instance) (tables : List Table) (node : Node) (l : Leaf) → StoredHolds instance tables node l
    → All (λ i. i < length tables) (leaf_tables l ++ [])
leaf_within instance tables node (leaf.Empty g) h = All-nil (λ i. i < length tables)
leaf_within instance tables node (leaf.ExactEmpty g) h = All-nil (λ i. i < length tables)
leaf_within instance tables node _ h = All-cons (λ i. i < length tables) _ [] (slice_get_within tables _ h.table h.is_table) (All-nil (λ i. i < length tables))

pub each_within : (instance : Instance) (tables : List Table) (here : Node) (tree : branch.Tree Leaf) → EachLeaf (StoredHolds instance tables) here tree
    → All (λ i. i < length tables) (stored_tables tree)
each_within instance tables here (Ends l) h = leaf_within instance tables here l h
each_within instance tables here (Splits g t off on) h =
    subst (λ numbers. All (λ i. i < length tables) numbers) (sym (flat_map-append leaf_tables (leaves off) (leaves on)))
    (All-append (λ i. i < length tables) (stored_tables off) (stored_tables on)
    (each_within instance tables (child here g t false) off h.0) (each_within instance tables (child here g t true) on h.1))
