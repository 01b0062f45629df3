-- What is answered where the opening excludes the root: by a blocked unit, or by a ray.
use Rattle.std.proofs.Common.{◌≡◌, ◌∙◌, ℕ, ◌<◌, Bool, true, false, List, [], ◌∷◌, length, map, All, refl, ap, sym, subst, arith, Some, None}
use Rattle.std.proofs.lemmas.Bool.{false≢true}
use Rattle.std.proofs.lemmas.List.Elements.{All-nil, All-cons}
use Rattle.uc_model.specs.Prelude.{IsLawfulInstance}
use Rattle.dual_model.specs.Prelude.{AllExcluded, HasNoUnitSchedule, IsFirstUnscheduled, IsFirstEmpty, ray_table, IsLawfulTable, Ends, HasEachPattern, map_leaves, root, IsFirstBlocked}
use Rattle.dual_model.specs.Fixings.{HasNoPattern}
use Rattle.branch_tree.specs.Prelude.{IsLayoutOf, leaf_claim, table_at, written_tables, IsPlainTree, tree_bound, IsWhole, IsTrueFound, used_tables}
use Rattle.branch_tree.specs.declared.layout.Layout.{Layout}
use Rattle.branch_tree.specs.declared.tree.Leaf.{Leaf}
use Rattle.branch_tree.specs.declared.tree.Tree.{Tree}
use Rattle.decommitment.specs.Standings.{IsDropped, ending_of}
use Rattle.decommitment.specs.declared.pass.Standing.{Standing}
use Rattle.decommitment.specs.declared.pass.Standing.TheVariants as standing
use Rattle.opening.specs.Blocked.{HasNoBlockedUnit}
use Rattle.opening.specs.Rays.{IsFirstRay, IsRayPositive}
use Rattle.opening.proofs.Blocked.{not_blocked}
use Rattle.opening.proofs.OpeningRays.{no_ray, one_first}
use Rattle.opening_tables.proofs.RayTables.{ray_lawful}
use Rattle.search_machine.specs.Prelude.{empty_leaf, ray_leaf}
use Rattle.search_answers.specs.SearchResult.{FollowsOpening, IsExcludedByFirst, IsExcludedByUnit, IsNoDearer}
use Rattle.branch_tree.specs.declared.found.Found.{Found}
use Rattle.uc_model.specs.declared.instance.Instance.{Instance}
use Rattle.dual_model.specs.declared.table.Table.{Table}
use Rattle.search_answers.specs.Writable.{HasFewRows}
use Rattle.search_answers.specs.Answers.{IsAnswerOf, lone_root}
use Rattle.search_answers.proofs.FewRows.{few_rows}

-- ---- a root alone
abbrev pub lone_found : Tree → List Table → Layout → Found
lone_found tree tables layout = record { schedule = None; tree = tree; tables = tables; log = []; most_on = None; layout = layout }

-- its leaf excludes, by the tables that it uses
lone_truth : (instance : Instance) (l : Leaf) (tables : List Table) (used : List ℕ) (layout : Layout) → IsLayoutOf (lone_root instance l) layout
    → used_tables (Ends l) ≡ used → All (λ i. i < length tables) used → All (IsLawfulTable instance) (map (table_at tables) used)
    → tree_bound (lone_root instance l) ≡ None
    → AllExcluded instance (map (table_at tables) (used_tables (Ends l))) (map_leaves (leaf_claim (used_tables (Ends l))) (Ends l))
    → IsTrueFound instance (lone_found (lone_root instance l) tables layout)
lone_truth instance l tables used layout of_tree is_used within lawful unbounded excluded =
    grind (arith, of_tree, is_used, within, lawful, unbounded, excluded)

-- what is told of it
lone_answer : (asked exact_dispatch : Bool) (instance : Instance) (budget gap : ℕ) (l : Leaf) (tables : List Table) (layout : Layout)
    → (let found = lone_found (lone_root instance l) tables layout in
    IsTrueFound instance found → tree_bound (lone_root instance l) ≡ None → (asked ≡ false → IsPlainTree (lone_root instance l))
    → ((g : ℕ) → IsFirstEmpty instance root g → IsExcludedByUnit false g found)
    → (asked ≡ true → HasEachPattern instance → (g : ℕ) → IsFirstUnscheduled instance root g → IsExcludedByUnit true g found)
    → ((n : ℕ) → IsFirstRay asked instance n → IsExcludedByFirst asked instance n found)
    → (HasEachPattern instance → HasNoBlockedUnit asked instance → FollowsOpening asked instance gap found)
    → IsWhole (lone_root instance l) → All HasFewRows (written_tables found) → IsAnswerOf asked exact_dispatch instance budget gap found)
lone_answer asked exact_dispatch instance budget gap l tables layout truth unbounded plain empty unscheduled ray opened whole few =
    grind (arith, truth, unbounded, plain, empty, unscheduled, ray, opened, whole, few)

-- ---- a blocked unit
blocked_truth : (exact : Bool) (instance : Instance) (g : ℕ) (layout : Layout) → IsLayoutOf (lone_root instance (empty_leaf exact g)) layout
    → IsFirstBlocked exact instance root g → IsTrueFound instance (lone_found (lone_root instance (empty_leaf exact g)) [] layout)
blocked_truth false instance g layout of_tree first = grind (arith, of_tree, first)
blocked_truth true instance g layout of_tree first = grind (arith, of_tree, first)

blocked_lone : (exact asked exact_dispatch : Bool) (instance : Instance) (g budget gap : ℕ) (layout : Layout) → (exact ≡ true → asked ≡ true)
    → (exact ≡ true → HasEachPattern instance) → IsWhole (lone_root instance (empty_leaf exact g)) → IsLayoutOf (lone_root instance (empty_leaf exact g)) layout
    → IsFirstBlocked exact instance root g
    → IsAnswerOf asked exact_dispatch instance budget gap (lone_found (lone_root instance (empty_leaf exact g)) [] layout)
blocked_lone false asked exact_dispatch instance g budget gap layout kind patterns whole of_tree first =
    lone_answer asked exact_dispatch instance budget gap (empty_leaf false g) [] layout (blocked_truth false instance g layout of_tree first) refl (λ plain. tt)
    (λ other empty. (ap (λ unit. Ends (empty_leaf false unit)) (one_first (HasNoPattern instance root) g other first.empty empty.empty first.first empty.first), refl))
    (λ exactly each other unscheduled. absurd (each g first.within first.empty))
    (λ n ray. absurd (no_pattern_no_ray asked n ray))
    (λ each units. absurd (each g first.within first.empty))
    whole (All-nil HasFewRows)
  where
    no_pattern_no_ray : (asked : Bool) (n : ℕ) → ¬ IsFirstRay asked instance n
    no_pattern_no_ray false n ray =
        not_blocked false instance root (ray_table instance n) ray.positive.value ray.positive.is_value g first.within first.empty
    no_pattern_no_ray true n ray =
        let unit = ray.positive.is_value.units g first.within in first.empty unit.on unit.best.pattern
blocked_lone true asked exact_dispatch instance g budget gap layout kind patterns whole of_tree first =
    lone_answer asked exact_dispatch instance budget gap (empty_leaf true g) [] layout (blocked_truth true instance g layout of_tree first) refl
    (λ plain. absurd (false≢true (sym plain ∙ kind refl)))
    (λ other empty. absurd (patterns refl other empty.within empty.empty))
    (λ exactly each other again. (
      ap (λ unit. Ends (empty_leaf true unit)) (one_first (HasNoUnitSchedule instance root) g other first.none again.none first.first again.first),
      refl,
    ))
    (λ n ray. absurd (not_blocked true instance root (ray_table instance n) (exactly n ray).positive.value (exactly n ray).positive.is_value g first.within first.none))
    (λ each units. absurd (subst (λ b. HasNoBlockedUnit b instance) (kind refl) units g first.within first.none))
    whole (All-nil HasFewRows)
  where
    exactly : (n : ℕ) → IsFirstRay asked instance n → IsFirstRay true instance n
    exactly n ray = subst (λ b. IsFirstRay b instance n) (kind refl) ray

pub blocked_answer : (exact asked exact_dispatch : Bool) (instance : Instance) (g budget gap : ℕ) (tree : Tree) (layout : Layout) → (exact ≡ true → asked ≡ true)
    → (exact ≡ true → HasEachPattern instance) → tree ≡ lone_root instance (empty_leaf exact g) → IsWhole tree → IsLayoutOf tree layout
    → IsFirstBlocked exact instance root g → IsAnswerOf asked exact_dispatch instance budget gap (lone_found tree [] layout)
blocked_answer exact asked exact_dispatch instance g budget gap tree layout kind patterns is whole of_tree first =
    subst (λ (t : Tree). IsAnswerOf asked exact_dispatch instance budget gap (lone_found t [] layout)) (sym is)
    (blocked_lone exact asked exact_dispatch instance g budget gap layout kind patterns (subst IsWhole is whole) (subst (λ (t : Tree). IsLayoutOf t layout) is of_tree) first)

-- ---- a ray
-- the drop commitment of an instance without a schedule is stuck
no_dearer : (exact : Bool) (instance : Instance) (n : ℕ) (stands : Standing) → IsLawfulInstance instance → IsFirstRay exact instance n
    → IsDropped instance stands → IsNoDearer None (ending_of stands)
no_dearer exact instance n (standing.Dispatched printed cost) lawful first dropped =
    absurd (no_ray exact instance _ _ lawful dropped.accepted.obeys n first.within first.positive)
no_dearer exact instance n (standing.Stuck period most_on) lawful first dropped = tt

ray_truth : (exact : Bool) (instance : Instance) (n : ℕ) (layout : Layout) → IsLawfulInstance instance
    → IsLayoutOf (lone_root instance (ray_leaf exact 0)) layout → IsFirstRay exact instance n
    → IsTrueFound instance (lone_found (lone_root instance (ray_leaf exact 0)) (ray_table instance n ∷ []) layout)
ray_truth false instance n layout lawful of_tree first = grind (arith, lone_truth, All-cons, All-nil, ray_lawful, lawful, of_tree, first)
ray_truth true instance n layout lawful of_tree first = grind (arith, lone_truth, All-cons, All-nil, ray_lawful, lawful, of_tree, first)

ray_unbounded : (exact : Bool) (instance : Instance) → tree_bound (lone_root instance (ray_leaf exact 0)) ≡ None
ray_unbounded false instance = refl
ray_unbounded true instance = refl

ray_plain : (exact : Bool) (instance : Instance) → exact ≡ false → IsPlainTree (lone_root instance (ray_leaf exact 0))
ray_plain false instance plain = tt
ray_plain true instance plain = absurd (false≢true (sym plain))

ray_used : (exact : Bool) → used_tables (Ends (ray_leaf exact 0)) ≡ 0 ∷ []
ray_used false = refl
ray_used true = refl

ray_lone : (exact exact_dispatch : Bool) (instance : Instance) (n budget gap : ℕ) (stands : Standing) (layout : Layout) → IsLawfulInstance instance
    → HasEachPattern instance → HasNoBlockedUnit exact instance → IsFirstRay exact instance n → IsDropped instance stands
    → IsWhole (lone_root instance (ray_leaf exact 0)) → IsLayoutOf (lone_root instance (ray_leaf exact 0)) layout
    → IsAnswerOf exact exact_dispatch instance budget gap (lone_found (lone_root instance (ray_leaf exact 0)) (ray_table instance n ∷ []) layout)
ray_lone exact exact_dispatch instance n budget gap stands layout lawful each units first dropped whole of_tree =
    let table = ray_table instance n in
    let tables = table ∷ [] in
    lone_answer exact exact_dispatch instance budget gap (ray_leaf exact 0) tables layout (ray_truth exact instance n layout lawful of_tree first)
    (ray_unbounded exact instance) (ray_plain exact instance)
    (λ g empty. absurd (each g empty.within empty.empty))
    (λ exactly patterns g unscheduled. absurd (subst (λ b. HasNoBlockedUnit b instance) exactly units g unscheduled.within unscheduled.none))
    (λ other again. record {
      number = 0;
      tree = refl;
      table = ap (λ k. Some (ray_table instance k)) (one_first (IsRayPositive exact instance) n other first.positive again.positive first.first again.first);
      log = refl;
    })
    (λ patterns unblocked. record {
      patterns = dropped.patterns;
      ending = ending_of stands;
      drop = dropped.drop;
      schedule = no_dearer exact instance n stands lawful first dropped;
      bound = rw ray_unbounded tt;
      own = λ none. absurd (none n first.within first.positive);
    })
    whole
    (subst (λ used. All HasFewRows (map (table_at tables) used)) (sym (ray_used exact))
    (All-cons HasFewRows table [] (few_rows instance table lawful (ray_lawful instance n lawful first.within)) (All-nil HasFewRows)))

pub ray_answer : (exact exact_dispatch : Bool) (instance : Instance) (n budget gap : ℕ) (stands : Standing) (tree : Tree) (layout : Layout) → IsLawfulInstance instance
    → HasEachPattern instance → HasNoBlockedUnit exact instance → IsFirstRay exact instance n → IsDropped instance stands
    → tree ≡ lone_root instance (ray_leaf exact 0) → IsWhole tree → IsLayoutOf tree layout
    → IsAnswerOf exact exact_dispatch instance budget gap (lone_found tree (ray_table instance n ∷ []) layout)
ray_answer exact exact_dispatch instance n budget gap stands tree layout lawful each units first dropped is whole of_tree =
    subst (λ (t : Tree). IsAnswerOf exact exact_dispatch instance budget gap (lone_found t (ray_table instance n ∷ []) layout)) (sym is)
    (ray_lone exact exact_dispatch instance n budget gap stands layout lawful each units first dropped (subst IsWhole is whole)
    (subst (λ (t : Tree). IsLayoutOf t layout) is of_tree))
