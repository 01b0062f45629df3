-- Covers: every schedule agrees with exactly one leaf, so what each leaf claims of its own schedules holds of all.
use Rattle.std.proofs.Common.{◌≡◌, ℕ, ◌+◌, List, Bool, true, false, not, ◌&&◌, cond, refl, ap, ◌∙◌, arith, ⊎_elim, ℤ, pos, ◌*ℤ◌, ◌≤ℤ◌, ◌<ℤ◌, IsTrue, Option, Some, None, slice_get, All}
use Rattle.std.proofs.lemmas.Bool.{and_from, cases_Bool}
use Rattle.std.proofs.lemmas.List.Folds.{list_all-append}
use Rattle.std.proofs.lemmas.Option.{get_or_from_slice_get, slice_get_within}
use Rattle.uc_model.specs.Prelude.{Schedule, cost, Obeys, IsLawfulInstance}
use Rattle.uc_model.proofs.Common.{linear, le_from_mul, mul-le-mul_right, mul_left_comm, mul_comm, scale-le-scale}
use Rattle.dual_model.specs.Prelude.{Instance, Table, IsLawfulTable, Node, keeps, HasBlockedUnit, Tree, Ends, Splits, root, child, agreeing_leaves, EachLeaf, Leaf, Bound, Ray, Empty, IsExcluded, LeafHolds, HasBoundOf, HasPositiveValue, ClaimHolds, IsBoundTable, IsScheduleAt, LeavesPart, HasLawfulTable, CoversBound, CoversExclude, CertificatesClaimTruly, IsClaimTrue, AreTablesLawful}
use Rattle.dual_model.specs.Fixings.{agrees}
use Rattle.dual_model.proofs.ValueKinds.{weak_duality, rays_exclude, not_blocked, blocked_unit}

-- ---- the leaves part the schedules
child_agrees : (x : Schedule) (node : Node) (g t : ℕ) (on : Bool)
    → agrees (child node g t on) x ≡ (agrees node x && (keeps (record { g = g; t = t; on = on }) (x.thermal g).on && true))
child_agrees x node g t on = grind (arith, linear, list_all-append)

one_of_two : (a b : Bool) → cond (a && (not b && true)) 1 0 + cond (a && (b && true)) 1 0 ≡ cond a 1 0
one_of_two true true = refl
one_of_two true false = refl
one_of_two false b = refl

pub agreeing_below : {A : Type 0} (x : Schedule) (node : Node) (tree : Tree A) → agreeing_leaves x node tree ≡ cond (agrees node x) 1 0
agreeing_below x node (Ends leaf) = refl
agreeing_below x node (Splits g t off on) =
    grind (arith, linear, child_agrees, one_of_two, g, t, off, on, (agreeing_below x (child node g t false) off), (agreeing_below x (child node g t true) on))

pub leaves_part : LeavesPart
leaves_part x tree = agreeing_below x root tree

-- ---- what holds at the leaf that the schedule agrees with
-- a claim that each leaf makes of its own schedules holds of each schedule
pub at_own_leaf : {A : Type 0} (P : Node → A → Type 0) (Q : Type 0) (x : Schedule)
    → ((node : Node) (leaf : A) → IsTrue (agrees node x) → P node leaf → Q)
    → (node : Node) (tree : Tree A) → IsTrue (agrees node x) → EachLeaf P node tree → Q
at_own_leaf P Q x claim node (Ends leaf) kept each = claim node leaf kept each
at_own_leaf P Q x claim node (Splits g t off on) kept each = ⊎_elim
    (λ (here : IsTrue ((x.thermal g).on t)).
    at_own_leaf P Q x claim (child node g t true) on
    (child_agrees x node g t true ∙ and_from _ _ kept (and_from _ true here refl)) each.1)
    (λ (away : (x.thermal g).on t ≡ false).
    at_own_leaf P Q x claim (child node g t false) off
    (child_agrees x node g t false ∙ and_from _ _ kept (and_from _ true (ap not away) refl)) each.0)
    (cases_Bool ((x.thermal g).on t))

-- two claims of each leaf, as one
pub both_claims : {A : Type 0} (P R : Node → A → Type 0) (node : Node) (tree : Tree A) → EachLeaf P node tree → EachLeaf R node tree
    → EachLeaf (λ n l. P n l × R n l) node tree
both_claims P R node (Ends leaf) first second = (first, second)
both_claims P R node (Splits g t off on) first second = (
  both_claims P R (child node g t false) off first.0 second.0,
  both_claims P R (child node g t true) on first.1 second.1,
)

lawful_bounds : (instance : Instance) (table : Table) → IsLawfulTable instance table → IsBoundTable instance table
lawful_bounds instance table lawful = record { size = lawful.size; signs = lawful.signs }

-- an excluded leaf has no schedule
excluded_leaf : (instance : Instance) (tables : List Table) (q : ℕ) (x : Schedule) → IsLawfulInstance instance
    → Obeys instance q x → (node : Node) (leaf : Leaf) → IsTrue (agrees node x) → HasLawfulTable instance tables node leaf
    → IsExcluded instance tables node leaf → ⊥
excluded_leaf instance tables q x lawful obeys node (Bound exact number) kept tabled none = none
excluded_leaf instance tables q x lawful obeys node (Ray exact number) kept tabled ray =
    let schedule : IsScheduleAt instance node q x = record { obeys = obeys; agrees = kept } in
    ⊎_elim
    (λ (positive : HasPositiveValue exact instance node ray.table).
    rays_exclude exact instance node ray.table positive.value q x lawful
    (lawful_bounds instance ray.table (tabled ray.table ray.is_table))
    positive.is_value ray.scale positive.positive schedule)
    (λ (blocked : HasBlockedUnit exact instance node). not_blocked exact instance node q x lawful schedule blocked)
    ray.excludes
excluded_leaf instance tables q x lawful obeys node (Empty exact g) kept tabled blocked =
    not_blocked exact instance node q x lawful (record { obeys = obeys; agrees = kept })
    (blocked_unit exact instance node g blocked.0 blocked.1)

-- a bound on a value over K bounds the cost
divided : (q : ℕ) (k v bound b c : ℤ) → pos 0 <ℤ k → (bound *ℤ k) ≤ℤ v → b ≤ℤ bound → (pos q *ℤ v) ≤ℤ (k *ℤ c) → (pos q *ℤ b) ≤ℤ c
divided q k v bound b c positive below enough dual =
    let wider = mul-le-mul_right k b bound (omega (arith, linear)) enough in
    let scaled : (pos q *ℤ (b *ℤ k)) ≤ℤ (pos q *ℤ v) = scale-le-scale q (b *ℤ k) v (omega (arith, linear)) in
    let order : k *ℤ (pos q *ℤ b) ≡ pos q *ℤ (b *ℤ k) = mul_left_comm k (pos q) b ∙ ap (λ z. pos q *ℤ z) (mul_comm k b) in
    le_from_mul k (pos q *ℤ b) c positive (omega (arith, linear))

-- a leaf that holds for b bounds the cost of its schedules
bounded_leaf : (instance : Instance) (tables : List Table) (b : ℤ) (q : ℕ) (x : Schedule) → IsLawfulInstance instance → Obeys instance q x
    → (node : Node) (leaf : Leaf) → IsTrue (agrees node x) → HasLawfulTable instance tables node leaf
    → LeafHolds instance tables b node leaf
    → (pos q *ℤ b) ≤ℤ cost instance q x
bounded_leaf instance tables b q x lawful obeys node (Bound exact number) kept tabled holds =
    let schedule : IsScheduleAt instance node q x = record { obeys = obeys; agrees = kept } in
    ⊎_elim
    (λ (has : HasBoundOf exact instance node holds.table b).
    let own = has.is_bound in
    divided q holds.table.k own.value has.bound b (cost instance q x) holds.scale own.quotient.below has.enough
    (weak_duality exact instance node holds.table own.value q x lawful
    (lawful_bounds instance holds.table (tabled holds.table holds.is_table)) own.is_value schedule))
    (λ (blocked : HasBlockedUnit exact instance node).
    absurd (not_blocked exact instance node q x lawful schedule blocked))
    holds.bounds
bounded_leaf instance tables b q x lawful obeys node (Ray exact number) kept tabled holds =
    absurd (excluded_leaf instance tables q x lawful obeys node (Ray exact number) kept tabled holds)
bounded_leaf instance tables b q x lawful obeys node (Empty exact g) kept tabled holds =
    absurd (excluded_leaf instance tables q x lawful obeys node (Empty exact g) kept tabled holds)

pub covers_bound : CoversBound
covers_bound instance tables tree b lawful tabled holds q x obeys =
    at_own_leaf (λ node leaf. HasLawfulTable instance tables node leaf × LeafHolds instance tables b node leaf)
    ((pos q *ℤ b) ≤ℤ cost instance q x) x
    (λ node leaf kept claims. bounded_leaf instance tables b q x lawful obeys node leaf kept claims.0 claims.1)
    root tree refl (both_claims (HasLawfulTable instance tables) (LeafHolds instance tables b) root tree tabled holds)

pub covers_exclude : CoversExclude
covers_exclude instance tables tree lawful tabled excluded q x obeys =
    at_own_leaf (λ node leaf. HasLawfulTable instance tables node leaf × IsExcluded instance tables node leaf) ⊥ x
    (λ node leaf kept claims. excluded_leaf instance tables q x lawful obeys node leaf kept claims.0 claims.1)
    root tree refl (both_claims (HasLawfulTable instance tables) (IsExcluded instance tables) root tree tabled excluded)

-- ---- certificates
-- a table of a list of lawful ones is lawful
listed : (instance : Instance) (tables : List Table) → All (IsLawfulTable instance) tables → (number : ℕ) (table : Table)
    → slice_get tables number ≡ Some table → IsLawfulTable instance table
listed instance tables each number table is_table = grind (arith, linear, get_or_from_slice_get, slice_get_within, each, is_table)

-- where all tables are lawful, those of the leaves are
tables_lawful : (instance : Instance) (tables : List Table) → All (IsLawfulTable instance) tables → (node : Node) (tree : Tree Leaf)
    → EachLeaf (HasLawfulTable instance tables) node tree
tables_lawful instance tables each node (Ends (Bound exact number)) = listed instance tables each number
tables_lawful instance tables each node (Ends (Ray exact number)) = listed instance tables each number
tables_lawful instance tables each node (Ends (Empty exact g)) = tt
tables_lawful instance tables each node (Splits g t off on) = (
  tables_lawful instance tables each (child node g t false) off,
  tables_lawful instance tables each (child node g t true) on,
)

pub certificates_claim_truly : CertificatesClaimTruly
certificates_claim_truly instance certificate lawful holds = claimed certificate.bound holds.claim
  where
    tabled : AreTablesLawful instance certificate.tables certificate.tree
    tabled = tables_lawful instance certificate.tables holds.tables root certificate.tree

    claimed : (bound : Option ℤ) → ClaimHolds instance certificate bound → IsClaimTrue instance bound
    claimed (Some b) claim = covers_bound instance certificate.tables certificate.tree b lawful tabled claim.1
    claimed None claim = covers_exclude instance certificate.tables certificate.tree lawful tabled claim.1
