-- Every legal and true event keeps what is true of the tree and its tables, whatever the costs that workers prune by.
use Rattle.std.proofs.Common.{◌≡◌, ℕ, ◌⊎◌, Bool, true, false, cond, List, [], ◌∷◌, ◌++◌, All, length, refl, sym, subst, ap, ◌∙◌, arith, inl, inr, ⊎_elim, ℤ, pos, ◌≤ℤ◌, ◌<ℤ◌, int_lt, ◌&&◌, Option}
use Rattle.std.proofs.lemmas.Bool.{and_parts, cases_Bool}
use Rattle.std.proofs.lemmas.List.Elements.{All-nil, All-cons, All-append}
use Rattle.uc_model.specs.Prelude.{IsLawfulInstance, thermal_count, Commitment}
use Rattle.uc_model.proofs.Common.{linear, int_lt-true, IsFloor-greatest, IsFloor-int_div_euclid}
use Rattle.dual_model.specs.Prelude.{child, EachLeaf, root, IsPatternAt, IsValueOf, HasBlockedUnit, IsFirstBlocked, HasBoundOf, IsBoundedBy, IsExcludedByRay, IsLawfulTable}
use Rattle.dual_model.proofs.NodeValues.{parent_agrees}
use Rattle.dual_model.proofs.ValueKinds.{child_bound}
use Rattle.branch_tree.specs.Prelude.{StoredHolds, IsSizeOf, IsOpenAt, tree_of}
use Rattle.branch_tree.specs.declared.tree.Leaf.TheVariants as leaf
use Rattle.branch_tree.specs.declared.found.Outcome.TheVariants as outcome
use Rattle.branch_tree.proofs.Changes.{get-append}
use Rattle.search_machine.specs.Prelude.{Leaf, Node, Instance, IsTrueOutcome, IsTrueEvent, IsTrueStart, Table, WorkerState, Machine, Holder, IsHolding, stored_at, spot_stored, Outcome, bound_of, kept_after, IsPositive, Again, Empty, Prune, Ray, Split, Move, kept, ray_leaf, empty_leaf, IsMoveLegal, Claim, Commit, Look, Pop, Publish, Push, Steal, Event, IsLegalBy, committed, committed_by, after, IsOrderly}
use Rattle.search_machine.specs.declared.stored.Stored.{Stored}
use Rattle.search_machine.proofs.Claims.{get_push_last, holdable}
use Rattle.search_machine.proofs.Growth.{HoldsOfNew, leaf_part, part_node, holds_of_leaf, after_holds}
use Rattle.search_machine.proofs.OrderlySteps.{orderly_start, as_large_after, orderly_after, sound_of}

-- ---- with one table more
bounded_more : (exact : Bool) (instance : Instance) (tables : List Table) (new : Table) (node : Node) (number : ℕ) (b : ℤ)
    → IsBoundedBy exact instance tables node number b → IsBoundedBy exact instance (tables ++ new ∷ []) node number b
bounded_more exact instance tables new node number b h = grind (arith, linear, get-append, h)

excluded_more : (exact : Bool) (instance : Instance) (tables : List Table) (new : Table) (node : Node) (number : ℕ)
    → IsExcludedByRay exact instance tables node number → IsExcludedByRay exact instance (tables ++ new ∷ []) node number
excluded_more exact instance tables new node number h = grind (arith, linear, get-append, h)

pub stored_more : (instance : Instance) (tables : List Table) (new : Table) (node : Node) (l : Leaf) → StoredHolds instance tables node l
    → StoredHolds instance (tables ++ new ∷ []) node l
stored_more instance tables new node (leaf.Live table value exact) h = bounded_more exact instance tables new node table value h
stored_more instance tables new node (leaf.Bound table value exact) h = bounded_more exact instance tables new node table value h
stored_more instance tables new node (leaf.Ray table) h = excluded_more false instance tables new node table h
stored_more instance tables new node (leaf.Empty g) h = h
stored_more instance tables new node (leaf.ExactRay table) h = excluded_more true instance tables new node table h
stored_more instance tables new node (leaf.ExactEmpty g) h = h

-- ---- what the node stores
-- what is stored bounds the cost of the node's schedules
abbrev pub IsStoredBound : Instance → List Table → Node → Stored → Type 0
IsStoredBound instance tables node stored = IsBoundedBy stored.exact instance tables node stored.table stored.value

own_bound : (exact : Bool) (instance : Instance) (tables : List Table) (new : Table) (node : Node) (v : ℤ) → pos 0 <ℤ new.k
    → IsValueOf exact instance node new v → IsBoundedBy exact instance (tables ++ new ∷ []) node (length tables) (bound_of v new.k)
own_bound exact instance tables new node v scale is_value = record {
  table = new;
  is_table = get_push_last tables new;
  scale = scale;
  bounds = inl (record {
    bound = bound_of v new.k;
    is_bound = record { value = v; is_value = is_value; quotient = IsFloor-int_div_euclid v new.k scale };
    enough = omega (arith, linear);
  });
}

pub kept_bounded : (exact : Bool) (instance : Instance) (tables : List Table) (new : Table) (node : Node) (old : Stored) (result : Outcome)
    → IsStoredBound instance tables node old → IsTrueOutcome exact instance node new result
    → IsStoredBound instance (tables ++ new ∷ []) node (kept_after old (length tables) new.k exact result)
kept_bounded exact instance tables new node old (outcome.Value v) h is = ⊎_elim
    (λ (e : (int_lt (pos 0) new.k && int_lt old.value (bound_of v new.k)) ≡ true).
    subst (λ b. IsStoredBound instance more node (cond b greater old)) (sym e)
    (own_bound exact instance tables new node v (int_lt-true (pos 0) new.k (and_parts _ _ e).0) is.told))
    (λ (e : (int_lt (pos 0) new.k && int_lt old.value (bound_of v new.k)) ≡ false).
    subst (λ b. IsStoredBound instance more node (cond b greater old)) (sym e)
    (bounded_more old.exact instance tables new node old.table old.value h))
    (cases_Bool (int_lt (pos 0) new.k && int_lt old.value (bound_of v new.k)))
  where
    more : List Table
    more = tables ++ new ∷ []

    greater : Stored
    greater = record { table = length tables; value = bound_of v new.k; exact = exact }
kept_bounded exact instance tables new node old (outcome.Empty g) h is = bounded_more old.exact instance tables new node old.table old.value h

-- ---- children
child_pattern : (instance : Instance) (node : Node) (g t : ℕ) (on : Bool) (unit : ℕ) (pattern : Commitment)
    → IsPatternAt instance (child node g t on) unit pattern → IsPatternAt instance node unit pattern
child_pattern instance node g t on unit pattern is = grind (arith, linear, parent_agrees, is)

child_blocked : (exact : Bool) (instance : Instance) (node : Node) (g t : ℕ) (on : Bool) → HasBlockedUnit exact instance node
    → HasBlockedUnit exact instance (child node g t on)
child_blocked false instance node g t on h = grind (arith, linear, child_pattern, h)
child_blocked true instance node g t on h = record {
  unit = h.unit;
  within = h.within;
  none = λ q x is. h.none q x (record {
    denominator = is.denominator;
    pattern = child_pattern instance node g t on h.unit x.on is.pattern;
    each = is.each;
  });
}

child_has_bound : (exact : Bool) (instance : Instance) (node : Node) (g t : ℕ) (on : Bool) (table : Table) (b : ℤ) → IsLawfulInstance instance
    → pos 0 <ℤ table.k → HasBoundOf exact instance node table b
    → HasBoundOf exact instance (child node g t on) table b ⊎ HasBlockedUnit exact instance (child node g t on)
child_has_bound exact instance node g t on table b lawful scale has = ⊎_elim
    (λ (found : (w : ℤ) × IsValueOf exact instance (child node g t on) table w × (has.is_bound.value ≤ℤ w)).
    let floor = IsFloor-int_div_euclid found.0 table.k scale in
    let above : has.bound ≤ℤ bound_of found.0 table.k =
    IsFloor-greatest found.0 table.k (bound_of found.0 table.k) has.bound scale floor (omega (arith, linear, has.is_bound.quotient.below, found.2)) in
    inl (record {
      bound = bound_of found.0 table.k;
      is_bound = record { value = found.0; is_value = found.1; quotient = floor };
      enough = omega (arith, linear, has.enough);
    }))
    (λ (blocked : HasBlockedUnit exact instance (child node g t on)). inr blocked)
    (child_bound exact instance node g t on table has.is_bound.value lawful has.is_bound.is_value)

pub child_bounded : (instance : Instance) (tables : List Table) (node : Node) (g t : ℕ) (on : Bool) (stored : Stored) → IsLawfulInstance instance
    → IsStoredBound instance tables node stored → IsStoredBound instance tables (child node g t on) stored
child_bounded instance tables node g t on stored lawful h = grind (arith, linear, child_has_bound, child_blocked, lawful, h)

-- ---- the leaves that a move makes
ray_holds : (exact : Bool) (instance : Instance) (tables : List Table) (new : Table) (node : Node) (result : Outcome)
    → IsTrueOutcome exact instance node new result → new.k ≡ pos 0 → IsPositive result
    → IsExcludedByRay exact instance (tables ++ new ∷ []) node (length tables)
ray_holds exact instance tables new node (outcome.Value v) is scale positive = record {
  table = new;
  is_table = get_push_last tables new;
  scale = scale;
  excludes = inl (record { value = v; is_value = is.told; positive = positive });
}
ray_holds exact instance tables new node (outcome.Empty g) is scale positive = absurd positive

ray_stored : (exact : Bool) (instance : Instance) (tables : List Table) (node : Node) (number : ℕ)
    → IsExcludedByRay exact instance tables node number → StoredHolds instance tables node (ray_leaf exact number)
ray_stored false instance tables node number h = h
ray_stored true instance tables node number h = h

empty_stored : (exact : Bool) (instance : Instance) (tables : List Table) (node : Node) (g : ℕ) → IsFirstBlocked exact instance node g
    → StoredHolds instance tables node (empty_leaf exact g)
empty_stored false instance tables node g is = (is.within, is.empty)
empty_stored true instance tables node g is = (is.within, is.none)

stored_new : (looked : ℤ → Type 0) (instance : Instance) (m : Machine) (node : ℕ) (here : Node) (table : Table) (exact : Bool) (result : Outcome)
    (action : Move) → IsLawfulInstance instance → IsTrueOutcome exact instance here table result
    → IsStoredBound instance m.tables here (stored_at m.tree node) → IsMoveLegal looked m node table exact result action
    → HoldsOfNew (StoredHolds instance (m.tables ++ table ∷ [])) here (kept m node table exact result) (length m.tables) exact result action
stored_new looked instance m node here table exact result Again lawful is old legal =
    kept_bounded exact instance m.tables table here (stored_at m.tree node) result old is
stored_new looked instance m node here table exact result (Split g t) lawful is old legal =
    let own = kept_bounded exact instance m.tables table here (stored_at m.tree node) result old is in
    let new = kept m node table exact result in (
      own,
      child_bounded instance (m.tables ++ table ∷ []) here g t false new lawful own,
      child_bounded instance (m.tables ++ table ∷ []) here g t true new lawful own,
    )
stored_new looked instance m node here table exact result (Prune seen) lawful is old legal =
    kept_bounded exact instance m.tables table here (stored_at m.tree node) result old is
stored_new looked instance m node here table exact result Ray lawful is old legal =
    grind (arith, linear, ray_stored, ray_holds, Ray, lawful, is, old, legal)
stored_new looked instance m node here table exact (outcome.Value v) Empty lawful is old legal = absurd legal
stored_new looked instance m node here table exact (outcome.Empty g) Empty lawful is old legal =
    empty_stored exact instance (m.tables ++ table ∷ []) here g is.told

-- ---- Every legal and true event keeps what is true of the tree.
-- the leaves store what holds, at lawful tables
pub record IsTrueTree (instance : Instance) (m : Machine) : Type 0 where
  pub orderly : IsOrderly m
  pub size : IsSizeOf m.tree instance
  pub lawful : All (IsLawfulTable instance) m.tables
  pub stored : EachLeaf (StoredHolds instance m.tables) root (tree_of m.tree)

-- the start
pub start_tree : (instance : Instance) (m : Machine) → IsTrueStart instance m → IsTrueTree instance m
start_tree instance m start = subst (IsTrueTree instance) (sym start.is_start) (record {
  orderly = orderly_start (thermal_count instance) instance.periods start.workers start.budget start.gap start.table start.value start.small start.whole;
  size = record { thermal = refl; periods = refl };
  lawful = All-cons (IsLawfulTable instance) start.table [] start.lawful (All-nil (IsLawfulTable instance));
  stored = grind (arith, linear, start);
})

-- what changes neither the tree nor the tables
same_tree : (instance : Instance) (m : Machine) (claims : List (Option Holder)) (best : Option ℤ) (desks : List WorkerState) → IsTrueTree instance m
    → IsOrderly (record m { claims = claims; best = best; desks = desks })
    → IsTrueTree instance (record m { claims = claims; best = best; desks = desks })
same_tree instance m claims best desks is orderly = record { orderly = orderly; size = is.size; lawful = is.lawful; stored = is.stored }

-- a commit
committed_tree : (looked : ℤ → Type 0) (instance : Instance) (m : Machine) (worker unit node : ℕ) (table : Table) (exact : Bool) (result : Outcome)
    (action : Move) → IsLawfulInstance instance → IsTrueTree instance m → IsHolding m worker unit node
    → IsMoveLegal looked m node table exact result action → IsTrueEvent instance m (Commit worker unit table exact result action)
    → IsOrderly (committed m worker unit node table exact result action)
    → IsSizeOf (committed m worker unit node table exact result action).tree instance
    → IsTrueTree instance (committed m worker unit node table exact result action)
committed_tree looked instance m worker unit node table exact result action lawful is holding legal told orderly size =
    let held = holdable m worker unit node is.orderly holding in
    let at : IsOpenAt m.tree.nodes node = held.live in
    let old = leaf.Live at.table at.value at.exact in
    let part = leaf_part m.tree node at in
    let here = part.part.node in
    let own = told node here holding (part_node m.tree node old part) in
    let before : IsStoredBound instance m.tables here (stored_at m.tree node) =
    subst (IsStoredBound instance m.tables here) (sym (ap spot_stored at.live))
    (holds_of_leaf (StoredHolds instance m.tables) m.tree node old part is.stored) in
    record {
      orderly = orderly;
      size = size;
      lawful = All-append (IsLawfulTable instance) m.tables (table ∷ []) is.lawful
          (All-cons (IsLawfulTable instance) table [] own.lawful (All-nil (IsLawfulTable instance)));
      stored = after_holds (StoredHolds instance m.tables) (StoredHolds instance (m.tables ++ table ∷ [])) (stored_more instance m.tables table)
          m.tree node at part (kept m node table exact result) (length m.tables) exact result action (sound_of m is.orderly) is.stored
          (stored_new looked instance m node here table exact result action lawful own before legal);
    }

-- every event
pub tree_after_event : (looked : Machine → ℕ → ℤ → Type 0) (instance : Instance) (m : Machine) (event : Event) → IsLawfulInstance instance
    → IsTrueTree instance m → IsLegalBy looked m event → IsTrueEvent instance m event → IsTrueTree instance (after m event)
tree_after_event looked instance m (Claim worker node) lawful is legal told =
    same_tree instance m _ _ _ is (orderly_after looked m (Claim worker node) is.orderly legal)
tree_after_event looked instance m (Commit worker unit table exact result action) lawful is legal told =
    let event = Commit worker unit table exact result action in
    let orderly = orderly_after looked m event is.orderly legal in
    let large = as_large_after m event in
    let size : IsSizeOf (after m event).tree instance =
    record { thermal = is.size.thermal ∙ sym large.units; periods = is.size.periods ∙ sym large.periods } in
    let holds = legal.1.holds in
    subst (λ h. IsTrueTree instance (committed_by m worker unit table exact result action h)) (sym holds)
    (committed_tree (looked m worker) instance m worker unit legal.1.node table exact result action lawful is holds legal.1.legal told
    (subst (λ h. IsOrderly (committed_by m worker unit table exact result action h)) holds orderly)
    (subst (λ h. IsSizeOf (committed_by m worker unit table exact result action h).tree instance) holds size))
tree_after_event looked instance m (Publish worker cost) lawful is legal told =
    same_tree instance m _ _ _ is (orderly_after looked m (Publish worker cost) is.orderly legal)
tree_after_event looked instance m (Look worker) lawful is legal told =
    same_tree instance m _ _ _ is (orderly_after looked m (Look worker) is.orderly legal)
tree_after_event looked instance m (Push worker node) lawful is legal told =
    same_tree instance m _ _ _ is (orderly_after looked m (Push worker node) is.orderly legal)
tree_after_event looked instance m (Pop worker) lawful is legal told =
    same_tree instance m _ _ _ is (orderly_after looked m (Pop worker) is.orderly legal)
tree_after_event looked instance m (Steal worker victim) lawful is legal told =
    same_tree instance m _ _ _ is (orderly_after looked m (Steal worker victim) is.orderly legal)
