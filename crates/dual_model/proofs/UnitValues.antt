-- The value of a unit, computed over all its patterns: it is there exactly where the unit has a pattern at the node.
use Rattle.std.proofs.Common.{◌≡◌, ℕ, ◌<◌, List, length, Bool, true, false, not, ◌&&◌, cond, refl, sym, ap, subst, ◌∙◌, arith, ⊎_elim, ℤ, pos, ◌+ℤ◌, ◌-ℤ◌, ◌*ℤ◌, ◌≤ℤ◌, IsTrue, int_le, max, Option, Some, None, option_map}
use Rattle.std.proofs.lemmas.Bool.{and_parts, and_from, or_cases, not_from_true, true≢false}
use Rattle.uc_model.specs.Prelude.{sum_below, Commitment, cap, is_allowed, is_allowed_at, thermal_unit}
use Rattle.uc_model.proofs.Common.{le_antisymm, sum_below-same, int_le-true, all_below-at}
use Rattle.dual_model.specs.Prelude.{Instance, Table, pi_at, Node, unit_agrees, Point, IsTerm, IsTermAt, output_price, reserve_price, Thermal, IsPatternValue, IsUnitValue}
use Rattle.dual_model.specs.Fixings.{HasNoPattern}
use Rattle.dual_model.specs.UnitValue.{period_value}
use Rattle.dual_model.proofs.Terms.{least_reduced_cost, is_term}
use Rattle.dual_model.proofs.Locality.{SameBelow, starts-same, cap-same, sigma-same, is_allowed-same, fixed_below, kept-same}
use Rattle.dual_model.proofs.Patterns.{IsLocal, IsBestOf, best_pattern, best_pattern_is}

-- ---- terms
-- there is one term at most
pub term_unique : (points : List Point) (k a b room m n : ℤ) → IsTerm points k a b room m → IsTerm points k a b room n → m ≡ n
term_unique points k a b room m n first second = le_antisymm m n (second.greatest m first.bound) (first.greatest n second.bound)

-- the term of unit g in period t under the commitment
unfoldable pub term_of : Instance → Table → ℕ → Commitment → ℕ → ℤ
term_of instance table g on t =
    let unit = thermal_unit instance g in
    least_reduced_cost unit.points table.k (output_price table g t) (reserve_price table g t)
    (cap instance.periods unit on t)

-- an allowed pattern's on cells have caps of at least 0
pub cap-allowed : (periods : ℕ) (unit : Thermal) (on : Commitment) → IsTrue (is_allowed periods unit on) → (t : ℕ)
    → t < periods → IsTrue (on t)
    → pos 0 ≤ℤ cap periods unit on t
cap-allowed periods unit on allowed t l here =
    let each = all_below-at periods (is_allowed_at periods unit on) (and_parts _ _ allowed).1 t l in
    ⊎_elim
    (λ (off : IsTrue (not (on t))). absurd (true≢false (sym off ∙ not_from_true (on t) here)))
    (λ (room : IsTrue (int_le (pos 0) (cap periods unit on t))). int_le-true _ _ room)
    (or_cases (not (on t)) (int_le (pos 0) (cap periods unit on t)) (and_parts _ _ each).1)

is_term_of : (instance : Instance) (table : Table) (g : ℕ) (on : Commitment) → 0 < length (thermal_unit instance g).points
    → IsTrue (is_allowed instance.periods (thermal_unit instance g) on) → (t : ℕ) → t < instance.periods → IsTrue (on t)
    → IsTermAt instance table g on t (term_of instance table g on t)
unfolding term_of
is_term_of instance table g on some allowed t l here =
    let unit = thermal_unit instance g in
    is_term unit.points table.k (output_price table g t) (reserve_price table g t) (cap instance.periods unit on t) some
    (cap-allowed instance.periods unit on allowed t l here)

-- ---- values of patterns
unfoldable pub value_of : Instance → Table → ℕ → Commitment → ℤ
value_of instance table g on = sum_below instance.periods (period_value table (thermal_unit instance g) on (term_of instance table g on))

-- an allowed pattern has a value
is_value_of : (instance : Instance) (table : Table) (g : ℕ) (on : Commitment) → 0 < length (thermal_unit instance g).points
    → IsTrue (is_allowed instance.periods (thermal_unit instance g) on)
    → IsPatternValue instance table g on (value_of instance table g on)
unfolding value_of
is_value_of instance table g on some allowed = record {
  term = term_of instance table g on;
  terms = is_term_of instance table g on some allowed;
  total = refl;
}

cond_on : (b : Bool) (x y : ℤ) → (b ≡ true → x ≡ y) → cond b x (pos 0) ≡ cond b y (pos 0)
cond_on true x y h = h refl
cond_on false x y h = refl

-- and one at most
pub pattern_value_unique : (instance : Instance) (table : Table) (g : ℕ) (on : Commitment) (v w : ℤ) → IsPatternValue instance table g on v
    → IsPatternValue instance table g on w → v ≡ w
pattern_value_unique instance table g on v w first second = grind (arith, sum_below-same, cond_on, term_unique, first, second)

-- the value depends on the instance's periods alone
term_of-same : (instance : Instance) (table : Table) (g : ℕ) (on other : Commitment) → SameBelow instance.periods on other → (t : ℕ)
    → t < instance.periods → term_of instance table g on t ≡ term_of instance table g other t
unfolding term_of
term_of-same instance table g on other h t l =
    let unit = thermal_unit instance g in
    ap (λ room. least_reduced_cost unit.points table.k (output_price table g t) (reserve_price table g t) room)
    (cap-same instance.periods unit on other h t l)

value_of-same : (instance : Instance) (table : Table) (g : ℕ) (on other : Commitment) → SameBelow instance.periods on other
    → value_of instance table g on ≡ value_of instance table g other
unfolding value_of
value_of-same instance table g on other h =
    let unit = thermal_unit instance g in
    sum_below-same instance.periods _ _ (λ t l.
    let here = h.same t l in
    let term = term_of-same instance table g on other h t l in
    let start = starts-same instance.periods unit on other h t l in
    let cost = sigma-same instance.periods unit on other h t (omega arith) in
    λ i. cond (here i) (term i -ℤ pi_at table t *ℤ unit.pmin) (pos 0) +ℤ cond (start i) (table.k *ℤ cost i) (pos 0))

-- ---- the least one
abbrev pub is_pattern_at : Instance → Node → ℕ → Commitment → Bool
is_pattern_at instance node g on = is_allowed instance.periods (thermal_unit instance g) on && unit_agrees node g on

abbrev pub last_period : Instance → Node → ℕ
last_period instance node = max instance.periods (fixed_below node.fixings)

pattern_local : (instance : Instance) (node : Node) (table : Table) (g : ℕ) → 0 < instance.periods
    → IsLocal (last_period instance node) (is_pattern_at instance node g) (value_of instance table g)
pattern_local instance node table g some = grind (arith, is_allowed-same, kept-same, value_of-same, some)

-- the value of unit g at the node and the table, if it has one
unfoldable pub unit_value_of : Instance → Node → Table → ℕ → Option ℤ
unit_value_of instance node table g =
    option_map (value_of instance table g)
    (best_pattern (last_period instance node) (is_pattern_at instance node g) (value_of instance table g))

-- the answer is the unit's value, or the unit has no pattern
abbrev pub IsUnitAnswer : Instance → Node → Table → ℕ → Option ℤ → Type 0
IsUnitAnswer instance node table g None = HasNoPattern instance node g
IsUnitAnswer instance node table g (Some v) = IsUnitValue instance node table g v

best_value : (instance : Instance) (node : Node) (table : Table) (g : ℕ)
    → 0 < length (thermal_unit instance g).points → (best : Option Commitment)
    → IsBestOf (is_pattern_at instance node g) (value_of instance table g) best
    → IsUnitAnswer instance node table g (option_map (value_of instance table g) best)
best_value instance node table g points None none = λ on pattern. none.none on (and_from _ _ pattern.allowed pattern.agrees)
best_value instance node table g points (Some on) found =
    let parts = and_parts _ _ found.passes in
    record {
      on = on;
      best = record {
        pattern = record { allowed = parts.0; agrees = parts.1 };
        value = is_value_of instance table g on points parts.0;
        least = λ other w pattern value.
            subst (λ z. value_of instance table g on ≤ℤ z)
            (pattern_value_unique instance table g other _ w
            (is_value_of instance table g other points pattern.allowed) value)
            (found.least other (and_from _ _ pattern.allowed pattern.agrees));
      };
    }

pub unit_value_is : (instance : Instance) (node : Node) (table : Table) (g : ℕ) → 0 < instance.periods
    → 0 < length (thermal_unit instance g).points
    → IsUnitAnswer instance node table g (unit_value_of instance node table g)
unfolding unit_value_of
unit_value_is instance node table g some points =
    best_value instance node table g points _
    (best_pattern_is (last_period instance node) (is_pattern_at instance node g) (value_of instance table g)
    (pattern_local instance node table g some))

-- each allowed pattern has a value
pub allowed_value : (instance : Instance) (table : Table) (g : ℕ) (on : Commitment) → 0 < length (thermal_unit instance g).points
    → IsTrue (is_allowed instance.periods (thermal_unit instance g) on) → (w : ℤ) × IsPatternValue instance table g on w
allowed_value instance table g on some allowed = (value_of instance table g on, is_value_of instance table g on some allowed)
