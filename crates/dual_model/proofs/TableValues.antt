-- The least value by a unit's terms is the unit's value at the table that the terms are of.
use Rattle.std.proofs.Common.{◌≡◌, ℕ, ◌<◌, refl, sym, subst, ◌∙◌, arith, ℤ, pos, ◌≤ℤ◌, IsTrue, Option, Some, None, unwrap_or, List}
use Rattle.uc_model.specs.Prelude.{sum_below, Commitment, starts, cap, is_allowed, thermal_unit, term_at}
use Rattle.uc_model.proofs.Common.{linear, sum_below-same}
use Rattle.dual_model.specs.Prelude.{Instance, Table, Fix, Node, IsPatternAt, IsFixOf, Point, IsTerm, IsTermAt, output_price, reserve_price, Thermal, IsPatternValue, IsUnitValue, Terms, IsPattern, IsLeastValue, is_followed, term_of, pattern_value, IsCellTerm, AreTermsOf, IsUnitValueOf}
use Rattle.dual_model.specs.UnitValue.{period_value}
use Rattle.dual_model.proofs.UnitValues.{term_unique, cap-allowed}
use Rattle.dual_model.specs.PatternValue as by_terms
use Rattle.dual_model.proofs.CellCaps.{cell_cap-cap}

-- ---- patterns
to_node : (instance : Instance) (node : Node) (g : ℕ) (fix : Fix) → IsFixOf instance.periods node g fix → (on : Commitment)
    → IsPattern instance.periods (thermal_unit instance g) fix on → IsPatternAt instance node g on
to_node instance node g fix same on p = record { allowed = p.allowed; agrees = same.same on ∙ p.agrees }

from_node : (instance : Instance) (node : Node) (g : ℕ) (fix : Fix) → IsFixOf instance.periods node g fix → (on : Commitment)
    → IsPatternAt instance node g on → IsPattern instance.periods (thermal_unit instance g) fix on
from_node instance node g fix same on p = record { allowed = p.allowed; agrees = sym (same.same on) ∙ p.agrees }

-- ---- terms
cell_term-at : (points : List Point) (k a b c : ℤ) (term : Option ℤ) → IsCellTerm points k a b c term → pos 0 ≤ℤ c
    → IsTerm points k a b c (unwrap_or term (pos 0))
cell_term-at points k a b c None is h = absurd (omega (arith, linear))
cell_term-at points k a b c (Some m) is h = is

-- the term of such a cell is the table's
term-at : (instance : Instance) (table : Table) (g : ℕ) (terms : Terms) → AreTermsOf instance table g terms
    → (on : Commitment) → IsTrue (is_allowed instance.periods (thermal_unit instance g) on) → (t : ℕ) → t < instance.periods → IsTrue (on t)
    → IsTermAt instance table g on t (term_of terms (thermal_unit instance g) on t)
term-at instance table g terms are on allowed t within here =
    let unit = thermal_unit instance g in
    let low = cap-allowed instance.periods unit on allowed t within here in
    let same_cap = cell_cap-cap instance.periods unit on t here in
    let found : IsTerm unit.points table.k (output_price table g t) (reserve_price table g t) (cap instance.periods unit on t)
    (unwrap_or (term_at terms t (starts unit on t) (is_followed instance.periods unit on t)) (pos 0)) =
    subst (λ c. IsTerm unit.points table.k (output_price table g t) (reserve_price table g t) c
    (unwrap_or (term_at terms t (starts unit on t) (is_followed instance.periods unit on t)) (pos 0))) same_cap
    (cell_term-at unit.points table.k (output_price table g t) (reserve_price table g t) _ _
    (are.term t (starts unit on t) (is_followed instance.periods unit on t) within)
    (subst (λ c. pos 0 ≤ℤ c) (sym same_cap) low)) in
    subst (λ n. IsTermAt instance table g on t (unwrap_or (term_at terms t (starts unit on t) (is_followed n unit on t)) (pos 0)))
    (sym are.periods) found

-- ---- values
-- the value of a period by the terms and by the table
period-same : (instance : Instance) (table : Table) (g : ℕ) (terms : Terms) → AreTermsOf instance table g terms
    → (on : Commitment) (term : ℕ → ℤ) (t : ℕ) → t < instance.periods
    → (IsTrue (on t) → term t ≡ term_of terms (thermal_unit instance g) on t)
    → period_value table (thermal_unit instance g) on term t ≡ by_terms.period_value terms (thermal_unit instance g) on t
period-same instance table g terms are on term t within same = grind (arith, linear, are, within, same)

total-same : (instance : Instance) (table : Table) (g : ℕ) (terms : Terms) → AreTermsOf instance table g terms
    → (on : Commitment) (term : ℕ → ℤ) → ((t : ℕ) → t < instance.periods → IsTrue (on t) → term t ≡ term_of terms (thermal_unit instance g) on t)
    → sum_below instance.periods (period_value table (thermal_unit instance g) on term) ≡ pattern_value terms (thermal_unit instance g) on
total-same instance table g terms are on term same = grind (arith, linear, sum_below-same, period-same, are, same)

pub to_table : (instance : Instance) (table : Table) (g : ℕ) (terms : Terms) → AreTermsOf instance table g terms
    → (on : Commitment) → IsTrue (is_allowed instance.periods (thermal_unit instance g) on)
    → IsPatternValue instance table g on (pattern_value terms (thermal_unit instance g) on)
to_table instance table g terms are on allowed = record {
  term = term_of terms (thermal_unit instance g) on;
  terms = λ t within here. term-at instance table g terms are on allowed t within here;
  total = sym (total-same instance table g terms are on (term_of terms (thermal_unit instance g) on) (λ t within here. refl));
}

from_table : (instance : Instance) (table : Table) (g : ℕ) (terms : Terms) → AreTermsOf instance table g terms
    → (on : Commitment) → IsTrue (is_allowed instance.periods (thermal_unit instance g) on)
    → (w : ℤ) → IsPatternValue instance table g on w → w ≡ pattern_value terms (thermal_unit instance g) on
from_table instance table g terms are on allowed w value =
    value.total
    ∙ total-same instance table g terms are on value.term
    (λ t within here. term_unique _ _ _ _ _ _ _ (value.terms t within here) (term-at instance table g terms are on allowed t within here))

-- ---- the whole
value-of : (instance : Instance) (node : Node) (table : Table) (g : ℕ) (terms : Terms) (fix : Fix) (v : ℤ)
    → AreTermsOf instance table g terms → IsFixOf instance.periods node g fix
    → IsLeastValue terms (thermal_unit instance g) fix v → IsUnitValue instance node table g v
value-of instance node table g terms fix v are decided least = record {
  on = least.on;
  best = record {
    pattern = to_node instance node g fix decided least.on pattern;
    value = subst (λ z. IsPatternValue instance table g least.on z) (sym least.value) (to_table instance table g terms are least.on pattern.allowed);
    least = λ other w at value.
        let its = from_node instance node g fix decided other at in
        subst (λ z. v ≤ℤ z) (sym (from_table instance table g terms are other its.allowed w value))
        (least.least other (subst (λ n. IsPattern n (thermal_unit instance g) fix other) (sym are.periods) its));
  };
}
  where
    pattern : IsPattern instance.periods (thermal_unit instance g) fix least.on
    pattern = subst (λ n. IsPattern n (thermal_unit instance g) fix least.on) are.periods least.pattern

-- what a walk's answer by the terms says at the table
pub unit_value-of : (instance : Instance) (node : Node) (table : Table) (g : ℕ) (unit : Thermal) (terms : Terms) (fix : Fix) (v : Option ℤ)
    → thermal_unit instance g ≡ unit → AreTermsOf instance table g terms → IsFixOf instance.periods node g fix
    → ((w : ℤ) → v ≡ Some w → IsLeastValue terms unit fix w)
    → (v ≡ None → by_terms.HasNoPattern terms unit fix)
    → IsUnitValueOf instance node table g v
unit_value-of instance node table g unit terms fix None same are decided some none = grind (arith, linear, same, are, decided, some, none)
unit_value-of instance node table g unit terms fix (Some w) same are decided some none = grind (arith, linear, value-of, same, are, decided, some, none)
