-- The exact values of a unit and of a node: there is one at most, it reaches the value V, and a child's is at least its
-- parent's.
use Rattle.std.proofs.Common.{◌≡◌, ℕ, ◌<◌, Bool, true, sym, ap, subst, ◌∙◌, arith, ℤ, ◌+ℤ◌, ◌≤ℤ◌}
use Rattle.std.specs.Int.{int_max}
use Rattle.std.proofs.lemmas.Int.{ints, clamps}
use Rattle.uc_model.specs.Prelude.{sum_below, thermal_count}
use Rattle.uc_model.proofs.Common.{linear, le_antisymm, sum_below-same, sum_below-le}
use Rattle.dual_model.specs.Prelude.{unit_part, system_value, renewables_value, Instance, Node, Table, UnitSchedule, IsUnitSchedule, IsExactUnitValue, exact_part, parts_total, child, ExactValuesReach, ExactUnitValuesAreUnique, ValuesAreUnique, ExactValuesRise}
use Rattle.dual_model.proofs.NodeValues.{unit_value_unique, parent_agrees, child_unit_bound}

-- ---- there is one at most
pub exact_unit_values_are_unique : ExactUnitValuesAreUnique
exact_unit_values_are_unique instance node table g e f first second = grind (arith, ints, le_antisymm, instance, node, table, g, e, f, first, second)

pub exact_values_are_unique : ValuesAreUnique true
exact_values_are_unique instance node table v w first second =
    first.total
    ∙ ap (λ z. system_value instance table +ℤ z +ℤ renewables_value instance table) parts
    ∙ sym second.total
  where
    parts : sum_below (thermal_count instance) (λ g. exact_part instance table g (first.unit_value g)
        (first.exact_value g))
        ≡ sum_below (thermal_count instance) (λ g. exact_part instance table g (second.unit_value g)
        (second.exact_value g))
    parts = sum_below-same (thermal_count instance) _ _ (λ g l.
        let value = unit_value_unique instance node table g _ _ (first.units g l) (second.units g l) in
        let exact = exact_unit_values_are_unique instance node table g _ _ (first.exact_units g l)
        (second.exact_units g l) in
        λ i. exact_part instance table g (value i) (exact i))

-- ---- orders
max-right : (a b : ℤ) → b ≤ℤ int_max a b
max-right a b = omega (arith, ints, clamps)

max-mono : (a b c d : ℤ) → a ≤ℤ c → b ≤ℤ d → int_max a b ≤ℤ int_max c d
max-mono a b c d h k = omega (arith, ints, clamps)

total-le : (instance : Instance) (table : Table) (v w : ℤ) (f g : ℕ → ℤ) → v ≡ parts_total instance table f
    → w ≡ parts_total instance table g
    → ((k : ℕ) → k < thermal_count instance → f k ≤ℤ g k) → v ≤ℤ w
total-le instance table v w f g is other each =
    let parts = sum_below-le (thermal_count instance) f g each in
    omega (arith, linear, parts, is, other)

-- it reaches the value
pub exact_values_reach : ExactValuesReach
exact_values_reach instance node table v w value exact =
    total-le instance table v w (λ g. unit_part instance table g (value.unit_value g))
    (λ g. exact_part instance table g (exact.unit_value g) (exact.exact_value g)) value.total exact.total (λ g l.
    let same = unit_value_unique instance node table g _ _ (value.units g l) (exact.units g l) in
    subst (λ z. unit_part instance table g z ≤ℤ exact_part instance table g (exact.unit_value g)
    (exact.exact_value g)) (sym same)
    (max-right (exact.exact_value g) (unit_part instance table g (exact.unit_value g))))

-- a child's schedules are its parent's
to_parent : (instance : Instance) (node : Node) (g t : ℕ) (on : Bool) (k q : ℕ) (x : UnitSchedule)
    → IsUnitSchedule instance (child node g t on) k q x → IsUnitSchedule instance node k q x
to_parent instance node g t on k q x is = grind (arith, ints, parent_agrees, is)

child_exact_bound : (instance : Instance) (node : Node) (g t : ℕ) (on : Bool) (table : Table) (k : ℕ) (e f : ℤ)
    → IsExactUnitValue instance node table k e → IsExactUnitValue instance (child node g t on) table k f → e ≤ℤ f
child_exact_bound instance node g t on table k e f parent own =
    own.greatest e (λ q x is. parent.bound q x (to_parent instance node g t on k q x is))

-- and their values are no less
pub exact_values_rise : ExactValuesRise
exact_values_rise instance node g t on table v w parent own =
    total-le instance table v w (λ k. exact_part instance table k (parent.unit_value k) (parent.exact_value k))
    (λ k. exact_part instance table k (own.unit_value k) (own.exact_value k)) parent.total own.total (λ k l.
    let value = child_unit_bound instance node g t on table k _ _ (parent.units k l) (own.units k l) in
    max-mono (parent.exact_value k) (unit_part instance table k (parent.unit_value k)) (own.exact_value k)
    (unit_part instance table k (own.unit_value k))
    (child_exact_bound instance node g t on table k _ _ (parent.exact_units k l) (own.exact_units k l))
    (omega (arith, linear, value)))
