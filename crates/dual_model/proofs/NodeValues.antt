-- The value of a node: it is unique, it exists where each unit has a pattern, it bounds the cost of each of the node's
-- schedules, and a child's is at least its parent's.
use Rattle.std.proofs.Common.{◌≡◌, ℕ, zero, suc, ◌<◌, ◌≤◌, ◌⊎◌, inl, inr, length, Bool, false, refl, sym, ap, subst, ◌∙◌, arith, ⊎_elim, ℤ, pos, ◌+ℤ◌, ◌≤ℤ◌, IsTrue, Option, Some, None, option_map, unwrap_or}
use Rattle.std.proofs.lemmas.Bool.{and_parts}
use Rattle.std.proofs.lemmas.List.Folds.{list_all-append}
use Rattle.uc_model.specs.Prelude.{sum_below, Commitment, Schedule, thermal_unit, thermal_count, IsLawfulInstance}
use Rattle.uc_model.proofs.Common.{linear, le_antisymm, sum_below-same, sum_below-le}
use Rattle.dual_model.specs.Prelude.{Instance, Node, unit_agrees, HasEmptyUnit, IsUnitValue, Table, constant_at, unit_part, system_value, renewables_value, IsNodeValue, child, IsScheduleAt, WeakDualityOfLeastStarts, ValuesAreUnique, ValuesExist, ValuesExistAtSchedules, ChildBound}
use Rattle.dual_model.proofs.Agreement.{pattern-obeying}
use Rattle.dual_model.proofs.Bound.{bound_from}
use Rattle.dual_model.proofs.UnitValues.{unit_value_of, IsUnitAnswer, unit_value_is, allowed_value}

-- ---- it is unique
pub unit_value_unique : (instance : Instance) (node : Node) (table : Table) (g : ℕ) (v w : ℤ) → IsUnitValue instance node table g v
    → IsUnitValue instance node table g w → v ≡ w
unit_value_unique instance node table g v w first second =
    le_antisymm v w
    (first.best.least second.on w second.best.pattern second.best.value)
    (second.best.least first.on v first.best.pattern first.best.value)

pub values_are_unique : ValuesAreUnique false
values_are_unique instance node table v w first second =
    let constant = constant_at instance table in
    let units : sum_below (thermal_count instance) (λ g. first.unit_value g +ℤ constant g)
    ≡ sum_below (thermal_count instance) (λ g. second.unit_value g +ℤ constant g) =
    sum_below-same (thermal_count instance) _ _ (λ g l.
    ap (λ z. z +ℤ constant g) (unit_value_unique instance node table g _ _ (first.units g l) (second.units g l))) in
    first.total ∙ ap (λ z. system_value instance table +ℤ z +ℤ renewables_value instance table) units ∙ sym second.total

-- ---- it exists
-- the sum of two numbers, where both are there
abbrev pub both_sum : Option ℤ → Option ℤ → Option ℤ
both_sum None other = None
both_sum (Some a) None = None
both_sum (Some a) (Some b) = Some (a +ℤ b)

-- what the first n units add to the bound, where each has a value
unfoldable pub units_value_of : Instance → Node → Table → ℕ → Option ℤ
units_value_of instance node table zero = Some (pos 0)
units_value_of instance node table (suc n) =
    both_sum (units_value_of instance node table n)
    (option_map (unit_part instance table n) (unit_value_of instance node table n))

-- the value of the node at the table, if it has one
unfoldable pub node_value_of : Instance → Node → Table → Option ℤ
node_value_of instance node table =
    option_map (λ units. system_value instance table +ℤ units +ℤ renewables_value instance table)
    (units_value_of instance node table (thermal_count instance))

abbrev unit_value_or_zero : Instance → Node → Table → ℕ → ℤ
unit_value_or_zero instance node table g = unwrap_or (unit_value_of instance node table g) (pos 0)

-- there is a period, and each unit has a point: what a value needs of the instance
pub record HasPoints (instance : Instance) : Type 0 where
  pub some : 0 < instance.periods
  pub each : (g : ℕ) → g < thermal_count instance → 0 < length (thermal_unit instance g).points

has_points : (instance : Instance) → IsLawfulInstance instance → HasPoints instance
has_points instance lawful = record { some = lawful.periods.0; each = λ g l. (lawful.thermal g l).points.0 }

-- the first n units have values, whose sum with their constants is s
record HaveValues (instance : Instance) (node : Node) (table : Table) (n : ℕ) (s : ℤ) : Type 0 where
  each : (g : ℕ) → g < n → IsUnitValue instance node table g (unit_value_or_zero instance node table g)
  total : s ≡ sum_below n (λ g. unit_part instance table g (unit_value_or_zero instance node table g))

-- the answer is the sum of the first n units' values, or some unit has no pattern
abbrev AreUnitsAnswer : Instance → Node → Table → ℕ → Option ℤ → Type 0
AreUnitsAnswer instance node table n None = HasEmptyUnit instance node
AreUnitsAnswer instance node table n (Some s) = HaveValues instance node table n s

one_more : (instance : Instance) (node : Node) (table : Table) (n : ℕ) → n < thermal_count instance → (before own : Option ℤ)
    → AreUnitsAnswer instance node table n before → IsUnitAnswer instance node table n own
    → unit_value_of instance node table n ≡ own
    → AreUnitsAnswer instance node table (suc n) (both_sum before (option_map (unit_part instance table n) own))
one_more instance node table n within None own empty answer same = empty
one_more instance node table n within (Some s) None values none same =
    record { unit = n; within = within; empty = none }
one_more instance node table n within (Some s) (Some v) values value same =
    let is_own : unit_value_or_zero instance node table n ≡ v = ap (λ o. unwrap_or o (pos 0)) same in
    record {
      each = λ g l. ⊎_elim
          (λ (less : g < n). values.each g less)
          (λ (last : n ≡ g).
          subst (λ k. IsUnitValue instance node table k (unit_value_or_zero instance node table k)) last
          (subst (λ z. IsUnitValue instance node table n z) (sym is_own) value))
          (grind arith);
      total = λ i. values.total i +ℤ unit_part instance table n (sym is_own i);
    }

units_value_is : (instance : Instance) (node : Node) (table : Table) → HasPoints instance → (n : ℕ) → n ≤ thermal_count instance
    → AreUnitsAnswer instance node table n (units_value_of instance node table n)
unfolding units_value_of
units_value_is instance node table points zero most = record { each = λ g l. absurd (omega arith); total = refl }
units_value_is instance node table points (suc n) most =
    one_more instance node table n (omega arith) _ _
    (units_value_is instance node table points n (omega arith))
    (unit_value_is instance node table n points.some (points.each n (omega arith)))
    refl

-- the answer is the node's value, or some unit has no pattern there
abbrev pub IsNodeAnswer : Instance → Node → Table → Option ℤ → Type 0
IsNodeAnswer instance node table None = HasEmptyUnit instance node
IsNodeAnswer instance node table (Some v) = IsNodeValue instance node table v

whole_value : (instance : Instance) (node : Node) (table : Table) (units : Option ℤ)
    → AreUnitsAnswer instance node table (thermal_count instance) units
    → IsNodeAnswer instance node table
    (option_map (λ s. system_value instance table +ℤ s +ℤ renewables_value instance table) units)
whole_value instance node table None empty = empty
whole_value instance node table (Some s) values = record {
  unit_value = unit_value_or_zero instance node table;
  units = values.each;
  total = ap (λ z. system_value instance table +ℤ z +ℤ renewables_value instance table) values.total;
}

pub node_value_is : (instance : Instance) (node : Node) (table : Table) → HasPoints instance
    → IsNodeAnswer instance node table (node_value_of instance node table)
unfolding node_value_of
node_value_is instance node table points =
    whole_value instance node table _ (units_value_is instance node table points (thermal_count instance) (omega arith))

answered : (instance : Instance) (node : Node) (table : Table) (answer : Option ℤ) → IsNodeAnswer instance node table answer
    → ((v : ℤ) × IsNodeValue instance node table v) ⊎ HasEmptyUnit instance node
answered instance node table None empty = inr empty
answered instance node table (Some v) is_value = inl (v, is_value)

pub values_exist : ValuesExist false
values_exist instance node table lawful = answered instance node table _ (node_value_is instance node table (has_points instance lawful))

-- where a schedule obeys and agrees, no unit is without a pattern
pub not_empty : (instance : Instance) (node : Node) (q : ℕ) (x : Schedule) → IsLawfulInstance instance → IsScheduleAt instance node q x
    → ¬ HasEmptyUnit instance node
not_empty instance node q x lawful schedule empty =
    empty.empty (x.thermal empty.unit).on
    (pattern-obeying instance node q x empty.unit lawful.periods.0 schedule.obeys schedule.agrees empty.within
    (lawful.thermal empty.unit empty.within))

pub values_exist_at_schedules : ValuesExistAtSchedules false
values_exist_at_schedules instance node table q x lawful schedule = ⊎_elim
    (λ (found : (v : ℤ) × IsNodeValue instance node table v). found)
    (λ (empty : HasEmptyUnit instance node). absurd (not_empty instance node q x lawful schedule empty))
    (values_exist instance node table lawful)

-- ---- it is a bound
pub least_starts : WeakDualityOfLeastStarts false
least_starts instance node table v q x lawful bounds is_value schedule =
    let pattern = λ (g : ℕ) (l : g < thermal_count instance).
    pattern-obeying instance node q x g lawful.periods.0 schedule.obeys schedule.agrees l (lawful.thermal g l) in
    bound_from instance q x table schedule.obeys bounds.size bounds.signs node v is_value pattern
    (λ g l. allowed_value instance table g (x.thermal g).on (lawful.thermal g l).points.0 (pattern g l).allowed)

-- ---- children
-- what agrees with a child agrees with its parent
pub parent_agrees : (node : Node) (g t : ℕ) (on : Bool) (k : ℕ) (pattern : Commitment) → IsTrue (unit_agrees (child node g t on) k pattern)
    → IsTrue (unit_agrees node k pattern)
parent_agrees node g t on k pattern kept = grind (arith, linear, list_all-append, and_parts, kept)

pub child_unit_bound : (instance : Instance) (node : Node) (g t : ℕ) (on : Bool) (table : Table) (k : ℕ) (v w : ℤ)
    → IsUnitValue instance node table k v → IsUnitValue instance (child node g t on) table k w → v ≤ℤ w
child_unit_bound instance node g t on table k v w parent own =
    parent.best.least own.on w
    (record { allowed = own.best.pattern.allowed; agrees = parent_agrees node g t on k own.on own.best.pattern.agrees })
    own.best.value

child_value_bound : (instance : Instance) (node : Node) (g t : ℕ) (on : Bool) (table : Table) (v w : ℤ)
    → IsNodeValue instance node table v → IsNodeValue instance (child node g t on) table w → v ≤ℤ w
child_value_bound instance node g t on table v w parent own =
    let constant = constant_at instance table in
    let units : sum_below (thermal_count instance) (λ k. parent.unit_value k +ℤ constant k)
    ≤ℤ sum_below (thermal_count instance) (λ k. own.unit_value k +ℤ constant k) =
    sum_below-le (thermal_count instance) (λ k. parent.unit_value k +ℤ constant k) (λ k. own.unit_value k +ℤ constant k)
    (λ k l.
    let below = child_unit_bound instance node g t on table k _ _ (parent.units k l) (own.units k l) in
    omega (arith, linear)) in
    let first = parent.total in
    let second = own.total in
    omega (arith, linear)

pub child_bound : ChildBound false
child_bound instance node g t on table v lawful is_value = ⊎_elim
    (λ (found : (w : ℤ) × IsNodeValue instance (child node g t on) table w).
    inl (found.0, found.1, child_value_bound instance node g t on table v found.0 is_value found.1))
    (λ (empty : HasEmptyUnit instance (child node g t on)). inr empty)
    (values_exist instance (child node g t on) table lawful)
