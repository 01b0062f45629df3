-- What the exact values of units add to a node's value: one unit more, and all of them; and that they are enough where some of them are.
use Rattle.std.proofs.Common.{◌≡◌, ℕ, suc, ◌+◌, ◌-◌, ◌<◌, ◌≤◌, ◌⊎◌, ⊎_elim, ◌↔◌, ◌==◌, Bool, true, IsTrue, inl, inr, refl, sym, ap, subst, ◌∙◌, arith, add-one, ℤ, pos, ◌+ℤ◌, ◌-ℤ◌, ◌≤ℤ◌, Option, Some, None, MatchOption, if◌then◌else◌}
use Rattle.std.specs.Int.{int_max}
use Rattle.std.proofs.lemmas.Int.{ints, clamps}
use Rattle.std.proofs.lemmas.Bool.{cond-true, cond-false, eq-eqb, ne_eqb, cases_lt}
use Rattle.uc_model.specs.Prelude.{IsLawfulInstance, sum_below, thermal_count}
use Rattle.uc_model.proofs.Common.{linear, sum_below-same, sum_below-split, sum_below-sub, sum_below_nonneg}
use Rattle.dual_model.specs.Prelude.{HasNoUnitSchedule, HasUnscheduledUnit, IsExactNodeValue, IsExactUnitValue, exact_part, HasEmptyUnit, IsNodeValue, renewables_value, system_value, unit_part, IsUnitValueOf, IsUnitValue}
use Rattle.dual_model.specs.Fixings.{HasNoPattern}
use Rattle.dual_model.specs.declared.table.Table.{Table}
use Rattle.dual_model.proofs.ExactValues.{exact_unit_values_are_unique}
use Rattle.dual_model.proofs.NodeValues.{unit_value_unique}
use Rattle.dual_model.proofs.ValueKinds.{values_exist}
use Rattle.leaf_values.specs.Entries.{UnitEntry, IsEntryOf}
use Rattle.leaf_values.specs.Paths.{Instance, Node}
use Rattle.leaf_values.specs.Reached.{HasValueFrom}
use Rattle.leaf_values.specs.inside.ExactTotals.{IsGained, exact_gain, gain_of}
use Rattle.leaf_values.specs.inside.Totals.{IsPart, value_of}

-- ---- a function with another value at one place
abbrev with_value : (ℕ → ℤ) → ℕ → ℤ → ℕ → ℤ
with_value f n v k = if k == n then v else f k

at_place : (f : ℕ → ℤ) (n : ℕ) (v : ℤ) → with_value f n v n ≡ v
at_place f n v = cond-true (n == n) v (f n) (eq-eqb n n refl)

elsewhere : (f : ℕ → ℤ) (n k : ℕ) (v : ℤ) → k < n → with_value f n v k ≡ f k
elsewhere f n k v l = cond-false (k == n) v (f k) (ne_eqb k n (λ e. omega (arith, l, e)))

module _ (instance : Instance) (table : Table) (node : Node) (plain : ℤ) where
  pub no-units : IsGained instance table node plain 0 plain
  no-units = record {
    unit_value = λ g. pos 0;
    exact_value = λ g. pos 0;
    units = λ g h. absurd (omega (arith, h));
    exact_units = λ g h. absurd (omega (arith, h));
    total = omega (arith, linear);
  }

  pub one-more : (n : ℕ) (v u e w : ℤ) → IsGained instance table node plain n v → IsUnitValue instance node table n u → IsExactUnitValue instance node table n e
      → w ≡ v +ℤ exact_gain instance table n u e → IsGained instance table node plain (n + 1) w
  one-more n v u e w so_far unit exact sum =
      let units = with_value so_far.unit_value n u in
      let exacts = with_value so_far.exact_value n e in
      let here : exact_gain instance table n (units n) (exacts n) ≡ exact_gain instance table n u e =
      λ i. exact_gain instance table n (at_place so_far.unit_value n u i) (at_place so_far.exact_value n e i) in
      let before = sum_below-same n (λ g. exact_gain instance table g (units g) (exacts g))
      (λ g. exact_gain instance table g (so_far.unit_value g) (so_far.exact_value g))
      (λ g l. λ i. exact_gain instance table g (elsewhere so_far.unit_value n g u l i) (elsewhere so_far.exact_value n g e l i)) in
      let next = next-sum n v w (λ g. exact_gain instance table g (units g) (exacts g))
      (λ g. exact_gain instance table g (so_far.unit_value g) (so_far.exact_value g)) (exact_gain instance table n u e) here before so_far.total sum in
      record {
        unit_value = units;
        exact_value = exacts;
        units = λ g l. ⊎_elim
            (λ (less : g < n). subst (IsUnitValue instance node table g) (sym (elsewhere so_far.unit_value n g u less)) (so_far.units g less))
            (λ (last : n ≤ g). let same : n ≡ g = omega (arith, l, last) in
            subst (λ k. IsUnitValue instance node table k (units k)) same (subst (IsUnitValue instance node table n) (sym (at_place so_far.unit_value n u)) unit))
            (cases_lt g n);
        exact_units = λ g l. ⊎_elim
            (λ (less : g < n). subst (IsExactUnitValue instance node table g) (sym (elsewhere so_far.exact_value n g e less)) (so_far.exact_units g less))
            (λ (last : n ≤ g). let same : n ≡ g = omega (arith, l, last) in
            subst (λ k. IsExactUnitValue instance node table k (exacts k)) same (subst (IsExactUnitValue instance node table n) (sym (at_place so_far.exact_value n e)) exact))
            (cases_lt g n);
        total = next ∙ ap (λ k. plain +ℤ sum_below k (λ g. exact_gain instance table g (units g) (exacts g))) (sym (add-one n));
      }
    where
      next-sum : (n : ℕ) (v w : ℤ) (f g : ℕ → ℤ) (gain : ℤ) → f n ≡ gain → sum_below n f ≡ sum_below n g → v ≡ plain +ℤ sum_below n g → w ≡ v +ℤ gain
          → w ≡ plain +ℤ sum_below (suc n) f
      next-sum n v w f g gain here before old sum = omega (arith, linear, here, before, old, sum)

  -- ---- the next unit
  module _ (g : ℕ) (within : g < thermal_count instance) (entry : UnitEntry) (is : IsEntryOf instance table g entry)
      (value : IsUnitValueOf instance node table g entry.value) where
    -- one that isn't there has no schedule
    pub unscheduled : (exact part : Option ℤ) → MatchOption exact (HasNoUnitSchedule instance node g) (IsExactUnitValue instance node table g) → IsPart entry part
        → gain_of exact part ≡ None → HasUnscheduledUnit instance node
    unscheduled None part none is_part e = record { unit = g; within = within; none = none }
    unscheduled (Some v) None some is_part e =
        let none : HasNoPattern instance node g = subst (IsUnitValueOf instance node table g) is_part value in
        absurd (none some.x.on some.is_schedule.pattern)
    unscheduled (Some v) (Some p) some is_part e = absurd (cc)

    pub next-gain : (exact part : Option ℤ) (v p w : ℤ) → MatchOption exact (HasNoUnitSchedule instance node g) (IsExactUnitValue instance node table g)
        → IsPart entry part → gain_of exact part ≡ Some p → IsGained instance table node plain g v → w ≡ v +ℤ p
        → IsGained instance table node plain (g + 1) w
    next-gain None part v p w none is_part e so_far sum = absurd (cc)
    next-gain (Some x) None v p w some is_part e so_far sum = absurd (cc)
    next-gain (Some x) (Some y) v p w some is_part e so_far sum =
        let u = value_of entry in
        let own = subst (IsUnitValueOf instance node table g) is_part.0 value in
        let constant = is_part.1 ∙ ap (λ z. u +ℤ z) is.constant in
        let gain : int_max x y -ℤ y ≡ p = cc in
        let same : exact_gain instance table g u x ≡ p = (λ i. int_max x (sym constant i) -ℤ sym constant i) ∙ gain in
        one-more g v u x w so_far own some (sum ∙ ap (λ z. v +ℤ z) (sym same))

  -- ---- all units
  module _ (value : IsNodeValue instance node table plain) (v : ℤ) (exact : IsExactNodeValue instance node table v) where
    abbrev gain-at : ℕ → ℤ
    gain-at g = exact_gain instance table g (exact.unit_value g) (exact.exact_value g)

    -- no unit loses
    gain-nonneg : (g : ℕ) → pos 0 ≤ℤ gain-at g
    gain-nonneg g = nonneg (exact.exact_value g) (unit_part instance table g (exact.unit_value g))
      where
        nonneg : (a b : ℤ) → pos 0 ≤ℤ (int_max a b -ℤ b)
        nonneg a b = omega (arith, ints, clamps)

    -- the exact value is the value with what all units gain
    all-gains : v ≡ plain +ℤ sum_below (thermal_count instance) gain-at
    all-gains =
        let count = thermal_count instance in
        let parts = λ (g : ℕ). unit_part instance table g (exact.unit_value g) in
        let units = sum_below-same count (λ g. unit_part instance table g (value.unit_value g)) parts
        (λ g l. ap (unit_part instance table g) (unit_value_unique instance node table g _ _ (value.units g l) (exact.units g l))) in
        let apart = sum_below-sub count (λ g. exact_part instance table g (exact.unit_value g) (exact.exact_value g)) parts in
        totals plain v (system_value instance table) (renewables_value instance table)
        (sum_below count (λ g. unit_part instance table g (value.unit_value g))) (sum_below count parts)
        (sum_below count (λ g. exact_part instance table g (exact.unit_value g) (exact.exact_value g))) (sum_below count gain-at)
        value.total exact.total units apart
      where
        totals : (p w s r a b e d : ℤ) → p ≡ s +ℤ a +ℤ r → w ≡ s +ℤ e +ℤ r → a ≡ b → d ≡ e -ℤ b → w ≡ p +ℤ d
        totals p w s r a b e d total whole same apart = omega (arith, linear, total, whole, same, apart)

    -- what some of them gain is as much of it
    some-gains : (n : ℕ) (w : ℤ) → n ≤ thermal_count instance → IsGained instance table node plain n w → w ≡ plain +ℤ sum_below n gain-at
    some-gains n w few so_far =
        so_far.total
        ∙ ap (λ z. plain +ℤ z) (sum_below-same n _ _ (λ g l.
        let within : g < thermal_count instance = omega (arith, l, few) in
        let unit = unit_value_unique instance node table g _ _ (so_far.units g l) (exact.units g within) in
        let own = exact_unit_values_are_unique instance node table g _ _ (so_far.exact_units g l) (exact.exact_units g within) in
        λ i. exact_gain instance table g (unit i) (own i)))

    pub gained-below : (n : ℕ) (w : ℤ) → n ≤ thermal_count instance → IsGained instance table node plain n w → w ≤ℤ v
    gained-below n w few so_far =
        let count = thermal_count instance in
        let rest = sum_below_nonneg (count - n) (λ k. gain-at (n + k)) (λ k l. gain-nonneg (n + k)) in
        let both = sum_below-split n (count - n) gain-at in
        let whole : n + (count - n) ≡ count = omega (arith, few) in
        let all = ap (λ (m : ℕ). sum_below m gain-at) whole in
        less w v (sum_below n gain-at) (sum_below (count - n) (λ k. gain-at (n + k))) (sum_below count gain-at) rest (sym all ∙ both) (some-gains n w few so_far) all-gains
      where
        less : (w v a b d : ℤ) → pos 0 ≤ℤ b → d ≡ a +ℤ b → w ≡ plain +ℤ a → v ≡ plain +ℤ d → w ≤ℤ v
        less w v a b d rest both part total = omega (arith, linear, rest, both, part, total)

    pub gained-whole : (w : ℤ) → IsGained instance table node plain (thermal_count instance) w → w ≡ v
    gained-whole w so_far = some-gains (thermal_count instance) w (omega arith) so_far ∙ sym all-gains

-- ---- what is answered
-- enough is reached, or some unit has no schedule of its own
abbrev pub Reaches : Instance → Node → Table → ℤ → Type 0
Reaches instance node table least = HasValueFrom true instance node table least ⊎ HasUnscheduledUnit instance node

module _ (instance : Instance) (table : Table) (node : Node) (plain least : ℤ) where
  -- a part of the sum is enough
  pub enough-so-far : (n : ℕ) (w : ℤ) → IsLawfulInstance instance → n ≤ thermal_count instance → IsNodeValue instance node table plain
      → IsGained instance table node plain n w → least ≤ℤ w → Reaches instance node table least
  enough-so-far n w lawful few value so_far enough = ⊎_elim
      (λ (found : (v : ℤ) × IsExactNodeValue instance node table v).
      let below = gained-below instance table node plain value found.0 found.1 n w few so_far in
      inl (record { value = found.0; is_value = found.1; enough = omega (arith, linear, below, enough) }))
      (λ (none : HasUnscheduledUnit instance node). inr none)
      (values_exist true instance node table lawful)

  -- the whole sum isn't
  pub all-units : (w : ℤ) → IsNodeValue instance node table plain → IsGained instance table node plain (thermal_count instance) w
      → Reaches instance node table least → least ≤ℤ w
  all-units w value so_far (inl has) =
      let whole = gained-whole instance table node plain value has.value has.is_value w so_far in
      subst (λ z. least ≤ℤ z) (sym whole) has.enough
  all-units w value so_far (inr none) =
      let own = so_far.exact_units none.unit none.within in
      absurd (none.none own.q own.x own.is_schedule)

  pub told-at-end : (w : ℤ) (told : Bool) → IsLawfulInstance instance → IsNodeValue instance node table plain
      → IsGained instance table node plain (thermal_count instance) w → IsTrue told ↔ (least ≤ℤ w) → IsTrue told ↔ Reaches instance node table least
  told-at-end w told lawful value so_far test = (
    (λ said. enough-so-far (thermal_count instance) w lawful (omega arith) value so_far (test.0 said)),
    (λ reaches. test.1 (all-units w value so_far reaches)),
  )

-- ---- a node without a value
pub empty-unscheduled : (instance : Instance) (node : Node) → HasEmptyUnit instance node → HasUnscheduledUnit instance node
empty-unscheduled instance node empty = record { unit = empty.unit; within = empty.within; none = λ q x is. empty.empty x.on is.pattern }
