-- The numbers that are answered are the uplifts of the schedule.
use Rattle.std.proofs.Common.{◌≡◌, ℕ, ◌<◌, Bool, true, false, sym, ap, subst, ◌∙◌, arith, ℤ, pos, ◌+ℤ◌, ◌-ℤ◌, ◌*ℤ◌, neg_ℤ, ◌≤ℤ◌, int_lt, slice_index_or, if◌then◌else◌}
use Rattle.std.specs.Int.{int_max}
use Rattle.std.proofs.lemmas.List.{get_or_default}
use Rattle.uc_model.specs.Prelude.{sum_below, thermal_count, renewable_count, renewable_maximum, renewable_minimum, commitment_of, printed_cost}
use Rattle.uc_model.proofs.Common.{linear, mul-sub, sum_below-same, sum_below-sub}
use Rattle.dual_model.specs.Prelude.{IsValued, constant_at, node_total, renewable_value, IsLawfulTable, pi_at, root, IsUnitValue}
use Rattle.dual_model.specs.declared.valued.Valued.{Valued}
use Rattle.dual_model.proofs.NodeValues.{unit_value_unique}
use Rattle.schedule_check.specs.SizedNumbers.{output_at}
use Rattle.uplift.specs.Uplift.{Instance, Printed, Table, Uplifts, AreNonnegative, AreUplifts, ramp_slack, renewable_of, renewable_uplift, reserve_slack, shed_uplift, thermal_of, thermal_uplift}
use Rattle.uplift.specs.inside.Lists.{AreRenewableUplifts, AreThermalUplifts, best_output, number_in, renewable_uplift_at, sum_in, uplift_by}
use Rattle.uplift.proofs.Gap.{gap_is}
use Rattle.uplift.proofs.Lists.{sum_is}
use Rattle.uplift.proofs.Signs.{ramp_nonneg, renewable_nonneg, reserve_nonneg, shed_nonneg}
use Rattle.uplift.proofs.UnitSigns.{value-le}
use Rattle.uplift.proofs.Whole.{IsWhole}

-- ---- renewable units, period by period
period_is : (pi least most output : ℤ)
    → pi *ℤ (best_output pi least most -ℤ output)
    ≡ neg_ℤ (pi *ℤ output) -ℤ (if int_lt (pos 0) pi then neg_ℤ (pi *ℤ most) else neg_ℤ (pi *ℤ int_max least (pos 0)))
period_is pi least most output =
    mul-sub pi (best_output pi least most) output ∙ chosen (int_lt (pos 0) pi) most (int_max least (pos 0))
  where
    chosen : (b : Bool) (x y : ℤ) → pi *ℤ (if b then x else y) -ℤ pi *ℤ output ≡ neg_ℤ (pi *ℤ output) -ℤ (if b then neg_ℤ (pi *ℤ x) else neg_ℤ (pi *ℤ y))
    chosen true x y = omega (arith, linear)
    chosen false x y = omega (arith, linear)

renewable_is : (instance : Instance) (printed : Printed) (table : Table) (w : ℕ)
    → sum_below instance.periods (renewable_uplift_at instance printed table w) ≡ renewable_uplift instance printed table w
renewable_is instance printed table w =
    sum_below-same instance.periods (renewable_uplift_at instance printed table w)
    (λ t. neg_ℤ (pi_at table t *ℤ output_at printed w t) -ℤ renewable_value instance table w t)
    (λ t ht. period_is (pi_at table t) (renewable_minimum instance w t) (renewable_maximum instance w t) (output_at printed w t))
    ∙ sum_below-sub instance.periods (λ t. neg_ℤ (pi_at table t *ℤ output_at printed w t)) (renewable_value instance table w)

-- ---- all of them
-- what is known of the numbers that are answered
pub record IsComputed (instance : Instance) (printed : Printed) (table : Table) (valued : Valued) (uplifts : Uplifts) : Type 0 where
  pub thermal : AreThermalUplifts instance printed table valued.parts uplifts.thermal
  pub renewable : AreRenewableUplifts instance printed table uplifts.renewable
  pub shed : uplifts.shed ≡ shed_uplift instance printed table
  pub reserve : uplifts.reserve_slack ≡ reserve_slack instance printed table
  pub total : uplifts.total ≡ table.k *ℤ printed_cost instance printed -ℤ valued.total
  pub rest : uplifts.ramp_slack
      ≡ uplifts.total -ℤ ((uplifts.shed +ℤ uplifts.reserve_slack) +ℤ (sum_in uplifts.thermal +ℤ sum_in uplifts.renewable))

module _ (instance : Instance) (printed : Printed) (table : Table) (valued : Valued) (uplifts : Uplifts) where
  -- a unit's value in the total is that of its part
  value_is : (value : IsValued instance root table valued) → (g : ℕ) → g < thermal_count instance
      → number_in valued.parts g -ℤ constant_at instance table g ≡ value.total.unit_value g
  value_is value g hg =
      let part = value.part g hg in
      let own : IsUnitValue instance root table g part.value = record { on = commitment_of (slice_index_or valued.patterns g (record { low = 0; high = 0 })); best = part.best } in
      let same = unit_value_unique instance root table g part.value (value.total.unit_value g) own (value.total.units g hg) in
      omega (arith, linear, part.is, same)

  thermal_is : (value : IsValued instance root table valued) → IsComputed instance printed table valued uplifts → (g : ℕ) → g < thermal_count instance
      → thermal_of uplifts g ≡ thermal_uplift instance printed table g (value.total.unit_value g)
  thermal_is value computed g hg =
      computed.thermal.each g hg ∙ ap (thermal_uplift instance printed table g) (value_is value g hg)

  renewable_of_is : IsComputed instance printed table valued uplifts → (w : ℕ) → w < renewable_count instance
      → renewable_of uplifts w ≡ renewable_uplift instance printed table w
  renewable_of_is computed w hw = computed.renewable.each w hw ∙ renewable_is instance printed table w

  -- what the other numbers leave of the gap
  ramp_is : IsWhole instance printed → IsLawfulTable instance table → (value : IsValued instance root table valued)
      → IsComputed instance printed table valued uplifts → uplifts.ramp_slack ≡ ramp_slack instance printed table
  ramp_is h lawful value computed =
      let gap = gap_is instance printed table value.total.unit_value h lawful.size in
      let total : uplifts.total ≡ table.k *ℤ printed_cost instance printed -ℤ node_total instance table value.total.unit_value =
      computed.total ∙ ap (λ z. table.k *ℤ printed_cost instance printed -ℤ z) value.total.total in
      let thermal : sum_in uplifts.thermal ≡ sum_below (thermal_count instance) (λ g. thermal_uplift instance printed table g (value.total.unit_value g)) =
      sum_is (thermal_count instance) (uplift_by instance printed table valued.parts) uplifts.thermal computed.thermal
      ∙ sum_below-same (thermal_count instance) (uplift_by instance printed table valued.parts) (λ g. thermal_uplift instance printed table g (value.total.unit_value g))
      (λ g hg. ap (thermal_uplift instance printed table g) (value_is value g hg)) in
      let renewable : sum_in uplifts.renewable ≡ sum_below (renewable_count instance) (renewable_uplift instance printed table) =
      sum_is (renewable_count instance) (λ w. sum_below instance.periods (renewable_uplift_at instance printed table w)) uplifts.renewable computed.renewable
      ∙ sum_below-same (renewable_count instance) (λ w. sum_below instance.periods (renewable_uplift_at instance printed table w)) (renewable_uplift instance printed table)
      (λ w hw. renewable_is instance printed table w) in
      omega (arith, linear, gap, total, thermal, renewable, computed.rest, computed.shed, computed.reserve)

  nonnegative : IsWhole instance printed → IsLawfulTable instance table → (value : IsValued instance root table valued)
      → IsComputed instance printed table valued uplifts → AreNonnegative uplifts
  nonnegative h lawful value computed = record {
    thermal = λ k d l.
        let within : k < thermal_count instance = omega (arith, l, computed.thermal.many) in
        let sign : pos 0 ≤ℤ thermal_uplift instance printed table k (value.total.unit_value k) =
        omega (arith, linear, value-le instance printed table k (value.total.unit_value k) h within lawful.size.form.scale (value.total.units k within)) in
        subst (λ z. pos 0 ≤ℤ z) (sym (get_or_default uplifts.thermal k d (pos 0) l ∙ thermal_is value computed k within)) sign;
    renewable = λ k d l.
        let within : k < renewable_count instance = omega (arith, l, computed.renewable.many) in
        subst (λ z. pos 0 ≤ℤ z) (sym (get_or_default uplifts.renewable k d (pos 0) l ∙ renewable_of_is computed k within))
        (renewable_nonneg instance printed table k h within);
    shed = subst (λ z. pos 0 ≤ℤ z) (sym computed.shed) (shed_nonneg instance printed table h);
    reserve = subst (λ z. pos 0 ≤ℤ z) (sym computed.reserve) (reserve_nonneg instance printed table h lawful.signs);
    ramp = subst (λ z. pos 0 ≤ℤ z) (sym (ramp_is h lawful value computed)) (ramp_nonneg instance printed table h lawful.signs);
  }

  pub uplifts_are : IsWhole instance printed → IsLawfulTable instance table → IsValued instance root table valued
      → IsComputed instance printed table valued uplifts → AreUplifts instance printed table uplifts
  uplifts_are h lawful value computed = record {
    thermal_units = computed.thermal.many;
    thermal = λ g hg. record { value = value.total.unit_value g; least = value.total.units g hg; is = thermal_is value computed g hg };
    renewable_units = computed.renewable.many;
    renewable = λ w hw. renewable_of_is computed w hw;
    shed = computed.shed;
    reserve = computed.reserve;
    ramp = ramp_is h lawful value computed;
    total = record { value = valued.total; bound = value.total; is = computed.total };
    signs = nonnegative h lawful value computed;
    sum = omega (arith, linear, computed.rest);
  }
