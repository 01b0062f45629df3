-- What the list of values says of a cheapest end, and what of it the chosen amounts print.
-- Cite by `use Rattle.dispatch_schedule.proofs.Endings.{..}`.
use Rattle.std.proofs.Common.{◌≡◌, ℕ, zero, suc, ◌<◌, ◌≤◌, ⊎_elim, refl, sym, ap, subst, ◌∙◌, arith, lit<, false, List, [], length, slice_index_or, ℤ, pos, ◌+ℤ◌, ◌*ℤ◌, ◌≤ℤ◌, ◌<ℤ◌, unsigned_abs, int_div}
use Rattle.std.specs.Int.{◌∣◌}
use Rattle.std.proofs.lemmas.Bool.{cases_lt}
use Rattle.std.proofs.lemmas.Int.{ints, by_lt_z}
use Rattle.std.proofs.lemmas.List.Elements.{All-from_get_or}
use Rattle.std.proofs.Math.ListN.{get_or-eq_default}
use Rattle.uc_model.specs.Prelude.{sum_below, Commitment, IsLawfulInstance, HasShapeOf, cell_at, thermal_unit, thermal_count, renewable_count, renewable_minimum}
use Rattle.uc_model.specs.declared.instance.Instance.{Instance}
use Rattle.uc_model.specs.declared.limits.TheConstants.{MAX_POWER}
use Rattle.uc_model.specs.declared.pattern.Pattern.{Pattern}
use Rattle.uc_model.specs.declared.schedule.Printed.{Printed}
use Rattle.uc_model.proofs.Common.{linear, mul_comm, mul-add, mul_left_comm, mul_nonneg, mul-zero, zero-mul, mul-le-mul_right, le_from_mul, pos_nonneg, sum_below-same}
use Rattle.schedule_check.specs.SizedNumbers.{HasSizedNumbers, IsSized, IsSizedCell, output_at}
use Rattle.start_costs.specs.Cheapest.{HasLeastCategory}
use Rattle.fractions.specs.declared.fraction.Fraction.{Fraction}
use Rattle.fractions.specs.Fractions.{joined, JoinForms}
use Rattle.pivot_run.specs.Prelude.{IsNarrow, Table}
use Rattle.dispatch_program.specs.Prelude.{AreShares, basis_values, AreValues}
use Rattle.dispatch_program.proofs.BasicValues.{shares_exist}
use Rattle.dispatch_rules.specs.declared.amount.Amount.{Amount}
use Rattle.dispatch_rules.specs.declared.amount.Amount.TheVariants.{Shed}
use Rattle.dispatch_rules.specs.Prelude.{Task, amounts, amount_at, low_at, program, sum_of, given_in, Prints}
use Rattle.dispatch_rules.proofs.NodeBounds.{max_nonneg}
use Rattle.dispatch_schedule.specs.ColumnValues.{column_value, denominator_to, schedule_denominator, DenominatorForms}
use Rattle.dispatch_schedule.specs.ShownSchedules.{IsCheapestEnd}
use Rattle.dispatch_schedule.specs.inside.Values.{AreValuesTo, ArePositive, JoiningForms, fraction_at, joined_to}
use Rattle.dispatch_schedule.specs.inside.Chosen.{Chosen, Power, AreChosen, AreSmall, AreSmallOutputs, IsChoice, IsPowerOf, IsPrintOf, IsCellOf, chosen_at, numerator_over, power_in, part_of, total_of, renewable_of, row_of, cell_of}
use Rattle.dispatch_schedule.specs.declared.power.Power.TheVariants.{Output, Reserve, Renewable, Unserved, Missing}
use Rattle.dispatch_schedule.proofs.ColumnValues.{value_positive, value_ratio, denominator_positive, denominator_divides}
use Rattle.dispatch_schedule.proofs.Powers.{over_times, values as end_values, numerator_low, amount_high, sum_high, renewable_high, sum_scaled}
use Rattle.dispatch_schedule.proofs.Totals.{first_nonneg}

module _ (instance : Instance) (patterns : List Pattern) (listed : List Amount) (t : Table) (values : List Fraction)
    (are : AreValuesTo t t.constraints (length listed) values) where
  joined_is : (n : ℕ) → n ≤ length listed → joined_to values n ≡ denominator_to t n
  joined_is zero h = refl
  joined_is (suc n) h = λ i. joined (joined_is n (omega arith) i) (ap (λ (f : Fraction). f.denominator) (are.each n (omega arith)) i)

  module _ (task : Task) (end : IsCheapestEnd instance patterns listed t task) where
    size : length listed ≡ length (amounts task)
    size = ap length end.amounts

    pub denominator_is : joined_to values (length values) ≡ schedule_denominator task t
    denominator_is = ap (joined_to values) are.count ∙ joined_is (length listed) (omega arith) ∙ ap (denominator_to t) size

    pub are_positive : ArePositive values
    are_positive c h =
        let count = are.count in
        subst (λ (f : Fraction). pos 0 <ℤ f.denominator) (sym (are.each c (omega arith))) (value_positive (program task) t end.reached c)

    forms_is : (c : ℕ) (a b : ℤ) → c < length listed
        → JoinForms (joined_to values c) (fraction_at values c).denominator a b ≡ JoinForms (denominator_to t c) (column_value t c).denominator a b
    forms_is c a b h = λ i. JoinForms (joined_is c (omega arith) i) (ap (λ (f : Fraction). f.denominator) (are.each c h) i) a b

    pub from_joining : (a b : ℤ) → JoiningForms values (length values) a b → DenominatorForms task t a b
    from_joining a b forms =
        let count = are.count in
        let both = size in
        let within = forms.1 in
        (forms.0, omega arith, subst (λ (P : Type 0). P) (forms_is forms.0 a b (omega arith)) forms.2)

    pub to_joining : (a b : ℤ) → DenominatorForms task t a b → JoiningForms values (length values) a b
    to_joining a b forms =
        let count = are.count in
        let both = size in
        let within = forms.1 in
        (forms.0, omega arith, subst (λ (P : Type 0). P) (sym (forms_is forms.0 a b (omega arith))) forms.2)

    pub narrow_is : IsNarrow (JoiningForms values (length values)) → IsNarrow (DenominatorForms task t)
    narrow_is narrow a b forms = narrow a b (to_joining a b forms)

    -- ---- over the denominator, where it is at most 99
    module _ (lawful : IsLawfulInstance instance) (over : ℤ) (over_is : over ≡ joined_to values (length values)) (small : over ≤ℤ pos 99) where
      pub over_denominator : over ≡ schedule_denominator task t
      over_denominator = over_is ∙ denominator_is

      over_positive : pos 0 <ℤ over
      over_positive = subst (λ z. pos 0 <ℤ z) (sym over_denominator) (denominator_positive (program task) t end.reached (length (amounts task)))

      divides : (c : ℕ) → c < length (amounts task) → unsigned_abs (column_value t c).denominator ∣ unsigned_abs over
      divides c h =
          subst (λ z. unsigned_abs (column_value t c).denominator ∣ unsigned_abs z) (sym over_denominator)
          (denominator_divides (program task) t end.reached (length (amounts task)) c h)

      own_lawful : IsLawfulInstance task.instance
      own_lawful = subst IsLawfulInstance (sym end.of.instance_is) lawful

      shares : (d : ℤ) × (share : ℕ → ℤ) × AreShares t d share
      shares = shares_exist t end.reached.keeps.basis

      abbrev numerator : ℕ → ℤ
      numerator c = numerator_over over (column_value t c)

      within : (x : ℤ) → x ≤ℤ (over *ℤ pos MAX_POWER) → x <ℤ pos 1000000000000000
      within x h = let most = mul-le-mul_right (pos MAX_POWER) over (pos 99) (omega (arith, linear)) small in omega (arith, linear)

      times_positive : (q den : ℤ) → pos 0 <ℤ den → q *ℤ den ≡ over → pos 0 <ℤ q
      times_positive q den h e = by_lt_z (pos 0) q (λ more. more)
          (λ less. let low = mul-le-mul_right den q (pos 0) (omega (arith, linear)) less in let none = zero-mul den in let own = over_positive in absurd (omega (arith, linear)))

      pub choice : (c : ℕ) → c < length values → IsChoice over (fraction_at values c)
      choice c h =
          let count = are.count in
          let both = size in
          let there : c < length (amounts task) = omega arith in
          let positive = value_positive (program task) t end.reached c in
          let ratio = value_ratio (program task) t end.reached shares.0 shares.1 shares.2 c there in
          let some = (values_of_end.unknown c there) in
          subst (IsChoice over) (sym (are.each c (omega arith))) record {
            positive = positive;
            times = times_positive (int_div over (column_value t c).denominator) (column_value t c).denominator positive (over_times over (column_value t c).denominator positive (divides c there));
            low = low_numerator (basis_values (program task) t shares.0 shares.1 c) shares.0 (column_value t c).denominator (column_value t c).numerator some positive shares.2.denominator ratio;
            high = let high = within (numerator c) (amount_high task t own_lawful end.is end.reached end.cheapest shares.0 shares.1 shares.2 over over_positive divides c there) in omega (arith, linear);
          }
        where
          values_of_end : AreValues (program task) shares.0 (basis_values (program task) t shares.0 shares.1)
          values_of_end = end_values task t own_lawful end.is end.reached end.cheapest shares.0 shares.1 shares.2

          low_numerator : (v d den num : ℤ) → pos 0 ≤ℤ v → pos 0 <ℤ den → pos 0 <ℤ d → v *ℤ den ≡ num *ℤ d → pos 0 ≤ℤ num
          low_numerator v d den num low h l e =
              le_from_mul d (pos 0) num l
              (let some = mul_nonneg v den low (omega (arith, linear)) in let none = mul-zero d in let order = mul_comm num d in omega (arith, linear))

      module _ (chosen : List Chosen) (chose : AreChosen listed values over (length listed) chosen) where
        amount_is : (c : ℕ) → c < length listed → (chosen_at chosen c).amount ≡ amount_at task c
        amount_is c h = chose.amount c h ∙ ap (λ xs. slice_index_or xs c (Shed 0)) end.amounts

        numerator_is : (c : ℕ) → c < length listed → (chosen_at chosen c).numerator ≡ numerator c
        numerator_is c h = chose.numerator c h ∙ ap (numerator_over over) (are.each c h)

        total_is : (power : Power) → total_of chosen power ≡ sum_of task numerator (power_in power)
        total_is power =
            ap (λ n. sum_below n (part_of chosen power)) (chose.count ∙ size)
            ∙ sum_below-same (length (amounts task)) (part_of chosen power) (λ c. power_in power (amount_at task c) *ℤ numerator c)
            (λ c h. let both = size in λ i. power_in power (amount_is c (omega arith) i) *ℤ numerator_is c (omega arith) i)

        chosen_low : (c : ℕ) → c < length chosen → pos 0 ≤ℤ (chosen_at chosen c).numerator
        chosen_low c h =
            let count = chose.count in
            let both = size in
            subst (λ z. pos 0 ≤ℤ z) (sym (numerator_is c (omega arith)))
            (numerator_low task t own_lawful end.is end.reached end.cheapest shares.0 shares.1 shares.2 over over_positive divides c (omega arith))

        own_small : AreSmall task.instance chosen
        own_small = record {
          low = chosen_low;
          high = λ power h. subst (λ z. z <ℤ pos 1000000000000000) (sym (total_is power))
              (within (sum_of task numerator (power_in power))
              (sum_high task t own_lawful end.is end.reached end.cheapest shares.0 shares.1 shares.2 over over_positive divides power h));
        }

        pub are_small : AreSmall instance chosen
        are_small = subst (λ i. AreSmall i chosen) end.of.instance_is own_small

        size_is : pos (unsigned_abs over) ≡ over
        size_is = let own = over_positive in omega (arith, ints)

        own_outputs : AreSmallOutputs task.instance chosen (unsigned_abs over)
        own_outputs w s hw hs =
            subst (λ z. z <ℤ pos 1000000000000000) (λ i. sym (total_is (Renewable w s)) i +ℤ sym size_is i *ℤ low_at task w s)
            (within (sum_of task numerator (given_in w s) +ℤ over *ℤ low_at task w s)
            (renewable_high task t own_lawful end.is end.reached end.cheapest shares.0 shares.1 shares.2 over over_positive divides w s hw hs))

        pub are_small_outputs : AreSmallOutputs instance chosen (unsigned_abs over)
        are_small_outputs = subst (λ i. AreSmallOutputs i chosen (unsigned_abs over)) end.of.instance_is own_outputs

        -- ---- the printed schedule
        module _ (printed : Printed) (print : IsPrintOf instance patterns chosen (unsigned_abs over) printed) where
          own : IsPrintOf task.instance patterns chosen (unsigned_abs over) printed
          own = subst (λ i. IsPrintOf i patterns chosen (unsigned_abs over) printed) (sym end.of.instance_is) print

          over_printed : pos printed.denominator ≡ over
          over_printed = ap pos own.denominator ∙ size_is

          pub printed_denominator_is : pos printed.denominator ≡ schedule_denominator task t
          printed_denominator_is = over_printed ∙ over_denominator

          has_shape : HasShapeOf task.instance printed
          has_shape = record {
            thermal = own.thermal.count;
            cells = All-from_get_or (λ row. length row ≡ task.instance.periods) printed.thermal [] (λ g h. (own.thermal.each g (let count = own.thermal.count in omega arith)).count);
            renewable = own.renewable.count;
            outputs = All-from_get_or (λ row. length row ≡ task.instance.periods) printed.renewable [] (λ w h. (own.renewable.each w (let count = own.renewable.count in omega arith)).count);
            shed = own.shed.count;
            short = own.short.count;
            denominator = let e = over_printed in let low = over_positive in (omega (arith, linear), omega (arith, linear));
          }

          cell : (g s : ℕ) → g < thermal_count task.instance → s < task.instance.periods → IsCellOf task.instance patterns chosen g s (cell_at printed g s)
          cell g s hg hs = (own.thermal.each g hg).each s hs

          scaled : (d : ℤ) (share : ℕ → ℤ) → AreShares t d share → (power : Power)
              → d *ℤ total_of chosen power ≡ pos printed.denominator *ℤ sum_of task (basis_values (program task) t d share) (power_in power)
          scaled d share whole power =
              ap (λ z. d *ℤ z) (total_is power)
              ∙ sum_scaled task t own_lawful end.is end.reached end.cheapest d share whole over over_positive divides (power_in power)
              ∙ ap (λ z. z *ℤ sum_of task (basis_values (program task) t d share) (power_in power)) (sym over_printed)

          pub prints : (d : ℤ) (share : ℕ → ℤ) → AreShares t d share → Prints task d (basis_values (program task) t d share) printed
          prints d share whole = record {
            shape = has_shape;
            on = λ g s hg hs. (cell g s hg hs).on ∙ sym (end.of.on g s);
            category = λ g s hg hs.
                subst (λ (on : Commitment). HasLeastCategory (thermal_unit task.instance g) on s (cell_at printed g s).category) (λ i k. sym (end.of.on g k) i)
                (cell g s hg hs).category;
            output = λ g s hg hs. ap (λ z. d *ℤ z) (cell g s hg hs).output ∙ scaled d share whole (Output g s);
            reserve = λ g s hg hs. ap (λ z. d *ℤ z) (cell g s hg hs).reserve ∙ scaled d share whole (Reserve g s);
            renewable = λ w s hw hs. ap (λ z. d *ℤ z) ((own.renewable.each w hw).each s hs)
                ∙ (let v = sum_of task (basis_values (program task) t d share) (given_in w s) in
                let main = scaled d share whole (Renewable w s) in
                let e = own.denominator in
                let first = mul-add d (total_of chosen (Renewable w s)) (pos (unsigned_abs over) *ℤ low_at task w s) in
                let second = mul-add (pos printed.denominator) (sum_of task (basis_values (program task) t d share) (given_in w s)) (d *ℤ low_at task w s) in
                let order = mul_left_comm d (pos (unsigned_abs over)) (low_at task w s) in
                let same = ap (λ n. pos n *ℤ (d *ℤ low_at task w s)) own.denominator in
                omega (arith, linear));
            shed = λ s hs. ap (λ z. d *ℤ z) (own.shed.each s hs) ∙ scaled d share whole (Unserved s);
            short = λ s hs. ap (λ z. d *ℤ z) (own.short.each s hs) ∙ scaled d share whole (Missing s);
          }

          -- ---- the sizes of its numbers
          total_sized : (power : Power) → IsPowerOf task.instance power → IsSized (total_of chosen power)
          total_sized power h =
              let low = first_nonneg chosen power chosen_low (length chosen) (omega arith) in
              let high = own_small.high power h in
              omega (arith, ints)

          output_sized : (w s : ℕ) → w < renewable_count task.instance → s < task.instance.periods → IsSized (renewable_of task.instance chosen (unsigned_abs over) w s)
          output_sized w s hw hs =
              let low = first_nonneg chosen (Renewable w s) chosen_low (length chosen) (omega arith) in
              let least = mul_nonneg (pos (unsigned_abs over)) (low_at task w s) (pos_nonneg (unsigned_abs over)) (max_nonneg (renewable_minimum task.instance w s)) in
              let high = own_outputs w s hw hs in
              sized_sum (total_of chosen (Renewable w s)) (pos (unsigned_abs over) *ℤ low_at task w s) low least high
            where
              sized_sum : (a b : ℤ) → pos 0 ≤ℤ a → pos 0 ≤ℤ b → (a +ℤ b) <ℤ pos 1000000000000000 → IsSized (a +ℤ b)
              sized_sum a b h l m = omega (arith, ints)

          nothing_sized : IsSizedCell (record { on = false; p = pos 0; r = pos 0; category = 0 })
          nothing_sized = record { output = lit< tt; reserve = lit< tt }

          cells_sized : (g s : ℕ) → IsSizedCell (cell_at printed g s)
          cells_sized g s = ⊎_elim
              (λ (hg : g < thermal_count task.instance). ⊎_elim
              (λ (hs : s < task.instance.periods). record {
                output = subst IsSized (sym (cell g s hg hs).output) (total_sized (Output g s) (hg, hs));
                reserve = subst IsSized (sym (cell g s hg hs).reserve) (total_sized (Reserve g s) (hg, hs));
              })
              (λ (past : task.instance.periods ≤ s).
              subst IsSizedCell (sym (get_or-eq_default (row_of printed.thermal g) (record { on = false; p = pos 0; r = pos 0; category = 0 }) {n = s} (let count = (own.thermal.each g hg).count in omega arith))) nothing_sized)
              (cases_lt s task.instance.periods))
              (λ (past : thermal_count task.instance ≤ g).
              subst (λ row. IsSizedCell (cell_of row s)) (sym (get_or-eq_default printed.thermal [] {n = g} (let count = own.thermal.count in omega arith))) nothing_sized)
              (cases_lt g (thermal_count task.instance))

          outputs_sized : (w s : ℕ) → IsSized (output_at printed w s)
          outputs_sized w s = ⊎_elim
              (λ (hw : w < renewable_count task.instance). ⊎_elim
              (λ (hs : s < task.instance.periods). subst IsSized (sym ((own.renewable.each w hw).each s hs)) (output_sized w s hw hs))
              (λ (past : task.instance.periods ≤ s).
              subst IsSized (sym (get_or-eq_default (row_of printed.renewable w) (pos 0) {n = s} (let count = (own.renewable.each w hw).count in omega arith))) (lit< tt))
              (cases_lt s task.instance.periods))
              (λ (past : renewable_count task.instance ≤ w).
              subst (λ row. IsSized (slice_index_or row s (pos 0))) (sym (get_or-eq_default printed.renewable [] {n = w} (let count = own.renewable.count in omega arith))) (lit< tt))
              (cases_lt w (renewable_count task.instance))

          pub sized : HasSizedNumbers printed
          sized = record { thermal = cells_sized; renewable = outputs_sized }
