-- What a schedule in whole watts that obeys keeps, on its own numbers.
use Rattle.std.proofs.Common.{◌≡◌, ℕ, suc, ◌<◌, ◌≤◌, not, ◌&&◌, ◌||◌, sym, subst, ◌∙◌, arith, ⊎_elim, ℤ, pos, ◌+ℤ◌, ◌-ℤ◌, ◌≤ℤ◌, IsTrue, int_lt, int_le, nat_lt}
use Rattle.std.specs.Int.{int_min, int_max}
use Rattle.std.specs.Ordering.{int_eq}
use Rattle.std.proofs.lemmas.Bool.{and_parts, or_cases, cond_both, not_from_true, true≢false}
use Rattle.uc_model.specs.Prelude.{cap, start_cap, stop_cap, thermal_unit, thermal_count, renewable_count, renewable_minimum, renewable_maximum, demand_at, reserve_at, most_shed, most_short, cell_at, shed_at, short_at, printed_denominator, printed_schedule, IsLawfulInstance}
use Rattle.uc_model.specs.Rules as model
use Rattle.uc_model.proofs.Common.{int_le-true, int_eq-true, rule_at, IsShortage}
use Rattle.schedule_check.specs.SizedNumbers.{output_at}
use Rattle.schedule_check.specs.WholeWatts as watts
use Rattle.schedule_check.proofs.Measures.{over_one}
use Rattle.schedule_check.proofs.Produced.{Holds, holds_from}
use Rattle.schedule_check.proofs.SameRules.{IsPlace, production-is, same_rule}
use Rattle.uplift.specs.Uplift.{Instance, Printed}

-- a schedule in whole watts that obeys
pub record IsWhole (instance : Instance) (printed : Printed) : Type 0 where
  pub lawful : IsLawfulInstance instance
  pub one : printed.denominator ≡ 1
  pub obeys :
      model.Obeys instance (printed_denominator instance printed) (printed_schedule instance printed (printed_denominator instance printed))

-- each rule holds of its numbers
rule_holds : (instance : Instance) (printed : Printed) → IsWhole instance printed → (rule : model.Rule) (g t : ℕ) → IsPlace instance rule g t
    → IsTrue (watts.holds_at rule instance printed g t)
rule_holds instance printed h rule g t place =
    let q = printed_denominator instance printed in
    let x = printed_schedule instance printed q in
    let some : 1 ≤ printed.denominator = omega (arith, h.one) in
    let all = λ (i j : ℕ) (hi : i < thermal_count instance) (hj : j < instance.periods).
    sym (production-is instance printed i j h.lawful some hi hj) ∙ model_rule model.Production i j hi hj in
    let by_denominator = sym (same_rule rule instance printed g t h.lawful some place (λ later. all)) ∙ model_rule rule g t place.unit place.period in
    subst (λ (measure : ℤ → ℤ). IsTrue (watts.holds_by measure rule instance printed g t)) (over_one printed.denominator h.one) by_denominator
  where
    model_rule : (r : model.Rule) (i j : ℕ) → i < model.rule_units r instance → j < model.rule_periods r instance
        → IsTrue (model.holds_at r instance (printed_denominator instance printed) (printed_schedule instance printed (printed_denominator instance printed)) i j)
    model_rule r i j hi hj =
        rule_at instance (printed_denominator instance printed) (printed_schedule instance printed (printed_denominator instance printed)) h.obeys r i j hi hj

-- ---- the system
pub demand_met : (instance : Instance) (printed : Printed) → IsWhole instance printed → (t : ℕ) → t < instance.periods
    → watts.supply_at instance printed t +ℤ shed_at printed t ≡ demand_at instance t
demand_met instance printed h t ht = int_eq-true _ _ (rule_holds instance printed h model.Demand 0 t (record { unit = omega arith; period = ht }))

pub reserve_met : (instance : Instance) (printed : Printed) → IsWhole instance printed → (t : ℕ) → t < instance.periods
    → reserve_at instance t ≤ℤ (watts.reserve_supply_at instance printed t +ℤ short_at printed t)
reserve_met instance printed h t ht = int_le-true _ _ (rule_holds instance printed h model.Reserve 0 t (record { unit = omega arith; period = ht }))

-- what is missing, over the denominator 1
missing : (price : ℕ) (most lacking : ℤ)
    → IsTrue (int_le (pos 0) lacking && int_le lacking most && (nat_lt 0 price || int_eq lacking (pos 0))) → IsShortage 1 price most lacking
missing price most lacking h = grind (arith, h)

pub shed_within : (instance : Instance) (printed : Printed) → IsWhole instance printed → (t : ℕ) → t < instance.periods
    → IsShortage 1 instance.a (most_shed instance t) (shed_at printed t)
shed_within instance printed h t ht =
    missing instance.a (most_shed instance t) (shed_at printed t)
    (rule_holds instance printed h model.ShedRange 0 t (record { unit = omega arith; period = ht }))

pub short_within : (instance : Instance) (printed : Printed) → IsWhole instance printed → (t : ℕ) → t < instance.periods
    → IsShortage 1 instance.b (most_short instance t) (short_at printed t)
short_within instance printed h t ht =
    missing instance.b (most_short instance t) (short_at printed t)
    (rule_holds instance printed h model.ShortRange 0 t (record { unit = omega arith; period = ht }))

-- ---- renewable units
pub output_within : (instance : Instance) (printed : Printed) → IsWhole instance printed → (w t : ℕ) → w < renewable_count instance → t < instance.periods
    → (int_max (renewable_minimum instance w t) (pos 0) ≤ℤ output_at printed w t) × (output_at printed w t ≤ℤ renewable_maximum instance w t)
output_within instance printed h w t hw ht =
    let parts = and_parts _ _ (rule_holds instance printed h model.RenewableRange w t (record { unit = hw; period = ht })) in
    (int_le-true _ _ parts.0, int_le-true _ _ parts.1)

-- ---- thermal units
pub rise : (instance : Instance) (printed : Printed) → IsWhole instance printed → (g t : ℕ) → g < thermal_count instance → t < instance.periods
    → ((cell_at printed g t).p +ℤ (cell_at printed g t).r -ℤ watts.output_before (thermal_unit instance g) (watts.row_of printed g) t)
    ≤ℤ (thermal_unit instance g).ru
rise instance printed h g t hg ht = int_le-true _ _ (rule_holds instance printed h model.RampUp g t (record { unit = hg; period = ht }))

pub fall : (instance : Instance) (printed : Printed) → IsWhole instance printed → (g t : ℕ) → g < thermal_count instance → t < instance.periods
    → (watts.output_before (thermal_unit instance g) (watts.row_of printed g) t -ℤ (cell_at printed g t).p) ≤ℤ (thermal_unit instance g).rd
fall instance printed h g t hg ht = int_le-true _ _ (rule_holds instance printed h model.RampDown g t (record { unit = hg; period = ht }))

pub produced : (instance : Instance) (printed : Printed) → IsWhole instance printed → (g t : ℕ) → g < thermal_count instance → t < instance.periods
    → Holds watts.whole (thermal_unit instance g) (cell_at printed g t)
produced instance printed h g t hg ht =
    holds_from watts.whole (thermal_unit instance g) (watts.row_of printed g) t
    (rule_holds instance printed h model.Production g t (record { unit = hg; period = ht }))

-- output and reserve stay within the cap
pub within_cap : (instance : Instance) (printed : Printed) → IsWhole instance printed → (g t : ℕ) → g < thermal_count instance → t < instance.periods
    → ((cell_at printed g t).p +ℤ (cell_at printed g t).r)
    ≤ℤ cap instance.periods (thermal_unit instance g) (watts.commitment (watts.row_of printed g)) t
within_cap instance printed h g t hg ht =
    let unit = thermal_unit instance g in
    let on = watts.commitment (watts.row_of printed g) in
    let z = (cell_at printed g t).p +ℤ (cell_at printed g t).r in
    let started : z ≤ℤ start_cap unit on t = int_le-true _ _ (rule_holds instance printed h model.StartCap g t (record { unit = hg; period = ht })) in
    let stopped : IsTrue (not (nat_lt (suc t) instance.periods) || int_le z (stop_cap unit on t)) =
    rule_holds instance printed h model.StopCap g t (record { unit = hg; period = ht }) in
    cond_both (nat_lt (suc t) instance.periods) (int_min (start_cap unit on t) (stop_cap unit on t)) (start_cap unit on t) (λ c. z ≤ℤ c)
    (λ before.
    ⊎_elim
    (λ (last : IsTrue (not (nat_lt (suc t) instance.periods))). absurd (true≢false (sym last ∙ not_from_true _ before)))
    (λ (below : IsTrue (int_le z (stop_cap unit on t))). either z (start_cap unit on t) (stop_cap unit on t) started (int_le-true _ _ below))
    (or_cases (not (nat_lt (suc t) instance.periods)) (int_le z (stop_cap unit on t)) stopped))
    (λ last. started)
  where
    either : (z a b : ℤ) → z ≤ℤ a → z ≤ℤ b → z ≤ℤ int_min a b
    either z a b left right = cond_both (int_lt b a) b a (λ c. z ≤ℤ c) (λ e. right) (λ e. left)
