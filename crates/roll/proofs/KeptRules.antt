-- The rules on the numbers of a schedule in whole watts that obeys, each as its test in watts.
use Rattle.std.proofs.Common.{◌≡◌, ℕ, ◌<◌, ◌≤◌, sym, subst, ◌∙◌, arith, ℤ, IsTrue}
use Rattle.uc_model.specs.Prelude.{thermal_count, printed_denominator, printed_schedule, IsLawfulInstance}
use Rattle.uc_model.specs.Rules as model
use Rattle.uc_model.proofs.Common.{rule_at}
use Rattle.schedule_check.specs.WholeWatts as watts
use Rattle.schedule_check.proofs.Measures.{over_one}
use Rattle.schedule_check.proofs.SameRules.{IsPlace, production-is, same_rule}
use Rattle.roll.specs.Prelude.{Instance, Printed, PrintedObeys}

-- a lawful instance with a schedule in whole watts that obeys
pub record IsSolved (instance : Instance) (printed : Printed) : Type 0 where
  pub lawful : IsLawfulInstance instance
  pub whole : printed.denominator ≡ 1
  pub obeys : PrintedObeys instance printed

pub rule_in_watts : (instance : Instance) (printed : Printed) → IsSolved instance printed → (rule : model.Rule) (g t : ℕ)
    → g < model.rule_units rule instance → t < model.rule_periods rule instance → IsTrue (watts.holds_at rule instance printed g t)
rule_in_watts instance printed h rule g t hg ht =
    let some : 1 ≤ printed.denominator = omega (arith, h.whole) in
    let all = λ (i j : ℕ) (hi : i < thermal_count instance) (hj : j < instance.periods).
    sym (production-is instance printed i j h.lawful some hi hj) ∙ by_model model.Production i j hi hj in
    let place : IsPlace instance rule g t = record { unit = hg; period = ht } in
    let by_denominator = sym (same_rule rule instance printed g t h.lawful some place (λ later. all)) ∙ by_model rule g t hg ht in
    subst (λ (measure : ℤ → ℤ). IsTrue (watts.holds_by measure rule instance printed g t)) (over_one printed.denominator h.whole) by_denominator
  where
    by_model : (r : model.Rule) (i j : ℕ) → i < model.rule_units r instance → j < model.rule_periods r instance
        → IsTrue (model.holds_at r instance (printed_denominator instance printed) (printed_schedule instance printed (printed_denominator instance printed)) i j)
    by_model r i j hi hj =
        rule_at instance (printed_denominator instance printed) (printed_schedule instance printed (printed_denominator instance printed)) h.obeys r i j hi hj
