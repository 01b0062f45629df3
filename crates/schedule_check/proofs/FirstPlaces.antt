-- From the first place of one rule to the first of all, in their order; and from numerators to what they stand for.
use Rattle.std.proofs.Common.{◌≡◌, ℕ, ◌-◌, ◌<◌, ◌≤◌, Bool, refl, subst, ◌∙◌, arith, IsTrue}
use Rattle.uc_model.specs.Rules as model
use Rattle.uc_model.specs.Prelude.{Obeys, thermal_unit, thermal_count, printed_denominator, printed_schedule, IsLawfulInstance}
use Rattle.uc_model.proofs.Common.{all_below-from}
use Rattle.schedule_check.specs.FirstBroken.{Broken, Instance, HoldsThroughout, FailsFirst, IsFirstBroken}
use Rattle.schedule_check.specs.inside.Failures.{Place, FailsFirstAt, FailsFirstIn}
use Rattle.schedule_check.specs.WholeWatts.{MustRun, Printed, UnitRule, holds_at, numerators_hold, over, rule_of, row_of, unit_holds_by, unit_periods}
use Rattle.schedule_check.proofs.RuleOrder.{tried, number-tried, tried-number, number_within}
use Rattle.schedule_check.proofs.SameRules.{AllProduced, same_rule}
use Rattle.schedule_check.proofs.Measures.{over_one}
use Rattle.schedule_check.proofs.Produced.{denominator_positive}

-- the rules on a printed schedule: over its denominator, and in whole watts
abbrev pub numerators : Instance → Printed → model.Rule → ℕ → ℕ → Bool
numerators instance printed rule = numerators_hold rule instance printed

abbrev pub watts : Instance → Printed → model.Rule → ℕ → ℕ → Bool
watts instance printed rule = holds_at rule instance printed

-- ---- the rules on thermal units
-- those before the one in turn
pub earlier_tried : (instance : Instance) (printed : Printed) (turn : ℕ) → turn < 12
    → ((k : ℕ) → k < turn → HoldsThroughout instance (numerators instance printed) (rule_of (tried k)))
    → (earlier : model.Rule) → model.rule_number earlier < model.rule_number (rule_of (tried turn)) → HoldsThroughout instance (numerators instance printed) earlier
earlier_tried instance printed turn within before earlier less =
    let here = number-tried turn within in
    let some = (number_within earlier).0 in
    subst (λ rule. HoldsThroughout instance (numerators instance printed) rule) (tried-number earlier (omega (arith, less)))
    (before (model.rule_number earlier - 1) (omega (arith, less)))

-- all of them, after the last turn
pub all_tried : (instance : Instance) (printed : Printed) (turn : ℕ) → 12 ≤ turn
    → ((k : ℕ) → k < turn → HoldsThroughout instance (numerators instance printed) (rule_of (tried k)))
    → (rule : model.Rule) → model.rule_number rule < 13 → HoldsThroughout instance (numerators instance printed) rule
all_tried instance printed turn last before rule less =
    let some = (number_within rule).0 in
    subst (λ r. HoldsThroughout instance (numerators instance printed) r) (tried-number rule less) (before (model.rule_number rule - 1) (omega arith))

-- what the rules on thermal units say, and of how many units and periods
same_unit : (rule : UnitRule) (instance : Instance) (printed : Printed) (g t : ℕ)
    → numerators instance printed (rule_of rule) g t ≡ unit_holds_by (over printed.denominator) rule instance.periods (thermal_unit instance g) (row_of printed g) t
same_unit MustRun instance printed g t = refl
same_unit _ instance printed g t = refl

shape_of : (rule : UnitRule) (instance : Instance)
    → (model.rule_units (rule_of rule) instance ≡ thermal_count instance) × (model.rule_periods (rule_of rule) instance ≡ unit_periods rule instance.periods)
shape_of MustRun instance = (refl, refl)
shape_of _ instance = (refl, refl)

-- a rule on thermal units that is broken nowhere
pub unit_throughout : (rule : UnitRule) (instance : Instance) (printed : Printed)
    → ((g t : ℕ) → g < thermal_count instance → t < unit_periods rule instance.periods
    → IsTrue (unit_holds_by (over printed.denominator) rule instance.periods (thermal_unit instance g) (row_of printed g) t))
    → HoldsThroughout instance (numerators instance printed) (rule_of rule)
unit_throughout rule instance printed all g t hg ht = grind (arith, same_unit, shape_of, all, hg, ht)

-- one that is broken first there
pub unit_fails : (rule : UnitRule) (instance : Instance) (printed : Printed) (place : Place) (number : ℕ)
    → FailsFirstIn (thermal_count instance) (unit_periods rule instance.periods)
    (λ g t. unit_holds_by (over printed.denominator) rule instance.periods (thermal_unit instance g) (row_of printed g) t) place
    → number ≡ model.rule_number (rule_of rule)
    → ((earlier : model.Rule) → model.rule_number earlier < model.rule_number (rule_of rule) → HoldsThroughout instance (numerators instance printed) earlier)
    → FailsFirst instance (numerators instance printed) (record { rule = number; unit = place.unit; period = place.period })
unit_fails rule instance printed place number first is earlier = grind (arith, shape_of, same_unit, first, is)

-- ---- the other rules
-- a fact of the first twelve, and of the 13th to the 17th where they are below a number, is one of all below it
pub of_below : (P : model.Rule → Type 0) → ((rule : model.Rule) → model.rule_number rule < 13 → P rule) → (limit : ℕ)
    → (13 < limit → P model.RenewableRange) → (14 < limit → P model.Demand) → (15 < limit → P model.Reserve)
    → (16 < limit → P model.ShedRange) → (17 < limit → P model.ShortRange)
    → (rule : model.Rule) → model.rule_number rule < limit → P rule
of_below P first limit renewable demand reserve shed short model.MustRun h = first model.MustRun (omega arith)
of_below P first limit renewable demand reserve shed short model.InitialUp h = first model.InitialUp (omega arith)
of_below P first limit renewable demand reserve shed short model.InitialDown h = first model.InitialDown (omega arith)
of_below P first limit renewable demand reserve shed short model.MinimumUp h = first model.MinimumUp (omega arith)
of_below P first limit renewable demand reserve shed short model.MinimumDown h = first model.MinimumDown (omega arith)
of_below P first limit renewable demand reserve shed short model.Category h = first model.Category (omega arith)
of_below P first limit renewable demand reserve shed short model.InitialStop h = first model.InitialStop (omega arith)
of_below P first limit renewable demand reserve shed short model.Production h = first model.Production (omega arith)
of_below P first limit renewable demand reserve shed short model.StartCap h = first model.StartCap (omega arith)
of_below P first limit renewable demand reserve shed short model.StopCap h = first model.StopCap (omega arith)
of_below P first limit renewable demand reserve shed short model.RampUp h = first model.RampUp (omega arith)
of_below P first limit renewable demand reserve shed short model.RampDown h = first model.RampDown (omega arith)
of_below P first limit renewable demand reserve shed short model.RenewableRange h = renewable h
of_below P first limit renewable demand reserve shed short model.Demand h = demand h
of_below P first limit renewable demand reserve shed short model.Reserve h = reserve h
of_below P first limit renewable demand reserve shed short model.ShedRange h = shed h
of_below P first limit renewable demand reserve shed short model.ShortRange h = short h

-- a rule on the system that is broken first there
pub system_fails : (rule : model.Rule) (instance : Instance) (printed : Printed) (k : ℕ) → model.rule_units rule instance ≡ 1
    → model.rule_periods rule instance ≡ instance.periods → FailsFirstAt instance.periods (numerators instance printed rule 0) k
    → ((earlier : model.Rule) → model.rule_number earlier < model.rule_number rule → HoldsThroughout instance (numerators instance printed) earlier)
    → FailsFirst instance (numerators instance printed) (record { rule = model.rule_number rule; unit = 0; period = k })
system_fails rule instance printed k units periods first earlier = grind (arith, units, first)

-- ---- from numerators to what they stand for
-- in every cell M8 holds, where it is an earlier rule
produced_before : (instance : Instance) (printed : Printed) (rule : model.Rule)
    → ((earlier : model.Rule) → model.rule_number earlier < model.rule_number rule → HoldsThroughout instance (numerators instance printed) earlier)
    → 8 < model.rule_number rule → AllProduced instance printed
produced_before instance printed rule earlier above g t hg ht = earlier model.Production above g t hg ht

-- the schedule that a printed one stands for, rule by rule
abbrev pub stands : Instance → Printed → model.Rule → ℕ → ℕ → Bool
stands instance printed rule = model.holds_at rule instance (printed_denominator instance printed) (printed_schedule instance printed (printed_denominator instance printed))

throughout_stands : (instance : Instance) (printed : Printed) (rule : model.Rule) → IsLawfulInstance instance → 1 ≤ printed.denominator
    → (8 < model.rule_number rule → AllProduced instance printed) → HoldsThroughout instance (numerators instance printed) rule
    → HoldsThroughout instance (stands instance printed) rule
throughout_stands instance printed rule lawful some made all g t hg ht =
    same_rule rule instance printed g t lawful some (record { unit = hg; period = ht }) made ∙ all g t hg ht

-- what numerators fail first is what the schedule breaks first
pub first_stands : (instance : Instance) (printed : Printed) (broken : Broken) → IsLawfulInstance instance → 1 ≤ printed.denominator
    → FailsFirst instance (numerators instance printed) broken
    → IsFirstBroken instance (printed_denominator instance printed) (printed_schedule instance printed (printed_denominator instance printed)) broken
first_stands instance printed broken lawful some first =
    let made = produced_before instance printed first.rule first.rules in
    record {
      rule = first.rule;
      number = first.number;
      unit = first.unit;
      period = first.period;
      fails = same_rule first.rule instance printed broken.unit broken.period lawful some (record { unit = first.unit; period = first.period }) made ∙ first.fails;
      rules = λ earlier less. throughout_stands instance printed earlier lawful some
          (λ above. made (omega (arith, above, less))) (first.rules earlier less);
      units = λ g t hg ht. same_rule first.rule instance printed g t lawful some (record { unit = omega (arith, hg, first.unit); period = ht }) made ∙ first.units g t hg ht;
      periods = λ t ht. same_rule first.rule instance printed broken.unit t lawful some
          (record { unit = first.unit; period = omega (arith, ht, first.period) }) made ∙ first.periods t ht;
    }

-- and where nothing fails the schedule obeys
pub numerators_obey : (instance : Instance) (printed : Printed) → IsLawfulInstance instance → 1 ≤ printed.denominator
    → ((rule : model.Rule) → HoldsThroughout instance (numerators instance printed) rule)
    → Obeys instance (printed_denominator instance printed) (printed_schedule instance printed (printed_denominator instance printed))
numerators_obey instance printed lawful some all = record {
  denominator = denominator_positive instance printed some;
  rules = λ rule.
      let here = throughout_stands instance printed rule lawful some (λ above g t hg ht. all model.Production g t hg ht) (all rule) in
      all_below-from (model.rule_units rule instance) _ (λ g hg. all_below-from (model.rule_periods rule instance) _ (λ t ht. here g t hg ht));
}

-- the same of whole watts
pub obeys_stands : (instance : Instance) (printed : Printed) → IsLawfulInstance instance → printed.denominator ≡ 1
    → ((rule : model.Rule) → HoldsThroughout instance (watts instance printed) rule)
    → Obeys instance (printed_denominator instance printed) (printed_schedule instance printed (printed_denominator instance printed))
obeys_stands instance printed lawful one all = grind (arith, numerators_obey, over_one, lawful, one, all)
