-- The cells of a schedule that obeys can be priced: by M8 an output lies on the hull, and by M6 a category is one of the
-- unit's.
use Rattle.std.proofs.Common.{◌≡◌, ℕ, zero, suc, ◌<◌, ◌≤◌, ◌∙◌, sym, subst, arith, ℤ, IsTrue}
use Rattle.uc_model.specs.Prelude.{Commitment, category_count, is_category_allowed, category_holds_at, thermal_unit, thermal_count, Category, Production, Obeys, cell_at, printed_denominator, printed_schedule, IsLawfulInstance}
use Rattle.uc_model.proofs.Common.{rule_at}
use Rattle.schedule_check.specs.WholeWatts.{Printed, Thermal, HasPrice, HasPriceBy, over, row_of}
use Rattle.uc_model.specs.declared.instance.Instance.{Instance}
use Rattle.schedule_check.proofs.Produced.{holds_from}
use Rattle.schedule_check.proofs.SameRules.{production-is}
use Rattle.schedule_check.proofs.Measures.{over_one}

pub allowed-within : (unit : Thermal) (on : Commitment) (s t : ℕ) → IsTrue (is_category_allowed unit on s t) → s ≤ category_count unit
allowed-within unit on zero t h = omega arith
allowed-within unit on (suc s) t h = grind (arith, h)

category-within : (unit : Thermal) (on : Commitment) (category : ℕ → ℕ) (t : ℕ) → IsTrue (category_holds_at unit on category t) → category t ≤ category_count unit
category-within unit on category t h = grind (arith, h)

pub priced_over : (instance : Instance) (printed : Printed) → IsLawfulInstance instance → 1 ≤ printed.denominator
    → Obeys instance (printed_denominator instance printed) (printed_schedule instance printed (printed_denominator instance printed))
    → (g t : ℕ) → g < thermal_count instance → t < instance.periods → HasPriceBy (over printed.denominator) (thermal_unit instance g) (cell_at printed g t)
priced_over instance printed lawful some obeys g t hg ht =
    let q = printed_denominator instance printed in
    let x = printed_schedule instance printed q in
    let made = sym (production-is instance printed g t lawful some hg ht) ∙ rule_at instance q x obeys Production g t hg ht in
    let holds = holds_from (over printed.denominator) (thermal_unit instance g) (row_of printed g) t made in
    record {
      low = holds.low;
      high = holds.high;
      category = category-within (thermal_unit instance g) (x.thermal g).on (x.thermal g).category t (rule_at instance q x obeys Category g t hg ht);
    }

-- in whole watts
pub priced : (instance : Instance) (printed : Printed) → IsLawfulInstance instance → printed.denominator ≡ 1
    → Obeys instance (printed_denominator instance printed) (printed_schedule instance printed (printed_denominator instance printed))
    → (g t : ℕ) → g < thermal_count instance → t < instance.periods → HasPrice (thermal_unit instance g) (cell_at printed g t)
priced instance printed lawful one obeys g t hg ht =
    subst (λ (measure : ℤ → ℤ). HasPriceBy measure (thermal_unit instance g) (cell_at printed g t)) (over_one printed.denominator one)
    (priced_over instance printed lawful (omega (arith, one)) obeys g t hg ht)
