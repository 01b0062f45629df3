-- Each rule says the same of a printed schedule's numerators as of the schedule that it stands for: M1 to M8 always, and the
-- others where M8 holds in every cell. Over q = s * d numbers are s times the numerators, and limits s times d times.
use Rattle.std.proofs.Common.{◌≡◌, ℕ, ◌*◌, ◌/◌, ◌<◌, ◌≤◌, ◌&&◌, ◌||◌, refl, sym, ap, ◌∙◌, arith, List, ℤ, pos, ◌+ℤ◌, ◌-ℤ◌, ◌*ℤ◌, IsTrue, int_le, nat_lt, slice_index_or}
use Rattle.std.specs.Ordering.{int_eq}
use Rattle.uc_model.specs.Prelude.{bit, Row, thermal_unit, thermal_count, renewable_count, p_at, p_before, demand_at, reserve_at, most_shed, most_short, cell_at, shed_at, short_at, printed_denominator, printed_schedule, IsLawfulInstance}
use Rattle.uc_model.specs.Rules as model
use Rattle.uc_model.specs.declared.instance.Thermal.{Thermal}
use Rattle.uc_model.specs.declared.instance.Instance.{Instance}
use Rattle.uc_model.proofs.Common.{linear, mul-add, mul-sub, mul-zero, mul_assoc, le_from_mul, le_antisymm, scale-le-scale, sum_below-same, sum_below-mul_left, int_le-true, le-int_le, int_eq-true, eq-int_eq, denominator-factor}
use Rattle.schedule_check.specs.SizedNumbers.{Cell, Printed, output_at}
use Rattle.schedule_check.specs.WholeWatts as watts
use Rattle.schedule_check.proofs.Counting.{same_test}
use Rattle.schedule_check.proofs.Produced.{Shows, IsShare, share_of, production-same, holds_from, made}

-- ---- q times two numbers compare as they do
pub scale-int_le : (q : ℕ) (a b : ℤ) → 1 ≤ q → int_le (pos q *ℤ a) (pos q *ℤ b) ≡ int_le a b
scale-int_le q a b some =
    same_test _ _
    (λ h. le-int_le a b (le_from_mul (pos q) a b (omega (arith, linear)) (int_le-true _ _ h)))
    (λ h. le-int_le _ _ (scale-le-scale q a b (int_le-true a b h)))

pub scale-int_eq : (q : ℕ) (a b : ℤ) → 1 ≤ q → int_eq (pos q *ℤ a) (pos q *ℤ b) ≡ int_eq a b
scale-int_eq q a b some =
    same_test _ _
    (λ h. let same : pos q *ℤ a ≡ pos q *ℤ b = int_eq-true (pos q *ℤ a) (pos q *ℤ b) h in
    eq-int_eq a b (le_antisymm a b
    (le_from_mul (pos q) a b (omega (arith, linear)) (omega (arith, linear)))
    (le_from_mul (pos q) b a (omega (arith, linear)) (omega (arith, linear)))))
    (λ h. eq-int_eq _ _ (ap (λ z. pos q *ℤ z) (int_eq-true a b h)))

-- q times a limit, where q is s times d
times-is : (q s d : ℕ) (z : ℤ) → q ≡ s * d → pos q *ℤ z ≡ pos s *ℤ (pos d *ℤ z)
times-is q s d z factor = ap (λ n. pos n *ℤ z) factor ∙ mul_assoc (pos s) (pos d) z

-- ---- the rows of the schedule
shows : (instance : Instance) (printed : Printed) (q g t : ℕ)
    → Shows q printed.denominator (thermal_unit instance g) ((printed_schedule instance printed q).thermal g) t (cell_at printed g t)
shows instance printed q g t = record { on = refl; weight = λ l. refl; reserve = refl }

pub production-is : (instance : Instance) (printed : Printed) (g t : ℕ) → IsLawfulInstance instance → 1 ≤ printed.denominator
    → g < thermal_count instance → t < instance.periods
    → model.holds_at model.Production instance (printed_denominator instance printed) (printed_schedule instance printed (printed_denominator instance printed)) g t
    ≡ watts.numerators_hold model.Production instance printed g t
production-is instance printed g t lawful some hg ht =
    let q = printed_denominator instance printed in
    let factor = denominator-factor instance printed g t hg ht in
    production-same q printed.denominator (thermal_unit instance g) ((printed_schedule instance printed q).thermal g) t (watts.row_of printed g)
    (shows instance printed q g t) (lawful.thermal g hg) (share_of instance printed some) factor.0 factor.1

-- M8 holds in every cell
abbrev pub AllProduced : Instance → Printed → Type 0
AllProduced instance printed = (g t : ℕ) → g < thermal_count instance → t < instance.periods → IsTrue (watts.numerators_hold model.Production instance printed g t)

-- how often the denominator goes into q
abbrev share : Instance → Printed → ℕ
share instance printed = printed_denominator instance printed / printed.denominator

output-is : (instance : Instance) (printed : Printed) (g t : ℕ) → IsLawfulInstance instance → 1 ≤ printed.denominator
    → g < thermal_count instance → t < instance.periods → IsTrue (watts.numerators_hold model.Production instance printed g t)
    → p_at (thermal_unit instance g) ((printed_schedule instance printed (printed_denominator instance printed)).thermal g) t
    ≡ pos (share instance printed) *ℤ (cell_at printed g t).p
output-is instance printed g t lawful some hg ht h =
    let q = printed_denominator instance printed in
    let d = printed.denominator in
    let factor = denominator-factor instance printed g t hg ht in
    (made q d (thermal_unit instance g) ((printed_schedule instance printed q).thermal g) t (cell_at printed g t) (shows instance printed q g t)
    (lawful.thermal g hg) some factor.0 factor.1 (holds_from (watts.over d) (thermal_unit instance g) (watts.row_of printed g) t h)).output

-- ---- the rules on output and reserve
-- the numbers of a row in period t, s times those of the cells
record RowIs (q s d : ℕ) (unit : Thermal) (row : Row) (cells : List Cell) (t : ℕ) : Type 0 where
  pub output : p_at unit row t ≡ pos s *ℤ (watts.cell cells t).p
  pub reserve : row.reserve t ≡ pos s *ℤ (watts.cell cells t).r
  pub before : p_before q unit row t ≡ pos s *ℤ watts.output_before_by (watts.over d) unit cells t

row_is : (instance : Instance) (printed : Printed) (g t : ℕ) → IsLawfulInstance instance → 1 ≤ printed.denominator → AllProduced instance printed
    → g < thermal_count instance → t < instance.periods
    → RowIs (printed_denominator instance printed) (share instance printed) printed.denominator (thermal_unit instance g)
    ((printed_schedule instance printed (printed_denominator instance printed)).thermal g) (watts.row_of printed g) t
row_is instance printed g t lawful some all hg ht = grind (arith, linear, output-is, times-is, share_of, lawful, some, all, hg, ht)

-- output with reserve, less another output
head-is : (q s d : ℕ) (unit : Thermal) (row : Row) (cells : List Cell) (t : ℕ) → RowIs q s d unit row cells t
    → p_at unit row t +ℤ row.reserve t ≡ pos s *ℤ ((watts.cell cells t).p +ℤ (watts.cell cells t).r)
head-is q s d unit row cells t is = (λ i. is.output i +ℤ is.reserve i) ∙ sym (mul-add (pos s) _ _)

rise-is : (q s d : ℕ) (unit : Thermal) (row : Row) (cells : List Cell) (t : ℕ) → RowIs q s d unit row cells t
    → (p_at unit row t +ℤ row.reserve t) -ℤ p_before q unit row t
    ≡ pos s *ℤ (((watts.cell cells t).p +ℤ (watts.cell cells t).r) -ℤ watts.output_before_by (watts.over d) unit cells t)
rise-is q s d unit row cells t is = (λ i. head-is q s d unit row cells t is i -ℤ is.before i) ∙ sym (mul-sub (pos s) _ _)

fall-is : (q s d : ℕ) (unit : Thermal) (row : Row) (cells : List Cell) (t : ℕ) → RowIs q s d unit row cells t
    → p_before q unit row t -ℤ p_at unit row t ≡ pos s *ℤ (watts.output_before_by (watts.over d) unit cells t -ℤ (watts.cell cells t).p)
fall-is q s d unit row cells t is = (λ i. is.before i -ℤ is.output i) ∙ sym (mul-sub (pos s) _ _)

-- s times a numerator against q times a limit
limit_by : (q d : ℕ) (z a b : ℤ) → IsShare d q → z ≡ pos (q / d) *ℤ a → int_le z (pos q *ℤ b) ≡ int_le a (pos d *ℤ b)
limit_by q d z a b is e = grind (arith, linear, times-is, int_le, scale-int_le, is, e)

limit_above : (q d : ℕ) (z a b : ℤ) → IsShare d q → z ≡ pos (q / d) *ℤ a → int_le (pos q *ℤ b) z ≡ int_le (pos d *ℤ b) a
limit_above q d z a b is e =
    let limit = times-is q (q / d) d b is.factor in
    (λ i. int_le (limit i) (e i)) ∙ scale-int_le (q / d) (pos d *ℤ b) a is.share

-- what is missing
shortage-is : (q d price : ℕ) (z missing most : ℤ) → IsShare d q → z ≡ pos (q / d) *ℤ missing
    → model.shortage_holds q price most z ≡ (int_le (pos 0) missing && int_le missing (pos d *ℤ most) && (nat_lt 0 price || int_eq missing (pos 0)))
shortage-is q d price z missing most is e =
    let s = q / d in
    let nought = sym (mul-zero (pos s)) in
    let low = (λ i. int_le (nought i) (e i)) ∙ scale-int_le s (pos 0) missing is.share in
    let high = limit_by q d z missing most is e in
    let none = (λ i. int_eq (e i) (nought i)) ∙ scale-int_eq s missing (pos 0) is.share in
    (λ i. low i && high i && (nat_lt 0 price || none i))

-- ---- the rules on the system
thermal-is : (instance : Instance) (printed : Printed) (g t : ℕ) → IsLawfulInstance instance → 1 ≤ printed.denominator → AllProduced instance printed
    → g < thermal_count instance → t < instance.periods
    → model.thermal_output instance (printed_denominator instance printed) (printed_schedule instance printed (printed_denominator instance printed)) g t
    ≡ pos (share instance printed) *ℤ watts.thermal_supply_by (watts.over printed.denominator) instance printed g t
thermal-is instance printed g t lawful some all hg ht =
    let q = printed_denominator instance printed in
    let made = output-is instance printed g t lawful some hg ht (all g t hg ht) in
    let minimum = mul_assoc (pos q) (thermal_unit instance g).pmin (bit (cell_at printed g t).on)
    ∙ times-is q (share instance printed) printed.denominator ((thermal_unit instance g).pmin *ℤ bit (cell_at printed g t).on) (share_of instance printed some).factor in
    (λ i. made i +ℤ minimum i) ∙ sym (mul-add (pos (share instance printed)) _ _)

supply-is : (instance : Instance) (printed : Printed) (t : ℕ) → IsLawfulInstance instance → 1 ≤ printed.denominator → AllProduced instance printed
    → t < instance.periods
    → model.supply_at instance (printed_denominator instance printed) (printed_schedule instance printed (printed_denominator instance printed)) t
    ≡ pos (share instance printed) *ℤ watts.supply_by (watts.over printed.denominator) instance printed t
supply-is instance printed t lawful some all ht =
    let s = share instance printed in
    let given = λ (g : ℕ). watts.thermal_supply_by (watts.over printed.denominator) instance printed g t in
    let units = sum_below-same (thermal_count instance) _ (λ g. pos s *ℤ given g)
    (λ g hg. thermal-is instance printed g t lawful some all hg ht) ∙ sum_below-mul_left (thermal_count instance) (pos s) given in
    let rest = sum_below-mul_left (renewable_count instance) (pos s) (λ w. output_at printed w t) in
    (λ i. units i +ℤ rest i) ∙ sym (mul-add (pos s) _ _)

reserve-is : (instance : Instance) (printed : Printed) (q t : ℕ)
    → model.reserve_supply_at instance (printed_schedule instance printed q) t ≡ pos (q / printed.denominator) *ℤ watts.reserve_supply_at instance printed t
reserve-is instance printed q t = sum_below-mul_left (thermal_count instance) (pos (q / printed.denominator)) (λ g. (cell_at printed g t).r)

-- ---- all rules
-- a place of which the rule speaks
pub record IsPlace (instance : Instance) (rule : model.Rule) (g t : ℕ) : Type 0 where
  pub unit : g < model.rule_units rule instance
  pub period : t < model.rule_periods rule instance

pub same_rule : (rule : model.Rule) (instance : Instance) (printed : Printed) (g t : ℕ) → IsLawfulInstance instance → 1 ≤ printed.denominator
    → IsPlace instance rule g t → (8 < model.rule_number rule → AllProduced instance printed)
    → model.holds_at rule instance (printed_denominator instance printed) (printed_schedule instance printed (printed_denominator instance printed)) g t
    ≡ watts.numerators_hold rule instance printed g t
same_rule model.Production instance printed g t lawful some place all = production-is instance printed g t lawful some place.unit place.period
same_rule model.StartCap instance printed g t lawful some place all =
    limit_by _ _ _ _ _ (share_of instance printed some) (head-is _ _ _ _ _ _ t (row_is instance printed g t lawful some (all (omega arith)) place.unit place.period))
same_rule model.StopCap instance printed g t lawful some place all =
    grind (arith, linear, limit_by, share_of, head-is, row_is, model.StopCap, lawful, some, place, all)
same_rule model.RampUp instance printed g t lawful some place all =
    limit_by _ _ _ _ _ (share_of instance printed some) (rise-is _ _ _ _ _ _ t (row_is instance printed g t lawful some (all (omega arith)) place.unit place.period))
same_rule model.RampDown instance printed g t lawful some place all =
    limit_by _ _ _ _ _ (share_of instance printed some) (fall-is _ _ _ _ _ _ t (row_is instance printed g t lawful some (all (omega arith)) place.unit place.period))
same_rule model.RenewableRange instance printed w t lawful some place all =
    grind (arith, linear, share_of, limit_above, slice_index_or, limit_by, model.RenewableRange, w, lawful, some, place, all)
same_rule model.Demand instance printed g t lawful some place all =
    let s = share instance printed in
    let d = printed.denominator in
    let is = share_of instance printed some in
    let supply = supply-is instance printed t lawful some (all (omega arith)) place.period in
    let served = (λ i. supply i +ℤ pos s *ℤ shed_at printed t) ∙ sym (mul-add (pos s) (watts.supply_by (watts.over d) instance printed t) (shed_at printed t)) in
    let limit = times-is (printed_denominator instance printed) s d (demand_at instance t) is.factor in
    (λ i. int_eq (served i) (limit i))
    ∙ scale-int_eq s (watts.supply_by (watts.over d) instance printed t +ℤ shed_at printed t) (pos d *ℤ demand_at instance t) is.share
same_rule model.Reserve instance printed g t lawful some place all =
    let q = printed_denominator instance printed in
    let s = share instance printed in
    let reserve = reserve-is instance printed q t in
    limit_above q printed.denominator _ (watts.reserve_supply_at instance printed t +ℤ short_at printed t) (reserve_at instance t) (share_of instance printed some)
    ((λ i. reserve i +ℤ pos s *ℤ short_at printed t) ∙ sym (mul-add (pos s) (watts.reserve_supply_at instance printed t) (short_at printed t)))
same_rule model.ShedRange instance printed g t lawful some place all =
    shortage-is _ _ instance.a _ (shed_at printed t) (most_shed instance t) (share_of instance printed some) refl
same_rule model.ShortRange instance printed g t lawful some place all =
    shortage-is _ _ instance.b _ (short_at printed t) (most_short instance t) (share_of instance printed some) refl
same_rule _ instance printed g t lawful some place all = refl
