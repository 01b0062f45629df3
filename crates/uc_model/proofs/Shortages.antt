-- What is missing of demand and reserve in a schedule that obeys, and what that costs: from 0 to the most that all
-- shortages may cost.
-- Cite from a crate above by `use Rattle.uc_model.proofs.Shortages.{shed_parts, short_parts}`.
use Rattle.std.proofs.Common.{◌≡◌, ℕ, zero, suc, ◌*◌, ◌/◌, ◌<◌, ◌≤◌, sym, ap, subst, ◌∙◌, arith, ℤ, pos, ◌+ℤ◌, ◌*ℤ◌, ◌≤ℤ◌, ◌<ℤ◌, IsTrue, slice_index_or}
use Rattle.std.proofs.Math.Nat.{mul-div_cancel}
use Rattle.std.proofs.lemmas.List.{get_or-replicate}
use Rattle.uc_model.specs.Prelude.{sum_below, quotient_up, Instance, Schedule, most_shed, most_short, ShedRange, ShortRange, shortage_holds, Obeys, shortage_cost, Printed, LacksNothing, watt_denominator, shed_at, short_at, printed_schedule, printed_shortage_cost, greatest_shortage_cost}
use Rattle.uc_model.proofs.Ring.{linear, mul-add, mul_comm, mul_assoc, mul_left_comm, mul-zero, mul_nonneg, scale-le-scale, le_from_mul, pos_nonneg, pos-mul, add-le-add}
use Rattle.uc_model.proofs.Sums.{sum_below-le, sum_below-add, sum_below-mul_left, sum_below_nonneg}
use Rattle.uc_model.proofs.Obeyed.{rule_at}
use Rattle.uc_model.proofs.Quotients.{IsCeiling-least, quotient_up-is}

-- ---- the parts of M16 and M17
pub record IsShortage (q price : ℕ) (most missing : ℤ) : Type 0 where
  pub nonneg : pos 0 ≤ℤ missing
  pub within : missing ≤ℤ (pos q *ℤ most)
  pub priced : price ≡ 0 → missing ≡ pos 0

pub shortage_parts : (q price : ℕ) (most missing : ℤ) → IsTrue (shortage_holds q price most missing) → IsShortage q price most missing
shortage_parts q price most missing h = grind (arith, linear, h)

pub shed_parts : (instance : Instance) (q : ℕ) (x : Schedule) (t : ℕ) → Obeys instance q x → t < instance.periods
    → IsShortage q instance.a (most_shed instance t) (x.shed t)
shed_parts instance q x t obeys ht = shortage_parts _ _ _ _ (rule_at instance q x obeys ShedRange 0 t (omega arith) ht)

pub short_parts : (instance : Instance) (q : ℕ) (x : Schedule) (t : ℕ) → Obeys instance q x → t < instance.periods
    → IsShortage q instance.b (most_short instance t) (x.short t)
short_parts instance q x t obeys ht = shortage_parts _ _ _ _ (rule_at instance q x obeys ShortRange 0 t (omega arith) ht)

-- ---- their costs
-- the greatest cost, period by period
greatest_by_period : (instance : Instance) (a b : ℕ)
    → sum_below instance.periods (λ t. pos a *ℤ most_shed instance t +ℤ pos b *ℤ most_short instance t) ≡ greatest_shortage_cost instance a b
greatest_by_period instance a b =
    let n = instance.periods in
    let shed = sum_below-mul_left n (pos a) (most_shed instance) in
    let short = sum_below-mul_left n (pos b) (most_short instance) in
    sum_below-add n (λ t. pos a *ℤ most_shed instance t) (λ t. pos b *ℤ most_short instance t) ∙ (omega (arith, linear, shed, short))

-- without a price there is none
pub unpriced : (instance : Instance) (a b : ℕ) → a ≡ 0 → b ≡ 0 → greatest_shortage_cost instance a b ≡ pos 0
unpriced instance a b no_shed no_short = grind (arith, linear, no_shed, no_short)

-- what is missing costs at most q times the price of the most
cost-le : (q a : ℕ) (most missing : ℤ) → missing ≤ℤ (pos q *ℤ most) → (pos a *ℤ missing) ≤ℤ (pos q *ℤ (pos a *ℤ most))
cost-le q a most missing h =
    subst (λ z. (pos a *ℤ missing) ≤ℤ z) (mul_left_comm (pos a) (pos q) most) (scale-le-scale a missing (pos q *ℤ most) h)

pub shortages_nonneg : (instance : Instance) (q : ℕ) (x : Schedule) → Obeys instance q x
    → pos 0 ≤ℤ sum_below instance.periods (shortage_cost instance x)
shortages_nonneg instance q x obeys =
    sum_below_nonneg instance.periods (shortage_cost instance x) (λ t ht.
    let shed = mul_nonneg (pos instance.a) (x.shed t) (pos_nonneg _) (shed_parts instance q x t obeys ht).nonneg in
    let short = mul_nonneg (pos instance.b) (x.short t) (pos_nonneg _) (short_parts instance q x t obeys ht).nonneg in
    omega (arith, linear, shed, short))

pub shortages-le : (instance : Instance) (q : ℕ) (x : Schedule) → Obeys instance q x
    → sum_below instance.periods (shortage_cost instance x) ≤ℤ (pos q *ℤ greatest_shortage_cost instance instance.a instance.b)
shortages-le instance q x obeys =
    let n = instance.periods in
    let most = λ (t : ℕ). pos instance.a *ℤ most_shed instance t +ℤ pos instance.b *ℤ most_short instance t in
    let each = sum_below-le n (shortage_cost instance x) (λ t. pos q *ℤ most t) (λ t ht.
    let shed = cost-le q instance.a (most_shed instance t) (x.shed t) (shed_parts instance q x t obeys ht).within in
    let short = cost-le q instance.b (most_short instance t) (x.short t) (short_parts instance q x t obeys ht).within in
    let whole = mul-add (pos q) (pos instance.a *ℤ most_shed instance t) (pos instance.b *ℤ most_short instance t) in
    omega (arith, linear, shed, short, whole)) in
    subst (λ z. sum_below n (shortage_cost instance x) ≤ℤ z)
    (sum_below-mul_left n (pos q) most ∙ ap (λ z. pos q *ℤ z) (greatest_by_period instance instance.a instance.b)) each

-- ---- as they are printed
pub share_is : (q c n : ℕ) → 0 < n → q ≡ c * n → q / n ≡ c
share_is q c n some e = ap (λ m. m / n) e ∙ mul-div_cancel c some

-- over q, which is a multiple of d, a shortage costs at most q times what is printed
shortage-le-printed : (q c d a : ℕ) (missing : ℤ) → 0 < d → q ≡ c * d
    → (pos a *ℤ (pos (q / d) *ℤ missing)) ≤ℤ (pos q *ℤ quotient_up (pos a *ℤ missing) (pos d))
shortage-le-printed q c d a missing some e =
    let rounded = quotient_up (pos a *ℤ missing) (pos d) in
    let above = (quotient_up-is (pos a *ℤ missing) (pos d) (omega (arith, linear))).above in
    let left : pos a *ℤ (pos (q / d) *ℤ missing) ≡ pos c *ℤ (pos a *ℤ missing) =
    ap (λ k. pos a *ℤ (pos k *ℤ missing)) (share_is q c d some e) ∙ mul_left_comm (pos a) (pos c) missing in
    let right : pos c *ℤ (rounded *ℤ pos d) ≡ pos q *ℤ rounded =
    ap (λ z. pos c *ℤ z) (mul_comm rounded (pos d)) ∙ sym (mul_assoc (pos c) (pos d) rounded) ∙ ap (λ z. z *ℤ rounded) (sym (ap pos e ∙ pos-mul c d)) in
    subst (λ z. z ≤ℤ (pos q *ℤ rounded)) (sym left) (subst (λ z. (pos c *ℤ (pos a *ℤ missing)) ≤ℤ z) right (scale-le-scale c _ _ above))

pub shortages-le-printed : (instance : Instance) (printed : Printed) (q c : ℕ) → 0 < watt_denominator printed
    → q ≡ c * watt_denominator printed
    → sum_below instance.periods (shortage_cost instance (printed_schedule instance printed q))
    ≤ℤ (pos q *ℤ sum_below instance.periods (printed_shortage_cost instance printed))
shortages-le-printed instance printed q c some e =
    let n = instance.periods in
    let d = watt_denominator printed in
    let x = printed_schedule instance printed q in
    let each = sum_below-le n (shortage_cost instance x) (λ t. pos q *ℤ printed_shortage_cost instance printed t) (λ t ht.
    let shed = shortage-le-printed q c d instance.a (shed_at printed t) some e in
    let short = shortage-le-printed q c d instance.b (short_at printed t) some e in
    let whole = mul-add (pos q) (quotient_up (pos instance.a *ℤ shed_at printed t) (pos d)) (quotient_up (pos instance.b *ℤ short_at printed t) (pos d)) in
    omega (arith, linear, shed, short, whole)) in
    subst (λ z. sum_below n (shortage_cost instance x) ≤ℤ z) (sum_below-mul_left n (pos q) (printed_shortage_cost instance printed)) each

-- what is printed of one shortage: its size over d, and its cost
pub record IsPrintedShortage (d a : ℕ) (most missing : ℤ) : Type 0 where
  pub nonneg : pos 0 ≤ℤ missing
  pub within : missing ≤ℤ (pos d *ℤ most)
  pub cost_nonneg : pos 0 ≤ℤ quotient_up (pos a *ℤ missing) (pos d)
  pub cost_within : quotient_up (pos a *ℤ missing) (pos d) ≤ℤ (pos a *ℤ most)

printed_shortage : (q c d a price : ℕ) (most missing : ℤ) → 0 < d → 1 ≤ q → q ≡ c * d
    → IsShortage q price most (pos (q / d) *ℤ missing) → IsPrintedShortage d a most missing
printed_shortage q c d a price most missing some one e h =
    let positive : pos 0 <ℤ pos c = positive_factor c one e in
    let divisor : pos 0 <ℤ pos d = omega (arith, linear) in
    let same = ap (λ k. pos k *ℤ missing) (share_is q c d some e) in
    let low : pos 0 ≤ℤ missing = le_from_mul (pos c) (pos 0) missing positive (omega (arith, linear, same, h.nonneg, mul-zero (pos c))) in
    let scaled : pos q *ℤ most ≡ pos c *ℤ (pos d *ℤ most) = ap (λ z. z *ℤ most) (ap pos e ∙ pos-mul c d) ∙ mul_assoc (pos c) (pos d) most in
    let high : missing ≤ℤ (pos d *ℤ most) = le_from_mul (pos c) missing (pos d *ℤ most) positive (omega (arith, linear, same, h.within, scaled)) in
    let ceiling = quotient_up-is (pos a *ℤ missing) (pos d) divisor in
    let rounded = quotient_up (pos a *ℤ missing) (pos d) in
    let cost_low = mul_nonneg (pos a) missing (pos_nonneg a) low in
    let cost_high : (pos a *ℤ missing) ≤ℤ ((pos a *ℤ most) *ℤ pos d) =
    subst (λ z. (pos a *ℤ missing) ≤ℤ z) (mul_comm (pos d) (pos a *ℤ most)) (cost-le d a most missing high) in
    record {
      nonneg = low;
      within = high;
      cost_nonneg = le_from_mul (pos d) (pos 0) rounded divisor (omega (arith, linear, cost_low, ceiling.above, mul-zero (pos d), mul_comm (pos d) rounded));
      cost_within = IsCeiling-least (pos a *ℤ missing) (pos d) rounded (pos a *ℤ most) divisor ceiling cost_high;
    }
  where
    positive_factor : (n : ℕ) → 1 ≤ q → q ≡ n * d → pos 0 <ℤ pos n
    positive_factor zero many same = absurd (omega arith)
    positive_factor (suc n) many same = omega (arith, linear)

pub printed_shed : (instance : Instance) (printed : Printed) (q c t : ℕ) → 0 < watt_denominator printed → q ≡ c * watt_denominator printed
    → Obeys instance q (printed_schedule instance printed q) → t < instance.periods
    → IsPrintedShortage (watt_denominator printed) instance.a (most_shed instance t) (shed_at printed t)
printed_shed instance printed q c t some e obeys ht =
    printed_shortage q c (watt_denominator printed) instance.a instance.a _ _ some obeys.denominator e
    (shed_parts instance q (printed_schedule instance printed q) t obeys ht)

pub printed_short : (instance : Instance) (printed : Printed) (q c t : ℕ) → 0 < watt_denominator printed → q ≡ c * watt_denominator printed
    → Obeys instance q (printed_schedule instance printed q) → t < instance.periods
    → IsPrintedShortage (watt_denominator printed) instance.b (most_short instance t) (short_at printed t)
printed_short instance printed q c t some e obeys ht =
    printed_shortage q c (watt_denominator printed) instance.b instance.b _ _ some obeys.denominator e
    (short_parts instance q (printed_schedule instance printed q) t obeys ht)

pub printed_shortages_nonneg : (instance : Instance) (printed : Printed) (q c : ℕ) → 0 < watt_denominator printed → q ≡ c * watt_denominator printed
    → Obeys instance q (printed_schedule instance printed q) → pos 0 ≤ℤ sum_below instance.periods (printed_shortage_cost instance printed)
printed_shortages_nonneg instance printed q c some e obeys =
    sum_below_nonneg instance.periods (printed_shortage_cost instance printed) (λ t ht.
    let shed = (printed_shed instance printed q c t some e obeys ht).cost_nonneg in
    let short = (printed_short instance printed q c t some e obeys ht).cost_nonneg in
    omega (arith, linear, shed, short))

pub printed_shortages-le : (instance : Instance) (printed : Printed) (q c : ℕ) → 0 < watt_denominator printed → q ≡ c * watt_denominator printed
    → Obeys instance q (printed_schedule instance printed q)
    → sum_below instance.periods (printed_shortage_cost instance printed) ≤ℤ greatest_shortage_cost instance instance.a instance.b
printed_shortages-le instance printed q c some e obeys =
    subst (λ z. sum_below instance.periods (printed_shortage_cost instance printed) ≤ℤ z) (greatest_by_period instance instance.a instance.b)
    (sum_below-le instance.periods _ _ (λ t ht.
    add-le-add _ _ _ _ (printed_shed instance printed q c t some e obeys ht).cost_within (printed_short instance printed q c t some e obeys ht).cost_within))

-- where nothing is missing, there is none in any period, and it costs nothing
pub no_shed : (periods : ℕ) (printed : Printed) (t : ℕ) → LacksNothing periods printed → t < periods → shed_at printed t ≡ pos 0
no_shed periods printed t none ht = ap (λ powers. slice_index_or powers t (pos 0)) none.shed ∙ get_or-replicate periods t (pos 0) (pos 0) ht

pub no_short : (periods : ℕ) (printed : Printed) (t : ℕ) → LacksNothing periods printed → t < periods → short_at printed t ≡ pos 0
no_short periods printed t none ht = ap (λ powers. slice_index_or powers t (pos 0)) none.short ∙ get_or-replicate periods t (pos 0) (pos 0) ht
