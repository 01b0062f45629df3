-- A printed schedule that obeys costs at most its printed cost, which is at most COST_MAX in size.
-- Cite from a crate above by `use Rattle.uc_model.proofs.PrintedCosts.{cost-le-printed}`.
use Rattle.std.proofs.Common.{◌≡◌, ℕ, zero, suc, ◌*◌, ◌<◌, ◌≤◌, ⊎_elim, Bool, true, false, refl, sym, ap, subst, ◌∙◌, arith, length, ℤ, pos, ◌+ℤ◌, ◌-ℤ◌, ◌*ℤ◌, ◌≤ℤ◌, ◌<ℤ◌, List, Option, Some, None, unsigned_abs, if◌then◌else◌}
use Rattle.std.specs.Ordering.{int_eq}
use Rattle.std.proofs.lemmas.Bool.{cases_lt}
use Rattle.uc_model.specs.Prelude.{sum_below, Point, point_of, weighted_cost, Thermal, category_cost, Instance, thermal_unit, thermal_count, Category, Production, Obeys, cell_cost, unit_cost, cost, Segment, segment_at, segment_width, segment_cost, hull_cost, rise, from_left, Printed, watt_denominator, product_below, width_on, cell_width, printed_denominator, refused_weight, segment_weight, printed_schedule, printed_cell_cost, printed_shortage_cost, printed_cost, IsLawfulThermal, IsLawfulInstance, MAX_COST, COST_MAX, IsCeiling}
use Rattle.uc_model.specs.PrintedSchedule.{cell_at}
use Rattle.uc_model.proofs.Ring.{linear, mul-add, mul-zero, zero-mul, mul_comm, mul_nonneg, mul-le-mul_left, mul-le-mul_turned, le_from_mul, le_or_lt, le_trans, add-le-add, sub_nonneg, pos-le-pos}
use Rattle.uc_model.proofs.Sums.{sum_below-le, sum_below-mul_left, sum_below-zero}
use Rattle.uc_model.proofs.Obeyed.{rule_at, production_parts}
use Rattle.uc_model.proofs.HullPoints.{segment_at-holds, lies_on, from_left-le, cost-segment, wide}
use Rattle.uc_model.proofs.CostBound.{IsWithin, within_of_abs, abs_of_within, within_add, within_more, within_const_sum, within_shortages, category_cost_fits}
use Rattle.uc_model.proofs.Shortages.{share_is, shortages-le-printed, printed_shortages_nonneg, printed_shortages-le}
use Rattle.uc_model.proofs.Quotients.{IsCeiling-least, quotient_up-is}

-- ---- the denominator is a multiple of each cell's
product_below-factor : (n : ℕ) (f : ℕ → ℕ) (k : ℕ) → k < n → (c : ℕ) × (product_below n f ≡ c * f k)
product_below-factor zero f k h = absurd (omega arith)
product_below-factor (suc n) f k h =
    ⊎_elim
    (λ (less : k < n).
    let before = product_below-factor n f k less in
    (before.0 * f n, ap (λ m. m * f n) before.1 ∙ (grind arith)))
    (λ (last : n ≤ k).
    let same : n ≡ k = omega arith in
    (product_below n f, ap (λ i. product_below n f * f i) same))
    (cases_lt k n)

pub denominator-factor : (instance : Instance) (printed : Printed) (g t : ℕ) → g < thermal_count instance → t < instance.periods
    → (c : ℕ) × (printed_denominator instance printed ≡ c * (watt_denominator printed * cell_width (thermal_unit instance g).points (watt_denominator printed) (cell_at printed g t)))
denominator-factor instance printed g t hg ht =
    let d = watt_denominator printed in
    let widths = λ (i j : ℕ). cell_width (thermal_unit instance i).points d (cell_at printed i j) in
    let outer = product_below-factor (thermal_count instance) (λ i. product_below instance.periods (widths i)) g hg in
    let inner = product_below-factor instance.periods (widths g) t ht in (
      outer.0 * inner.0,
      ap (λ m. d * m) (outer.1 ∙ ap (λ m. outer.0 * m) inner.1) ∙ (grind arith),
    )

-- and of that of the watts
pub watts-factor : (instance : Instance) (printed : Printed) → (c : ℕ) × (printed_denominator instance printed ≡ c * watt_denominator printed)
watts-factor instance printed =
    let d = watt_denominator printed in
    let widths = product_below (thermal_count instance) (λ g.
    product_below instance.periods (λ t. cell_width (thermal_unit instance g).points d (cell_at printed g t))) in
    (widths, grind arith)

-- which is at least 1 where the other is
pub watts_positive : (printed : Printed) (q c : ℕ) → q ≡ c * watt_denominator printed → 1 ≤ q → 0 < watt_denominator printed
watts_positive printed q c factor some = grind (arith, linear, factor, some)

-- ---- a cell
-- weights that M8 refuses
no_refused : {A : Type 0} (q n : ℕ) → 0 < n → ((l : ℕ) → l < n → refused_weight q l ≤ q) → A
no_refused q n some within = absurd (let first = within 0 some in omega arith)

on_cell : (q c : ℕ) (points : List Point) (d : ℕ) (p : ℤ) (s : Option Segment) → segment_at points d p ≡ s → 0 < length points → 0 < d
    → ((l : ℕ) → l < length points → segment_weight q points d p s l ≤ q) → q ≡ c * (d * width_on points s)
    → weighted_cost points (segment_weight q points d p s) ≤ℤ (pos q *ℤ segment_cost points d p s)
on_cell q c points d p None e some positive within factor = no_refused q (length points) some within
on_cell q c points d p (Some s) e some positive within factor = grind (arith, linear, cost-segment, share_is, wide, e, some, positive, within, factor)

off_cell : (q : ℕ) (points : List Point) (idle : Bool) → 0 < length points
    → ((l : ℕ) → l < length points → (if idle then 0 else refused_weight q l) ≤ q)
    → weighted_cost points (λ l. if idle then 0 else refused_weight q l) ≤ℤ (pos q *ℤ pos 0)
off_cell q points true some within = grind (arith, linear, sum_below-zero, mul-zero, some, within)
off_cell q points false some within = no_refused q (length points) some within

-- the weights that a cell stands for cost at most q times what is printed
cell_weights : (q c : ℕ) (points : List Point) (d : ℕ) (on : Bool) (p : ℤ) → 0 < length points → 0 < d → ((l : ℕ) → l < length points
    → (if on then segment_weight q points d p (segment_at points d p) l else (if int_eq p (pos 0) then 0 else refused_weight q l)) ≤ q)
    → q ≡ c * (d * (if on then width_on points (segment_at points d p) else 1))
    → weighted_cost points (λ l. if on then segment_weight q points d p (segment_at points d p) l else (if int_eq p (pos 0) then 0 else refused_weight q l))
    ≤ℤ (pos q *ℤ (if on then hull_cost points d p else pos 0))
cell_weights q c points d true p some positive within factor = grind (arith, linear, on_cell, some, positive, within, factor)
cell_weights q c points d false p some positive within factor = off_cell q points (int_eq p (pos 0)) some within

cell_cost-le : (instance : Instance) (printed : Printed) (g t : ℕ) → IsLawfulInstance instance
    → Obeys instance (printed_denominator instance printed) (printed_schedule instance printed (printed_denominator instance printed))
    → g < thermal_count instance → t < instance.periods
    → cell_cost (printed_denominator instance printed) (thermal_unit instance g)
    ((printed_schedule instance printed (printed_denominator instance printed)).thermal g) t
    ≤ℤ (pos (printed_denominator instance printed) *ℤ printed_cell_cost (thermal_unit instance g) (watt_denominator printed) (cell_at printed g t))
cell_cost-le instance printed g t lawful obeys hg ht =
    let q = printed_denominator instance printed in
    let x = printed_schedule instance printed q in
    let unit = thermal_unit instance g in
    let cell = cell_at printed g t in
    let made = production_parts q unit (x.thermal g) t (rule_at instance q x obeys Production g t hg ht) in
    let factor = denominator-factor instance printed g t hg ht in
    let share = watts-factor instance printed in
    let production = cell_weights q factor.0 unit.points (watt_denominator printed) cell.on cell.p
    (omega (arith, (lawful.thermal g hg).points.0)) (watts_positive printed q share.0 share.1 obeys.denominator) made.weights factor.1 in
    let whole = mul-add (pos q) (if cell.on then hull_cost unit.points (watt_denominator printed) cell.p else pos 0) (category_cost unit cell.category) in
    omega (arith, linear, production, whole)

-- the schedule that a printed one stands for costs at most the printed cost
pub cost-le-printed : (instance : Instance) (printed : Printed) → IsLawfulInstance instance
    → Obeys instance (printed_denominator instance printed) (printed_schedule instance printed (printed_denominator instance printed))
    → cost instance (printed_denominator instance printed) (printed_schedule instance printed (printed_denominator instance printed))
    ≤ℤ (pos (printed_denominator instance printed) *ℤ printed_cost instance printed)
cost-le-printed instance printed lawful obeys =
    let q = printed_denominator instance printed in
    let printed_cell = λ (g t : ℕ). printed_cell_cost (thermal_unit instance g) (watt_denominator printed) (cell_at printed g t) in
    let each = sum_below-le (thermal_count instance) _ (λ g. pos q *ℤ sum_below instance.periods (printed_cell g))
    (λ g hg. subst (λ z. unit_cost instance.periods q (thermal_unit instance g) ((printed_schedule instance printed q).thermal g) ≤ℤ z)
    (sum_below-mul_left instance.periods (pos q) (printed_cell g))
    (sum_below-le instance.periods _ (λ t. pos q *ℤ printed_cell g t) (λ t ht. cell_cost-le instance printed g t lawful obeys hg ht))) in
    let units = subst (λ z. sum_below (thermal_count instance) (λ g. unit_cost instance.periods q (thermal_unit instance g) ((printed_schedule instance printed q).thermal g)) ≤ℤ z)
    (sum_below-mul_left (thermal_count instance) (pos q) (λ g. sum_below instance.periods (printed_cell g))) each in
    let share = watts-factor instance printed in
    let shortages = shortages-le-printed instance printed q share.0 (watts_positive printed q share.0 share.1 obeys.denominator) share.1 in
    let whole = mul-add (pos q) (sum_below (thermal_count instance) (λ g. sum_below instance.periods (printed_cell g)))
    (sum_below instance.periods (printed_shortage_cost instance printed)) in
    subst (λ z. cost instance q (printed_schedule instance printed q) ≤ℤ z) (sym whole) (add-le-add _ _ _ _ units shortages)

-- ---- its size
-- between two numbers of at most m in size, n being the part of their difference rounded up
between : (x y b n : ℤ) (m width : ℕ) → 0 < width → pos 0 ≤ℤ b → b ≤ℤ pos width → IsCeiling ((y -ℤ x) *ℤ b) (pos width) n
    → IsWithin (pos m) x → IsWithin (pos m) y → IsWithin (pos m) (x +ℤ n)
between x y b n m width some low high ceiling first second = ⊎_elim
    (λ (rising : x ≤ℤ y).
    let nonneg = mul_nonneg (y -ℤ x) b (sub_nonneg x y rising) low in
    let most = mul-le-mul_left (y -ℤ x) b (pos width) (sub_nonneg x y rising) high in
    let up : n ≤ℤ (y -ℤ x) = IsCeiling-least ((y -ℤ x) *ℤ b) (pos width) n (y -ℤ x) (omega (arith, linear)) ceiling most in
    let down : pos 0 ≤ℤ n = le_from_mul (pos width) (pos 0) n (omega (arith, linear))
    (omega (arith, linear, ceiling.above, nonneg, mul-zero (pos width), mul_comm (pos width) n)) in
    record { low = omega (arith, linear, up, down, first.low, second.high); high = omega (arith, linear, up, down, first.low, second.high) })
    (λ (falling : y <ℤ x).
    let nonpos = mul-le-mul_turned (y -ℤ x) (pos 0) b (omega (arith, linear)) low in
    let least = mul-le-mul_turned (y -ℤ x) b (pos width) (omega (arith, linear)) high in
    let up : n ≤ℤ pos 0 = IsCeiling-least ((y -ℤ x) *ℤ b) (pos width) n (pos 0) (omega (arith, linear)) ceiling
    (omega (arith, linear, nonpos, mul-zero (y -ℤ x), zero-mul (pos width))) in
    let down : (y -ℤ x) ≤ℤ n = le_from_mul (pos width) (y -ℤ x) n (omega (arith, linear))
    (omega (arith, linear, least, ceiling.above, mul_comm (pos width) (y -ℤ x), mul_comm (pos width) n)) in
    record { low = omega (arith, linear, up, down, first.high, second.low); high = omega (arith, linear, up, down, first.high, second.low) })
    (le_or_lt x y)

hull_cost-within : (unit : Thermal) (d : ℕ) (p : ℤ) (s : Option Segment) → IsLawfulThermal unit → 0 < d → segment_at unit.points d p ≡ s
    → IsWithin (pos MAX_COST) (segment_cost unit.points d p s)
hull_cost-within unit d p None lawful some e = record { low = omega (arith, linear); high = omega (arith, linear) }
hull_cost-within unit d p (Some s) lawful some e =
    let points = unit.points in
    let holds = segment_at-holds points d p s e in
    let lies = lies_on points d p s holds in
    let positive : 0 < d * segment_width points s = wide d points s some in
    between (point_of points s.left).cost (point_of points s.right).cost (from_left points d p s) _ MAX_COST (d * segment_width points s)
    positive lies.after (from_left-le points d p s lies)
    (quotient_up-is (rise points s.left s.right *ℤ from_left points d p s) (pos (d * segment_width points s)) (omega (arith, linear)))
    (within_of_abs _ _ (lawful.costs s.left holds.left)) (within_of_abs _ _ (lawful.costs s.right holds.right))

printed_hull-within : (unit : Thermal) (d : ℕ) (on : Bool) (p : ℤ) → IsLawfulThermal unit → 0 < d
    → IsWithin (pos MAX_COST) (if on then hull_cost unit.points d p else pos 0)
printed_hull-within unit d true p lawful some = hull_cost-within unit d p (segment_at unit.points d p) lawful some refl
printed_hull-within unit d false p lawful some = record { low = omega (arith, linear); high = omega (arith, linear) }

-- the printed cost of a printed schedule that obeys is at most COST_MAX in size
pub printed_cost-fits : (instance : Instance) (printed : Printed) (q c : ℕ) → IsLawfulInstance instance
    → q ≡ c * watt_denominator printed → Obeys instance q (printed_schedule instance printed q) → unsigned_abs (printed_cost instance printed) ≤ COST_MAX
printed_cost-fits instance printed q c lawful factor obeys =
    let d = watt_denominator printed in
    let x = printed_schedule instance printed q in
    let some = watts_positive printed q c factor obeys.denominator in
    let cell = λ (g t : ℕ) (hg : g < thermal_count instance) (ht : t < instance.periods).
    within_add (pos MAX_COST) (pos MAX_COST) _ _
    (printed_hull-within (thermal_unit instance g) d (cell_at printed g t).on (cell_at printed g t).p (lawful.thermal g hg) some)
    (category_cost_fits (thermal_unit instance g) (x.thermal g) t (lawful.thermal g hg) (rule_at instance q x obeys Category g t hg ht)) in
    let units = λ (g : ℕ) (hg : g < thermal_count instance).
    within_const_sum instance.periods (λ t. printed_cell_cost (thermal_unit instance g) d (cell_at printed g t)) (pos (2 * MAX_COST)) (λ t ht. cell g t hg ht) in
    let all = within_const_sum (thermal_count instance) _ (pos instance.periods *ℤ pos (2 * MAX_COST)) units in
    let shortages = within_shortages _ _ (printed_shortages_nonneg instance printed q c some factor obeys)
    (le_trans _ _ _ (printed_shortages-le instance printed q c some factor obeys) lawful.shortages) in
    abs_of_within _ _ (within_more _ _ _ (within_add _ _ _ _ all shortages) (pos-le-pos _ _ (grind (arith, lawful.thermal_units, lawful.periods.1))))
