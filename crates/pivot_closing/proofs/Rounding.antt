-- What is printed of a schedule costs hardly more than the schedule: each on cell and each shortage is rounded up by a micro-dollar at most.
-- Cite by `use Rattle.pivot_closing.proofs.Rounding.{printed-le-cost}`.
use Rattle.std.proofs.Common.{◌≡◌, ℕ, ◌+◌, ◌*◌, ◌/◌, ◌<◌, ◌≤◌, ◌≢◌, ⊎_elim, Bool, true, false, refl, sym, ap, subst, ◌∙◌, arith, List, length, ℤ, pos, ◌+ℤ◌, ◌-ℤ◌, ◌*ℤ◌, ◌≤ℤ◌, IsTrue, Option, Some, None, ◌==◌, if◌then◌else◌}
use Rattle.std.specs.Ordering.{int_eq}
use Rattle.std.proofs.lemmas.Bool.{cases_Bool, eqb-true, eqb-false}
use Rattle.uc_model.specs.Prelude.{sum_below, point_of, weighted_cost, category_cost, thermal_unit, thermal_count, Production, Obeys, cell_cost, shortage_cost, cost, quotient_up, Segment, segment_at, segment_width, segment_cost, hull_cost, rise, from_left, to_right, watt_denominator, cell_at, shed_at, short_at, width_on, printed_denominator, refused_weight, segment_weight, printed_schedule, printed_cell_cost, printed_shortage_cost, printed_cost, IsLawfulInstance}
use Rattle.uc_model.specs.declared.instance.Point.{Point}
use Rattle.uc_model.specs.declared.instance.Instance.{Instance}
use Rattle.uc_model.specs.declared.schedule.Printed.{Printed}
use Rattle.uc_model.proofs.Common.{linear, mul-add, mul-sub, mul-zero, mul_comm, mul_assoc, mul_left_comm, pos-mul, scale-le-scale, pos_nonneg, mul-one, sum_below-le, sum_below-mul_left, sum_below-add, sum_below-const, sum_below-zero, rule_at, production_parts, Holds, LiesOn, segment_at-holds, lies_on, parts-ends, value-point, weights-ends, weights-point, denominator-factor, watts-factor, watts_positive, quotient_up-is, share_is}
use Rattle.uc_model.proofs.HullPoints.{wide}

-- ---- the cost of the weights on a segment's ends
-- the costs x and y by the parts a and b of a width, and the cost x and the quotient n rounded up
ends_cost : (c width : ℕ) (x y a b n : ℤ) → a +ℤ b ≡ pos width → (n *ℤ pos width) ≤ℤ ((y -ℤ x) *ℤ b +ℤ pos width)
    → (pos (c * width) *ℤ (x +ℤ n)) ≤ℤ (x *ℤ (a *ℤ pos c) +ℤ y *ℤ (b *ℤ pos c) +ℤ pos (c * width))
ends_cost c width x y a b n parts before =
    let whole = ap (λ z. x *ℤ z) parts ∙ mul_comm x (pos width) in
    let split = mul-add x a b in
    let apart = sub_mul y x b in
    let within : (pos width *ℤ (x +ℤ n)) ≤ℤ (x *ℤ a +ℤ y *ℤ b +ℤ pos width) =
    omega (arith, linear, whole, split, apart, before, mul-add (pos width) x n, mul_comm (pos width) n) in
    let times = scale-le-scale c _ _ within in
    let left = ap (λ z. z *ℤ (x +ℤ n)) (pos-mul c width) ∙ mul_assoc (pos c) (pos width) (x +ℤ n) in
    let right = mul-add (pos c) (x *ℤ a +ℤ y *ℤ b) (pos width) in
    let parts_right = mul-add (pos c) (x *ℤ a) (y *ℤ b) in
    let first = mul_comm (pos c) (x *ℤ a) ∙ mul_assoc x a (pos c) in
    let second = mul_comm (pos c) (y *ℤ b) ∙ mul_assoc y b (pos c) in
    omega (arith, linear, times, left, right, parts_right, first, second, pos-mul c width)
  where
    sub_mul : (u v w : ℤ) → (u -ℤ v) *ℤ w ≡ u *ℤ w -ℤ v *ℤ w
    sub_mul u v w = mul_comm (u -ℤ v) w ∙ mul-sub w u v ∙ (λ i. mul_comm w u i -ℤ mul_comm w v i)

-- the quotient of the hull's value
abbrev over_left : List Point → ℕ → ℤ → Segment → ℤ
over_left points d p s = quotient_up (rise points s.left s.right *ℤ from_left points d p s) (pos (d * segment_width points s))

before : (points : List Point) (d : ℕ) (p : ℤ) (s : Segment) → 0 < d
    → (over_left points d p s *ℤ pos (d * segment_width points s)) ≤ℤ (rise points s.left s.right *ℤ from_left points d p s +ℤ pos (d * segment_width points s))
before points d p s some =
    let width = wide d points s some in
    let up = (quotient_up-is (rise points s.left s.right *ℤ from_left points d p s) (pos (d * segment_width points s)) (omega (arith, linear))).before in
    omega (arith, linear, up)

-- a segment of one point
cost-point : (q : ℕ) (points : List Point) (d : ℕ) (p : ℤ) (s : Segment) → 0 < d → s.left < length points → s.left ≡ s.right
    → (pos q *ℤ segment_cost points d p (Some s)) ≤ℤ (weighted_cost points (segment_weight q points d p (Some s)) +ℤ pos q)
cost-point q points d p s some within same =
    let value = ap (λ z. pos q *ℤ z) (value-point points d p s some same) in
    omega (arith, linear, weights-point q points d p s within same, value, mul_comm (point_of points s.left).cost (pos q), pos_nonneg q)

-- a segment between two points
cost-ends : (q c : ℕ) (points : List Point) (d : ℕ) (p : ℤ) (s : Segment) → Holds points d p s → LiesOn points d p s
    → q ≡ c * (d * segment_width points s) → q / (d * segment_width points s) ≡ c → s.left ≢ s.right → 0 < d
    → (pos q *ℤ segment_cost points d p (Some s)) ≤ℤ (weighted_cost points (segment_weight q points d p (Some s)) +ℤ pos q)
cost-ends q c points d p s holds lies factor share apart some =
    let bound = ends_cost c (d * segment_width points s) (point_of points s.left).cost (point_of points s.right).cost (to_right points d p s)
    (from_left points d p s) (over_left points d p s) (parts-ends points d p s lies apart) (before points d p s some) in
    subst (λ n. (pos n *ℤ segment_cost points d p (Some s)) ≤ℤ (weighted_cost points (segment_weight q points d p (Some s)) +ℤ pos n)) (sym factor)
    (omega (arith, linear, weights-ends q c points d p s holds lies share apart, bound))

-- q times the hull's value rounded up is at most q more than the weights on the ends cost
cost-segment : (q c : ℕ) (points : List Point) (d : ℕ) (p : ℤ) (s : Segment) → segment_at points d p ≡ Some s
    → q ≡ c * (d * segment_width points s) → 0 < d
    → (pos q *ℤ segment_cost points d p (Some s)) ≤ℤ (weighted_cost points (segment_weight q points d p (Some s)) +ℤ pos q)
cost-segment q c points d p s e factor some =
    let holds = segment_at-holds points d p s e in
    ⊎_elim
    (λ (same : IsTrue (s.left == s.right)). cost-point q points d p s some holds.left (eqb-true s.left s.right same))
    (λ (apart : (s.left == s.right) ≡ false).
    cost-ends q c points d p s holds (lies_on points d p s holds) factor (share_is q c (d * segment_width points s) (wide d points s some) factor)
    (eqb-false s.left s.right apart) some)
    (cases_Bool (s.left == s.right))

-- ---- a cell
-- weights that M8 refuses
no_refused : {A : Type 0} (q n : ℕ) → 0 < n → ((l : ℕ) → l < n → refused_weight q l ≤ q) → A
no_refused q n some within = absurd (let first = within 0 some in omega arith)

on_cell : (q c : ℕ) (points : List Point) (d : ℕ) (p : ℤ) (s : Option Segment) → segment_at points d p ≡ s → 0 < length points → 0 < d
    → ((l : ℕ) → l < length points → segment_weight q points d p s l ≤ q) → q ≡ c * (d * width_on points s)
    → (pos q *ℤ segment_cost points d p s) ≤ℤ (weighted_cost points (segment_weight q points d p s) +ℤ pos q)
on_cell q c points d p None e some positive within factor = no_refused q (length points) some within
on_cell q c points d p (Some s) e some positive within factor = cost-segment q c points d p s e factor positive

off_cell : (q : ℕ) (points : List Point) (idle : Bool) → 0 < length points
    → ((l : ℕ) → l < length points → (if idle then 0 else refused_weight q l) ≤ q)
    → (pos q *ℤ pos 0) ≤ℤ (weighted_cost points (λ l. if idle then 0 else refused_weight q l) +ℤ pos q)
off_cell q points true some within =
    let total = sum_below-zero (length points) (λ l. (point_of points l).cost *ℤ pos 0) (λ l h. mul-zero (point_of points l).cost) in
    omega (arith, linear, total, mul-zero (pos q), pos_nonneg q)
off_cell q points false some within = no_refused q (length points) some within

cell_weights : (q c : ℕ) (points : List Point) (d : ℕ) (on : Bool) (p : ℤ) → 0 < length points → 0 < d → ((l : ℕ) → l < length points
    → (if on then segment_weight q points d p (segment_at points d p) l else (if int_eq p (pos 0) then 0 else refused_weight q l)) ≤ q)
    → q ≡ c * (d * (if on then width_on points (segment_at points d p) else 1))
    → (pos q *ℤ (if on then hull_cost points d p else pos 0))
    ≤ℤ (weighted_cost points (λ l. if on then segment_weight q points d p (segment_at points d p) l else (if int_eq p (pos 0) then 0 else refused_weight q l)) +ℤ pos q)
cell_weights q c points d true p some positive within factor =
    on_cell q c points d p (segment_at points d p) refl some positive within factor
cell_weights q c points d false p some positive within factor = off_cell q points (int_eq p (pos 0)) some within

-- ---- the schedule
module _ (instance : Instance) (printed : Printed) (lawful : IsLawfulInstance instance)
    (obeys : Obeys instance (printed_denominator instance printed) (printed_schedule instance printed (printed_denominator instance printed))) where
  abbrev q : ℕ
  q = printed_denominator instance printed

  abbrev d : ℕ
  d = watt_denominator printed

  abbrev printed_cell : ℕ → ℕ → ℤ
  printed_cell g t = printed_cell_cost (thermal_unit instance g) d (cell_at printed g t)

  abbrev paid_cell : ℕ → ℕ → ℤ
  paid_cell g t = cell_cost q (thermal_unit instance g) ((printed_schedule instance printed q).thermal g) t

  some : 0 < d
  some = watts_positive printed q (watts-factor instance printed).0 (watts-factor instance printed).1 obeys.denominator

  cell_close : (g t : ℕ) → g < thermal_count instance → t < instance.periods → (pos q *ℤ printed_cell g t) ≤ℤ (paid_cell g t +ℤ pos q)
  cell_close g t hg ht =
      let unit = thermal_unit instance g in
      let cell = cell_at printed g t in
      let made = production_parts q unit ((printed_schedule instance printed q).thermal g) t (rule_at instance q (printed_schedule instance printed q) obeys Production g t hg ht) in
      let factor = denominator-factor instance printed g t hg ht in
      let production = cell_weights q factor.0 unit.points d cell.on cell.p (omega (arith, (lawful.thermal g hg).points.0)) some made.weights factor.1 in
      let whole = mul-add (pos q) (if cell.on then hull_cost unit.points d cell.p else pos 0) (category_cost unit cell.category) in
      omega (arith, linear, production, whole)

  shortage_close : (a : ℕ) (missing : ℤ) → (pos q *ℤ quotient_up (pos a *ℤ missing) (pos d)) ≤ℤ (pos a *ℤ (pos (q / d) *ℤ missing) +ℤ pos q)
  shortage_close a missing =
      let factor = watts-factor instance printed in
      let c = factor.0 in
      let rounded = quotient_up (pos a *ℤ missing) (pos d) in
      let up = (quotient_up-is (pos a *ℤ missing) (pos d) (let some_d = some in omega (arith, linear))).before in
      let left : pos a *ℤ (pos (q / d) *ℤ missing) ≡ pos c *ℤ (pos a *ℤ missing) =
      ap (λ k. pos a *ℤ (pos k *ℤ missing)) (share_is q c d some factor.1) ∙ mul_left_comm (pos a) (pos c) missing in
      let scaled : pos q ≡ pos c *ℤ pos d = ap pos factor.1 ∙ pos-mul c d in
      let right : pos q *ℤ rounded ≡ pos c *ℤ (rounded *ℤ pos d) =
      ap (λ z. z *ℤ rounded) scaled ∙ mul_assoc (pos c) (pos d) rounded ∙ ap (λ z. pos c *ℤ z) (mul_comm (pos d) rounded) in
      let times = scale-le-scale c (rounded *ℤ pos d) (pos a *ℤ missing +ℤ pos d) (omega (arith, linear, up)) in
      omega (arith, linear, times, left, scaled, right, mul-add (pos c) (pos a *ℤ missing) (pos d))

  lack_close : (t : ℕ) → t < instance.periods
      → (pos q *ℤ printed_shortage_cost instance printed t) ≤ℤ (shortage_cost instance (printed_schedule instance printed q) t +ℤ pos q *ℤ pos 2)
  lack_close t ht =
      let shed = shortage_close instance.a (shed_at printed t) in
      let short = shortage_close instance.b (short_at printed t) in
      let whole = mul-add (pos q) (quotient_up (pos instance.a *ℤ shed_at printed t) (pos d)) (quotient_up (pos instance.b *ℤ short_at printed t) (pos d)) in
      let two : pos q *ℤ pos 2 ≡ pos q +ℤ pos q = mul-add (pos q) (pos 1) (pos 1) ∙ (λ i. mul-one (pos q) i +ℤ mul-one (pos q) i) in
      omega (arith, linear, shed, short, whole, two)

  -- sums whose items are at most so much more
  sum_close : (n : ℕ) (f h : ℕ → ℤ) (more : ℤ) → ((k : ℕ) → k < n → (pos q *ℤ f k) ≤ℤ (h k +ℤ pos q *ℤ more))
      → (pos q *ℤ sum_below n f) ≤ℤ (sum_below n h +ℤ pos q *ℤ (pos n *ℤ more))
  sum_close n f h more each =
      let sums = sum_below-le n (λ k. pos q *ℤ f k) (λ k. h k +ℤ pos q *ℤ more) each in
      let left = sum_below-mul_left n (pos q) f in
      let right = sum_below-add n h (λ k. pos q *ℤ more) in
      let same = sum_below-const n (pos q *ℤ more) ∙ mul_left_comm (pos n) (pos q) more in
      omega (arith, linear, sums, left, right, same)

  units_close : (pos q *ℤ sum_below (thermal_count instance) (λ g. sum_below instance.periods (printed_cell g)))
      ≤ℤ (sum_below (thermal_count instance) (λ g. sum_below instance.periods (paid_cell g)) +ℤ pos q *ℤ (pos (thermal_count instance) *ℤ (pos instance.periods *ℤ pos 1)))
  units_close =
      sum_close (thermal_count instance) (λ g. sum_below instance.periods (printed_cell g)) (λ g. sum_below instance.periods (paid_cell g)) (pos instance.periods *ℤ pos 1)
      (λ g hg. sum_close instance.periods (printed_cell g) (paid_cell g) (pos 1)
      (λ t ht. let cell = cell_close g t hg ht in omega (arith, linear, cell, mul-one (pos q))))

  -- the printed cost, q times, by so many roundings: one for each cell and two for each period
  pub printed-le-cost : (pos q *ℤ printed_cost instance printed)
      ≤ℤ (cost instance q (printed_schedule instance printed q) +ℤ pos q *ℤ pos (thermal_count instance * instance.periods + 2 * instance.periods))
  printed-le-cost =
      let lacks = sum_close instance.periods (printed_shortage_cost instance printed) (shortage_cost instance (printed_schedule instance printed q)) (pos 2) lack_close in
      let whole = mul-add (pos q) (sum_below (thermal_count instance) (λ g. sum_below instance.periods (printed_cell g)))
      (sum_below instance.periods (printed_shortage_cost instance printed)) in
      let cells : pos (thermal_count instance) *ℤ (pos instance.periods *ℤ pos 1) ≡ pos (thermal_count instance * instance.periods) =
      ap (λ z. pos (thermal_count instance) *ℤ z) (mul-one (pos instance.periods)) ∙ sym (pos-mul (thermal_count instance) instance.periods) in
      let both : pos instance.periods *ℤ pos 2 ≡ pos (2 * instance.periods) = mul_comm (pos instance.periods) (pos 2) ∙ sym (pos-mul 2 instance.periods) in
      let sum : pos (thermal_count instance * instance.periods + 2 * instance.periods) ≡ pos (thermal_count instance * instance.periods) +ℤ pos (2 * instance.periods) = refl in
      let first = ap (λ z. pos q *ℤ z) cells in
      let second = ap (λ z. pos q *ℤ z) both in
      let joined = ap (λ z. pos q *ℤ z) sum ∙ mul-add (pos q) (pos (thermal_count instance * instance.periods)) (pos (2 * instance.periods)) in
      omega (arith, linear, units_close, lacks, whole, first, second, joined)
