-- The Lagrangian bound over plain functions of periods, units and renewable units: each priced rule, times its
-- multiplier, is added to the cost, and the sums are regrouped by unit and period.
use Rattle.std.proofs.Common.{◌≡◌, ℕ, zero, suc, ◌<◌, sym, ap, ◌∙◌, arith, ℤ, pos, ◌+ℤ◌, ◌-ℤ◌, ◌*ℤ◌, neg_ℤ, ◌≤ℤ◌}
use Rattle.uc_model.specs.Prelude.{sum_below}
use Rattle.uc_model.proofs.Common.{linear, spread, mul-le-mul_left, mul_left_comm, mul-add, mul-neg, sum_below-le, sum_below-add, sum_below-sub, sum_below-neg, sum_below-mul_left, sum_below-same, sum_below-swap}

-- ---- steps over numbers
-- a sum of products with the period before is one with the period itself, the factors shifted
shifted : (n : ℕ) (c p before : ℕ → ℤ) → ((t : ℕ) → before (suc t) ≡ p t) → sum_below n (λ t. c t *ℤ before t)
    ≡ c 0 *ℤ before 0 +ℤ sum_below n (λ t. c (suc t) *ℤ p t) -ℤ c n *ℤ before n
shifted zero c p before next = omega (arith, linear)
shifted (suc n) c p before next =
    let earlier = shifted n c p before next in
    let same = ap (λ x. c (suc n) *ℤ x) (next n) in
    omega (arith, linear)

-- the ramp rules of a period, times their multipliers
ramp_priced : (q up down ru rd p r before : ℤ) → pos 0 ≤ℤ up → pos 0 ≤ℤ down → (p +ℤ r -ℤ before) ≤ℤ (q *ℤ ru) → (before -ℤ p) ≤ℤ (q *ℤ rd)
    → (q *ℤ (neg_ℤ (up *ℤ ru) -ℤ down *ℤ rd))
    ≤ℤ ((up -ℤ down) *ℤ before +ℤ (down *ℤ p -ℤ up *ℤ p -ℤ up *ℤ r))
ramp_priced q up down ru rd p r before hu hd rise fall =
    let rises = simp spread at (mul-le-mul_left up _ _ hu rise) in
    let falls = simp spread at (mul-le-mul_left down _ _ hd fall) in
    let up_order = mul_left_comm up q ru in
    let down_order = mul_left_comm down q rd in
    simp spread (omega (arith, linear))

-- past the last period nothing is priced
unpriced : (u d before : ℤ) → u ≡ pos 0 → d ≡ pos 0 → (u -ℤ d) *ℤ before ≡ pos 0
unpriced u d before no_up no_down = grind (arith, linear, no_up, no_down)

-- the given output before the first period
initial : (u d before q p0 : ℤ) → before ≡ q *ℤ p0 → (u -ℤ d) *ℤ before ≡ neg_ℤ (q *ℤ ((d -ℤ u) *ℤ p0))
initial u d before q p0 given =
    ap (λ x. (u -ℤ d) *ℤ x) given
    ∙ mul_left_comm (u -ℤ d) q p0
    ∙ ap (λ x. q *ℤ x) (simp spread (omega (arith, linear)))
    ∙ mul-neg q ((d -ℤ u) *ℤ p0)

-- a period's value and its ramp terms are at most its cost, less what its output and reserve are paid
period_regrouped : (u u' d d' pi mu p r m v c : ℤ) → v ≤ℤ (c +ℤ (u -ℤ pi -ℤ u' -ℤ d +ℤ d') *ℤ p +ℤ (u -ℤ mu) *ℤ r -ℤ pi *ℤ m)
    → (v +ℤ ((u' -ℤ d') *ℤ p +ℤ (d *ℤ p -ℤ u *ℤ p -ℤ u *ℤ r))) ≤ℤ (c -ℤ (pi *ℤ (p +ℤ m) +ℤ mu *ℤ r))
period_regrouped u u' d d' pi mu p r m v c bound = let parts = simp spread at bound in simp spread (omega (arith, linear))

-- demand and reserve of a period, less what may be missing of them, are at most what the units give, at their prices, and
-- what the shortages cost
period_supplied : (q pi mu demand reserve supply held output shed short lack paid : ℤ) → pos 0 ≤ℤ mu
    → supply +ℤ output +ℤ shed ≡ q *ℤ demand → (q *ℤ reserve) ≤ℤ (held +ℤ short)
    → (q *ℤ lack) ≤ℤ (paid -ℤ (pi *ℤ shed +ℤ mu *ℤ short))
    → (q *ℤ (pi *ℤ demand +ℤ mu *ℤ reserve +ℤ lack)) ≤ℤ (pi *ℤ supply +ℤ mu *ℤ held +ℤ pi *ℤ output +ℤ paid)
period_supplied q pi mu demand reserve supply held output shed short lack paid sign met enough priced =
    let priced_demand : pi *ℤ supply +ℤ pi *ℤ output +ℤ pi *ℤ shed ≡ q *ℤ (pi *ℤ demand) =
    ap (λ x. x +ℤ pi *ℤ shed) (sym (mul-add pi supply output)) ∙ sym (mul-add pi (supply +ℤ output) shed)
    ∙ ap (λ x. pi *ℤ x) met ∙ mul_left_comm pi q demand in
    let priced_reserve = mul-le-mul_left mu _ _ sign enough in
    let held_spread = mul-add mu held short in
    let order = mul_left_comm mu q reserve in
    let outer = mul-add q (pi *ℤ demand +ℤ mu *ℤ reserve) lack in
    let inner = mul-add q (pi *ℤ demand) (mu *ℤ reserve) in
    omega (arith, linear)

-- a factor of each period, and a sum over units in it, as a sum over units first
factored : (n units : ℕ) (pi : ℕ → ℤ) (f : ℕ → ℕ → ℤ) → sum_below n (λ t. pi t *ℤ sum_below units (λ g. f g t))
    ≡ sum_below units (λ g. sum_below n (λ t. pi t *ℤ f g t))
factored n units pi f =
    sum_below-same n (λ t. pi t *ℤ sum_below units (λ g. f g t)) (λ t. sum_below units (λ g. pi t *ℤ f g t))
    (λ t l. sym (sum_below-mul_left units (pi t) (λ g. f g t)))
    ∙ sum_below-swap n units (λ t g. pi t *ℤ f g t)

-- ---- one unit: over n periods and the denominator q, its ramp limits and initial output, the multipliers, its
-- output above the minimum p with that of the period before, its reserve r, the minimum output while on, what a
-- period costs, and the least reduced cost of a period
module _ (n : ℕ) (q ru rd p0 k : ℤ) (up down pi mu p r before least cost value : ℕ → ℤ) where
  -- what the rules say of them
  pub record Priced : Type 0 where
    pub up_sign : (t : ℕ) → pos 0 ≤ℤ up t
    pub down_sign : (t : ℕ) → pos 0 ≤ℤ down t
    pub up_end : up n ≡ pos 0
    pub down_end : down n ≡ pos 0
    pub first : before 0 ≡ q *ℤ p0
    pub next : (t : ℕ) → before (suc t) ≡ p t
    pub rise : (t : ℕ) → t < n → (p t +ℤ r t -ℤ before t) ≤ℤ (q *ℤ ru)
    pub fall : (t : ℕ) → t < n → (before t -ℤ p t) ≤ℤ (q *ℤ rd)
    pub period : (t : ℕ) → t < n →
        (q *ℤ value t)
        ≤ℤ (k *ℤ cost t +ℤ (up t -ℤ pi t -ℤ up (suc t) -ℤ down t +ℤ down (suc t)) *ℤ p t +ℤ (up t -ℤ mu t) *ℤ r t
        -ℤ pi t *ℤ least t)

  -- the unit's constant
  abbrev constant : ℤ
  constant = sum_below n (λ t. neg_ℤ (up t *ℤ ru) -ℤ down t *ℤ rd) +ℤ (down 0 -ℤ up 0) *ℤ p0

  -- what the ramp rules of a period say of its own output and reserve, and of the output in the next rule
  abbrev own : ℕ → ℤ
  own t = down t *ℤ p t -ℤ up t *ℤ p t -ℤ up t *ℤ r t

  abbrev ramped : ℕ → ℤ
  ramped t = (up (suc t) -ℤ down (suc t)) *ℤ p t +ℤ own t

  abbrev paid : ℕ → ℤ
  paid t = pi t *ℤ (p t +ℤ least t) +ℤ mu t *ℤ r t

  constant_priced : Priced → (q *ℤ constant) ≤ℤ sum_below n ramped
  constant_priced h =
      let limits = λ (t : ℕ). neg_ℤ (up t *ℤ ru) -ℤ down t *ℤ rd in
      let each : sum_below n (λ t. q *ℤ limits t) ≤ℤ sum_below n (λ t. (up t -ℤ down t) *ℤ before t +ℤ own t) =
      sum_below-le n (λ t. q *ℤ limits t) (λ t. (up t -ℤ down t) *ℤ before t +ℤ own t)
      (λ t l.
      ramp_priced q (up t) (down t) ru rd (p t) (r t) (before t) (h.up_sign t) (h.down_sign t) (h.rise t l) (h.fall t l)) in
      let scaled = sum_below-mul_left n q limits in
      let parted = sum_below-add n (λ t. (up t -ℤ down t) *ℤ before t) own in
      let moved = shifted n (λ t. up t -ℤ down t) p before h.next in
      let joined = sum_below-add n (λ t. (up (suc t) -ℤ down (suc t)) *ℤ p t) own in
      let past = unpriced (up n) (down n) (before n) h.up_end h.down_end in
      let start = initial (up 0) (down 0) (before 0) q p0 h.first in
      let spread_out = mul-add q (sum_below n limits) ((down 0 -ℤ up 0) *ℤ p0) in
      omega (arith, linear)

  -- the unit's value with its constant is at most its cost, less what its output and reserve are paid
  pub unit_priced : Priced → (q *ℤ (sum_below n value +ℤ constant)) ≤ℤ (k *ℤ sum_below n cost -ℤ sum_below n paid)
  unit_priced h =
      let ramps = constant_priced h in
      let each : sum_below n (λ t. q *ℤ value t +ℤ ramped t) ≤ℤ sum_below n (λ t. k *ℤ cost t -ℤ paid t) =
      sum_below-le n (λ t. q *ℤ value t +ℤ ramped t) (λ t. k *ℤ cost t -ℤ paid t)
      (λ t l.
      period_regrouped (up t) (up (suc t)) (down t) (down (suc t)) (pi t) (mu t) (p t) (r t) (least t) (q *ℤ value t)
      (k *ℤ cost t) (h.period t l)) in
      let left = sum_below-add n (λ t. q *ℤ value t) ramped in
      let scaled = sum_below-mul_left n q value in
      let right = sum_below-sub n (λ t. k *ℤ cost t) paid in
      let costs = sum_below-mul_left n k cost in
      let spread_out = mul-add q (sum_below n value) constant in
      omega (arith, linear)

-- ---- the system: over n periods and the denominator q, the multipliers, demand and reserve, what is missing of them, what
-- that adds to the bound and costs, each unit's total output and the reserve it holds, each renewable unit's output and what
-- its periods add to the bound, and what each unit adds to the bound and costs
module _ (n units renewables : ℕ) (q k : ℤ) (pi mu demand reserve shed short lack paid : ℕ → ℤ) (thermal held output worth : ℕ → ℕ → ℤ) (value cost : ℕ → ℤ) where
  abbrev bought : ℕ → ℤ
  bought g = sum_below n (λ t. pi t *ℤ thermal g t +ℤ mu t *ℤ held g t)

  abbrev sold : ℕ → ℤ
  sold w = sum_below n (λ t. pi t *ℤ output w t)

  abbrev needed : ℕ → ℤ
  needed t = pi t *ℤ demand t +ℤ mu t *ℤ reserve t +ℤ lack t

  -- what the rules say of them
  pub record Balanced : Type 0 where
    pub mu_sign : (t : ℕ) → pos 0 ≤ℤ mu t
    pub demand_met : (t : ℕ) → t < n →
        sum_below units (λ g. thermal g t) +ℤ sum_below renewables (λ w. output w t) +ℤ shed t ≡ q *ℤ demand t
    pub reserve_met : (t : ℕ) → t < n → (q *ℤ reserve t) ≤ℤ (sum_below units (λ g. held g t) +ℤ short t)
    pub lacking : (t : ℕ) → t < n → (q *ℤ lack t) ≤ℤ (k *ℤ paid t -ℤ (pi t *ℤ shed t +ℤ mu t *ℤ short t))
    pub unit : (g : ℕ) → g < units → (q *ℤ value g) ≤ℤ (k *ℤ cost g -ℤ bought g)
    pub renewable : (w t : ℕ) → w < renewables → t < n → (q *ℤ worth w t) ≤ℤ neg_ℤ (pi t *ℤ output w t)

  -- demand and reserve, less what may be missing, are at most what the units give, at their prices, and what shortages cost
  system_priced : Balanced → (q *ℤ sum_below n needed) ≤ℤ (sum_below units bought +ℤ sum_below renewables sold +ℤ k *ℤ sum_below n paid)
  system_priced h =
      let from_units = λ (t : ℕ). pi t *ℤ sum_below units (λ g. thermal g t) in
      let from_held = λ (t : ℕ). mu t *ℤ sum_below units (λ g. held g t) in
      let from_renewables = λ (t : ℕ). pi t *ℤ sum_below renewables (λ w. output w t) in
      let each : sum_below n (λ t. q *ℤ needed t) ≤ℤ sum_below n (λ t. from_units t +ℤ from_held t +ℤ from_renewables t +ℤ k *ℤ paid t) =
      sum_below-le n (λ t. q *ℤ needed t) (λ t. from_units t +ℤ from_held t +ℤ from_renewables t +ℤ k *ℤ paid t)
      (λ t l.
      period_supplied q (pi t) (mu t) (demand t) (reserve t) _ _ _ (shed t) (short t) (lack t) (k *ℤ paid t)
      (h.mu_sign t) (h.demand_met t l) (h.reserve_met t l) (h.lacking t l)) in
      let scaled = sum_below-mul_left n q needed in
      let whole = sum_below-add n (λ t. from_units t +ℤ from_held t +ℤ from_renewables t) (λ t. k *ℤ paid t) in
      let costs = sum_below-mul_left n k paid in
      let outer = sum_below-add n (λ t. from_units t +ℤ from_held t) from_renewables in
      let inner = sum_below-add n from_units from_held in
      let units_first = factored n units pi thermal in
      let held_first = factored n units mu held in
      let renewables_first = factored n renewables pi output in
      let thermal_paid = λ (g : ℕ). sum_below n (λ t. pi t *ℤ thermal g t) in
      let held_paid = λ (g : ℕ). sum_below n (λ t. mu t *ℤ held g t) in
      let joined = sum_below-add units thermal_paid held_paid in
      let inside : sum_below units bought ≡ sum_below units (λ g. thermal_paid g +ℤ held_paid g) =
      sum_below-same units bought (λ g. thermal_paid g +ℤ held_paid g)
      (λ g l. sum_below-add n (λ t. pi t *ℤ thermal g t) (λ t. mu t *ℤ held g t)) in
      omega (arith, linear)

  -- a renewable unit's periods
  renewable_priced : Balanced → (w : ℕ) → w < renewables → (q *ℤ sum_below n (worth w)) ≤ℤ neg_ℤ (sold w)
  renewable_priced h w l =
      let each : sum_below n (λ t. q *ℤ worth w t) ≤ℤ sum_below n (λ t. neg_ℤ (pi t *ℤ output w t)) =
      sum_below-le n (λ t. q *ℤ worth w t) (λ t. neg_ℤ (pi t *ℤ output w t)) (λ t m. h.renewable w t l m) in
      let scaled = sum_below-mul_left n q (worth w) in
      let parted = sum_below-neg n (λ t. pi t *ℤ output w t) in
      omega (arith, linear)

  -- the bound is at most the cost
  pub bound_priced : Balanced → (q *ℤ (sum_below n needed +ℤ sum_below units value +ℤ sum_below renewables (λ w. sum_below n (worth w))))
      ≤ℤ (k *ℤ (sum_below units cost +ℤ sum_below n paid))
  bound_priced h =
      let system = system_priced h in
      let each_unit : sum_below units (λ g. q *ℤ value g) ≤ℤ sum_below units (λ g. k *ℤ cost g -ℤ bought g) =
      sum_below-le units (λ g. q *ℤ value g) (λ g. k *ℤ cost g -ℤ bought g) h.unit in
      let units_scaled = sum_below-mul_left units q value in
      let units_parted = sum_below-sub units (λ g. k *ℤ cost g) bought in
      let costs = sum_below-mul_left units k cost in
      let worth_of = λ (w : ℕ). sum_below n (worth w) in
      let each_renewable : sum_below renewables (λ w. q *ℤ worth_of w) ≤ℤ sum_below renewables (λ w. neg_ℤ (sold w)) =
      sum_below-le renewables (λ w. q *ℤ worth_of w) (λ w. neg_ℤ (sold w)) (renewable_priced h) in
      let renewables_scaled = sum_below-mul_left renewables q worth_of in
      let renewables_parted = sum_below-neg renewables sold in
      let outer = mul-add q (sum_below n needed +ℤ sum_below units value) (sum_below renewables worth_of) in
      let inner = mul-add q (sum_below n needed) (sum_below units value) in
      let total = mul-add k (sum_below units cost) (sum_below n paid) in
      omega (arith, linear)
