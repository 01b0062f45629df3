-- K times the cost of weights on a unit's points is at least q*L(p/q) at their output p: along the hull, from one whole
-- watt to the next, L rises no faster than K times the hull, and no weights cost less than the hull.
use Rattle.std.proofs.Common.{◌≡◌, ℕ, zero, suc, ◌+◌, ◌-◌, ◌*◌, ◌/◌, ◌<◌, ◌≤◌, ◌≢◌, ⊎_elim, refl, sym, ap, subst, ◌∙◌, arith, List, length, ℤ, pos, ◌+ℤ◌, ◌-ℤ◌, ◌*ℤ◌, neg_ℤ, ◌≤ℤ◌, ◌<ℤ◌, ◌==◌, if◌then◌else◌}
use Rattle.std.proofs.Math.Nat.{le-max_left}
use Rattle.std.proofs.lemmas.Nat.{div-mul-add}
use Rattle.std.proofs.lemmas.Bool.{cond-true, cond-false, eq-eqb, ne_eqb}
use Rattle.uc_model.specs.Prelude.{sum_below, quotient_up, point_of, output_of, weighted_total, weighted_output, weighted_cost, run, rise, Segment, hull_cost}
use Rattle.uc_model.proofs.Common.{linear, spread, mul_comm, mul_assoc, mul_left_comm, mul-add, mul-sub, mul-zero, zero-mul, one-mul, mul-le-mul_left, mul-le-mul_right, le_from_mul, pos_of_nonneg, pos_nonneg, sum_below-same, sum_below-le, sum_below-sub, sum_below-mul_left, sum_below-split, sum_below-const, sum_below-pair, IsFloor-int_div_euclid, width_is, Rises, outputs_rise, IsUnder, Steps, step_there, Begins, begin_there}
use Rattle.dual_model.specs.Prelude.{Point, slope_from}
use Rattle.dual_model.specs.ExactValue.{floored_cost}
use Rattle.dual_model.proofs.Hermite.{small}

-- ---- sums of the slopes
-- along x whole steps and a part of the next one
whole_steps : (q x part : ℕ) (f : ℕ → ℤ) → part ≤ q → sum_below (q * x + part) (λ y. f (y / q)) ≡ pos q *ℤ sum_below x f +ℤ pos part *ℤ f x
whole_steps q zero part f h =
    let none : q * 0 + part ≡ part = omega arith in
    let each = sum_below-same part (λ y. f (y / q)) (λ y. f 0) (λ y l. ap f (small y q (omega (arith, l, h)))) in
    let times = sum_below-const part (f 0) in
    let nothing = mul-zero (pos q) in
    ap (λ n. sum_below n (λ y. f (y / q))) none ∙ omega (arith, linear, each, times, nothing)
whole_steps q (suc x) part f h =
    let base : q * suc x ≡ q * x + q = omega arith in
    let before = whole_steps q x q f (omega arith) in
    let split = sum_below-split (q * x + q) part (λ y. f (y / q)) in
    let inside : (k : ℕ) → k < q → (q * x + q + k) / q ≡ suc x = λ k l. ap (λ n. n / q) (omega arith) ∙ div-mul-add (suc x) q k l in
    let each = sum_below-same part (λ k. f ((q * x + q + k) / q)) (λ k. f (suc x))
    (λ k l. ap f (inside k (omega (arith, l, h)))) in
    let times = sum_below-const part (f (suc x)) in
    let parts = mul-add (pos q) (sum_below x f) (f x) in
    ap (λ n. sum_below (n + part) (λ y. f (y / q))) base ∙ omega (arith, linear, before, split, each, times, parts)

-- L at whole watts
abbrev whole_cost : List Point → ℤ → ℕ → ℤ
whole_cost points k x = k *ℤ hull_cost points 1 (pos 0) +ℤ sum_below x (slope_from points k)

-- L, q times, a part of a step behind x whole watts
pub floored_cost-is : (points : List Point) (k : ℤ) (q x part : ℕ) → part ≤ q
    → floored_cost points k q (q * x + part) ≡ pos q *ℤ whole_cost points k x +ℤ pos part *ℤ slope_from points k x
unfolding floored_cost
floored_cost-is points k q x part h =
    let steps = whole_steps q x part (slope_from points k) h in
    let parts = mul-add (pos q) (k *ℤ hull_cost points 1 (pos 0)) (sum_below x (slope_from points k)) in
    omega (arith, linear, steps, parts)

-- ---- weights and a line below the points
shifted_sum : (n : ℕ) (f : ℕ → ℤ) (w : ℕ → ℕ) (m : ℤ) → sum_below n (λ l. (f l -ℤ m) *ℤ pos (w l)) ≡ sum_below n (λ l. f l *ℤ pos (w l))
    -ℤ m *ℤ sum_below n (λ l. pos (w l))
shifted_sum n f w m =
    sum_below-same n _ (λ l. f l *ℤ pos (w l) -ℤ m *ℤ pos (w l)) (λ l h. simp spread (omega (arith, linear)))
    ∙ sum_below-sub n (λ l. f l *ℤ pos (w l)) (λ l. m *ℤ pos (w l))
    ∙ ap (λ z. sum_below n (λ l. f l *ℤ pos (w l)) -ℤ z) (sum_below-mul_left n m (λ l. pos (w l)))

-- no weights cost less than the line through the segment's ends says at their output
line_below : (points : List Point) (s : Segment) → IsUnder points s → (q : ℕ) (weight : ℕ → ℕ) → weighted_total points weight ≡ pos q
    → (pos q *ℤ (run points s.left s.right *ℤ (point_of points s.left).cost)
    +ℤ rise points s.left s.right *ℤ (weighted_output points weight -ℤ output_of points s.left *ℤ pos q))
    ≤ℤ (run points s.left s.right *ℤ weighted_cost points weight)
line_below points s under q weight total =
    let n = length points in
    let cost = λ (l : ℕ). (point_of points l).cost in
    let out = output_of points in
    let wide = run points s.left s.right in
    let up = rise points s.left s.right in
    let each = sum_below-le n (λ l. up *ℤ ((out l -ℤ out s.left) *ℤ pos (weight l)))
    (λ l. wide *ℤ ((cost l -ℤ cost s.left) *ℤ pos (weight l)))
    (λ l h.
    let times = mul-le-mul_right (pos (weight l)) _ _ (pos_nonneg (weight l)) (under.above l h) in
    let first = mul_assoc up (out l -ℤ out s.left) (pos (weight l)) in
    let second = ap (λ z. z *ℤ pos (weight l)) (mul_comm (cost l -ℤ cost s.left) wide)
    ∙ mul_assoc wide (cost l -ℤ cost s.left) (pos (weight l)) in
    omega (arith, linear, times, first, second)) in
    let left = sum_below-mul_left n up (λ l. (out l -ℤ out s.left) *ℤ pos (weight l))
    ∙ ap (λ z. up *ℤ z) (shifted_sum n out weight (out s.left)) in
    let right = sum_below-mul_left n wide (λ l. (cost l -ℤ cost s.left) *ℤ pos (weight l))
    ∙ ap (λ z. wide *ℤ z) (shifted_sum n cost weight (cost s.left)) in
    let outputs : up *ℤ (weighted_output points weight -ℤ out s.left *ℤ weighted_total points weight)
    ≡ up *ℤ (weighted_output points weight -ℤ out s.left *ℤ pos q) =
    ap (λ z. up *ℤ (weighted_output points weight -ℤ out s.left *ℤ z)) total in
    let costs : wide *ℤ (weighted_cost points weight -ℤ cost s.left *ℤ weighted_total points weight)
    ≡ wide *ℤ (weighted_cost points weight -ℤ cost s.left *ℤ pos q) =
    ap (λ z. wide *ℤ (weighted_cost points weight -ℤ cost s.left *ℤ z)) total in
    let parts = mul-sub wide (weighted_cost points weight) (cost s.left *ℤ pos q) in
    let order : wide *ℤ (cost s.left *ℤ pos q) ≡ pos q *ℤ (wide *ℤ cost s.left) =
    ap (λ z. wide *ℤ z) (mul_comm (cost s.left) (pos q)) ∙ mul_left_comm wide (pos q) (cost s.left) in
    omega (arith, linear, each, left, right, outputs, costs, parts, order)

-- ---- at 0
up_none : (a : ℤ) (b : ℕ) → 0 < b → a ≡ pos 0 → quotient_up a (pos b) ≡ pos 0
up_none a b some none = ap (λ z. quotient_up z (pos b)) none ∙ ap (λ n. neg_ℤ (pos n)) (small 0 b some)

-- the hull's value at 0 is the cost of its left end
hull_start : (points : List Point) (s : Segment) → Begins points s → hull_cost points 1 (pos 0) ≡ (point_of points s.left).cost
hull_start points s begins = grind (arith, linear, le-max_left, one-mul, mul-zero, up_none, begins)

-- weights of no output cost at least that
pub start_below : (points : List Point) → Rises points → (q : ℕ) (weight : ℕ → ℕ) → weighted_total points weight ≡ pos q
    → weighted_output points weight ≡ pos 0 → (pos q *ℤ hull_cost points 1 (pos 0)) ≤ℤ weighted_cost points weight
start_below points rises q weight total none =
    let found = begin_there points rises in
    let s = found.0 in
    let begins = found.1 in
    let cost = λ (l : ℕ). (point_of points l).cost in
    subst (λ z. (pos q *ℤ z) ≤ℤ weighted_cost points weight) (sym (hull_start points s begins)) (⊎_elim
    (λ (under : IsUnder points s).
    let line = line_below points s under q weight total in
    let wide = run points s.left s.right in
    let up = rise points s.left s.right in
    let level : up *ℤ (weighted_output points weight -ℤ output_of points s.left *ℤ pos q) ≡ pos 0 =
    ap (λ z. up *ℤ (weighted_output points weight -ℤ z *ℤ pos q)) begins.start
    ∙ ap (λ z. up *ℤ z) (let nothing = zero-mul (pos q) in omega (arith, linear, nothing, none))
    ∙ mul-zero up in
    le_from_mul wide (pos q *ℤ cost s.left) (weighted_cost points weight) under.wide
    (let order = mul_left_comm wide (pos q) (cost s.left) in omega (arith, linear, line, level, order)))
    (λ (least : (l : ℕ) → l < length points → cost s.left ≤ℤ cost l).
    let each = sum_below-le (length points) (λ l. cost s.left *ℤ pos (weight l)) (λ l. cost l *ℤ pos (weight l))
    (λ l h. mul-le-mul_right (pos (weight l)) _ _ (pos_nonneg (weight l)) (least l h)) in
    let times = sum_below-mul_left (length points) (cost s.left) (λ l. pos (weight l))
    ∙ ap (λ z. cost s.left *ℤ z) total in
    omega (arith, linear, each, times, mul_comm (cost s.left) (pos q)))
    begins.is)

-- ---- a step
-- over plain numbers: a segment of the width and rise, with left cost c, that begins a before x; L(x) is at most K
-- times the line there
step_bound : (q part whole slope wide a c rise k cost : ℤ) → pos 0 <ℤ wide → pos 0 ≤ℤ q → pos 0 ≤ℤ part → pos 0 ≤ℤ k
    → (wide *ℤ whole) ≤ℤ (k *ℤ (wide *ℤ c +ℤ rise *ℤ a))
    → (q *ℤ (wide *ℤ c) +ℤ rise *ℤ (q *ℤ a +ℤ part)) ≤ℤ (wide *ℤ cost)
    → (slope *ℤ wide) ≤ℤ (k *ℤ rise) → (q *ℤ whole +ℤ part *ℤ slope) ≤ℤ (k *ℤ cost)
step_bound q part whole slope wide a c rise k cost hw hq hp hk before line down =
    let t1 = mul-le-mul_left q _ _ hq before in
    let t2 = mul-le-mul_left part _ _ hp down in
    let t3 = mul-le-mul_left k _ _ hk line in
    let l1 = mul-add wide (q *ℤ whole) (part *ℤ slope) in
    let l2 = mul_left_comm wide q whole in
    let l3 : wide *ℤ (part *ℤ slope) ≡ part *ℤ (slope *ℤ wide) =
    mul_left_comm wide part slope ∙ ap (λ z. part *ℤ z) (mul_comm wide slope) in
    let m1 : q *ℤ (k *ℤ (wide *ℤ c +ℤ rise *ℤ a)) ≡ k *ℤ (q *ℤ (wide *ℤ c)) +ℤ k *ℤ (q *ℤ (rise *ℤ a)) =
    mul_left_comm q k (wide *ℤ c +ℤ rise *ℤ a) ∙ ap (λ z. k *ℤ z) (mul-add q (wide *ℤ c) (rise *ℤ a))
    ∙ mul-add k (q *ℤ (wide *ℤ c)) (q *ℤ (rise *ℤ a)) in
    let m2 : rise *ℤ (q *ℤ a +ℤ part) ≡ q *ℤ (rise *ℤ a) +ℤ rise *ℤ part =
    mul-add rise (q *ℤ a) part ∙ ap (λ z. z +ℤ rise *ℤ part) (mul_left_comm rise q a) in
    let m3 : k *ℤ (q *ℤ (wide *ℤ c) +ℤ rise *ℤ (q *ℤ a +ℤ part))
    ≡ k *ℤ (q *ℤ (wide *ℤ c)) +ℤ k *ℤ (q *ℤ (rise *ℤ a)) +ℤ k *ℤ (rise *ℤ part) =
    ap (λ z. k *ℤ (q *ℤ (wide *ℤ c) +ℤ z)) m2 ∙ simp mul-add (omega (arith, linear)) in
    let m4 : part *ℤ (k *ℤ rise) ≡ k *ℤ (rise *ℤ part) = mul_left_comm part k rise ∙ ap (λ z. k *ℤ z) (mul_comm part rise) in
    let m5 = mul_left_comm k wide cost in
    le_from_mul wide (q *ℤ whole +ℤ part *ℤ slope) (k *ℤ cost) hw
    (omega (arith, linear, t1, t2, t3, l1, l2, l3, m1, m3, m4, m5))

-- ---- the weights of an output x on a segment's ends: a to the right end and b to the left one, which are b and a
-- watts away
abbrev ends_weight : Segment → ℕ → ℕ → ℕ → ℕ
ends_weight s a b l = if l == s.left then b else if l == s.right then a else 0

module _ (points : List Point) (s : Segment) (a b : ℕ) (left : s.left < length points) (right : s.right < length points)
    (apart : s.left ≢ s.right) where
  abbrev own : ℕ → ℕ
  own = ends_weight s a b

  own-left : own s.left ≡ b
  own-left = cond-true (s.left == s.left) b _ (eq-eqb s.left s.left refl)

  own-right : own s.right ≡ a
  own-right =
      cond-false (s.right == s.left) b _ (ne_eqb s.right s.left (λ e. apart (sym e)))
      ∙ cond-true (s.right == s.right) a 0 (eq-eqb s.right s.right refl)

  own-other : (l : ℕ) → l ≢ s.left → l ≢ s.right → own l ≡ 0
  own-other l i j = cond-false (l == s.left) b _ (ne_eqb l s.left i)
      ∙ cond-false (l == s.right) a 0 (ne_eqb l s.right j)

  ends_sum : (f : ℕ → ℤ) → sum_below (length points) (λ l. f l *ℤ pos (own l)) ≡ f s.left *ℤ pos b +ℤ f s.right *ℤ pos a
  ends_sum f =
      sum_below-pair (length points) (λ l. f l *ℤ pos (own l)) s.left s.right left right apart
      (λ l h i j. ap (λ w. f l *ℤ pos w) (own-other l i j) ∙ mul-zero (f l))
      ∙ (λ i. f s.left *ℤ pos (own-left i) +ℤ f s.right *ℤ pos (own-right i))

  ends_total : weighted_total points own ≡ pos (b + a)
  ends_total =
      sum_below-pair (length points) (λ l. pos (own l)) s.left s.right left right apart
      (λ l h i j. ap pos (own-other l i j))
      ∙ (λ i. pos (own-left i) +ℤ pos (own-right i))

-- their output and cost, over plain numbers
output_of_ends : (x a b : ℤ) → (x -ℤ a) *ℤ b +ℤ (x +ℤ b) *ℤ a ≡ (b +ℤ a) *ℤ x
output_of_ends x a b = simp spread (omega (arith, linear, mul_comm a b, mul_comm a x, mul_comm b x))

cost_of_ends : (c e a b : ℤ) → c *ℤ b +ℤ e *ℤ a ≡ (b +ℤ a) *ℤ c +ℤ (e -ℤ c) *ℤ a
cost_of_ends c e a b = simp spread (omega (arith, linear, mul_comm c b, mul_comm a c))

-- how far an output lies right of the left end
right_of_left : (q x part a out : ℤ) → out ≡ x -ℤ a → (q *ℤ x +ℤ part) -ℤ out *ℤ q ≡ q *ℤ a +ℤ part
right_of_left q x part a out e = ap (λ z. (q *ℤ x +ℤ part) -ℤ z *ℤ q) e ∙ simp spread (omega (arith, linear, mul_comm q x, mul_comm q a))

-- ---- along the hull
-- L bounds the weights whose output is at most x, over each q
abbrev pub Bounds : List Point → ℤ → ℕ → Type 0
Bounds points k x =
    (q p : ℕ) (weight : ℕ → ℕ) → weighted_total points weight ≡ pos q → weighted_output points weight ≡ pos p
    → p ≤ q * x
    → floored_cost points k q p ≤ℤ (k *ℤ weighted_cost points weight)

bounds-start : (points : List Point) (k : ℤ) → Rises points → pos 0 ≤ℤ k → Bounds points k 0
bounds-start points k rises sign q p weight total output h =
    let none : p ≡ q * 0 + 0 = omega (arith, h) in
    let level : weighted_output points weight ≡ pos 0 = output ∙ ap pos (omega (arith, h)) in
    let below = mul-le-mul_left k _ _ sign (start_below points rises q weight total level) in
    let is = ap (floored_cost points k q) none ∙ floored_cost-is points k q 0 0 (omega arith) in
    let nothing = zero-mul (slope_from points k 0) in
    let base : pos q *ℤ whole_cost points k 0 ≡ k *ℤ (pos q *ℤ hull_cost points 1 (pos 0)) =
    ap (λ z. pos q *ℤ z) (omega (arith, linear)) ∙ mul_left_comm (pos q) k (hull_cost points 1 (pos 0)) in
    omega (arith, linear, below, is, nothing, base)

-- the slope of a step is at most K times the segment's
slope_below : (points : List Point) (k : ℤ) (x : ℕ) (s : Segment) → Steps points x s
    → (slope_from points k x *ℤ run points s.left s.right) ≤ℤ (k *ℤ rise points s.left s.right)
slope_below points k x s step = grind (arith, linear, width_is, IsFloor-int_div_euclid, step)

-- weights whose output lies between x and x + 1
between : (points : List Point) (k : ℤ) (x : ℕ) (s : Segment) → Steps points x s → pos 0 ≤ℤ k → Bounds points k x
    → (q part : ℕ) (weight : ℕ → ℕ) → weighted_total points weight ≡ pos q
    → weighted_output points weight ≡ pos (q * x + part) → part ≤ q
    → floored_cost points k q (q * x + part) ≤ℤ (k *ℤ weighted_cost points weight)
between points k x s step sign before q part weight total output h =
    let c = (point_of points s.left).cost in
    let e = (point_of points s.right).cost in
    let out = output_of points in
    let wide = run points s.left s.right in
    let up = rise points s.left s.right in
    let begins = step.begins in
    let reaches = step.reaches in
    let behind = pos_of_nonneg (pos x -ℤ out s.left) (omega (arith, linear, begins)) in
    let ahead = pos_of_nonneg (out s.right -ℤ pos x) (omega (arith, linear, reaches)) in
    let a = behind.0 in
    let b = ahead.0 in
    let is_a = behind.1 in
    let is_b = ahead.1 in
    let left : out s.left ≡ pos x -ℤ pos a = omega (arith, linear, is_a) in
    let right : out s.right ≡ pos x +ℤ pos b = omega (arith, linear, is_b) in
    let whole : wide ≡ pos (b + a) = omega (arith, linear, left, right) in
    let apart : s.left ≢ s.right = λ same. (let some = step.under.wide in omega (arith, linear, some, ap out same)) in
    let weights = ends_weight s a b in
    let sum = ends_sum points s a b step.under.left step.under.right apart in
    let all = ends_total points s a b step.under.left step.under.right apart in
    let output_there : weighted_output points weights ≡ pos ((b + a) * x) =
    sum out ∙ (λ i. left i *ℤ pos b +ℤ right i *ℤ pos a) ∙ output_of_ends (pos x) (pos a) (pos b) in
    let cost_there : weighted_cost points weights ≡ wide *ℤ c +ℤ up *ℤ pos a =
    sum (λ l. (point_of points l).cost) ∙ cost_of_ends c e (pos a) (pos b)
    ∙ ap (λ z. z *ℤ c +ℤ up *ℤ pos a) (sym whole) in
    let at_x = before (b + a) ((b + a) * x) weights all output_there (omega arith) in
    let exact : (b + a) * x ≡ (b + a) * x + 0 = omega arith in
    let is_x = ap (floored_cost points k (b + a)) exact ∙ floored_cost-is points k (b + a) x 0 (omega arith) in
    let nothing = zero-mul (slope_from points k x) in
    let scaled : pos (b + a) *ℤ whole_cost points k x ≡ wide *ℤ whole_cost points k x = ap (λ z. z *ℤ whole_cost points k x) (sym whole) in
    let costs : k *ℤ weighted_cost points weights ≡ k *ℤ (wide *ℤ c +ℤ up *ℤ pos a) = ap (λ z. k *ℤ z) cost_there in
    let here : (wide *ℤ whole_cost points k x) ≤ℤ (k *ℤ (wide *ℤ c +ℤ up *ℤ pos a)) =
    omega (arith, linear, at_x, is_x, nothing, scaled, costs) in
    let distance : weighted_output points weight -ℤ out s.left *ℤ pos q ≡ pos q *ℤ pos a +ℤ pos part =
    ap (λ z. z -ℤ out s.left *ℤ pos q) output ∙ right_of_left (pos q) (pos x) (pos part) (pos a) (out s.left) left in
    let line = subst (λ z. (pos q *ℤ (wide *ℤ c) +ℤ up *ℤ z) ≤ℤ (wide *ℤ weighted_cost points weight)) distance
    (line_below points s step.under q weight total) in
    let bound =
    step_bound (pos q) (pos part) (whole_cost points k x) (slope_from points k x) wide (pos a) c up k
    (weighted_cost points weight)
    step.under.wide (pos_nonneg q) (pos_nonneg part) sign here line (slope_below points k x s step) in
    let is = floored_cost-is points k q x part h in
    omega (arith, linear, bound, is)

bounds-next : (points : List Point) (k : ℤ) (x : ℕ) → Rises points → pos 0 ≤ℤ k → pos (suc x) ≤ℤ output_of points (length points - 1)
    → Bounds points k x → Bounds points k (suc x)
bounds-next points k x rises sign most before q p weight total output h = ⊎_elim
    (λ (earlier : p ≤ q * x). before q p weight total output earlier)
    (λ (later : q * x < p).
    let step = step_there points x rises most in
    let parts : p ≡ q * x + (p - q * x) = omega (arith, later) in
    subst (λ n. floored_cost points k q n ≤ℤ (k *ℤ weighted_cost points weight)) (sym parts)
    (between points k x step.0 step.1 sign before q (p - q * x) weight total (output ∙ ap pos parts)
    (let next : q * suc x ≡ q * x + q = omega arith in omega (arith, h, next, later))))
    (grind arith)

bounds : (points : List Point) (k : ℤ) (x : ℕ) → Rises points → pos 0 ≤ℤ k
    → pos x ≤ℤ output_of points (length points - 1) → Bounds points k x
bounds points k zero rises sign most = bounds-start points k rises sign
bounds points k (suc x) rises sign most = grind (arith, linear, bounds-next, rises, sign, most, (bounds points k x rises sign (omega (arith, linear, most))))

-- q*L(p/q) is at most K times the cost of weights of output p over q
pub floored_cost-le : (points : List Point) (k : ℤ) (q p : ℕ) (weight : ℕ → ℕ) → Rises points → pos 0 ≤ℤ k
    → weighted_total points weight ≡ pos q → weighted_output points weight ≡ pos p
    → pos p ≤ℤ (pos q *ℤ output_of points (length points - 1))
    → floored_cost points k q p ≤ℤ (k *ℤ weighted_cost points weight)
floored_cost-le points k q p weight rises sign total output most =
    let low = outputs_rise points rises 0 (length points - 1) (omega arith)
    (let some = rises.some in omega (arith, some)) in
    let width = pos_of_nonneg (output_of points (length points - 1)) (omega (arith, linear, low)) in
    let is = width.1 in
    bounds points k width.0 rises sign (omega (arith, linear, is)) q p weight total output
    (let product = ap (λ z. pos q *ℤ z) is in omega (arith, linear, product, most))
