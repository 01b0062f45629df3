-- What the segment that holds an output says, and the cost of the weights on its ends.
-- Cite from a crate above by `use Rattle.uc_model.proofs.HullPoints.{segment_at-holds}`.
use Rattle.std.proofs.Common.{◌≡◌, ℕ, zero, suc, ◌*◌, ◌/◌, ◌<◌, ◌≤◌, ◌≢◌, ◌⊎◌, inl, inr, ⊎_elim, Bool, true, false, refl, sym, ap, subst, ◌∙◌, arith, List, length, max, ℤ, pos, negsuc, ◌+ℤ◌, ◌-ℤ◌, ◌*ℤ◌, ◌≤ℤ◌, ◌<ℤ◌, IsTrue, Option, Some, None, unsigned_abs, ◌==◌, if◌then◌else◌}
use Rattle.std.proofs.Math.Nat.{le-max_left}
use Rattle.std.proofs.lemmas.Option.{none-some, same_Some}
use Rattle.std.proofs.lemmas.Bool.{and_parts, or_cases, cases_Bool, cond-true, cond-false, eqb-true, eqb-false, eq-eqb, ne_eqb}
use Rattle.uc_model.specs.Prelude.{Point, point_of, output_of, weighted_cost, quotient_up, run, rise, segment_holds, or_else, first_below, Segment, segment_from, first_segment, segment_at, segment_width, from_left, to_right, segment_cost, segment_weight}
use Rattle.uc_model.proofs.Ring.{linear, spread, mul_comm, mul_assoc, mul-add, mul-sub, mul-zero, zero-mul, pos-mul, scale-le-scale, sub_nonneg, pos_nonneg}
use Rattle.uc_model.proofs.Sums.{sum_below-single, sum_below-pair}
use Rattle.uc_model.proofs.Tests.{int_le-true, int_lt-true}
use Rattle.uc_model.proofs.Quotients.{quotient_up-is}

-- ---- the first answer
or_else-some : {A : Type 0} (first second : Option A) (a : A) → or_else first second ≡ Some a → (first ≡ Some a) ⊎ (second ≡ Some a)
or_else-some None second a e = inr e
or_else-some (Some b) second a e = inl e

some_where : (test : Bool) (n k : ℕ) → (if test then Some n else None) ≡ Some k → IsTrue test × (n ≡ k)
some_where true n k e = (refl, same_Some n k e)
some_where false n k e = absurd (none-some k e)

first_below-at : (n : ℕ) (test : ℕ → Bool) (k : ℕ) → first_below n test ≡ Some k → (k < n) × IsTrue (test k)
first_below-at zero test k e = absurd (none-some k e)
first_below-at (suc n) test k e =
    ⊎_elim
    (λ (before : first_below n test ≡ Some k). let found = first_below-at n test k before in (omega (arith, found.0), found.1))
    (λ (here : (if test n then Some n else None) ≡ Some k).
    let found = some_where (test n) n k here in
    (omega (arith, found.1), subst (λ i. IsTrue (test i)) found.1 found.0))
    (or_else-some (first_below n test) (if test n then Some n else None) k e)

segment_from-some : (i : ℕ) (o : Option ℕ) (s : Segment) → segment_from i o ≡ Some s → (i ≡ s.left) × (o ≡ Some s.right)
segment_from-some i None s e = absurd (none-some s e)
segment_from-some i (Some j) s e = grind (arith, linear, j, e)

-- the segment's ends are points, and it holds p over d
pub record Holds (points : List Point) (d : ℕ) (p : ℤ) (s : Segment) : Type 0 where
  pub left : s.left < length points
  pub right : s.right < length points
  pub held : IsTrue (segment_holds points d p s.left s.right)

first_segment-holds : (points : List Point) (d : ℕ) (p : ℤ) (n : ℕ) (s : Segment) → n ≤ length points
    → first_segment points d p n ≡ Some s → Holds points d p s
first_segment-holds points d p zero s h e = absurd (none-some s e)
first_segment-holds points d p (suc n) s h e =
    ⊎_elim
    (λ (before : first_segment points d p n ≡ Some s). first_segment-holds points d p n s (omega arith) before)
    (λ (here : segment_from n (first_below (length points) (segment_holds points d p n)) ≡ Some s).
    let ends = segment_from-some n (first_below (length points) (segment_holds points d p n)) s here in
    let found = first_below-at (length points) (segment_holds points d p n) s.right ends.1 in
    record {
      left = omega (arith, ends.0);
      right = found.0;
      held = subst (λ i. IsTrue (segment_holds points d p i s.right)) ends.0 found.1;
    })
    (or_else-some (first_segment points d p n) (segment_from n (first_below (length points) (segment_holds points d p n))) s e)

pub segment_at-holds : (points : List Point) (d : ℕ) (p : ℤ) (s : Segment) → segment_at points d p ≡ Some s → Holds points d p s
segment_at-holds points d p s e = first_segment-holds points d p (length points) s (omega arith) e

-- ---- where p over d lies, and the width
pub abs_is : (z : ℤ) → pos 0 ≤ℤ z → pos (unsigned_abs z) ≡ z
abs_is (pos n) h = refl
abs_is (negsuc n) h = absurd (omega (arith, linear))

pub width_is : (z : ℤ) → pos 0 <ℤ z → pos (max 1 (unsigned_abs z)) ≡ z
width_is (pos n) h = let some : 0 < n = omega (arith, linear) in ap pos (omega arith)
width_is (negsuc n) h = absurd (omega (arith, linear))

-- p over d lies between the ends, which are one point or as far apart as the width
pub record LiesOn (points : List Point) (d : ℕ) (p : ℤ) (s : Segment) : Type 0 where
  pub after : pos 0 ≤ℤ from_left points d p s
  pub before : pos 0 ≤ℤ to_right points d p s
  pub width : s.left ≢ s.right → pos (segment_width points s) ≡ run points s.left s.right

pub lies_on : (points : List Point) (d : ℕ) (p : ℤ) (s : Segment) → Holds points d p s → LiesOn points d p s
lies_on points d p s holds = grind (arith, linear, and_parts, sub_nonneg, int_le-true, width_is, int_lt-true, eqb-true, or_cases, holds)

-- the parts of the width on both sides of p over d
parts_sum : (points : List Point) (d : ℕ) (p : ℤ) (s : Segment)
    → to_right points d p s +ℤ from_left points d p s ≡ pos d *ℤ run points s.left s.right
parts_sum points d p s = sym (mul-sub (pos d) (output_of points s.right) (output_of points s.left) ∙ omega (arith, linear))

pub from_left-le : (points : List Point) (d : ℕ) (p : ℤ) (s : Segment) → LiesOn points d p s
    → from_left points d p s ≤ℤ pos (d * segment_width points s)
from_left-le points d p s lies =
    let whole = parts_sum points d p s in
    let before = lies.before in
    ⊎_elim
    (λ (same : IsTrue (s.left == s.right)).
    let level : run points s.left s.right ≡ pos 0 =
    ap (λ l. output_of points l -ℤ output_of points s.left) (sym (eqb-true s.left s.right same)) ∙ omega (arith, linear) in
    let none = ap (λ z. pos d *ℤ z) level ∙ mul-zero (pos d) in
    let nonneg = pos_nonneg (d * segment_width points s) in
    omega (arith, linear, whole, none, before, nonneg))
    (λ (apart : (s.left == s.right) ≡ false).
    let product = pos-mul d (segment_width points s) ∙ ap (λ z. pos d *ℤ z) (lies.width (eqb-false s.left s.right apart)) in
    omega (arith, linear, whole, product, before))
    (cases_Bool (s.left == s.right))

-- ---- the cost of the weights on the ends
-- the costs x and y by the parts a and b of a width, and the cost x and the quotient n rounded up
ends_cost : (c width : ℕ) (x y a b n : ℤ) → a +ℤ b ≡ pos width → ((y -ℤ x) *ℤ b) ≤ℤ (n *ℤ pos width)
    → (x *ℤ (a *ℤ pos c) +ℤ y *ℤ (b *ℤ pos c)) ≤ℤ (pos (c * width) *ℤ (x +ℤ n))
ends_cost c width x y a b n parts above =
    let whole = ap (λ z. x *ℤ z) parts in
    let split = mul-add x a b in
    let spread_out = simp spread at above in
    let within : (x *ℤ a +ℤ y *ℤ b) ≤ℤ (pos width *ℤ (x +ℤ n)) =
    omega (arith, linear, whole, split, spread_out, mul-add (pos width) x n, mul_comm (pos width) x, mul_comm (pos width) n) in
    let times = scale-le-scale c _ _ within in
    let left = mul_assoc x a (pos c) in
    let right = mul_assoc y b (pos c) in
    let apart = mul-add (pos c) (x *ℤ a) (y *ℤ b) in
    let product = ap (λ z. z *ℤ (x +ℤ n)) (pos-mul c width) ∙ mul_assoc (pos c) (pos width) (x +ℤ n) in
    omega (arith, linear, times, left, right, apart, product, mul_comm (x *ℤ a) (pos c), mul_comm (y *ℤ b) (pos c))

-- a quotient of nought rounded up is nought
up_none : (a : ℤ) (b : ℕ) → 0 < b → a ≡ pos 0 → quotient_up a (pos b) ≡ pos 0
up_none a b some none = grind (arith, linear, some, none)

-- the quotient of the hull's value
abbrev over_left : List Point → ℕ → ℤ → Segment → ℤ
over_left points d p s = quotient_up (rise points s.left s.right *ℤ from_left points d p s) (pos (d * segment_width points s))

pub wide : (d : ℕ) (points : List Point) (s : Segment) → 0 < d → 0 < d * segment_width points s
wide d points s some = let width : 1 ≤ segment_width points s = le-max_left 1 _ in grind arith

-- a segment of one point: what its weight and what its value cost
pub weights-point : (q : ℕ) (points : List Point) (d : ℕ) (p : ℤ) (s : Segment) → s.left < length points → s.left ≡ s.right
    → weighted_cost points (segment_weight q points d p (Some s)) ≡ (point_of points s.left).cost *ℤ pos q
weights-point q points d p s within same =
    let cost = λ (l : ℕ). (point_of points l).cost in
    let weight = segment_weight q points d p (Some s) in
    let here = λ (l : ℕ). cond-true (s.left == s.right) (if l == s.left then q else 0) _ (eq-eqb s.left s.right same) in
    let at_left : weight s.left ≡ q = here s.left ∙ cond-true (s.left == s.left) q 0 (eq-eqb s.left s.left refl) in
    sum_below-single (length points) (λ l. cost l *ℤ pos (weight l)) s.left within
    (λ l h apart. ap (λ w. cost l *ℤ pos w) (here l ∙ cond-false (l == s.left) q 0 (ne_eqb l s.left apart)) ∙ mul-zero (cost l))
    ∙ ap (λ w. cost s.left *ℤ pos w) at_left

pub value-point : (points : List Point) (d : ℕ) (p : ℤ) (s : Segment) → 0 < d → s.left ≡ s.right
    → segment_cost points d p (Some s) ≡ (point_of points s.left).cost
value-point points d p s some same =
    let level : rise points s.left s.right ≡ pos 0 =
    ap (λ l. (point_of points l).cost -ℤ (point_of points s.left).cost) (sym same) ∙ omega (arith, linear) in
    let none : rise points s.left s.right *ℤ from_left points d p s ≡ pos 0 =
    ap (λ z. z *ℤ from_left points d p s) level ∙ zero-mul (from_left points d p s) in
    let up = up_none _ (d * segment_width points s) (wide d points s some) none in
    omega (arith, linear, up)

cost-point : (q : ℕ) (points : List Point) (d : ℕ) (p : ℤ) (s : Segment) → 0 < d → s.left < length points → s.left ≡ s.right
    → weighted_cost points (segment_weight q points d p (Some s)) ≤ℤ (pos q *ℤ segment_cost points d p (Some s))
cost-point q points d p s some within same =
    let value = ap (λ z. pos q *ℤ z) (value-point points d p s some same) in
    omega (arith, linear, weights-point q points d p s within same, value, mul_comm (point_of points s.left).cost (pos q))

-- a segment between two points: the parts of its width, and what the weights on its ends cost
pub parts-ends : (points : List Point) (d : ℕ) (p : ℤ) (s : Segment) → LiesOn points d p s → s.left ≢ s.right
    → to_right points d p s +ℤ from_left points d p s ≡ pos (d * segment_width points s)
parts-ends points d p s lies apart =
    parts_sum points d p s ∙ sym (pos-mul d (segment_width points s) ∙ ap (λ z. pos d *ℤ z) (lies.width apart))

pub weights-ends : (q c : ℕ) (points : List Point) (d : ℕ) (p : ℤ) (s : Segment) → Holds points d p s → LiesOn points d p s
    → q / (d * segment_width points s) ≡ c → s.left ≢ s.right
    → weighted_cost points (segment_weight q points d p (Some s))
    ≡ ((point_of points s.left).cost *ℤ (to_right points d p s *ℤ pos c) +ℤ (point_of points s.right).cost *ℤ (from_left points d p s *ℤ pos c))
weights-ends q c points d p s holds lies share apart =
    let cost = λ (l : ℕ). (point_of points l).cost in
    let weight = segment_weight q points d p (Some s) in
    let parts = q / (d * segment_width points s) in
    let a = to_right points d p s in
    let b = from_left points d p s in
    let beside = ne_eqb s.left s.right apart in
    let there = λ (l : ℕ). cond-false (s.left == s.right) (if l == s.left then q else 0) _ beside in
    let at_left : weight s.left ≡ unsigned_abs a * parts = there s.left ∙ cond-true (s.left == s.left) _ _ (eq-eqb s.left s.left refl) in
    let at_right : weight s.right ≡ unsigned_abs b * parts =
    there s.right ∙ cond-false (s.right == s.left) _ _ (ne_eqb s.right s.left (λ e. apart (sym e)))
    ∙ cond-true (s.right == s.right) _ _ (eq-eqb s.right s.right refl) in
    let elsewhere = λ (l : ℕ) (h : l < length points) (i : l ≢ s.left) (j : l ≢ s.right).
    ap (λ w. cost l *ℤ pos w)
    (there l ∙ cond-false (l == s.left) _ _ (ne_eqb l s.left i) ∙ cond-false (l == s.right) _ _ (ne_eqb l s.right j))
    ∙ mul-zero (cost l) in
    let first = ap (λ w. cost s.left *ℤ pos w) (at_left ∙ ap (λ n. unsigned_abs a * n) share) ∙ ap (λ z. cost s.left *ℤ z) (part a c lies.before) in
    let second = ap (λ w. cost s.right *ℤ pos w) (at_right ∙ ap (λ n. unsigned_abs b * n) share) ∙ ap (λ z. cost s.right *ℤ z) (part b c lies.after) in
    sum_below-pair (length points) (λ l. cost l *ℤ pos (weight l)) s.left s.right holds.left holds.right apart elsewhere
    ∙ (λ i. first i +ℤ second i)
  where
    part : (z : ℤ) (c : ℕ) → pos 0 ≤ℤ z → pos (unsigned_abs z * c) ≡ z *ℤ pos c
    part z c h = pos-mul (unsigned_abs z) c ∙ ap (λ x. x *ℤ pos c) (abs_is z h)

cost-ends : (q c : ℕ) (points : List Point) (d : ℕ) (p : ℤ) (s : Segment) → Holds points d p s → LiesOn points d p s
    → q ≡ c * (d * segment_width points s) → q / (d * segment_width points s) ≡ c → s.left ≢ s.right → 0 < d
    → weighted_cost points (segment_weight q points d p (Some s)) ≤ℤ (pos q *ℤ segment_cost points d p (Some s))
cost-ends q c points d p s holds lies factor share apart some =
    let a = to_right points d p s in
    let b = from_left points d p s in
    let above = (quotient_up-is (rise points s.left s.right *ℤ b) (pos (d * segment_width points s))
    (let width = wide d points s some in omega (arith, linear))).above in
    let bound = ends_cost c (d * segment_width points s) (point_of points s.left).cost (point_of points s.right).cost a b (over_left points d p s)
    (parts-ends points d p s lies apart) above in
    subst (λ n. weighted_cost points (segment_weight q points d p (Some s)) ≤ℤ (pos n *ℤ segment_cost points d p (Some s))) (sym factor)
    (omega (arith, linear, weights-ends q c points d p s holds lies share apart, bound))

-- the weights on the ends cost at most q times the hull's value rounded up
pub cost-segment : (q c : ℕ) (points : List Point) (d : ℕ) (p : ℤ) (s : Segment) → segment_at points d p ≡ Some s
    → q ≡ c * (d * segment_width points s) → q / (d * segment_width points s) ≡ c → 0 < d
    → weighted_cost points (segment_weight q points d p (Some s)) ≤ℤ (pos q *ℤ segment_cost points d p (Some s))
cost-segment q c points d p s e factor share some =
    grind (arith, linear, segment_at-holds, cost-point, eqb-true, cost-ends, lies_on, eqb-false, cases_Bool, e, factor, share, some)
