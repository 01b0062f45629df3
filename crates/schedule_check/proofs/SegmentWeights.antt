-- The weights that stand for an output p over d on a segment of the hull: each is at most their sum, which is q, and they
-- give q times the output.
use Rattle.std.proofs.Common.{◌≡◌, ℕ, ◌*◌, ◌/◌, ◌<◌, ◌≤◌, ◌≢◌, ⊎_elim, false, refl, sym, ap, subst, ◌∙◌, arith, List, length, ℤ, pos, ◌+ℤ◌, ◌-ℤ◌, ◌*ℤ◌, ◌≤ℤ◌, IsTrue, Some, unsigned_abs, ◌==◌, if◌then◌else◌}
use Rattle.std.proofs.lemmas.Bool.{cases_Bool, cond-true, cond-false, eqb-true, eqb-false, eq-eqb, ne_eqb}
use Rattle.uc_model.specs.Prelude.{output_of, weighted_total, weighted_output, Segment, segment_at, segment_width, from_left, to_right, segment_weight}
use Rattle.uc_model.specs.declared.instance.Point.{Point}
use Rattle.uc_model.proofs.Common.{linear, mul_comm, mul_left_comm, mul_assoc, add-mul, mul-sub, sub-mul, mul-zero, pos-mul, sum_below-single, sum_below-pair, Holds, LiesOn, segment_at-holds, lies_on, abs_is, share_is}
use Rattle.uc_model.proofs.HullPoints.{wide}

-- weights of at most q that sum to q and give the output p over d
pub record StandFor (q d : ℕ) (points : List Point) (p : ℤ) (weight : ℕ → ℕ) : Type 0 where
  pub each : (l : ℕ) → l < length points → weight l ≤ q
  pub total : weighted_total points weight ≡ pos q
  pub output : weighted_output points weight ≡ pos (q / d) *ℤ p

-- ---- all on one point
alone : (q n d : ℕ) (points : List Point) (p : ℤ) (s : Segment) → Holds points d p s → LiesOn points d p s → s.left ≡ s.right
    → 0 < d → q ≡ n * d → StandFor q d points p (segment_weight q points d p (Some s))
alone q n d points p s holds lies same some factor =
    let weight = segment_weight q points d p (Some s) in
    let here = λ (l : ℕ). cond-true (s.left == s.right) (if l == s.left then q else 0) _ (eq-eqb s.left s.right same) in
    let at_left : weight s.left ≡ q = here s.left ∙ cond-true (s.left == s.left) q 0 (eq-eqb s.left s.left refl) in
    let elsewhere = λ (l : ℕ) (other : l ≢ s.left). here l ∙ cond-false (l == s.left) q 0 (ne_eqb l s.left other) in
    let place : pos d *ℤ output_of points s.left ≡ p = omega (arith, linear, lies.after, subst (λ k. pos 0 ≤ℤ (pos d *ℤ output_of points k -ℤ p)) (sym same) lies.before) in
    record {
      each = λ l h. grind (arith, linear, eqb-true, eqb-false, cases_Bool, at_left, weight, q, elsewhere);
      total = sum_below-single (length points) (λ l. pos (weight l)) s.left holds.left (λ l h other. ap pos (elsewhere l other)) ∙ ap pos at_left;
      output = sum_below-single (length points) (λ l. output_of points l *ℤ pos (weight l)) s.left holds.left
          (λ l h other. ap (λ w. output_of points l *ℤ pos w) (elsewhere l other) ∙ mul-zero (output_of points l))
          ∙ ap (λ w. output_of points s.left *ℤ pos w) (at_left ∙ factor) ∙ mul_left_comm (output_of points s.left) (pos n) (pos d)
          ∙ ap (λ z. pos n *ℤ z) (mul_comm (output_of points s.left) (pos d) ∙ place) ∙ ap (λ k. pos k *ℤ p) (sym (share_is q n d some factor));
    }

-- ---- on two points
-- the output between x and y, with the parts a and b of the width on both sides of it
between : (c d width : ℕ) (x y a b p : ℤ) → a ≡ pos d *ℤ y -ℤ p → b ≡ p -ℤ pos d *ℤ x → pos width ≡ y -ℤ x
    → x *ℤ (a *ℤ pos c) +ℤ y *ℤ (b *ℤ pos c) ≡ pos (c * width) *ℤ p
between c d width x y a b p ha hb wide =
    let first = ap (λ z. x *ℤ z) ha ∙ mul-sub x (pos d *ℤ y) p in
    let second = ap (λ z. y *ℤ z) hb ∙ mul-sub y p (pos d *ℤ x) in
    let whole = ap (λ z. z *ℤ p) wide ∙ sub-mul y x p in
    let across : x *ℤ (pos d *ℤ y) ≡ y *ℤ (pos d *ℤ x) = mul_left_comm x (pos d) y ∙ ap (λ z. pos d *ℤ z) (mul_comm x y) ∙ mul_left_comm (pos d) y x in
    let inner : x *ℤ a +ℤ y *ℤ b ≡ pos width *ℤ p = omega (arith, linear, first, second, whole, across) in
    let times = ap (λ z. z *ℤ pos c) inner in
    let apart = add-mul (x *ℤ a) (y *ℤ b) (pos c) in
    let product = ap (λ z. z *ℤ p) (pos-mul c width) ∙ mul_assoc (pos c) (pos width) p in
    omega (arith, linear, mul_assoc x a (pos c), mul_assoc y b (pos c), times, apart, product, mul_comm (pos width *ℤ p) (pos c))

on_two : (q c d : ℕ) (points : List Point) (p : ℤ) (s : Segment) → Holds points d p s → LiesOn points d p s → s.left ≢ s.right
    → 0 < d → q ≡ c * (d * segment_width points s) → q / (d * segment_width points s) ≡ c
    → StandFor q d points p (segment_weight q points d p (Some s))
on_two q c d points p s holds lies apart some factor share =
    record {
      each = λ l h. ⊎_elim
          (λ (is : IsTrue (l == s.left)). subst (λ k. weight k ≤ q) (sym (eqb-true l s.left is)) (omega (arith, fits_left, at_left)))
          (λ (left : (l == s.left) ≡ false). ⊎_elim
          (λ (is : IsTrue (l == s.right)). subst (λ k. weight k ≤ q) (sym (eqb-true l s.right is)) (omega (arith, fits_right, at_right)))
          (λ (right : (l == s.right) ≡ false). omega (arith, elsewhere l (eqb-false l s.left left) (eqb-false l s.right right)))
          (cases_Bool (l == s.right)))
          (cases_Bool (l == s.left));
      total = sum_below-pair (length points) (λ l. pos (weight l)) s.left s.right holds.left holds.right apart
          (λ l h i j. ap pos (elsewhere l i j)) ∙ whole_weight;
      output = sum_below-pair (length points) (λ l. output_of points l *ℤ pos (weight l)) s.left s.right holds.left holds.right apart
          (λ l h i j. ap (λ w. output_of points l *ℤ pos w) (elsewhere l i j) ∙ mul-zero (output_of points l))
          ∙ (λ i. output_of points s.left *ℤ first i +ℤ output_of points s.right *ℤ second i)
          ∙ between c d width (output_of points s.left) (output_of points s.right) a b p refl refl (lies.width apart)
          ∙ ap (λ n. pos n *ℤ p) (sym (share_is q (c * width) d some sized));
    }
  where
    weight : ℕ → ℕ
    weight = segment_weight q points d p (Some s)

    width : ℕ
    width = segment_width points s

    a : ℤ
    a = to_right points d p s

    b : ℤ
    b = from_left points d p s

    parts : a +ℤ b ≡ pos (d * width)
    parts =
        let wide = mul-sub (pos d) (output_of points s.right) (output_of points s.left) in
        let product = pos-mul d width ∙ ap (λ z. pos d *ℤ z) (lies.width apart) in
        omega (arith, linear, wide, product)

    sized : q ≡ (c * width) * d
    sized = factor ∙ (grind arith)

    there : (l : ℕ) → weight l ≡ (if l == s.left then unsigned_abs a * (q / (d * width)) else (if l == s.right then unsigned_abs b * (q / (d * width)) else 0))
    there l = cond-false (s.left == s.right) (if l == s.left then q else 0) _ (ne_eqb s.left s.right apart)

    at_left : weight s.left ≡ unsigned_abs a * c
    at_left = there s.left ∙ cond-true (s.left == s.left) _ _ (eq-eqb s.left s.left refl) ∙ ap (λ n. unsigned_abs a * n) share

    at_right : weight s.right ≡ unsigned_abs b * c
    at_right =
        there s.right ∙ cond-false (s.right == s.left) _ _ (ne_eqb s.right s.left (λ e. apart (sym e)))
        ∙ cond-true (s.right == s.right) _ _ (eq-eqb s.right s.right refl) ∙ ap (λ n. unsigned_abs b * n) share

    elsewhere : (l : ℕ) → l ≢ s.left → l ≢ s.right → weight l ≡ 0
    elsewhere l i j = there l ∙ cond-false (l == s.left) _ _ (ne_eqb l s.left i) ∙ cond-false (l == s.right) _ _ (ne_eqb l s.right j)

    part : (z : ℤ) → pos 0 ≤ℤ z → pos (unsigned_abs z * c) ≡ z *ℤ pos c
    part z h = pos-mul (unsigned_abs z) c ∙ ap (λ x. x *ℤ pos c) (abs_is z h)

    first : pos (weight s.left) ≡ a *ℤ pos c
    first = ap pos at_left ∙ part a lies.before

    second : pos (weight s.right) ≡ b *ℤ pos c
    second = ap pos at_right ∙ part b lies.after

    whole_weight : pos (weight s.left) +ℤ pos (weight s.right) ≡ pos q
    whole_weight =
        let apart_sum = add-mul a b (pos c) in
        let joined = ap (λ z. z *ℤ pos c) parts in
        let product = ap pos factor ∙ pos-mul c (d * width) in
        omega (arith, linear, first, second, apart_sum, joined, product, mul_comm (pos (d * width)) (pos c))

    fits_left : unsigned_abs a * c ≤ q
    fits_left = omega (arith, linear, whole_weight, at_left)

    fits_right : unsigned_abs b * c ≤ q
    fits_right = omega (arith, linear, whole_weight, at_right)

-- the weights of an output on a segment stand for it
pub stand_for : (q c d : ℕ) (points : List Point) (p : ℤ) (s : Segment) → segment_at points d p ≡ Some s → 0 < d
    → q ≡ c * (d * segment_width points s) → StandFor q d points p (segment_weight q points d p (Some s))
stand_for q c d points p s e some factor =
    let holds = segment_at-holds points d p s e in
    let lies = lies_on points d p s holds in
    ⊎_elim
    (λ (same : IsTrue (s.left == s.right)).
    alone q (c * segment_width points s) d points p s holds lies (eqb-true s.left s.right same) some (factor ∙ (grind arith)))
    (λ (apart : (s.left == s.right) ≡ false).
    on_two q c d points p s holds lies (eqb-false s.left s.right apart) some factor (share_is q c (d * segment_width points s) (wide d points s some) factor))
    (cases_Bool (s.left == s.right))
