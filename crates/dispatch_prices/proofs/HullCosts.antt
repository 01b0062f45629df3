-- The weights that a printed output stands for cost no more than the chord between two corners that hold it.
-- Cite by `use Rattle.dispatch_prices.proofs.HullCosts.{chord_cost, point_cost}`.
use Rattle.std.proofs.Common.{◌≡◌, ℕ, suc, ◌*◌, ◌/◌, ◌<◌, ◌≢◌, ◌⊎◌, inl, inr, ⊎_elim, false, refl, sym, ap, subst, ◌∙◌, arith, List, length, ℤ, pos, ◌+ℤ◌, ◌-ℤ◌, ◌*ℤ◌, ◌≤ℤ◌, ◌<ℤ◌, IsTrue, Some, int_le, ◌==◌, ◌&&◌, if◌then◌else◌}
use Rattle.std.proofs.lemmas.Bool.{and_parts, or_cases, cases_Bool, cond-true, cond-false, eqb-true, eq-eqb, ne_eqb}
use Rattle.uc_model.specs.Prelude.{sum_below, all_below, point_of, output_of, weighted_total, weighted_output, weighted_cost, run, rise, is_hull_segment, is_hull_point, is_above_line, Segment, segment_at, segment_width, segment_weight}
use Rattle.uc_model.proofs.Common.{linear, mul_comm, mul_assoc, mul_left_comm, mul-add, mul-sub, sub-mul, add-mul, mul-zero, zero-mul, mul_nonneg, mul-le-mul_left, le_from_mul, pos_nonneg, pos-mul, sum_below-same, sum_below-single, sum_below-sub, sum_below-mul_right, sum_below-mul_left, all_below-at, int_le-true, int_lt-true, Holds, segment_at-holds, share_is}
use Rattle.uc_model.proofs.HullPoints.{wide}
use Rattle.cost_curves.specs.LowerHull.{Point, IsLowerHull}
use Rattle.cost_curves.proofs.HullValues.{output_is}
use Rattle.schedule_check.proofs.SegmentWeights.{stand_for}
use Rattle.dispatch_rules.specs.Prelude.{width_at, rise_at}

-- ---- over plain numbers
-- a line of slope rs over ws that lies at most at a and a + r at u and at u + w from where it begins: n times its height at b + d*u over d is at most
-- that of the chord
under_chord : (d n w b u a r rs ws x : ℤ) → pos 0 ≤ℤ n → pos 0 <ℤ ws → pos 0 ≤ℤ b → b ≤ℤ (d *ℤ w)
    → (rs *ℤ u) ≤ℤ (a *ℤ ws) → (rs *ℤ (u +ℤ w)) ≤ℤ ((a +ℤ r) *ℤ ws)
    → x *ℤ ws ≡ rs *ℤ (n *ℤ (b +ℤ d *ℤ u))
    → (x *ℤ w) ≤ℤ ((n *ℤ d) *ℤ (a *ℤ w) +ℤ n *ℤ (r *ℤ b))
under_chord d n w b u a r rs ws x some wide low high first second e =
    le_from_mul ws _ _ wide (omega (arith, linear, whole, mul-add ws ((n *ℤ d) *ℤ (a *ℤ w)) (n *ℤ (r *ℤ b)), one, two, three, times, parts))
  where
    left : ℤ
    left = a *ℤ ws -ℤ rs *ℤ u

    right : ℤ
    right = r *ℤ ws -ℤ rs *ℤ w

    -- n times what the chord is above the line, ws times
    whole : pos 0 ≤ℤ (n *ℤ ((d *ℤ w) *ℤ (a *ℤ ws -ℤ rs *ℤ u) +ℤ b *ℤ (r *ℤ ws -ℤ rs *ℤ w)))
    whole =
        let p = a *ℤ ws -ℤ rs *ℤ u in
        let q = r *ℤ ws -ℤ rs *ℤ w in
        let own : pos 0 ≤ℤ (a *ℤ ws -ℤ rs *ℤ u) = omega (arith, linear) in
        let next : pos 0 ≤ℤ ((a *ℤ ws -ℤ rs *ℤ u) +ℤ (r *ℤ ws -ℤ rs *ℤ w)) = omega (arith, linear, mul-add rs u w, add-mul a r ws) in
        let rest : pos 0 ≤ℤ (d *ℤ w -ℤ b) = omega (arith, linear) in
        let one = mul_nonneg (d *ℤ w -ℤ b) (a *ℤ ws -ℤ rs *ℤ u) rest own in
        let two = mul_nonneg b ((a *ℤ ws -ℤ rs *ℤ u) +ℤ (r *ℤ ws -ℤ rs *ℤ w)) low next in
        mul_nonneg n _ some (omega (arith, linear, one, two, sub-mul (d *ℤ w) b (a *ℤ ws -ℤ rs *ℤ u), mul-add b (a *ℤ ws -ℤ rs *ℤ u) (r *ℤ ws -ℤ rs *ℤ w)))

    one : ws *ℤ ((n *ℤ d) *ℤ (a *ℤ w)) ≡ n *ℤ ((d *ℤ w) *ℤ (a *ℤ ws))
    one =
        ap (λ z. ws *ℤ z) (mul_assoc n d (a *ℤ w) ∙ ap (λ z. n *ℤ z) (ap (λ z. d *ℤ z) (mul_comm a w) ∙ sym (mul_assoc d w a)))
        ∙ mul_left_comm ws n ((d *ℤ w) *ℤ a)
        ∙ ap (λ z. n *ℤ z) (mul_left_comm ws (d *ℤ w) a ∙ ap (λ z. (d *ℤ w) *ℤ z) (mul_comm ws a))

    two : ws *ℤ (n *ℤ (r *ℤ b)) ≡ n *ℤ (b *ℤ (r *ℤ ws))
    two =
        mul_left_comm ws n (r *ℤ b)
        ∙ ap (λ z. n *ℤ z) (ap (λ z. ws *ℤ z) (mul_comm r b) ∙ mul_left_comm ws b r ∙ ap (λ z. b *ℤ z) (mul_comm ws r))

    three : ws *ℤ (x *ℤ w) ≡ n *ℤ (b *ℤ (rs *ℤ w)) +ℤ n *ℤ ((d *ℤ w) *ℤ (rs *ℤ u))
    three =
        sym (mul_assoc ws x w) ∙ ap (λ z. z *ℤ w) (mul_comm ws x ∙ e ∙ mul_left_comm rs n (b +ℤ d *ℤ u)) ∙ mul_assoc n (rs *ℤ (b +ℤ d *ℤ u)) w
        ∙ ap (λ z. n *ℤ z) (ap (λ z. z *ℤ w) (mul-add rs b (d *ℤ u)) ∙ add-mul (rs *ℤ b) (rs *ℤ (d *ℤ u)) w
        ∙ (λ i. apart i +ℤ beside i))
        ∙ mul-add n (b *ℤ (rs *ℤ w)) ((d *ℤ w) *ℤ (rs *ℤ u))
      where
        apart : (rs *ℤ b) *ℤ w ≡ b *ℤ (rs *ℤ w)
        apart = mul_assoc rs b w ∙ mul_left_comm rs b w

        beside : (rs *ℤ (d *ℤ u)) *ℤ w ≡ (d *ℤ w) *ℤ (rs *ℤ u)
        beside = ap (λ z. z *ℤ w) (mul_left_comm rs d u) ∙ mul_assoc d (rs *ℤ u) w ∙ ap (λ z. d *ℤ z) (mul_comm (rs *ℤ u) w) ∙ sym (mul_assoc d w (rs *ℤ u))

    times : n *ℤ ((d *ℤ w) *ℤ (a *ℤ ws -ℤ rs *ℤ u) +ℤ b *ℤ (r *ℤ ws -ℤ rs *ℤ w))
        ≡ n *ℤ ((d *ℤ w) *ℤ (a *ℤ ws -ℤ rs *ℤ u)) +ℤ n *ℤ (b *ℤ (r *ℤ ws -ℤ rs *ℤ w))
    times = mul-add n _ _

    parts : (n *ℤ ((d *ℤ w) *ℤ (a *ℤ ws -ℤ rs *ℤ u)) ≡ n *ℤ ((d *ℤ w) *ℤ (a *ℤ ws)) -ℤ n *ℤ ((d *ℤ w) *ℤ (rs *ℤ u)))
        × (n *ℤ (b *ℤ (r *ℤ ws -ℤ rs *ℤ w)) ≡ n *ℤ (b *ℤ (r *ℤ ws)) -ℤ n *ℤ (b *ℤ (rs *ℤ w)))
    parts = (
      ap (λ z. n *ℤ z) (mul-sub (d *ℤ w) (a *ℤ ws) (rs *ℤ u)) ∙ mul-sub n ((d *ℤ w) *ℤ (a *ℤ ws)) ((d *ℤ w) *ℤ (rs *ℤ u)),
      ap (λ z. n *ℤ z) (mul-sub b (r *ℤ ws) (rs *ℤ w)) ∙ mul-sub n (b *ℤ (r *ℤ ws)) (b *ℤ (rs *ℤ w)),
    )

-- the same by the places of the points
chord : (d n q own cl xl ci cj xi xj rs ws p : ℤ) → q ≡ n *ℤ d → pos 0 ≤ℤ n → pos 0 <ℤ ws → (d *ℤ xi) ≤ℤ p → p ≤ℤ (d *ℤ xj)
    → (rs *ℤ (xi -ℤ xl)) ≤ℤ ((ci -ℤ cl) *ℤ ws) → (rs *ℤ (xj -ℤ xl)) ≤ℤ ((cj -ℤ cl) *ℤ ws)
    → (own -ℤ q *ℤ cl) *ℤ ws ≡ rs *ℤ (n *ℤ p -ℤ q *ℤ xl)
    → (own *ℤ (xj -ℤ xi)) ≤ℤ (q *ℤ (ci *ℤ (xj -ℤ xi)) +ℤ n *ℤ ((cj -ℤ ci) *ℤ (p -ℤ d *ℤ xi)))
chord d n q own cl xl ci cj xi xj rs ws p share some wide begins reaches first second line =
    let w = xj -ℤ xi in
    let bound = under_chord d n (xj -ℤ xi) (p -ℤ d *ℤ xi) (xi -ℤ xl) (ci -ℤ cl) (cj -ℤ ci) rs ws (own -ℤ q *ℤ cl) some wide
    (omega (arith, linear)) (omega (arith, linear, mul-sub d xj xi)) first
    (subst (λ z. (rs *ℤ z) ≤ℤ (((ci -ℤ cl) +ℤ (cj -ℤ ci)) *ℤ ws)) outer (subst (λ z. (rs *ℤ (xj -ℤ xl)) ≤ℤ (z *ℤ ws)) costs second))
    (line ∙ ap (λ z. rs *ℤ z) height) in
    omega (arith, linear, bound, sub-mul own (q *ℤ cl) (xj -ℤ xi), turned, mul_assoc q cl (xj -ℤ xi))
  where
    outer : xj -ℤ xl ≡ (xi -ℤ xl) +ℤ (xj -ℤ xi)
    outer = omega (arith, linear)

    costs : cj -ℤ cl ≡ (ci -ℤ cl) +ℤ (cj -ℤ ci)
    costs = omega (arith, linear)

    height : n *ℤ p -ℤ q *ℤ xl ≡ n *ℤ ((p -ℤ d *ℤ xi) +ℤ d *ℤ (xi -ℤ xl))
    height =
        (λ i. n *ℤ p -ℤ share i *ℤ xl) ∙ ap (λ z. n *ℤ p -ℤ z) (mul_assoc n d xl) ∙ sym (mul-sub n p (d *ℤ xl))
        ∙ ap (λ z. n *ℤ z) (omega (arith, linear, mul-sub d xi xl))

    turned : (n *ℤ d) *ℤ ((ci -ℤ cl) *ℤ (xj -ℤ xi)) ≡ q *ℤ (ci *ℤ (xj -ℤ xi)) -ℤ q *ℤ (cl *ℤ (xj -ℤ xi))
    turned = (λ i. sym share i *ℤ ((ci -ℤ cl) *ℤ (xj -ℤ xi))) ∙ ap (λ z. q *ℤ z) (sub-mul ci cl (xj -ℤ xi)) ∙ mul-sub q (ci *ℤ (xj -ℤ xi)) (cl *ℤ (xj -ℤ xi))

-- ---- the weights lie on the line through the segment's ends
module _ (q d : ℕ) (points : List Point) (p : ℤ) (s : Segment) where
  abbrev weight : ℕ → ℕ
  weight = segment_weight q points d p (Some s)

  abbrev across : ℤ
  across = run points s.left s.right

  abbrev up : ℤ
  up = rise points s.left s.right

  abbrev cost : ℕ → ℤ
  cost l = (point_of points l).cost

  -- a point that has a weight lies on the line
  on_line : s.left ≢ s.right → (l : ℕ)
      → ((cost l -ℤ cost s.left) *ℤ across) *ℤ pos (weight l) ≡ (up *ℤ (output_of points l -ℤ output_of points s.left)) *ℤ pos (weight l)
  on_line apart l =
      let there = cond-false (s.left == s.right) (if l == s.left then q else 0) _ (ne_eqb s.left s.right apart) in
      ⊎_elim
      (λ (first : IsTrue (l == s.left)).
      let same = eqb-true l s.left first in
      let no_cost : cost l -ℤ cost s.left ≡ pos 0 = ap (λ k. cost k -ℤ cost s.left) same ∙ omega (arith, linear) in
      let no_run : output_of points l -ℤ output_of points s.left ≡ pos 0 = ap (λ k. output_of points k -ℤ output_of points s.left) same ∙ omega (arith, linear) in
      ap (λ z. (z *ℤ across) *ℤ pos (weight l)) no_cost ∙ ap (λ z. z *ℤ pos (weight l)) (zero-mul across ∙ sym (mul-zero up))
      ∙ ap (λ z. (up *ℤ z) *ℤ pos (weight l)) (sym no_run))
      (λ (not_first : (l == s.left) ≡ false). ⊎_elim
      (λ (second : IsTrue (l == s.right)).
      let same = eqb-true l s.right second in
      ap (λ k. ((cost k -ℤ cost s.left) *ℤ across) *ℤ pos (weight l)) same
      ∙ ap (λ k. (up *ℤ (output_of points k -ℤ output_of points s.left)) *ℤ pos (weight l)) (sym same))
      (λ (neither : (l == s.right) ≡ false).
      let no_weight : weight l ≡ 0 = there ∙ cond-false (l == s.left) _ _ not_first ∙ cond-false (l == s.right) _ _ neither in
      ap (λ w. ((cost l -ℤ cost s.left) *ℤ across) *ℤ pos w) no_weight ∙ mul-zero ((cost l -ℤ cost s.left) *ℤ across)
      ∙ sym (ap (λ w. (up *ℤ (output_of points l -ℤ output_of points s.left)) *ℤ pos w) no_weight ∙ mul-zero (up *ℤ (output_of points l -ℤ output_of points s.left))))
      (cases_Bool (l == s.right)))
      (cases_Bool (l == s.left))

  -- so their cost does, too
  line_cost : s.left ≢ s.right → weighted_total points weight ≡ pos q → weighted_output points weight ≡ pos (q / d) *ℤ p
      → (weighted_cost points weight -ℤ pos q *ℤ cost s.left) *ℤ across ≡ up *ℤ (pos (q / d) *ℤ p -ℤ pos q *ℤ output_of points s.left)
  line_cost apart total output =
      let n = length points in
      let w = λ (l : ℕ). pos (weight l) in
      let terms = sum_below-same (length points) (λ l. ((cost l -ℤ cost s.left) *ℤ across) *ℤ pos (weight l))
      (λ l. (up *ℤ (output_of points l -ℤ output_of points s.left)) *ℤ pos (weight l)) (λ l h. on_line apart l) in
      sym (left_sum) ∙ terms ∙ right_sum
    where
      w : ℕ → ℤ
      w l = pos (weight l)

      spread_sum : (f : ℕ → ℤ) (z : ℤ) → sum_below (length points) (λ l. (f l -ℤ z) *ℤ pos (weight l))
          ≡ sum_below (length points) (λ l. f l *ℤ pos (weight l)) -ℤ z *ℤ pos q
      spread_sum f z =
          sum_below-same (length points) (λ l. (f l -ℤ z) *ℤ pos (weight l)) (λ l. f l *ℤ pos (weight l) -ℤ z *ℤ pos (weight l)) (λ l h. sub-mul (f l) z (pos (weight l)))
          ∙ sum_below-sub (length points) (λ l. f l *ℤ pos (weight l)) (λ l. z *ℤ pos (weight l))
          ∙ ap (λ y. sum_below (length points) (λ l. f l *ℤ pos (weight l)) -ℤ y)
          (sum_below-mul_left (length points) z (λ l. pos (weight l)) ∙ ap (λ y. z *ℤ y) total)

      left_sum : sum_below (length points) (λ l. ((cost l -ℤ cost s.left) *ℤ across) *ℤ pos (weight l)) ≡ (weighted_cost points weight -ℤ pos q *ℤ cost s.left) *ℤ across
      left_sum =
          sum_below-same (length points) (λ l. ((cost l -ℤ cost s.left) *ℤ across) *ℤ pos (weight l)) (λ l. ((cost l -ℤ cost s.left) *ℤ pos (weight l)) *ℤ across)
          (λ l h. mul_assoc (cost l -ℤ cost s.left) across (pos (weight l)) ∙ ap (λ y. (cost l -ℤ cost s.left) *ℤ y) (mul_comm across (pos (weight l)))
          ∙ sym (mul_assoc (cost l -ℤ cost s.left) (pos (weight l)) across))
          ∙ sum_below-mul_right (length points) (λ l. (cost l -ℤ cost s.left) *ℤ pos (weight l)) across
          ∙ ap (λ y. y *ℤ across) (spread_sum cost (cost s.left) ∙ ap (λ y. weighted_cost points weight -ℤ y) (mul_comm (cost s.left) (pos q)))

      right_sum : sum_below (length points) (λ l. (up *ℤ (output_of points l -ℤ output_of points s.left)) *ℤ pos (weight l))
          ≡ up *ℤ (pos (q / d) *ℤ p -ℤ pos q *ℤ output_of points s.left)
      right_sum =
          sum_below-same (length points) (λ l. (up *ℤ (output_of points l -ℤ output_of points s.left)) *ℤ pos (weight l))
          (λ l. up *ℤ ((output_of points l -ℤ output_of points s.left) *ℤ pos (weight l))) (λ l h. mul_assoc up _ _)
          ∙ sum_below-mul_left (length points) up (λ l. (output_of points l -ℤ output_of points s.left) *ℤ pos (weight l))
          ∙ ap (λ y. up *ℤ y) (spread_sum (output_of points) (output_of points s.left)
          ∙ (λ i. output i -ℤ mul_comm (output_of points s.left) (pos q) i))

-- ---- a cell
module _ (points corners : List Point) (hull : IsLowerHull points corners) (q c d : ℕ) (p : ℤ) (s : Segment) (at : segment_at points d p ≡ Some s)
    (some : 0 < d) (factor : q ≡ c * (d * segment_width points s)) where
  held : Holds points d p s
  held = segment_at-holds points d p s at

  abbrev own_cost : ℤ
  own_cost = weighted_cost points (segment_weight q points d p (Some s))

  -- a corner lies on the segment's line or above it
  above_line : IsTrue (is_hull_segment points s.left s.right) → (i : ℕ) → i < length corners
      → (rise points s.left s.right *ℤ (output_of corners i -ℤ output_of points s.left)) ≤ℤ (((point_of corners i).cost -ℤ (point_of points s.left).cost) *ℤ run points s.left s.right)
  above_line segment i hi =
      let place = hull.hull.place i hi in
      let test = int_le-true _ _ (all_below-at (length points) (is_above_line points s.left s.right) (and_parts _ _ segment).1 place.0 place.1) in
      let out = output_is points corners hull (hull.hull.some hull.lawful.some) i place.0 place.2 in
      subst (λ z. (rise points s.left s.right *ℤ (z -ℤ output_of points s.left)) ≤ℤ (((point_of corners i).cost -ℤ (point_of points s.left).cost) *ℤ run points s.left s.right)) (sym out)
      (subst (λ (z : Point). (rise points s.left s.right *ℤ (output_of points place.0 -ℤ output_of points s.left)) ≤ℤ ((z.cost -ℤ (point_of points s.left).cost) *ℤ run points s.left s.right)) (sym place.2) test)

  whole_share : q / d ≡ c * segment_width points s
  whole_share = share_is q (c * segment_width points s) d some (factor ∙ grind arith)

  pub share_times : pos q ≡ pos (q / d) *ℤ pos d
  share_times = ap pos (factor ∙ shares c d (segment_width points s) (q / d) whole_share) ∙ pos-mul (q / d) d
    where
      shares : (c d w n : ℕ) → n ≡ c * w → c * (d * w) ≡ n * d
      shares c d w n e = omega (arith, ap (λ k. k * d) e)

  ends_apart : IsTrue (is_hull_segment points s.left s.right) → s.left ≢ s.right
  ends_apart segment e =
      let wide : pos 0 <ℤ run points s.left s.right = int_lt-true _ _ (and_parts _ _ segment).0 in
      let flat : run points s.left s.right ≡ pos 0 = ap (λ k. output_of points k -ℤ output_of points s.left) (sym e) ∙ omega (arith, linear) in
      absurd (omega (arith, linear, wide, flat))

  -- between two points
  chord_ends : IsTrue (is_hull_segment points s.left s.right) → (i : ℕ) → suc i < length corners
      → (pos d *ℤ output_of corners i) ≤ℤ p → p ≤ℤ (pos d *ℤ output_of corners (suc i))
      → (own_cost *ℤ width_at corners i)
      ≤ℤ (pos q *ℤ ((point_of corners i).cost *ℤ width_at corners i) +ℤ pos (q / d) *ℤ (rise_at corners i *ℤ (p -ℤ pos d *ℤ output_of corners i)))
  chord_ends segment i hi begins reaches =
      let stands = stand_for q c d points p s at some factor in
      let line = line_cost q d points p s (ends_apart segment) stands.total stands.output in
      let wide : output_of corners (suc i) -ℤ output_of corners i ≡ width_at corners i = omega (arith, linear) in
      subst (λ w. (own_cost *ℤ w) ≤ℤ (pos q *ℤ ((point_of corners i).cost *ℤ w) +ℤ pos (q / d) *ℤ (rise_at corners i *ℤ (p -ℤ pos d *ℤ output_of corners i)))) wide
      (chord (pos d) (pos (q / d)) (pos q) own_cost (point_of points s.left).cost (output_of points s.left) (point_of corners i).cost (point_of corners (suc i)).cost
      (output_of corners i) (output_of corners (suc i)) (rise points s.left s.right) (run points s.left s.right) p
      share_times (pos_nonneg (q / d)) (int_lt-true _ _ (and_parts _ _ segment).0) begins reaches
      (above_line segment i (omega arith)) (above_line segment (suc i) hi) line)

  -- what holds p is a segment between two points, or all on one
  kind : IsTrue (is_hull_segment points s.left s.right) ⊎ ((s.left ≡ s.right) × IsTrue (is_hull_point points s.left))
  kind =
      ⊎_elim
      (λ (segment : IsTrue (is_hull_segment points s.left s.right)). inl segment)
      (λ (alone : IsTrue ((s.left == s.right) && is_hull_point points s.left)).
      let both = and_parts (s.left == s.right) (is_hull_point points s.left) alone in
      inr (eqb-true s.left s.right both.0, both.1))
      (or_cases (is_hull_segment points s.left s.right) ((s.left == s.right) && is_hull_point points s.left) (and_parts _ _ (and_parts _ _ held.held).0).0)

  -- all on one
  level : s.left ≡ s.right → own_cost ≡ (point_of points s.left).cost *ℤ pos q
  level same =
      let here = λ (l : ℕ). cond-true (s.left == s.right) (if l == s.left then q else 0) _ (eq-eqb s.left s.right same) in
      sum_below-single (length points) (λ l. (point_of points l).cost *ℤ pos (segment_weight q points d p (Some s) l)) s.left held.left
      (λ l h apart. ap (λ w. (point_of points l).cost *ℤ pos w) (here l ∙ cond-false (l == s.left) q 0 (ne_eqb l s.left apart)) ∙ mul-zero ((point_of points l).cost))
      ∙ ap (λ w. (point_of points s.left).cost *ℤ pos w) (here s.left ∙ cond-true (s.left == s.left) q 0 (eq-eqb s.left s.left refl))

  -- a point that is the hull: all points are level with it, and none is cheaper
  flat : IsTrue (is_hull_point points s.left)
      → IsTrue (all_below (length points) (λ l. int_le (run points s.left l) (pos 0) && int_le (pos 0) (run points s.left l)))
      × IsTrue (all_below (length points) (λ l. int_le (pos 0) (rise points s.left l)))
  flat alone =
      and_parts (all_below (length points) (λ l. int_le (run points s.left l) (pos 0) && int_le (pos 0) (run points s.left l)))
      (all_below (length points) (λ l. int_le (pos 0) (rise points s.left l))) alone

  -- where the hull is a point, no two of the unit's points are apart
  pub point_cost : length corners ≡ 1 → own_cost ≤ℤ (pos q *ℤ (point_of corners 0).cost)
  point_cost only = ⊎_elim
      (λ (segment : IsTrue (is_hull_segment points s.left s.right)).
      let wide : pos 0 <ℤ run points s.left s.right = int_lt-true _ _ (and_parts _ _ segment).0 in
      let right = hull.hull.last 0 (sym only) s.right held.right in
      let left = hull.hull.first s.left held.left in
      absurd (omega (arith, linear, wide, right, left)))
      (λ (alone : (s.left ≡ s.right) × IsTrue (is_hull_point points s.left)).
      let place = hull.hull.place 0 (omega (arith, only)) in
      let rises : pos 0 ≤ℤ rise points s.left place.0 = int_le-true (pos 0) (rise points s.left place.0) (all_below-at (length points) (λ l. int_le (pos 0) (rise points s.left l)) (flat alone.1).1 place.0 place.1) in
      let cost : (point_of corners 0).cost ≡ (point_of points place.0).cost = ap (λ (x : Point). x.cost) place.2 in
      let less : (point_of points s.left).cost ≤ℤ (point_of corners 0).cost = omega (arith, linear, rises, cost) in
      let times = mul-le-mul_left (pos q) (point_of points s.left).cost (point_of corners 0).cost (pos_nonneg q) less in
      omega (arith, linear, level alone.0, times, mul_comm (point_of points s.left).cost (pos q)))
      kind

  pub chord_cost : (i : ℕ) → suc i < length corners → (pos d *ℤ output_of corners i) ≤ℤ p → p ≤ℤ (pos d *ℤ output_of corners (suc i))
      → (own_cost *ℤ width_at corners i)
      ≤ℤ (pos q *ℤ ((point_of corners i).cost *ℤ width_at corners i) +ℤ pos (q / d) *ℤ (rise_at corners i *ℤ (p -ℤ pos d *ℤ output_of corners i)))
  chord_cost i hi begins reaches = ⊎_elim
      (λ (segment : IsTrue (is_hull_segment points s.left s.right)). chord_ends segment i hi begins reaches)
      (λ (alone : (s.left ≡ s.right) × IsTrue (is_hull_point points s.left)).
      let first = hull.hull.place i (omega arith) in
      let next = hull.hull.place (suc i) hi in
      let at_one = all_below-at (length points) (λ l. int_le (run points s.left l) (pos 0) && int_le (pos 0) (run points s.left l)) (flat alone.1).0 in
      let low : pos 0 ≤ℤ run points s.left first.0 = int_le-true (pos 0) (run points s.left first.0) (and_parts (int_le (run points s.left first.0) (pos 0)) (int_le (pos 0) (run points s.left first.0)) (at_one first.0 first.1)).1 in
      let high : run points s.left next.0 ≤ℤ pos 0 = int_le-true _ _ (and_parts _ _ (at_one next.0 next.1)).0 in
      let own : (point_of corners i).mw ≡ (point_of points first.0).mw = ap (λ (x : Point). x.mw) first.2 in
      let other : (point_of corners (suc i)).mw ≡ (point_of points next.0).mw = ap (λ (x : Point). x.mw) next.2 in
      let rises = hull.hull.rising i hi in
      absurd (omega (arith, linear, low, high, own, other, rises)))
      kind
