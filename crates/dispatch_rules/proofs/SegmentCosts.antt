-- Lengths on the segments of a hull cost at least what the hull costs at their sum, as its slopes rise.
-- Cite by `use Rattle.dispatch_rules.proofs.SegmentCosts.{lengths_cost}`.
use Rattle.std.proofs.Common.{◌≡◌, ℕ, zero, suc, ◌+◌, ◌-◌, ◌<◌, ◌≤◌, ⊎_elim, sym, ap, subst, ◌∙◌, arith, List, length, ℤ, pos, ◌+ℤ◌, ◌-ℤ◌, ◌*ℤ◌, ◌≤ℤ◌, ◌<ℤ◌}
use Rattle.std.proofs.lemmas.Bool.{cases_lt}
use Rattle.uc_model.specs.Prelude.{sum_below, point_of, output_of}
use Rattle.uc_model.proofs.Common.{linear, spread, mul_comm, mul_assoc, mul_left_comm, mul_nonneg, mul-zero, mul-add, mul-sub, sub-mul, mul-le-mul_left, mul-le-mul_turned, le_from_mul, mul-lt-mul_left, le_trans, sum_below-same, sum_below-le, sum_below-sub, sum_below-mul_left, sum_below-split, sum_below_nonneg}
use Rattle.cost_curves.specs.LowerHull.{Point, IsLowerHull, IsAbove}
use Rattle.dispatch_rules.specs.Cells.{width_at, rise_at, segments}

-- the slopes of two segments side by side
steeper : (m s s' w w' r r' : ℤ) → pos 0 ≤ℤ m → pos 0 <ℤ w → pos 0 <ℤ w' → s *ℤ w ≡ m *ℤ r → s' *ℤ w' ≡ m *ℤ r'
    → (r *ℤ (w +ℤ w')) ≤ℤ ((r +ℤ r') *ℤ w) → s ≤ℤ s'
steeper m s s' w w' r r' sign positive positive' steep steep' above =
    let parts : (r *ℤ w') ≤ℤ (r' *ℤ w) = let h = simp spread at above in omega (arith, linear) in
    let times = mul-le-mul_left m _ _ sign parts in
    let left : m *ℤ (r *ℤ w') ≡ (w *ℤ w') *ℤ s =
    sym (mul_assoc m r w') ∙ ap (λ z. z *ℤ w') (sym steep) ∙ mul_assoc s w w' ∙ mul_comm s (w *ℤ w') in
    let right : m *ℤ (r' *ℤ w) ≡ (w *ℤ w') *ℤ s' =
    sym (mul_assoc m r' w) ∙ ap (λ z. z *ℤ w) (sym steep') ∙ mul_assoc s' w' w ∙ ap (λ z. s' *ℤ z) (mul_comm w' w) ∙ mul_comm s' (w *ℤ w') in
    le_from_mul (w *ℤ w') s s' (product w w' positive positive') (omega (arith, linear))
  where
    product : (a b : ℤ) → pos 0 <ℤ a → pos 0 <ℤ b → pos 0 <ℤ (a *ℤ b)
    product a b h k = let more = mul-lt-mul_left a (pos 0) b h k in let none = mul-zero a in omega (arith, linear)

module _ (points corners : List Point) (m d : ℤ) (slope x : ℕ → ℤ) (hull : IsLowerHull points corners) (sign : pos 0 ≤ℤ m) (positive : pos 0 ≤ℤ d) (steep : (k : ℕ) → suc k < length corners → slope k *ℤ width_at corners k ≡ m *ℤ rise_at corners k) (low : (k : ℕ) → suc k < length corners → pos 0 ≤ℤ x k) (high : (k : ℕ) → suc k < length corners → x k ≤ℤ (d *ℤ width_at corners k)) where
  width_positive : (i : ℕ) → suc i < length corners → pos 0 <ℤ width_at corners i
  width_positive i h = let rising = hull.hull.rising i h in omega (arith, linear)

  next_slope : (k : ℕ) → suc (suc k) < length corners → slope k ≤ℤ slope (suc k)
  next_slope k h =
      let stands = hull.hull.place (suc (suc k)) h in
      let above = subst (λ point. IsAbove (point_of corners k) (point_of corners (suc k)) point) (sym stands.2) (hull.hull.above k (omega arith) stands.0 stands.1) in
      let first : (point_of corners (suc (suc k))).mw -ℤ (point_of corners k).mw ≡ width_at corners k +ℤ width_at corners (suc k) = omega (arith, linear) in
      let second : (point_of corners (suc (suc k))).cost -ℤ (point_of corners k).cost ≡ rise_at corners k +ℤ rise_at corners (suc k) = omega (arith, linear) in
      let line : (rise_at corners k *ℤ (width_at corners k +ℤ width_at corners (suc k))) ≤ℤ ((rise_at corners k +ℤ rise_at corners (suc k)) *ℤ width_at corners k) =
      subst (λ z. (rise_at corners k *ℤ (width_at corners k +ℤ width_at corners (suc k))) ≤ℤ (z *ℤ width_at corners k)) second
      (subst (λ z. (rise_at corners k *ℤ z) ≤ℤ (((point_of corners (suc (suc k))).cost -ℤ (point_of corners k).cost) *ℤ width_at corners k)) first above) in
      steeper m (slope k) (slope (suc k)) (width_at corners k) (width_at corners (suc k)) (rise_at corners k) (rise_at corners (suc k)) sign
      (width_positive k (omega arith)) (width_positive (suc k) h) (steep k (omega arith)) (steep (suc k) h) line

  slopes_rise : (k i : ℕ) → k ≤ i → suc i < length corners → slope k ≤ℤ slope i
  slopes_rise k zero le h = let same : k ≡ 0 = omega arith in let e = ap slope same in omega (arith, linear)
  slopes_rise k (suc i) le h = ⊎_elim
      (λ (less : k < suc i). le_trans (slope k) (slope i) (slope (suc i)) (slopes_rise k i (omega arith) (omega arith)) (next_slope i h))
      (λ (most : suc i ≤ k). let same : k ≡ suc i = omega arith in let e = ap slope same in omega (arith, linear))
      (cases_lt k (suc i))

  -- what the corners cost above the first, by the segments before them
  corner_cost : (i : ℕ) → i < length corners → sum_below i (λ k. slope k *ℤ width_at corners k) ≡ m *ℤ ((point_of corners i).cost -ℤ (point_of corners 0).cost)
  corner_cost zero h = let none : (point_of corners 0).cost -ℤ (point_of corners 0).cost ≡ pos 0 = omega (arith, linear) in sym (ap (λ z. m *ℤ z) none ∙ mul-zero m)
  corner_cost (suc i) h =
      let before = corner_cost i (omega arith) in
      let here = steep i h in
      let both : m *ℤ ((point_of corners (suc i)).cost -ℤ (point_of corners 0).cost) ≡ m *ℤ ((point_of corners i).cost -ℤ (point_of corners 0).cost) +ℤ m *ℤ rise_at corners i =
      ap (λ z. m *ℤ z) (omega (arith, linear)) ∙ mul-add m ((point_of corners i).cost -ℤ (point_of corners 0).cost) (rise_at corners i) in
      omega (arith, linear)

  widths : (i : ℕ) → sum_below i (width_at corners) ≡ output_of corners i
  widths zero = omega (arith, linear)
  widths (suc i) = let before = widths i in omega (arith, linear)

  -- against the slope of segment i
  abbrev against : ℕ → ℕ → ℤ
  against i k = slope k -ℤ slope i

  before_part : (i : ℕ) → suc i < length corners → sum_below i (λ k. against i k *ℤ (d *ℤ width_at corners k)) ≤ℤ sum_below i (λ k. against i k *ℤ x k)
  before_part i h = sum_below-le i _ _ (λ k l.
      mul-le-mul_turned (against i k) (x k) (d *ℤ width_at corners k) (let rise = slopes_rise k i (omega arith) h in omega (arith, linear)) (high k (omega arith)))

  after_part : (i n : ℕ) → suc i < length corners → i + n ≤ segments corners → pos 0 ≤ℤ sum_below n (λ j. against i (i + j) *ℤ x (i + j))
  after_part i n h within = sum_below_nonneg n (λ j. against i (i + j) *ℤ x (i + j)) (λ j l.
      mul_nonneg (against i (i + j)) (x (i + j)) (let rise = slopes_rise i (i + j) (omega arith) (omega arith) in omega (arith, linear)) (low (i + j) (omega arith)))

  -- the lengths cost at least what the line of segment i does at their sum
  pub lengths_cost : (i : ℕ) (p : ℤ) → suc i < length corners → sum_below (segments corners) x ≡ p
      → (d *ℤ (m *ℤ ((point_of corners i).cost -ℤ (point_of corners 0).cost)) +ℤ slope i *ℤ (p -ℤ d *ℤ output_of corners i)) ≤ℤ sum_below (segments corners) (λ k. slope k *ℤ x k)
  lengths_cost i p h total =
      let n = segments corners - i in
      let whole : segments corners ≡ i + n = omega arith in
      let cut = ap (λ c. sum_below c (λ k. against i k *ℤ x k)) whole ∙ sum_below-split i n (λ k. against i k *ℤ x k) in
      let first = before_part i h in
      let second = after_part i n h (omega arith) in
      let parted : sum_below (segments corners) (λ k. against i k *ℤ x k) ≡ sum_below (segments corners) (λ k. slope k *ℤ x k) -ℤ slope i *ℤ p =
      sum_below-same (segments corners) _ (λ k. slope k *ℤ x k -ℤ slope i *ℤ x k) (λ k l. sub-mul (slope k) (slope i) (x k))
      ∙ sum_below-sub (segments corners) (λ k. slope k *ℤ x k) (λ k. slope i *ℤ x k)
      ∙ ap (λ z. sum_below (segments corners) (λ k. slope k *ℤ x k) -ℤ z) (sum_below-mul_left (segments corners) (slope i) x ∙ ap (λ z. slope i *ℤ z) total) in
      let base : sum_below i (λ k. against i k *ℤ (d *ℤ width_at corners k)) ≡ d *ℤ (m *ℤ ((point_of corners i).cost -ℤ (point_of corners 0).cost)) -ℤ slope i *ℤ (d *ℤ output_of corners i) =
      sum_below-same i _ (λ k. d *ℤ (slope k *ℤ width_at corners k) -ℤ slope i *ℤ (d *ℤ width_at corners k))
      (λ k l. sub-mul (slope k) (slope i) (d *ℤ width_at corners k) ∙ ap (λ z. z -ℤ slope i *ℤ (d *ℤ width_at corners k)) (mul_left_comm (slope k) d (width_at corners k)))
      ∙ sum_below-sub i (λ k. d *ℤ (slope k *ℤ width_at corners k)) (λ k. slope i *ℤ (d *ℤ width_at corners k))
      ∙ (λ j. (sum_below-mul_left i d (λ k. slope k *ℤ width_at corners k) ∙ ap (λ z. d *ℤ z) (corner_cost i (omega arith))) j
      -ℤ (sum_below-mul_left i (slope i) (λ k. d *ℤ width_at corners k) ∙ ap (λ z. slope i *ℤ z) (sum_below-mul_left i d (width_at corners) ∙ ap (λ z. d *ℤ z) (widths i))) j) in
      let outer = mul-sub (slope i) p (d *ℤ output_of corners i) in
      omega (arith, linear)
