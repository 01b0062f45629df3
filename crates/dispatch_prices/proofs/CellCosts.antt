-- What a cell of the printed schedule costs, beside what the dispatch pays for it.
-- Cite by `use Rattle.dispatch_prices.proofs.CellCosts.{cell_costs}`.
use Rattle.std.proofs.Common.{◌≡◌, ℕ, zero, suc, ◌-◌, ◌*◌, ◌/◌, ◌<◌, ◌≤◌, ⊎_elim, true, false, sym, ap, subst, ◌∙◌, arith, List, length, ℤ, pos, ◌+ℤ◌, ◌-ℤ◌, ◌*ℤ◌, ◌≤ℤ◌, ◌<ℤ◌, IsTrue, Some, nat_lt, int_le, ◌&&◌, if◌then◌else◌}
use Rattle.std.specs.Ordering.{int_eq}
use Rattle.std.proofs.lemmas.Bool.{cases_Bool, cases_lt, cond-true, cond-false, cond_both, true≢false, lt-ltb, le-ltb, and_right, and_from}
use Rattle.uc_model.specs.Prelude.{point_of, output_of, weighted_cost, production_cost, Segment, segment_at, segment_width, thermal_unit, thermal_count, width_on, cell_width, cell_at, cell_weight, segment_weight, refused_weight, printed_denominator, printed_schedule, IsLawfulInstance}
use Rattle.uc_model.specs.declared.instance.Thermal.{Thermal}
use Rattle.uc_model.specs.declared.schedule.Cell.{Cell}
use Rattle.uc_model.proofs.Common.{sum_below-same, sum_below-zero, int_le-true, le-int_le, eq-int_eq, denominator-factor, linear, mul_comm, mul_assoc, mul_left_comm, mul-add, mul-sub, mul-zero, mul-le-mul_left, le_from_mul, le_or_lt}
use Rattle.cost_curves.specs.LowerHull.{Point}
use Rattle.cost_curves.proofs.HullExists.{segment-there}
use Rattle.cost_curves.proofs.HullValues.{whole_width}
use Rattle.dispatch_rules.specs.Prelude.{width_at, rise_at, segments, Task, cost_of, IsTask, IsDispatch, AreSegments, above_left, line_cost, sum_of, output_in, Printed, Prints}
use Rattle.dispatch_rules.specs.declared.amount.Amount.TheVariants.{Length}
use Rattle.dispatch_prices.specs.Dispatched.{IsAllowedTask}
use Rattle.dispatch_prices.proofs.HullCosts.{chord_cost, point_cost, share_times}
use Rattle.dispatch_prices.proofs.Obeying.{holds_cell}

-- over plain numbers: what the chord bounds, the slope by which the dispatch pays bounds, too
by_slope : (d scale wc q n e ci c0 w r slope given xi p : ℤ) → pos 0 <ℤ w → pos 0 ≤ℤ scale → pos 0 ≤ℤ d → q ≡ n *ℤ e → slope *ℤ w ≡ scale *ℤ r
    → d *ℤ p ≡ e *ℤ given → (wc *ℤ w) ≤ℤ (q *ℤ (ci *ℤ w) +ℤ n *ℤ (r *ℤ (p -ℤ e *ℤ xi)))
    → (d *ℤ (scale *ℤ wc)) ≤ℤ (q *ℤ (d *ℤ (scale *ℤ c0) +ℤ (d *ℤ (scale *ℤ (ci -ℤ c0)) +ℤ slope *ℤ (given -ℤ d *ℤ xi))))
by_slope d scale wc q n e ci c0 w r slope given xi p wide low some share slopes same bound =
    le_from_mul w _ _ wide (omega (arith, linear, scaled, left, right, split))
  where
    scaled : (d *ℤ (scale *ℤ (wc *ℤ w))) ≤ℤ (d *ℤ (scale *ℤ (q *ℤ (ci *ℤ w) +ℤ n *ℤ (r *ℤ (p -ℤ e *ℤ xi)))))
    scaled = mul-le-mul_left d _ _ some (mul-le-mul_left scale _ _ low bound)

    left : w *ℤ (d *ℤ (scale *ℤ wc)) ≡ d *ℤ (scale *ℤ (wc *ℤ w))
    left = mul_left_comm w d (scale *ℤ wc) ∙ ap (λ z. d *ℤ z) (mul_left_comm w scale wc ∙ ap (λ z. scale *ℤ z) (mul_comm w wc))

    -- what the dispatch pays for the cell
    paid : q *ℤ (d *ℤ (scale *ℤ c0) +ℤ (d *ℤ (scale *ℤ (ci -ℤ c0)) +ℤ slope *ℤ (given -ℤ d *ℤ xi)))
        ≡ q *ℤ (d *ℤ (scale *ℤ ci)) +ℤ q *ℤ (slope *ℤ (given -ℤ d *ℤ xi))
    paid =
        ap (λ z. q *ℤ z) (omega (arith, linear, ap (λ z. d *ℤ z) (mul-sub scale ci c0) ∙ mul-sub d (scale *ℤ ci) (scale *ℤ c0)))
        ∙ mul-add q (d *ℤ (scale *ℤ ci)) (slope *ℤ (given -ℤ d *ℤ xi))

    above : q *ℤ (given -ℤ d *ℤ xi) ≡ n *ℤ (d *ℤ (p -ℤ e *ℤ xi))
    above =
        (λ i. share i *ℤ (given -ℤ d *ℤ xi)) ∙ mul_assoc n e (given -ℤ d *ℤ xi)
        ∙ ap (λ z. n *ℤ z) (mul-sub e given (d *ℤ xi) ∙ (λ i. sym same i -ℤ mul_left_comm e d xi i) ∙ sym (mul-sub d p (e *ℤ xi)))

    right : w *ℤ (q *ℤ (d *ℤ (scale *ℤ c0) +ℤ (d *ℤ (scale *ℤ (ci -ℤ c0)) +ℤ slope *ℤ (given -ℤ d *ℤ xi))))
        ≡ d *ℤ (scale *ℤ (q *ℤ (ci *ℤ w))) +ℤ d *ℤ (scale *ℤ (n *ℤ (r *ℤ (p -ℤ e *ℤ xi))))
    right =
        ap (λ z. w *ℤ z) paid ∙ mul-add w (q *ℤ (d *ℤ (scale *ℤ ci))) (q *ℤ (slope *ℤ (given -ℤ d *ℤ xi)))
        ∙ (λ i. first i +ℤ second i)
      where
        first : w *ℤ (q *ℤ (d *ℤ (scale *ℤ ci))) ≡ d *ℤ (scale *ℤ (q *ℤ (ci *ℤ w)))
        first =
            mul_left_comm w q (d *ℤ (scale *ℤ ci))
            ∙ ap (λ z. q *ℤ z) (mul_left_comm w d (scale *ℤ ci) ∙ ap (λ z. d *ℤ z) (mul_left_comm w scale ci ∙ ap (λ z. scale *ℤ z) (mul_comm w ci)))
            ∙ mul_left_comm q d (scale *ℤ (ci *ℤ w)) ∙ ap (λ z. d *ℤ z) (mul_left_comm q scale (ci *ℤ w))

        second : w *ℤ (q *ℤ (slope *ℤ (given -ℤ d *ℤ xi))) ≡ d *ℤ (scale *ℤ (n *ℤ (r *ℤ (p -ℤ e *ℤ xi))))
        second =
            ap (λ z. w *ℤ z) (mul_left_comm q slope (given -ℤ d *ℤ xi)) ∙ sym (mul_assoc w slope (q *ℤ (given -ℤ d *ℤ xi)))
            ∙ (λ i. (mul_comm w slope ∙ slopes) i *ℤ above i) ∙ mul_assoc scale r (n *ℤ (d *ℤ (p -ℤ e *ℤ xi)))
            ∙ ap (λ z. scale *ℤ z) (mul_left_comm r n (d *ℤ (p -ℤ e *ℤ xi)) ∙ ap (λ z. n *ℤ z) (mul_left_comm r d (p -ℤ e *ℤ xi)) ∙ mul_left_comm n d (r *ℤ (p -ℤ e *ℤ xi)))
            ∙ mul_left_comm scale d (n *ℤ (r *ℤ (p -ℤ e *ℤ xi)))

    split : d *ℤ (scale *ℤ (q *ℤ (ci *ℤ w) +ℤ n *ℤ (r *ℤ (p -ℤ e *ℤ xi))))
        ≡ d *ℤ (scale *ℤ (q *ℤ (ci *ℤ w))) +ℤ d *ℤ (scale *ℤ (n *ℤ (r *ℤ (p -ℤ e *ℤ xi))))
    split = ap (λ z. d *ℤ z) (mul-add scale (q *ℤ (ci *ℤ w)) (n *ℤ (r *ℤ (p -ℤ e *ℤ xi)))) ∙ mul-add d _ _

-- ---- the segment that holds an output
-- of the corners 0 to n, the last whose output over d is at most p
holding : List Point → ℕ → ℤ → ℕ → ℕ
holding corners d p zero = zero
holding corners d p (suc n) = if int_le (pos d *ℤ output_of corners (suc n)) p then suc n else holding corners d p n

holding-within : (corners : List Point) (d : ℕ) (p : ℤ) (n : ℕ) → holding corners d p n ≤ n
unfolding holding
holding-within corners d p zero = omega arith
holding-within corners d p (suc n) =
    let before = holding-within corners d p n in
    cond_both (int_le (pos d *ℤ output_of corners (suc n)) p) (suc n) (holding corners d p n) (λ i. i ≤ suc n) (λ e. omega arith) (λ e. omega arith)

record Between (corners : List Point) (d : ℕ) (p : ℤ) (n i : ℕ) : Type 0 where
  within : i ≤ n
  begins : (pos d *ℤ output_of corners i) ≤ℤ p
  reaches : p ≤ℤ (pos d *ℤ output_of corners (suc i))

-- it holds p, where that lies between the first and the last
holding-holds : (corners : List Point) (d : ℕ) (p : ℤ) (n : ℕ) → (pos d *ℤ output_of corners 0) ≤ℤ p → p ≤ℤ (pos d *ℤ output_of corners (suc n))
    → Between corners d p n (holding corners d p n)
unfolding holding
holding-holds corners d p zero low high = record { within = omega arith; begins = low; reaches = high }
holding-holds corners d p (suc n) low high = ⊎_elim
    (λ (here : IsTrue (int_le (pos d *ℤ output_of corners (suc n)) p)).
    subst (λ i. Between corners d p (suc n) i) (sym (cond-true _ (suc n) (holding corners d p n) here))
    (record { within = omega arith; begins = int_le-true _ _ here; reaches = high }))
    (λ (before : int_le (pos d *ℤ output_of corners (suc n)) p ≡ false).
    let rest = holding-holds corners d p n low (below before) in
    subst (λ i. Between corners d p (suc n) i) (sym (cond-false _ (suc n) (holding corners d p n) before))
    (record { within = omega (arith, rest.within); begins = rest.begins; reaches = rest.reaches }))
    (cases_Bool (int_le (pos d *ℤ output_of corners (suc n)) p))
  where
    below : int_le (pos d *ℤ output_of corners (suc n)) p ≡ false → p ≤ℤ (pos d *ℤ output_of corners (suc n))
    below e = ⊎_elim
        (λ (more : (pos d *ℤ output_of corners (suc n)) ≤ℤ p). absurd (true≢false (sym (le-int_le _ _ more) ∙ e)))
        (λ (less : p <ℤ (pos d *ℤ output_of corners (suc n))). omega (arith, linear))
        (le_or_lt (pos d *ℤ output_of corners (suc n)) p)

-- ---- a cell of the schedule
module _ (task : Task) (d : ℤ) (v : ℕ → ℤ) (printed : Printed) (lawful : IsLawfulInstance task.instance) (is : IsTask task)
    (allowed : IsAllowedTask task) (some : pos 0 <ℤ d) (dispatch : IsDispatch task d v) (prints : Prints task d v printed) where
  abbrev q : ℕ
  q = printed_denominator task.instance printed

  abbrev unit : ℕ → Thermal
  unit g = thermal_unit task.instance g

  abbrev paid : ℕ → ℕ → ℤ
  paid g t = production_cost (unit g) ((printed_schedule task.instance printed q).thermal g) t

  -- the segment of each cell
  pub segment : ℕ → ℕ → ℕ
  segment g t = holding (task.corners g) printed.denominator (cell_at printed g t).p (segments (task.corners g) - 1)

  pub are_segments : AreSegments task segment
  unfolding segment
  are_segments g t hg ht more =
      let within = holding-within (task.corners g) printed.denominator (cell_at printed g t).p (segments (task.corners g) - 1) in
      omega arith

  -- what the dispatch pays for a cell, in scale times d
  abbrev own : ℕ → ℕ → ℤ
  own g t = d *ℤ (task.scale *ℤ (point_of (task.corners g) 0).cost)

  module _ (g t : ℕ) (hg : g < thermal_count task.instance) (ht : t < task.instance.periods) where
    abbrev cell : Cell
    cell = cell_at printed g t

    abbrev points : List Point
    points = (unit g).points

    abbrev corners : List Point
    corners = task.corners g

    low_q : 0 < printed.denominator
    low_q = omega (arith, prints.shape.denominator.0)

    module _ (on : task.on g t ≡ true) where
      shown : cell.on ≡ true
      shown = prints.on g t hg ht ∙ on

      there : (s : Segment) × (segment_at points printed.denominator cell.p ≡ Some s)
      there =
          let holds = holds_cell task d v printed lawful is allowed some dispatch prints g t hg ht in
          segment-there points printed.denominator cell.p (is.hulls g hg).lawful low_q (holds.low shown) (holds.high shown)

      factor : (c : ℕ) × (q ≡ c * (printed.denominator * segment_width points there.0))
      factor =
          let whole = denominator-factor task.instance printed g t hg ht in
          let width : cell_width points printed.denominator cell ≡ segment_width points there.0 =
          cond-true cell.on (width_on points (segment_at points printed.denominator cell.p)) 1 shown ∙ ap (λ o. width_on points o) there.1 in
          (whole.0, whole.1 ∙ ap (λ n. whole.0 * (printed.denominator * n)) width)

      paid_is : paid g t ≡ weighted_cost points (segment_weight q points printed.denominator cell.p (Some there.0))
      paid_is =
          sum_below-same (length points) (λ l. (point_of points l).cost *ℤ pos (cell_weight q points printed.denominator cell l))
          (λ l. (point_of points l).cost *ℤ pos (segment_weight q points printed.denominator cell.p (Some there.0) l))
          (λ l h. ap (λ w. (point_of points l).cost *ℤ pos w)
          (cond-true cell.on (segment_weight q points printed.denominator cell.p (segment_at points printed.denominator cell.p) l) (if int_eq cell.p (pos 0) then 0 else refused_weight q l) shown
          ∙ ap (λ o. segment_weight q points printed.denominator cell.p o l) there.1))

      many : 1 < length corners → (d *ℤ (task.scale *ℤ paid g t)) ≤ℤ (pos q *ℤ (own g t +ℤ line_cost task d v g t (segment g t)))
      unfolding segment
      many more =
          let i = holding corners printed.denominator cell.p (segments corners - 1) in
          let holds = holds_cell task d v printed lawful is allowed some dispatch prints g t hg ht in
          let none : output_of corners 0 ≡ pos 0 = omega (arith, linear) in
          let begin : pos printed.denominator *ℤ output_of corners 0 ≡ pos 0 = ap (λ z. pos printed.denominator *ℤ z) none ∙ mul-zero (pos printed.denominator) in
          let positive = holds.low shown in
          let last : suc (segments corners - 1) ≡ length corners - 1 = omega arith in
          let wide = ap (λ z. pos printed.denominator *ℤ z) (ap (output_of corners) last ∙ whole_width points corners (is.hulls g hg)) in
          let most = holds.high shown in
          let between = holding-holds corners printed.denominator cell.p (segments corners - 1) (omega (arith, linear)) (omega (arith, linear)) in
          let next : suc (holding corners printed.denominator cell.p (segments corners - 1)) < length corners = omega (arith, between.within) in
          let rises = (is.hulls g hg).hull.rising (holding corners printed.denominator cell.p (segments corners - 1)) next in
          let above = is.scale in
          let bound = chord_cost points corners (is.hulls g hg) q factor.0 printed.denominator cell.p there.0 there.1 low_q factor.1
          (holding corners printed.denominator cell.p (segments corners - 1)) next between.begins between.reaches in
          subst (λ z. (d *ℤ (task.scale *ℤ z)) ≤ℤ (pos q *ℤ (own g t +ℤ line_cost task d v g t (holding corners printed.denominator cell.p (segments corners - 1))))) (sym paid_is)
          (by_slope d task.scale (weighted_cost points (segment_weight q points printed.denominator cell.p (Some there.0))) (pos q) (pos (q / printed.denominator)) (pos printed.denominator)
          (point_of corners (holding corners printed.denominator cell.p (segments corners - 1))).cost (point_of corners 0).cost
          (width_at corners (holding corners printed.denominator cell.p (segments corners - 1))) (rise_at corners (holding corners printed.denominator cell.p (segments corners - 1)))
          (cost_of task (Length g t (holding corners printed.denominator cell.p (segments corners - 1)))) (sum_of task v (output_in g t))
          (output_of corners (holding corners printed.denominator cell.p (segments corners - 1))) cell.p
          (omega (arith, linear)) (omega (arith, linear)) (omega (arith, linear))
          (share_times points corners (is.hulls g hg) q factor.0 printed.denominator cell.p there.0 there.1 low_q factor.1)
          (is.whole g t (holding corners printed.denominator cell.p (segments corners - 1)) hg ht on next) (prints.output g t hg ht) bound)

      single : length corners ≡ 1 → (d *ℤ (task.scale *ℤ paid g t)) ≤ℤ (pos q *ℤ own g t)
      single only =
          let bound = point_cost points corners (is.hulls g hg) q factor.0 printed.denominator cell.p there.0 there.1 low_q factor.1 only in
          let above = is.scale in
          let times = mul-le-mul_left d _ _ (omega (arith, linear)) (mul-le-mul_left task.scale _ _ (omega (arith, linear)) (subst (λ z. z ≤ℤ (pos q *ℤ (point_of corners 0).cost)) (sym paid_is) bound)) in
          subst (λ z. (d *ℤ (task.scale *ℤ paid g t)) ≤ℤ z)
          (ap (λ z. d *ℤ z) (mul_left_comm task.scale (pos q) (point_of corners 0).cost) ∙ mul_left_comm d (pos q) (task.scale *ℤ (point_of corners 0).cost)) times

      pub on_cost : (d *ℤ (task.scale *ℤ paid g t)) ≤ℤ (pos q *ℤ (own g t +ℤ above_left task d v segment g t))
      on_cost = ⊎_elim
          (λ (more : 1 < length corners).
          subst (λ z. (d *ℤ (task.scale *ℤ paid g t)) ≤ℤ (pos q *ℤ (own g t +ℤ z)))
          (sym (cond-true (task.on g t && nat_lt 1 (length corners)) (line_cost task d v g t (segment g t)) (pos 0) (and_from _ _ on (lt-ltb 1 (length corners) more))))
          (many more))
          (λ (few : length corners ≤ 1).
          let first = (is.hulls g hg).hull.some (is.hulls g hg).lawful.some in
          let none : above_left task d v segment g t ≡ pos 0 =
          cond-false (task.on g t && nat_lt 1 (length corners)) (line_cost task d v g t (segment g t)) (pos 0)
          (and_right (task.on g t) (nat_lt 1 (length corners)) (le-ltb 1 (length corners) few)) in
          let whole : own g t +ℤ above_left task d v segment g t ≡ own g t = omega (arith, linear, none) in
          subst (λ z. (d *ℤ (task.scale *ℤ paid g t)) ≤ℤ (pos q *ℤ z)) (sym whole) (single (omega (arith, first))))
          (cases_lt 1 (length corners))

    pub off_cost : task.on g t ≡ false → paid g t ≡ pos 0
    off_cost off =
        let shown = prints.on g t hg ht ∙ off in
        let holds = holds_cell task d v printed lawful is allowed some dispatch prints g t hg ht in
        sum_below-zero (length points) (λ l. (point_of points l).cost *ℤ pos (cell_weight q points printed.denominator cell l)) (λ l h.
        ap (λ w. (point_of points l).cost *ℤ pos w)
        (cond-false cell.on (segment_weight q points printed.denominator cell.p (segment_at points printed.denominator cell.p) l) (if int_eq cell.p (pos 0) then 0 else refused_weight q l) shown
        ∙ cond-true (int_eq cell.p (pos 0)) 0 (refused_weight q l) (eq-int_eq cell.p (pos 0) (holds.idle shown)))
        ∙ mul-zero (point_of points l).cost)
