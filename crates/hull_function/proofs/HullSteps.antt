-- L as a function that is made segment by segment.
use Rattle.std.proofs.Common.{◌≡◌, ℕ, suc, ◌+◌, ◌-◌, ◌*◌, ◌/◌, ◌^◌, ◌<◌, ◌≤◌, ⊎_elim, sym, ap, subst, ◌∙◌, arith, List, [], length, ℤ, pos, ◌+ℤ◌, ◌-ℤ◌, ◌*ℤ◌, ◌≤ℤ◌, ◌<ℤ◌, to_z, of_z, unsigned_abs, Some}
use Rattle.std.specs.Int.{w64}
use Rattle.std.proofs.lemmas.Int.{ints}
use Rattle.std.proofs.lemmas.Bool.{cases_lt}
use Rattle.uc_model.specs.Prelude.{IsFloor, sum_below, point_of, output_of, run, rise, hull_cost, Segment}
use Rattle.uc_model.specs.declared.instance.Point.{Point}
use Rattle.uc_model.specs.declared.limits.TheConstants.{MAX_COST, MAX_POINTS, MAX_POWER}
use Rattle.uc_model.proofs.Common.{linear, one-mul, mul_comm, mul-le-mul_left, mul-le-mul_turned, mul_nonneg, le_or_lt, mul-zero, abs_mul, sum_below-same, IsFloor_unique, IsFloor-int_div_euclid, abs_is, width_is, IsUnder, is_held, outputs_rise, step_there}
use Rattle.dual_model.specs.Prelude.{floored_slope, greatest_output, slope_from}
use Rattle.dual_model.specs.ExactValue.{floored_cost}
use Rattle.cost_curves.specs.LeastCost.{IsSegmentAt}
use Rattle.cost_curves.specs.LowerHull.{AreLawfulPoints, IsLawfulPoint}
use Rattle.cost_curves.proofs.JoinedCorners.{rises}
use Rattle.step_functions.specs.Functions.{Steps, IsPlace, last_place, run_count, value_at}
use Rattle.step_functions.specs.Runs.{slope_at, steps_of}
use Rattle.hull_function.proofs.HullSlopes.{slope-of, slopes-rise}
use Rattle.hull_function.specs.Hulls.{IsHull, IsScale}
use Rattle.hull_function.specs.inside.HullParts.{IsHullTo, MAX_CORNER, MAX_SEGMENT}

-- ---- the value
steps_to : (f : Steps) (p : ℕ) → f.first ≡ pos 0 → pos p ≤ℤ last_place f → p ≤ steps_of f.runs
steps_to f p first h = omega (arith, linear, first, h)

over_one : (y : ℕ) → y / 1 ≡ y
over_one y = omega arith

pub hull-value : (points : List Point) (k : ℤ) (f : Steps) (p : ℕ) → IsHullTo points k f → pos p ≤ℤ last_place f
    → value_at f (pos p) ≡ floored_cost points k 1 p
unfolding value_at floored_cost
hull-value points k f p is h =
    let first = is.first in
    let steps = steps_to f p first h in
    let size : unsigned_abs (pos p -ℤ f.first) ≡ p = omega (arith, ints, first) in
    let each = sum_below-same p (slope_at f.runs) (λ y. slope_from points k (y / 1))
    (λ j l. is.slopes j (omega (arith, l, steps)) ∙ ap (slope_from points k) (sym (over_one j))) in
    let value = is.value in
    let one = one-mul (k *ℤ hull_cost points 1 (pos 0)) in
    ap (λ n. f.value +ℤ sum_below n (slope_at f.runs)) size ∙ omega (arith, linear, each, value, one)

pub hull-whole : (points : List Point) (k : ℤ) (f : Steps) → length points ≤ MAX_POINTS → IsHullTo points k f
    → last_place f ≡ greatest_output points → IsHull points k f
hull-whole points k f few is last = grind (arith, ints, hull-value, few, is, last)

-- ---- the beginning
pub hull-begun : (points : List Point) (k : ℤ) (f : Steps) (value : ℤ) → 0 < length points → value ≡ k *ℤ hull_cost points 1 (pos 0)
    → unsigned_abs value ≤ MAX_CORNER → f.first ≡ pos 0 → f.value ≡ value → f.runs ≡ [] → last_place f ≡ pos 0
    → value_at f (pos 0) ≡ value → IsHullTo points k f
hull-begun points k f value some is small first start none last here = record {
  first = first;
  value = start ∙ is;
  slopes = λ j l. let count = ap steps_of none in absurd (omega (arith, l, count));
  size = λ p place. grind (arith, ints, place, p, f, first, last, here, small);
  place = 0;
  within = some;
  ends = let zero_is : output_of points 0 ≡ pos 0 = omega (arith, linear) in zero_is ∙ sym last;
  pieces = let count = ap length none in omega (arith, count);
}
  where
    at_zero : (a p b : ℤ) → a ≡ pos 0 → b ≡ pos 0 → a ≤ℤ p → p ≤ℤ b → p ≡ pos 0
    at_zero a p b h k low high = omega (arith, ints)

-- ---- the segment behind x watts
pub record OnSegment (points : List Point) (x : ℕ) (s : Segment) : Type 0 where
  pub under : IsUnder points s
  pub begins : output_of points s.left ≤ℤ pos x
  pub reaches : pos (suc x) ≤ℤ output_of points s.right

pub on_segment : (points : List Point) (x : ℕ) (left right : Point) (at : IsSegmentAt points (pos (suc x)) left right)
    → OnSegment points x (record { left = at.left_place; right = at.right_place })
on_segment points x left right at =
    let s : Segment = record { left = at.left_place; right = at.right_place } in
    let held = is_held points (pos (suc x)) s (record { left = at.left_within; right = at.right_within; held = at.holds }) in
    let before = at.first (omega (arith, linear)) in
    let reaches = held.reaches in
    record {
      under = ⊎_elim (λ (u : IsUnder points s). u)
          (λ other. let same = ap (output_of points) other.0 in absurd (omega (arith, linear, same, before, reaches)))
          held.is;
      begins = omega (arith, linear, before);
      reaches = reaches;
    }

-- its slope
floor-is : (points : List Point) (k : ℤ) (s : Segment) → IsUnder points s
    → IsFloor (k *ℤ rise points s.left s.right) (run points s.left s.right) (floored_slope points k (Some s))
floor-is points k s under = grind (arith, ints, width_is, IsFloor-int_div_euclid, under)

pub slope-floored : (points : List Point) (k slope : ℤ) (s : Segment) → IsUnder points s
    → IsFloor (k *ℤ rise points s.left s.right) (run points s.left s.right) slope → slope ≡ floored_slope points k (Some s)
slope-floored points k slope s under floor =
    IsFloor_unique (k *ℤ rise points s.left s.right) (run points s.left s.right) slope (floored_slope points k (Some s)) under.wide floor
    (floor-is points k s under)

-- what L rises by along a part of it
along-size : (a w s j : ℤ) → pos 0 <ℤ w → IsFloor a w s → pos 0 ≤ℤ j → j ≤ℤ w → unsigned_abs (j *ℤ s) ≤ unsigned_abs a + unsigned_abs w
along-size a w s j wide floor low high =
    let turn = mul_comm j s in
    let nothing = mul-zero s in
    let below = floor.below in
    let next = floor.next in
    ⊎_elim
    (λ (up : pos 0 ≤ℤ s).
    let from = mul_nonneg s j up low in
    let to = mul-le-mul_left s j w up high in
    rising a w (j *ℤ s) (s *ℤ j) (s *ℤ w) turn from to below)
    (λ (down : s <ℤ pos 0).
    let from = mul-le-mul_turned s (pos 0) j (omega (arith, linear, down)) low in
    let to = mul-le-mul_turned s j w (omega (arith, linear, down)) high in
    falling a w (j *ℤ s) (s *ℤ j) (s *ℤ w) (s *ℤ pos 0) turn nothing from to below next)
    (le_or_lt (pos 0) s)
  where
    rising : (a w x y z : ℤ) → x ≡ y → pos 0 ≤ℤ y → y ≤ℤ z → z ≤ℤ a → unsigned_abs x ≤ unsigned_abs a + unsigned_abs w
    rising a w x y z turn from to below = omega (arith, ints)

    falling : (a w x y z o : ℤ) → x ≡ y → o ≡ pos 0 → y ≤ℤ o → z ≤ℤ y → z ≤ℤ a → a <ℤ (z +ℤ w) → unsigned_abs x ≤ unsigned_abs a + unsigned_abs w
    falling a w x y z o turn nothing from to below next = omega (arith, ints)

module _ (points : List Point) (k : ℤ) (lawful : AreLawfulPoints points) (scale : IsScale k) (s : Segment) (x : ℕ) (on : OnSegment points x s) where
  wide-enough : unsigned_abs (run points s.left s.right) ≤ 2 * MAX_POWER
  wide-enough =
      let left = (lawful.each s.left on.under.left).output in
      let right = (lawful.each s.right on.under.right).output in
      let is : run points s.left s.right ≡ (point_of points s.right).mw -ℤ (point_of points s.left).mw = omega (arith, linear) in
      size (run points s.left s.right) (point_of points s.right).mw (point_of points s.left).mw is right left
    where
      size : (r b a : ℤ) → r ≡ b -ℤ a → unsigned_abs b ≤ MAX_POWER → unsigned_abs a ≤ MAX_POWER → unsigned_abs r ≤ 2 * MAX_POWER
      size r b a e h l = omega (arith, ints)

  high-enough : unsigned_abs (k *ℤ rise points s.left s.right) ≤ 10 ^ 9 * (2 * MAX_COST)
  high-enough =
      let left = (lawful.each s.left on.under.left).cost in
      let right = (lawful.each s.right on.under.right).cost in
      let low = scale.low in
      let high = scale.high in
      abs_mul k (rise points s.left s.right) (10 ^ 9) (2 * MAX_COST) (omega (arith, ints, low, high))
      (size (point_of points s.right).cost (point_of points s.left).cost right left)
    where
      size : (b a : ℤ) → unsigned_abs b ≤ MAX_COST → unsigned_abs a ≤ MAX_COST → unsigned_abs (b -ℤ a) ≤ 2 * MAX_COST
      size b a h l = omega (arith, ints)

  -- along so many of its watts behind x
  pub segment-size : (j : ℕ) → pos (x + j) ≤ℤ output_of points s.right → unsigned_abs (pos j *ℤ floored_slope points k (Some s)) ≤ MAX_SEGMENT
  segment-size j h =
      let begins = on.begins in
      let rise_size = high-enough in
      let run_size = wide-enough in
      let size =
      along-size (k *ℤ rise points s.left s.right) (run points s.left s.right) (floored_slope points k (Some s)) (pos j) on.under.wide
      (floor-is points k s on.under) (omega (arith, linear)) (omega (arith, linear, begins, h)) in
      omega (arith, size, rise_size, run_size)

  -- the slope of each of its steps
  pub step-slope : (j : ℕ) → x ≤ j → pos (suc j) ≤ℤ output_of points s.right → slope_from points k j ≡ floored_slope points k (Some s)
  step-slope j later h =
      let begins = on.begins in
      let most = outputs_rise points (rises points lawful) s.right (length points - 1) (let l = on.under.right in omega (arith, l))
      (let l = on.under.right in omega (arith, l)) in
      let step = step_there points j (rises points lawful) (omega (arith, linear, h, most)) in
      slope-of points k j step.0 s scale.low step.1 on.under (omega (arith, linear, begins, later)) h

  -- the steps before it rise by no more
  pub steps-before : (j : ℕ) → j ≤ x → slope_from points k j ≤ℤ floored_slope points k (Some s)
  steps-before j earlier =
      let reaches = on.reaches in
      let most = outputs_rise points (rises points lawful) s.right (length points - 1) (let l = on.under.right in omega (arith, l))
      (let l = on.under.right in omega (arith, l)) in
      let first = step_there points j (rises points lawful) (omega (arith, linear, reaches, most, earlier)) in
      let second = step_there points x (rises points lawful) (omega (arith, linear, reaches, most)) in
      let own = step-slope x (omega arith) reaches in
      let order = slopes-rise points k j x first.0 second.0 scale.low earlier first.1 second.1 in
      omega (arith, linear, own, order)

-- ---- a segment more
-- the function goes on along the segment to its right end
pub record IsExtended (f g : Steps) (length : ℕ) (slope : ℤ) : Type 0 where
  pub first : g.first ≡ f.first
  pub last : last_place g ≡ last_place f +ℤ pos length
  pub before : (p : ℤ) → IsPlace f p → value_at g p ≡ value_at f p
  pub after : (k : ℕ) → k ≤ length → value_at g (last_place f +ℤ pos k) ≡ value_at f (last_place f) +ℤ pos k *ℤ slope
  pub value : g.value ≡ f.value
  pub old_steps : (k : ℕ) → k < steps_of f.runs → slope_at g.runs k ≡ slope_at f.runs k
  pub new_steps : (k : ℕ) → k < length → slope_at g.runs (steps_of f.runs + k) ≡ slope
  pub runs : run_count g ≡ run_count f + 1

module _ (points : List Point) (k : ℤ) (lawful : AreLawfulPoints points) (scale : IsScale k) (s : Segment) (x : ℕ) (on : OnSegment points x s)
    (f g : Steps) (count : ℕ) (slope : ℤ) (at : pos x ≡ last_place f) (slope_is : slope ≡ floored_slope points k (Some s))
    (end : output_of points s.right ≡ last_place f +ℤ pos count) (is : IsHullTo points k f) where
  pub hull-steps : steps_of f.runs ≡ x
  hull-steps = let first = is.first in omega (arith, linear, first, at)

  pub hull-rising : (j : ℕ) → j < steps_of f.runs → slope_at f.runs j ≤ℤ slope
  hull-rising j l =
      let count = hull-steps in
      let own = is.slopes j l in
      let order = steps-before points k lawful scale s x on j (omega (arith, l, count)) in
      omega (arith, linear, own, order, slope_is)

  rise-size : (j : ℕ) → j ≤ count → unsigned_abs (pos j *ℤ slope) ≤ MAX_SEGMENT
  rise-size j l =
      subst (λ z. unsigned_abs (pos j *ℤ z) ≤ MAX_SEGMENT) (sym slope_is)
      (segment-size points k lawful scale s x on j (omega (arith, linear, at, end, l)))

  last-value : unsigned_abs (value_at f (last_place f)) ≤ MAX_CORNER + run_count f * MAX_SEGMENT
  last-value = is.size (last_place f) (record { low = omega (arith, linear); high = omega (arith, linear) })

  pub hull-end-size : (j : ℕ) → j ≤ count → unsigned_abs (value_at f (last_place f) +ℤ pos j *ℤ slope) ≤ MAX_CORNER + (run_count f + 1) * MAX_SEGMENT
  hull-end-size j l =
      let old = last-value in
      let more = rise-size j l in
      omega (arith, ints, old, more)

  pub hull-more : IsExtended f g count slope → IsHullTo points k g
  hull-more ext = record {
    first = ext.first ∙ is.first;
    value = ext.value ∙ is.value;
    slopes = λ j l. ⊎_elim
        (λ (old : j < steps_of f.runs). ext.old_steps j old ∙ is.slopes j old)
        (λ (new : steps_of f.runs ≤ j). new_slope j new l)
        (cases_lt j (steps_of f.runs));
    size = λ p place. ⊎_elim
        (λ (old : p ≤ℤ last_place f). old_size p place old)
        (λ (new : last_place f <ℤ p). new_size p place new)
        (le_or_lt p (last_place f));
    place = s.right;
    within = on.under.right;
    ends = end ∙ sym ext.last;
    pieces = later_pieces;
  }
    where
      total : steps_of g.runs ≡ steps_of f.runs + count
      total =
          let first = ext.first in
          let last = ext.last in
          omega (arith, linear, first, last)

      new_slope : (j : ℕ) → steps_of f.runs ≤ j → j < steps_of g.runs → slope_at g.runs j ≡ slope_from points k j
      new_slope j new l =
          let n = hull-steps in
          let sum = total in
          let split : j ≡ steps_of f.runs + (j - steps_of f.runs) = omega (arith, new) in
          let own = ext.new_steps (j - steps_of f.runs) (omega (arith, l, sum, new)) in
          ap (slope_at g.runs) split ∙ own ∙ slope_is
          ∙ sym (step-slope points k lawful scale s x on j (omega (arith, new, n)) (omega (arith, linear, end, at, l, sum, n)))

      old_size : (p : ℤ) → IsPlace g p → p ≤ℤ last_place f → unsigned_abs (value_at g p) ≤ MAX_CORNER + run_count g * MAX_SEGMENT
      old_size p place old =
          let low = place.low in
          let first = ext.first in
          let own : IsPlace f p = record { low = omega (arith, linear, low, first); high = old } in
          let same = ap (λ z. unsigned_abs z) (ext.before p own) in
          let small = is.size p own in
          let runs = ext.runs in
          let more : run_count g * MAX_SEGMENT ≡ run_count f * MAX_SEGMENT + MAX_SEGMENT = omega (arith, runs) in
          omega (arith, same, small, more)

      new_size : (p : ℤ) → IsPlace g p → last_place f <ℤ p → unsigned_abs (value_at g p) ≤ MAX_CORNER + run_count g * MAX_SEGMENT
      new_size p place new =
          let high = place.high in
          let last = ext.last in
          let j = unsigned_abs (p -ℤ last_place f) in
          let size = abs_is (p -ℤ last_place f) (omega (arith, linear, new)) in
          let here : p ≡ last_place f +ℤ pos j = omega (arith, linear, size) in
          let within : j ≤ count = omega (arith, linear, size, high, last) in
          let value = ap (λ z. unsigned_abs z) (ap (value_at g) here ∙ ext.after j within) in
          let small = hull-end-size j within in
          let runs = ap (λ n. MAX_CORNER + n * MAX_SEGMENT) ext.runs in
          omega (arith, value, small, runs)

      later_pieces : run_count g ≤ s.right
      later_pieces = ⊎_elim
          (λ (before : is.place < s.right).
          let pieces = is.pieces in
          let runs = ext.runs in
          omega (arith, before, pieces, runs))
          (λ (other : s.right ≤ is.place).
          let order = outputs_rise points (rises points lawful) s.right is.place other is.within in
          let ends = is.ends in
          let reaches = on.reaches in
          absurd (omega (arith, linear, order, ends, reaches, at)))
          (cases_lt is.place s.right)

-- ---- the segment that is read
pub record IsNextSegment (points : List Point) (f : Steps) (left right : Point) : Type 0 where
  pub x : ℕ
  pub s : Segment
  pub at : pos x ≡ last_place f
  pub on : OnSegment points x s
  pub left_is : left ≡ point_of points s.left
  pub right_is : right ≡ point_of points s.right

pub next-segment : (points : List Point) (k : ℤ) (f : Steps) (p : ℤ) (left right : Point) → IsHullTo points k f → p ≡ last_place f +ℤ pos 1
    → IsSegmentAt points p left right → IsNextSegment points f left right
next-segment points k f p left right is p_is at =
    let first = is.first in
    let x = steps_of f.runs in
    let here : pos x ≡ last_place f = omega (arith, linear, first) in
    let next : p ≡ pos (suc x) = omega (arith, linear, p_is, here) in
    let moved = subst (λ z. IsSegmentAt points z left right) next at in
    record {
      x = x;
      s = record { left = moved.left_place; right = moved.right_place };
      at = here;
      on = on_segment points x left right moved;
      left_is = moved.left_is;
      right_is = moved.right_is;
    }

pub slope-is : (points : List Point) (k : ℤ) (s : Segment) (left right : Point) (scale slope : ℤ) → IsUnder points s → left ≡ point_of points s.left
    → right ≡ point_of points s.right → scale ≡ k → IsFloor (scale *ℤ (right.cost -ℤ left.cost)) (right.mw -ℤ left.mw) slope
    → slope ≡ floored_slope points k (Some s)
slope-is points k s left right scale slope under left_is right_is scale_is floor =
    let left_mw = ap (λ (z : Point). z.mw) left_is in
    let right_mw = ap (λ (z : Point). z.mw) right_is in
    let width : right.mw -ℤ left.mw ≡ run points s.left s.right = omega (arith, linear, left_mw, right_mw) in
    let height : scale *ℤ (right.cost -ℤ left.cost) ≡ k *ℤ rise points s.left s.right = λ i. scale_is i *ℤ ((right_is i).cost -ℤ (left_is i).cost) in
    slope-floored points k slope s under (subst (λ z. IsFloor z (run points s.left s.right) slope) height
    (subst (λ z. IsFloor (scale *ℤ (right.cost -ℤ left.cost)) z slope) width floor))

-- its ends are points within the limits, one right of the other
pub end-lawful : (points : List Point) (l : ℕ) (point : Point) → AreLawfulPoints points → l < length points → point ≡ point_of points l → IsLawfulPoint point
end-lawful points l point lawful within is = subst (λ (z : Point). IsLawfulPoint z) (sym is) (lawful.each l within)

pub ends-apart : (points : List Point) (s : Segment) (left right : Point) → IsUnder points s → left ≡ point_of points s.left
    → right ≡ point_of points s.right → left.mw <ℤ right.mw
ends-apart points s left right under left_is right_is =
    let left_mw = ap (λ (z : Point). z.mw) left_is in
    let right_mw = ap (λ (z : Point). z.mw) right_is in
    let wide = under.wide in
    omega (arith, linear, left_mw, right_mw, wide)

-- by their bits
pub next-is : (last b : ℤ) → b ≡ last → unsigned_abs last ≤ 10 ^ 18 → to_z w64 (of_z w64 (to_z w64 (of_z w64 b) +ℤ pos 1)) ≡ last +ℤ pos 1
next-is last b d k = omega (arith, ints)

-- from the last place to its right end
pub record IsEnd (points : List Point) (f : Steps) (left right : Point) (end : ℤ) : Type 0 where
  pub next : IsNextSegment points f left right
  pub end_is : end ≡ output_of points next.s.right
  pub end_size : unsigned_abs end ≤ 2 * MAX_POWER
  pub place_size : unsigned_abs (last_place f) ≤ 2 * MAX_POWER
  pub order : last_place f <ℤ end

pub end-read : (points : List Point) (k : ℤ) (f : Steps) (left right : Point) (end place : ℤ) → IsHullTo points k f
    → place ≡ last_place f → unsigned_abs place ≤ 10 ^ 18 → IsSegmentAt points (to_z w64 (of_z w64 (to_z w64 (of_z w64 place) +ℤ pos 1))) left right
    → end ≡ right.mw -ℤ (point_of points 0).mw → unsigned_abs end ≤ 2 * MAX_POWER → IsEnd points f left right end
end-read points k f left right end place is place_is small at read size =
    let next = next-segment points k f (to_z w64 (of_z w64 (to_z w64 (of_z w64 place) +ℤ pos 1))) left right is
    (next-is (last_place f) place place_is (subst (λ z. unsigned_abs z ≤ 10 ^ 18) place_is small)) at in
    let right_mw = ap (λ (z : Point). z.mw) next.right_is in
    let same : end ≡ output_of points next.s.right = omega (arith, linear, right_mw, read) in
    let reaches = next.on.reaches in
    let here = next.at in
    let less : last_place f <ℤ end = omega (arith, linear, same, reaches, here) in
    record {
      next = next;
      end_is = same;
      end_size = size;
      place_size = between (last_place f) end next.x (sym here) less size;
      order = less;
    }
  where
    between : (p e : ℤ) (x : ℕ) → p ≡ pos x → p <ℤ e → unsigned_abs e ≤ 2 * MAX_POWER → unsigned_abs p ≤ 2 * MAX_POWER
    between p e x is less size = omega (arith, ints)

pub outputs-within : (points : List Point) (l : ℕ) → AreLawfulPoints points → l < length points → output_of points l ≤ℤ greatest_output points
outputs-within points l lawful within = outputs_rise points (rises points lawful) l (length points - 1) (omega (arith, within)) (omega (arith, within))

pub scale-size : (k : ℤ) → IsScale k → unsigned_abs k ≤ 10 ^ 9
scale-size k scale = grind (arith, ints, scale)
