-- The hull's value on a segment that holds an output is the least cost rounded up.
-- Cite from a crate above by `use Rattle.cost_curves.proofs.FirstSegments.{held_over}`.
use Rattle.std.proofs.Common.{◌≡◌, ℕ, ◌≢◌, ◌*◌, ◌<◌, ◌≤◌, ◌⊎◌, ⊎_elim, sym, ap, subst, ◌∙◌, arith, List, length, unsigned_abs, ℤ, pos, ◌-ℤ◌, ◌*ℤ◌, ◌≤ℤ◌, ◌<ℤ◌, IsTrue, Some, int_le, ◌&&◌}
use Rattle.std.proofs.lemmas.Bool.{and_parts, and_from}
use Rattle.uc_model.specs.Prelude.{IsCeiling, quotient_up, all_below, point_of, output_of, run, rise, is_hull_segment, is_hull_point, Segment, segment_width, from_left, segment_cost, hull_cost}
use Rattle.uc_model.proofs.Common.{linear, one-mul, mul-one, zero-mul, mul-zero, mul-sub, mul_comm, pos-mul, mul-le-mul_left, mul-lt-mul_left, le_antisymm, le_or_lt, int_le-true, le-int_le, all_below-at, IsCeiling_unique, quotient_up-is, first-there, under, Holds, segment_at-holds, lies_on, abs_is}
use Rattle.uc_model.proofs.HullPoints.{wide}
use Rattle.cost_curves.specs.LowerHull.{IsLowerHull}
use Rattle.cost_curves.specs.LeastCost.{Point, IsLeastCostUp, IsSegmentAt}
use Rattle.cost_curves.specs.inside.Places.{HoldsOutput}
use Rattle.cost_curves.proofs.LeastCosts.{between_least, level_least}
use Rattle.cost_curves.proofs.HullValues.{output_is, run_is, segment_is}

-- ---- the hull's value on a segment
-- the quotient of the hull's value
quotient_is : (points : List Point) (d : ℕ) (p : ℤ) (s : Segment) → 0 < d
    → IsCeiling (rise points s.left s.right *ℤ from_left points d p s) (pos (d * segment_width points s))
    (segment_cost points d p (Some s) -ℤ (point_of points s.left).cost)
quotient_is points d p s some =
    let number = rise points s.left s.right *ℤ from_left points d p s in
    let divisor = pos (d * segment_width points s) in
    let q = quotient_up number divisor in
    let positive = wide d points s some in
    subst (λ z. IsCeiling number divisor z) (omega (arith, linear)) (quotient_up-is number divisor (omega (arith, linear)))

-- on a segment between two points
quotient_run : (points : List Point) (d : ℕ) (p : ℤ) (s : Segment) → 0 < d → Holds points d p s → pos 0 <ℤ run points s.left s.right
    → IsCeiling (rise points s.left s.right *ℤ from_left points d p s) (pos d *ℤ run points s.left s.right)
    (segment_cost points d p (Some s) -ℤ (point_of points s.left).cost)
quotient_run points d p s some holds rising =
    let apart : s.left ≢ s.right = λ e. (omega (arith, linear, ap (λ l. output_of points l) e)) in
    let width : pos (d * segment_width points s) ≡ pos d *ℤ run points s.left s.right =
    pos-mul d (segment_width points s) ∙ ap (λ z. pos d *ℤ z) ((lies_on points d p s holds).width apart) in
    subst (λ z. IsCeiling (rise points s.left s.right *ℤ from_left points d p s) z (segment_cost points d p (Some s) -ℤ (point_of points s.left).cost))
    width (quotient_is points d p s some)

-- on one point it is the point's cost
cost_level : (points : List Point) (d : ℕ) (p : ℤ) (s : Segment) → 0 < d → s.left ≡ s.right → segment_cost points d p (Some s) ≡ (point_of points s.left).cost
cost_level points d p s some same =
    let gone : rise points s.left s.right ≡ pos 0 = omega (arith, linear, ap (λ k. (point_of points k).cost) (sym same)) in
    let level : rise points s.left s.right *ℤ from_left points d p s ≡ pos 0 =
    ap (λ z. z *ℤ from_left points d p s) gone ∙ zero-mul (from_left points d p s) in
    let positive = wide d points s some in
    let nought = subst (λ z. IsCeiling z (pos (d * segment_width points s)) (segment_cost points d p (Some s) -ℤ (point_of points s.left).cost)) level (quotient_is points d p s some) in
    omega (arith, linear, IsCeiling_unique (pos 0) (pos (d * segment_width points s)) _ (pos 0) (omega (arith, linear)) nought (zero_ceiling (d * segment_width points s) positive))
  where
    zero_ceiling : (w : ℕ) → 1 ≤ w → IsCeiling (pos 0) (pos w) (pos 0)
    zero_ceiling w h = let e = zero-mul (pos w) in record { above = omega (arith, linear, e); before = omega (arith, linear, e) }

-- a segment's ends are two points, or one of those that all have one output
ends_are : (points : List Point) (d : ℕ) (p : ℤ) (s : Segment) → Holds points d p s
    → IsTrue (is_hull_segment points s.left s.right) ⊎ ((s.left ≡ s.right) × IsTrue (is_hull_point points s.left))
ends_are points d p s holds = grind (arith, linear, holds)

pub segment_least : (points : List Point) (d : ℕ) (p : ℤ) (s : Segment) → 0 < d → Holds points d p s → IsLeastCostUp points d p (segment_cost points d p (Some s))
segment_least points d p s some holds =
    let both = and_parts _ _ holds.held in
    let begins : (pos d *ℤ output_of points s.left) ≤ℤ p = int_le-true _ _ (and_parts _ _ both.0).1 in
    let reaches : p ≤ℤ (pos d *ℤ output_of points s.right) = int_le-true _ _ both.1 in
    ⊎_elim
    (λ (segment : IsTrue (is_hull_segment points s.left s.right)).
    let flat = under points s holds.left holds.right segment in
    between_least points d p (segment_cost points d p (Some s)) s.left s.right some holds.left holds.right (omega (arith, linear, flat.wide)) begins reaches flat.above
    (quotient_run points d p s some holds flat.wide))
    (λ point.
    let same = point.0 in
    let tests = and_parts (all_below (length points) (λ l. int_le (run points s.left l) (pos 0) && int_le (pos 0) (run points s.left l))) (all_below (length points) (λ l. int_le (pos 0) (rise points s.left l))) point.1 in
    let here : pos d *ℤ output_of points s.left ≡ p = le_antisymm _ _ begins (subst (λ k. p ≤ℤ (pos d *ℤ output_of points k)) (sym same) reaches) in
    subst (λ z. IsLeastCostUp points d p z) (sym (cost_level points d p s some same))
    (subst (λ z. IsLeastCostUp points d z (point_of points s.left).cost) here
    (level_least points d s.left holds.left (λ l h. omega (arith, linear, int_le-true (pos 0) (rise points s.left l) (all_below-at (length points) (λ l. int_le (pos 0) (rise points s.left l)) tests.1 l h))))))
    (ends_are points d p s holds)

-- a cost that is the left end's, or has its quotient, is the hull's value on the segment
pub cost_on : (points : List Point) (d : ℕ) (p n : ℤ) (s : Segment) → 0 < d → Holds points d p s
    → ((point_of points s.left).mw ≡ (point_of points s.right).mw → n ≡ (point_of points s.left).cost)
    → ((point_of points s.left).mw <ℤ (point_of points s.right).mw
    → IsCeiling (rise points s.left s.right *ℤ from_left points d p s) (pos d *ℤ ((point_of points s.right).mw -ℤ (point_of points s.left).mw)) (n -ℤ (point_of points s.left).cost))
    → n ≡ segment_cost points d p (Some s)
cost_on points d p n s some holds level rising = ⊎_elim
    (λ (segment : IsTrue (is_hull_segment points s.left s.right)).
    let up = (under points s holds.left holds.right segment).wide in
    let number = rise points s.left s.right *ℤ from_left points d p s in
    let width = run_is points s.left s.right in
    let positive : pos 0 <ℤ (pos d *ℤ run points s.left s.right) =
    subst (λ z. z <ℤ (pos d *ℤ run points s.left s.right)) (mul-zero (pos d)) (mul-lt-mul_left (pos d) (pos 0) (run points s.left s.right) (omega (arith, linear)) up) in
    let mine = subst (λ z. IsCeiling number (pos d *ℤ z) (n -ℤ (point_of points s.left).cost)) (sym width) (rising (omega (arith, linear, up))) in
    let same = IsCeiling_unique number (pos d *ℤ run points s.left s.right) _ _ positive mine (quotient_run points d p s some holds up) in
    omega (arith, linear, same))
    (λ point. level (ap (λ k. (point_of points k).mw) point.0) ∙ sym (cost_level points d p s some point.0))
    (ends_are points d p s holds)

-- the least cost rounded up is the hull's value
pub hull_cost-least : (points : List Point) (d : ℕ) (p n : ℤ) (s : Segment) → 0 < d → Holds points d p s → IsLeastCostUp points d p n → n ≡ hull_cost points d p
hull_cost-least points d p n s some holds least =
    let found = first-there points d p (length points) s.left s.right holds.left holds.right holds.held in
    let other = segment_least points d p found.0 some (segment_at-holds points d p found.0 found.1) in
    le_antisymm n (segment_cost points d p (Some found.0)) (least.least _ other.reached) (other.least n least.reached)
    ∙ ap (λ o. segment_cost points d p o) (sym found.1)

-- ---- the segment of the next whole output
-- w being the least whole output that isn't below p over q: what w reaches p over q reaches too, and what lies left of it
-- lies left of p over q
pub begins_over : (q p w x : ℤ) → pos 1 ≤ℤ q → pos 0 ≤ℤ p → IsCeiling p q w → x ≤ℤ w → (pos 0 <ℤ w → x <ℤ w) → (q *ℤ x) ≤ℤ p
begins_over q p w x some low ceiling begins right_of = ⊎_elim
    (λ (none : w ≤ℤ pos 0).
    let times = mul-le-mul_left q x (pos 0) (omega (arith, linear)) (omega (arith, linear)) in
    let nought = mul-zero q in
    omega (arith, linear, times, nought))
    (λ (more : pos 0 <ℤ w).
    let less = right_of more in
    let times = mul-le-mul_left q x (w -ℤ pos 1) (omega (arith, linear)) (omega (arith, linear)) in
    let parts = mul-sub q w (pos 1) in
    let one = mul-one q in
    let turned = mul_comm q w in
    omega (arith, linear, times, parts, one, turned, ceiling.before))
    (le_or_lt w (pos 0))

pub reaches_over : (q p w y : ℤ) → pos 1 ≤ℤ q → IsCeiling p q w → w ≤ℤ y → p ≤ℤ (q *ℤ y)
reaches_over q p w y some ceiling reaches =
    let times = mul-le-mul_left q w y (omega (arith, linear)) reaches in
    let turned = mul_comm q w in
    omega (arith, linear, times, turned, ceiling.above)

-- a segment that holds w holds p over d
pub held_over : (points : List Point) (d : ℕ) (p w : ℤ) (left right : Point) → 0 < d → pos 0 ≤ℤ p → IsCeiling p (pos d) w
    → (segment : IsSegmentAt points w left right) → Holds points d p (record { left = segment.left_place; right = segment.right_place })
held_over points d p w left right some low ceiling segment =
    let x = output_of points segment.left_place in
    let y = output_of points segment.right_place in
    let both = and_parts _ _ segment.holds in
    let first = and_parts _ _ both.0 in
    let begins : x ≤ℤ w = subst (λ z. z ≤ℤ w) (one-mul x) (int_le-true (pos 1 *ℤ x) w first.1) in
    let reaches : w ≤ℤ y = subst (λ z. w ≤ℤ z) (one-mul y) (int_le-true w (pos 1 *ℤ y) both.1) in
    record {
      left = segment.left_within;
      right = segment.right_within;
      held = and_from _ _
          (and_from _ _ first.0 (le-int_le _ _ (begins_over (pos d) p w x (omega (arith, linear)) low ceiling begins segment.first)))
          (le-int_le _ _ (reaches_over (pos d) p w y (omega (arith, linear)) ceiling reaches));
    }

-- the cost by the quotient between two corners is the hull's value on a segment that holds p over q
pub corner_cost : (points corners : List Point) (q p w over n : ℤ) (i j : ℕ) → IsLowerHull points corners → HoldsOutput corners w i j
    → pos 1 ≤ℤ q → pos 0 ≤ℤ p → IsCeiling p q w → over ≡ p -ℤ q *ℤ output_of corners i
    → ((point_of corners i).mw ≡ (point_of corners j).mw → n ≡ (point_of corners i).cost)
    → ((point_of corners i).mw <ℤ (point_of corners j).mw
    → IsCeiling (((point_of corners j).cost -ℤ (point_of corners i).cost) *ℤ over) (q *ℤ ((point_of corners j).mw -ℤ (point_of corners i).mw)) (n -ℤ (point_of corners i).cost))
    → (s : Segment) × Holds points (unsigned_abs q) p s × (n ≡ segment_cost points (unsigned_abs q) p (Some s))
corner_cost points corners q p w over n i j whole holds some low ceiling over_is level rising = (
  s,
  held,
  cost_on points d p n s positive held
      (λ e. level (ap (λ (x : Point). x.mw) left ∙ e ∙ sym (ap (λ (x : Point). x.mw) right)) ∙ ap (λ (x : Point). x.cost) left)
      (λ less.
      let mine = rising (subst (λ (x : Point). x.mw <ℤ (point_of corners j).mw) (sym left) (subst (λ (x : Point). (point_of points s.left).mw <ℤ x.mw) (sym right) less)) in
      subst (λ (x : Point). IsCeiling (rise points s.left s.right *ℤ from_left points d p s) (pos d *ℤ ((point_of points s.right).mw -ℤ (point_of points s.left).mw)) (n -ℤ x.cost)) left
      (subst (λ z. IsCeiling (rise points s.left s.right *ℤ from_left points d p s) z (n -ℤ (point_of corners i).cost)) (λ t. sym same t *ℤ ((right t).mw -ℤ (left t).mw))
      (subst (λ z. IsCeiling z (q *ℤ ((point_of corners j).mw -ℤ (point_of corners i).mw)) (n -ℤ (point_of corners i).cost)) (λ t. ((right t).cost -ℤ (left t).cost) *ℤ from t) mine))),
)
  where
    d : ℕ
    d = unsigned_abs q

    same : pos d ≡ q
    same = abs_is q (omega (arith, linear))

    positive : 0 < d
    positive = omega (arith, linear, same)

    segment : IsSegmentAt points w (point_of corners i) (point_of corners j)
    segment = segment_is points corners w i j whole holds

    s : Segment
    s = record { left = segment.left_place; right = segment.right_place }

    held : Holds points d p s
    held = held_over points d p w _ _ positive low (subst (λ z. IsCeiling p z w) (sym same) ceiling) segment

    left : point_of corners i ≡ point_of points s.left
    left = segment.left_is

    right : point_of corners j ≡ point_of points s.right
    right = segment.right_is

    place : output_of corners i ≡ output_of points s.left
    place = output_is points corners whole (let h = holds.left_within in omega arith) i s.left left

    from : over ≡ from_left points d p s
    from = over_is ∙ (λ t. p -ℤ sym same t *ℤ place t)
