-- The multipliers of a cell's limits bound it: at each point of its hull, and so between them.
-- Cite by `use Rattle.dispatch_rules.proofs.Cells.{bounds_cell}`.
use Rattle.std.proofs.Common.{◌≡◌, ℕ, zero, suc, ◌-◌, ◌<◌, ◌≤◌, ⊎_elim, sym, ap, ◌∙◌, arith, List, length, ℤ, pos, ◌+ℤ◌, ◌-ℤ◌, ◌*ℤ◌, neg_ℤ, ◌≤ℤ◌, ◌<ℤ◌}
use Rattle.std.proofs.lemmas.Int.{by_lt_z}
use Rattle.std.proofs.lemmas.Bool.{cases_lt}
use Rattle.uc_model.specs.Prelude.{sum_below, point_of, output_of}
use Rattle.uc_model.proofs.Common.{linear, spread, mul_comm, mul_assoc, mul_nonneg, mul-zero, mul-le-mul_left, le_from_mul, mul_left_comm, mul-add}
use Rattle.cost_curves.specs.LowerHull.{Point, IsLowerHull}
use Rattle.cost_curves.proofs.HullValues.{starts}
use Rattle.dual_model.specs.Prelude.{IsCellBound}
use Rattle.dual_model.proofs.Terms.{cell_bound-corners}
use Rattle.dispatch_rules.specs.Cells.{IsPricedCell, cell_bound, width_at, rise_at, segments}

-- a step along a segment: it costs at least what its limit's multiplier takes
step : (slope a limit both far : ℤ) → pos 0 ≤ℤ (slope +ℤ a +ℤ limit +ℤ both) → pos 0 ≤ℤ far
    → pos 0 ≤ℤ (slope *ℤ far +ℤ (a +ℤ both) *ℤ far +ℤ limit *ℤ far)
step slope a limit both far sign positive =
    let times = mul_nonneg (slope +ℤ a +ℤ limit +ℤ both) far sign positive in
    let parts = simp spread at times in
    simp spread (omega (arith, linear))

-- a point above the line: its cost is at least the line's
above_line : (k slope width rise far up : ℤ) → pos 0 ≤ℤ k → pos 0 <ℤ width → slope *ℤ width ≡ k *ℤ rise
    → (rise *ℤ far) ≤ℤ (up *ℤ width) → (slope *ℤ far) ≤ℤ (k *ℤ up)
above_line k slope width rise far up sign positive steep above =
    let times : (k *ℤ (rise *ℤ far)) ≤ℤ (k *ℤ (up *ℤ width)) = mul-le-mul_left k _ _ sign above in
    let left : width *ℤ (slope *ℤ far) ≡ k *ℤ (rise *ℤ far) =
    sym (mul_assoc width slope far) ∙ ap (λ z. z *ℤ far) (mul_comm width slope ∙ steep) ∙ mul_assoc k rise far in
    let right : width *ℤ (k *ℤ up) ≡ k *ℤ (up *ℤ width) =
    mul_left_comm width k up ∙ ap (λ z. k *ℤ z) (mul_comm width up) in
    le_from_mul width (slope *ℤ far) (k *ℤ up) positive (omega (arith, linear))

module _ (points corners : List Point) (k a b both : ℤ) (slope limit : ℕ → ℤ) (hull : IsLowerHull points corners) (is : IsPricedCell corners k a b both slope limit) where
  abbrev taken : ℕ → ℤ
  taken n = sum_below n (λ i. limit i *ℤ width_at corners i)

  width_positive : (i : ℕ) → suc i < length corners → pos 0 <ℤ width_at corners i
  width_positive i h = let rising = hull.hull.rising i h in omega (arith, linear)

  taken-le : (m n : ℕ) → suc n ≤ length corners → m ≤ n → taken m ≤ℤ taken n
  taken-le m zero h le = let same : m ≡ 0 = omega arith in let e = ap taken same in omega (arith, linear)
  taken-le m (suc n) h le = ⊎_elim
      (λ (less : m < suc n).
      let before = taken-le m n (omega arith) (omega arith) in
      let positive = width_positive n h in
      let more = mul_nonneg (limit n) (width_at corners n) (is.limits n h) (omega (arith, linear)) in
      omega (arith, linear))
      (λ (most : suc n ≤ m). let same : m ≡ suc n = omega arith in let e = ap taken same in omega (arith, linear))
      (cases_lt m (suc n))

  abbrev first : ℤ
  first = (point_of corners 0).cost

  -- the corners
  corner : (i : ℕ) → i < length corners
      → (k *ℤ first) ≤ℤ (k *ℤ (point_of corners i).cost +ℤ (a +ℤ both) *ℤ output_of corners i +ℤ taken i)
  corner zero h =
      let none : output_of corners 0 ≡ pos 0 = omega (arith, linear) in
      let free : (a +ℤ both) *ℤ output_of corners 0 ≡ pos 0 = ap (λ z. (a +ℤ both) *ℤ z) none ∙ mul-zero (a +ℤ both) in
      omega (arith, linear)
  corner (suc i) h =
      let before = corner i (omega arith) in
      let positive = width_positive i h in
      let more = step (slope i) a (limit i) both (width_at corners i) (is.lengths i h) (omega (arith, linear)) in
      let steep = is.slopes i h in
      let risen : k *ℤ (point_of corners (suc i)).cost ≡ k *ℤ (point_of corners i).cost +ℤ k *ℤ rise_at corners i =
      ap (λ z. k *ℤ z) (omega (arith, linear)) ∙ mul-add k (point_of corners i).cost (rise_at corners i) in
      let gone : (a +ℤ both) *ℤ output_of corners (suc i) ≡ (a +ℤ both) *ℤ output_of corners i +ℤ (a +ℤ both) *ℤ width_at corners i =
      ap (λ z. (a +ℤ both) *ℤ z) (omega (arith, linear)) ∙ mul-add (a +ℤ both) (output_of corners i) (width_at corners i) in
      omega (arith, linear)

  abbrev far_from : ℕ → ℕ → ℤ
  far_from i l = (point_of points l).mw -ℤ (point_of corners i).mw

  -- a point over a segment
  over : (i l : ℕ) → suc i < length corners → l < length points → (point_of corners i).mw ≤ℤ (point_of points l).mw
      → (point_of points l).mw ≤ℤ (point_of corners (suc i)).mw
      → (k *ℤ first) ≤ℤ (k *ℤ (point_of points l).cost +ℤ (a +ℤ both) *ℤ output_of points l +ℤ taken (segments corners))
  over i l hi hl after before =
      let start = starts points corners hull (omega arith) in
      let from = corner i (omega arith) in
      let far : ℤ = far_from i l in
      let up : ℤ = (point_of points l).cost -ℤ (point_of corners i).cost in
      let above = hull.hull.above i hi l hl in
      let costs : (slope i *ℤ far_from i l) ≤ℤ (k *ℤ ((point_of points l).cost -ℤ (point_of corners i).cost)) =
      above_line k (slope i) (width_at corners i) (rise_at corners i) (far_from i l) _ is.scale (width_positive i hi) (is.slopes i hi) above in
      let more = step (slope i) a (limit i) both (far_from i l) (is.lengths i hi) (omega (arith, linear)) in
      let within : (limit i *ℤ far_from i l) ≤ℤ (limit i *ℤ width_at corners i) =
      mul-le-mul_left (limit i) _ _ (is.limits i hi) (omega (arith, linear)) in
      let risen : k *ℤ (point_of points l).cost ≡ k *ℤ (point_of corners i).cost +ℤ k *ℤ ((point_of points l).cost -ℤ (point_of corners i).cost) =
      ap (λ z. k *ℤ z) (omega (arith, linear)) ∙ mul-add k (point_of corners i).cost _ in
      let gone : (a +ℤ both) *ℤ output_of points l ≡ (a +ℤ both) *ℤ output_of corners i +ℤ (a +ℤ both) *ℤ far_from i l =
      ap (λ z. (a +ℤ both) *ℤ z) (omega (arith, linear)) ∙ mul-add (a +ℤ both) (output_of corners i) (far_from i l) in
      let all = taken-le (suc i) (segments corners) (omega arith) (omega arith) in
      omega (arith, linear)

  -- the points up to a corner
  up_to : (i l : ℕ) → suc i < length corners → l < length points → (point_of points l).mw ≤ℤ (point_of corners (suc i)).mw
      → (k *ℤ first) ≤ℤ (k *ℤ (point_of points l).cost +ℤ (a +ℤ both) *ℤ output_of points l +ℤ taken (segments corners))
  up_to zero l hi hl before = over zero l hi hl (hull.hull.first l hl) before
  up_to (suc i) l hi hl before = by_lt_z (point_of corners (suc i)).mw (point_of points l).mw
      (λ after. over (suc i) l hi hl (omega (arith, linear)) before)
      (λ earlier. up_to i l (omega arith) hl earlier)

  -- each point
  each : (l : ℕ) → l < length points
      → (k *ℤ first) ≤ℤ (k *ℤ (point_of points l).cost +ℤ (a +ℤ both) *ℤ output_of points l +ℤ taken (segments corners))
  each l hl =
      let some = hull.hull.some (omega arith) in
      ⊎_elim
      (λ (more : 1 < length corners).
      let last : suc (suc (length corners - 2)) ≡ length corners = omega arith in
      up_to (length corners - 2) l (omega arith) hl (hull.hull.last (suc (length corners - 2)) last l hl))
      (λ (one : length corners ≤ 1).
      let start = starts points corners hull some in
      let only : suc 0 ≡ length corners = omega arith in
      let below = hull.hull.last 0 only l hl in
      let above = hull.hull.first l hl in
      let cheapest = mul-le-mul_left k _ _ is.scale (hull.hull.lowest 0 only l hl above) in
      let none : output_of points l ≡ pos 0 = omega (arith, linear) in
      let free : (a +ℤ both) *ℤ output_of points l ≡ pos 0 = ap (λ z. (a +ℤ both) *ℤ z) none ∙ mul-zero (a +ℤ both) in
      let no_segment : segments corners ≡ 0 = omega arith in
      let nothing : taken (segments corners) ≡ pos 0 = ap taken no_segment in
      omega (arith, linear))
      (cases_lt 1 (length corners))

  -- the multipliers bound the cell
  pub bounds_cell : (room paid : ℤ) → (both *ℤ room) ≤ℤ paid → IsCellBound points k a b room (cell_bound corners k limit paid)
  bounds_cell room paid worth = cell_bound-corners points k a b room _ (record {
    point = λ l hl near.
        let below = at_point l hl in
        let more = mul_nonneg both (room -ℤ output_of points l) is.caps near in
        omega (arith, linear);
    reserve = λ l hl near.
        held (k *ℤ (point_of points l).cost +ℤ a *ℤ output_of points l) (room -ℤ output_of points l) (cell_bound corners k limit paid) (at_point l hl) near;
    pair = λ l j hl hj near far.
        pairs (k *ℤ (point_of points l).cost +ℤ a *ℤ output_of points l) (k *ℤ (point_of points j).cost +ℤ a *ℤ output_of points j)
        (room -ℤ output_of points l) (room -ℤ output_of points j) (cell_bound corners k limit paid) (at_point l hl) (at_point j hj) near far;
  })
    where
      held : (f d m : ℤ) → m ≤ℤ (f -ℤ both *ℤ d) → pos 0 ≤ℤ d → m ≤ℤ (f +ℤ b *ℤ d)
      held f d m h near =
          let more = simp spread at (mul_nonneg (b +ℤ both) d is.reserve near) in
          omega (arith, linear)

      at_point : (l : ℕ) → l < length points
          → cell_bound corners k limit paid ≤ℤ (k *ℤ (point_of points l).cost +ℤ a *ℤ output_of points l -ℤ both *ℤ (room -ℤ output_of points l))
      at_point l hl =
          let below = simp spread at (each l hl) in
          simp spread (omega (arith, linear))

      pairs : (fl fj dl dj m : ℤ) → m ≤ℤ (fl -ℤ both *ℤ dl) → m ≤ℤ (fj -ℤ both *ℤ dj) → pos 0 ≤ℤ dl → dj <ℤ pos 0
          → ((dl -ℤ dj) *ℤ m) ≤ℤ (neg_ℤ dj *ℤ fl +ℤ dl *ℤ fj)
      pairs fl fj dl dj m h i near far =
          let one = mul-le-mul_left (neg_ℤ dj) _ _ (omega (arith, linear)) h in
          let two = mul-le-mul_left dl _ _ near i in
          let first_parts = simp spread at one in
          let second_parts = simp spread at two in
          let order : dj *ℤ (both *ℤ dl) ≡ dl *ℤ (both *ℤ dj) =
          mul_left_comm dj both dl ∙ ap (λ z. both *ℤ z) (mul_comm dj dl) ∙ mul_left_comm both dl dj in
          simp spread (omega (arith, linear))
