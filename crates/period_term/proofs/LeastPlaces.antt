-- The least reduced cost without reserve, at a corner or on the segment that holds the cap.
use Rattle.std.proofs.Common.{◌≡◌, ℕ, zero, suc, ◌<◌, ◌≤◌, ⊎_elim, true, false, refl, sym, ap, subst, arith, List, length, ℤ, pos, ◌+ℤ◌, ◌-ℤ◌, ◌*ℤ◌, neg_ℤ, ◌≤ℤ◌, ◌<ℤ◌, int_le, int_lt}
use Rattle.std.proofs.lemmas.Int.{ints}
use Rattle.uc_model.specs.Prelude.{IsFloor, point_of, output_of}
use Rattle.uc_model.proofs.Common.{linear, sub_nonneg, spread, le_or_lt, le_antisymm, mul_comm, mul_assoc, mul_left_comm, mul-zero, zero-mul, one-mul, mul-le-mul_left, mul-le-mul_right, mul-le-mul_turned, le_from_mul, IsFloor-greatest}
use Rattle.dual_model.specs.Prelude.{IsCellBound, IsTerm}
use Rattle.dual_model.proofs.Terms.{cell_bound-corners, corners-cell_bound}
use Rattle.cost_curves.specs.LowerHull.{IsAbove, IsLowerHull}
use Rattle.cost_curves.proofs.HullValues.{starts}
use Rattle.cost_curves.proofs.Lines.{less_le, sub_positive}
use Rattle.period_term.specs.inside.Places.{Point, corner_cost, over_of, run_of, IsLeastPlace, HoldsCap}

-- neither end's outer neighbour costs less
pub record LiesWithin (corners : List Point) (k a : ℤ) (low high : ℕ) : Type 0 where
  pub order : low ≤ high
  pub within : high < length corners
  pub left : (j : ℕ) → suc j ≡ low → corner_cost corners k a low ≤ℤ corner_cost corners k a j
  pub right : suc high < length corners → corner_cost corners k a high ≤ℤ corner_cost corners k a (suc high)

-- the cap lies at or right of the low corner, and left of the high one
pub record LiesAcross (corners : List Point) (cap : ℤ) (low high place : ℕ) : Type 0 where
  pub order : low < high
  pub within : high ≤ place
  pub begins : output_of corners low ≤ℤ cap
  pub reaches : cap <ℤ output_of corners high

-- ---- a line below the points bounds the cell
-- s is its slope over w, t its cost over w at the cap, d how far a point lies left of the cap, g what the point costs
line_point : (w s t d g h : ℤ) → pos 0 <ℤ w → s ≤ℤ pos 0 → pos 0 ≤ℤ d → (t -ℤ s *ℤ d) ≤ℤ (w *ℤ g) → (w *ℤ h) ≤ℤ t → h ≤ℤ g
line_point w s t d g h positive falls near above low =
    let product = mul-le-mul_turned s (pos 0) d falls near in
    let none = mul-zero s in
    le_from_mul w h g positive (omega (arith, linear, product, none, above, low))

line_pair : (w s t dl dj gl gj h : ℤ) → pos 0 <ℤ w → pos 0 ≤ℤ dl → dj <ℤ pos 0 → (t -ℤ s *ℤ dl) ≤ℤ (w *ℤ gl) → (t -ℤ s *ℤ dj) ≤ℤ (w *ℤ gj)
    → (w *ℤ h) ≤ℤ t → ((dl -ℤ dj) *ℤ h) ≤ℤ (neg_ℤ dj *ℤ gl +ℤ dl *ℤ gj)
line_pair w s t dl dj gl gj h positive near far first second low =
    le_from_mul w _ _ positive
    (joined (simp spread at (mul-le-mul_left (neg_ℤ dj) (t -ℤ s *ℤ dl) (w *ℤ gl) (omega (arith, linear, far)) first))
    (simp spread at (mul-le-mul_left dl (t -ℤ s *ℤ dj) (w *ℤ gj) near second))
    (simp spread at (mul-le-mul_left (dl -ℤ dj) (w *ℤ h) t (omega (arith, linear, near, far)) low)))
  where
    joined : (neg_ℤ (dj *ℤ t) +ℤ neg_ℤ (neg_ℤ (dj *ℤ (s *ℤ dl)))) ≤ℤ neg_ℤ (dj *ℤ (w *ℤ gl))
        → (dl *ℤ t +ℤ neg_ℤ (dl *ℤ (s *ℤ dj))) ≤ℤ (dl *ℤ (w *ℤ gj))
        → (dl *ℤ (w *ℤ h) +ℤ neg_ℤ (dj *ℤ (w *ℤ h))) ≤ℤ (dl *ℤ t +ℤ neg_ℤ (dj *ℤ t))
        → (w *ℤ ((dl -ℤ dj) *ℤ h)) ≤ℤ (w *ℤ (neg_ℤ dj *ℤ gl +ℤ dl *ℤ gj))
    joined x y z =
        let e1 = mul_left_comm dj s dl in
        let e2 = mul_left_comm dl s dj in
        let e3 = ap (λ v. s *ℤ v) (mul_comm dj dl) in
        let e4 = mul_left_comm dj w gl in
        let e5 = mul_left_comm dl w gj in
        let e6 = mul_left_comm dl w h in
        let e7 = mul_left_comm dj w h in
        simp spread (omega (arith, linear))

supported : (points : List Point) (k a cap h w s t : ℤ) → pos 0 <ℤ w → s ≤ℤ pos 0
    → ((l : ℕ) → l < length points → (t -ℤ s *ℤ (cap -ℤ output_of points l)) ≤ℤ (w *ℤ (k *ℤ (point_of points l).cost +ℤ a *ℤ output_of points l)))
    → (w *ℤ h) ≤ℤ t → IsCellBound points k a (pos 0) cap h
supported points k a cap h w s t positive falls above low = cell_bound-corners points k a (pos 0) cap h (record {
  point = λ l hl near. line_point w s t _ _ h positive falls near (above l hl) low;
  reserve = λ l hl near. free _ (cap -ℤ output_of points l) (line_point w s t _ _ h positive falls near (above l hl) low);
  pair = λ l j hl hj near far. line_pair w s t _ _ _ _ h positive near far (above l hl) (above j hj) low;
})
  where
    free : (g d : ℤ) → h ≤ℤ g → h ≤ℤ (g +ℤ pos 0 *ℤ d)
    free g d le = let e = zero-mul d in omega (arith, linear)

-- ---- a point's reduced cost above the output z
abbrev cost_at : ℤ → ℤ → ℤ → Point → ℤ
cost_at k a z p = k *ℤ p.cost +ℤ a *ℤ (p.mw -ℤ z)

-- a line below the points, with its ends' reduced costs
priced_above : (k a z : ℤ) (x y p : Point) → pos 0 ≤ℤ k → IsAbove x y p
    → ((cost_at k a z y -ℤ cost_at k a z x) *ℤ (p.mw -ℤ x.mw)) ≤ℤ ((cost_at k a z p -ℤ cost_at k a z x) *ℤ (y.mw -ℤ x.mw))
priced_above k a z x y p sign above =
    let right = apart y.cost x.cost y.mw x.mw in
    let left = apart p.cost x.cost p.mw x.mw in
    subst (λ s. (s *ℤ (p.mw -ℤ x.mw)) ≤ℤ ((cost_at k a z p -ℤ cost_at k a z x) *ℤ (y.mw -ℤ x.mw))) (sym right)
    (subst (λ s. ((k *ℤ (y.cost -ℤ x.cost) +ℤ a *ℤ (y.mw -ℤ x.mw)) *ℤ (p.mw -ℤ x.mw)) ≤ℤ (s *ℤ (y.mw -ℤ x.mw))) (sym left)
    (core (y.cost -ℤ x.cost) (y.mw -ℤ x.mw) (p.cost -ℤ x.cost) (p.mw -ℤ x.mw) above))
  where
    apart : (c d m n : ℤ) → (k *ℤ c +ℤ a *ℤ (m -ℤ z)) -ℤ (k *ℤ d +ℤ a *ℤ (n -ℤ z)) ≡ k *ℤ (c -ℤ d) +ℤ a *ℤ (m -ℤ n)
    apart c d m n = simp spread (omega (arith, linear))

    core : (u v c d : ℤ) → (u *ℤ d) ≤ℤ (c *ℤ v) → ((k *ℤ u +ℤ a *ℤ v) *ℤ d) ≤ℤ ((k *ℤ c +ℤ a *ℤ d) *ℤ v)
    core u v c d h =
        let times = mul-le-mul_left k (u *ℤ d) (c *ℤ v) sign h in
        let e1 = mul_assoc k u d in
        let e2 = mul_assoc k c v in
        let e3 = mul_assoc a v d in
        let e4 = mul_assoc a d v in
        let e5 = ap (λ y. a *ℤ y) (mul_comm v d) in
        simp spread (omega (arith, linear))

-- ---- the least corner
from_left : (s d f g w : ℤ) → pos 0 ≤ℤ s → pos 0 ≤ℤ d → pos 0 <ℤ w → (s *ℤ d) ≤ℤ ((g -ℤ f) *ℤ w) → f ≤ℤ g
from_left s d f g w hs hd positive h = grind (arith, ints, hs, hd, positive, h)

from_right : (e f g x y z : ℤ) → f ≤ℤ e → x <ℤ y → z ≤ℤ y → ((f -ℤ e) *ℤ (z -ℤ x)) ≤ℤ ((g -ℤ e) *ℤ (y -ℤ x)) → f ≤ℤ g
from_right e f g x y z falls rising left h =
    let product = simp spread at (mul-le-mul_turned (f -ℤ e) z y (omega (arith, linear)) left) in
    let whole = simp spread at h in
    let e1 = mul_comm y f in
    let e2 = mul_comm x f in
    let e3 = mul_comm y g in
    let e4 = mul_comm x g in
    let apart : ((y -ℤ x) *ℤ f) ≤ℤ ((y -ℤ x) *ℤ g) = simp spread (omega (arith, linear, product, whole, e1, e2, e3, e4)) in
    le_from_mul (y -ℤ x) f g (omega (arith, linear)) apart

least_right : (points corners : List Point) (k a : ℤ) (i : ℕ) → IsLowerHull points corners → pos 0 ≤ℤ k → IsLeastPlace corners k a i
    → (l : ℕ) → l < length points → (point_of corners i).mw ≤ℤ (point_of points l).mw
    → corner_cost corners k a i ≤ℤ cost_at k a (point_of corners 0).mw (point_of points l)
least_right points corners k a i whole sign least l hl right = ⊎_elim
    (λ (inner : suc i < length corners).
    from_left _ _ _ _ _ (sub_nonneg _ _ (least.right inner)) (sub_nonneg _ _ right) (sub_positive _ _ (whole.hull.rising i inner))
    (priced_above k a (point_of corners 0).mw (point_of corners i) (point_of corners (suc i)) (point_of points l) sign (whole.hull.above i inner l hl)))
    (λ (last : suc i ≡ length corners).
    level (point_of corners i).cost (point_of points l).cost (point_of corners i).mw (point_of points l).mw (point_of corners 0).mw
    (whole.hull.lowest i last l hl right) (le_antisymm _ _ right (whole.hull.last i last l hl)))
    (grind (arith, least.within))
  where
    level : (c d m n z : ℤ) → c ≤ℤ d → m ≡ n → (k *ℤ c +ℤ a *ℤ (m -ℤ z)) ≤ℤ (k *ℤ d +ℤ a *ℤ (n -ℤ z))
    level c d m n z h e =
        let times = mul-le-mul_left k c d sign h in
        let same = ap (λ x. a *ℤ (x -ℤ z)) e in
        omega (arith, linear, times, same)

least_left : (points corners : List Point) (k a : ℤ) (i : ℕ) → IsLowerHull points corners → pos 0 ≤ℤ k → IsLeastPlace corners k a i
    → (l : ℕ) → l < length points → (point_of points l).mw <ℤ (point_of corners i).mw
    → corner_cost corners k a i ≤ℤ cost_at k a (point_of corners 0).mw (point_of points l)
least_left points corners k a zero whole sign least l hl left = absurd (omega (arith, linear, whole.hull.first l hl, left))
least_left points corners k a (suc i) whole sign least l hl left =
    from_right _ _ _ _ _ _ (least.left i refl) (whole.hull.rising i least.within) (less_le _ _ left)
    (priced_above k a (point_of corners 0).mw (point_of corners i) (point_of corners (suc i)) (point_of points l) sign (whole.hull.above i least.within l hl))

-- no point costs less
least_over : (points corners : List Point) (k a : ℤ) (i : ℕ) → IsLowerHull points corners → pos 0 ≤ℤ k → IsLeastPlace corners k a i
    → (l : ℕ) → l < length points → corner_cost corners k a i ≤ℤ cost_at k a (point_of corners 0).mw (point_of points l)
least_over points corners k a i whole sign least l hl = grind (arith, ints, least_right, least_left, le_or_lt, whole, sign, least, hl)

base : (points corners : List Point) → IsLowerHull points corners → (point_of corners 0).mw ≡ (point_of points 0).mw
base points corners whole = starts points corners whole (whole.hull.some whole.lawful.some)

-- the term at a corner that lies within the cap
pub corner_term : (points corners : List Point) (k a cap : ℤ) (i : ℕ) → IsLowerHull points corners → pos 0 ≤ℤ k → pos 0 ≤ℤ cap
    → IsLeastPlace corners k a i → output_of corners i ≤ℤ cap → IsTerm points k a (pos 0) cap (corner_cost corners k a i)
corner_term points corners k a cap i whole sign room least near =
    let found = whole.hull.place i least.within in
    let zero_at = base points corners whole in
    record {
      reachable = room;
      bound = supported points k a cap (corner_cost corners k a i) (pos 1) (pos 0) (corner_cost corners k a i) (omega (arith, linear)) (omega (arith, linear))
          (λ l hl. flat (corner_cost corners k a i) _ (cap -ℤ output_of points l)
          (subst (λ z. corner_cost corners k a i ≤ℤ cost_at k a z (point_of points l)) zero_at (least_over points corners k a i whole sign least l hl)))
          (once (corner_cost corners k a i));
      greatest = λ n bound.
          subst (λ (x : Point). n ≤ℤ cost_at k a (point_of corners 0).mw x) (sym found.2)
          (subst (λ z. n ≤ℤ cost_at k a z (point_of points found.0)) (sym zero_at)
          ((corners-cell_bound points k a (pos 0) cap n bound).point found.0 found.1
          (sub_nonneg _ _ (subst (λ z. ((point_of points found.0).mw -ℤ z) ≤ℤ cap) zero_at
          (subst (λ (x : Point). (x.mw -ℤ (point_of corners 0).mw) ≤ℤ cap) found.2 near)))));
    }
  where
    flat : (f g d : ℤ) → f ≤ℤ g → (f -ℤ pos 0 *ℤ d) ≤ℤ (pos 1 *ℤ g)
    flat f g d h = let e1 = zero-mul d in let e2 = one-mul g in omega (arith, linear)

    once : (f : ℤ) → (pos 1 *ℤ f) ≤ℤ f
    once f = let e = one-mul f in omega (arith, linear)

-- ---- the segment that holds the cap
-- the slope of a line below the points to one further right that costs no more
falls_to : (s d f g w : ℤ) → pos 0 <ℤ d → pos 0 <ℤ w → g ≤ℤ f → (s *ℤ d) ≤ℤ ((g -ℤ f) *ℤ w) → s ≤ℤ pos 0
falls_to s d f g w right positive falls h =
    let product = mul-le-mul_right w (g -ℤ f) (pos 0) (omega (arith, linear, positive)) (omega (arith, linear, falls)) in
    let none = zero-mul w in
    let order = mul_comm s d in
    let nothing = mul-zero d in
    le_from_mul d s (pos 0) right (omega (arith, linear, product, none, order, nothing, h))

-- t is the cost at the cap of the line through (x, f) of slope s over w
below_line : (s w f g x z cap : ℤ) → (s *ℤ (z -ℤ x)) ≤ℤ ((g -ℤ f) *ℤ w) → ((w *ℤ f +ℤ s *ℤ (cap -ℤ x)) -ℤ s *ℤ (cap -ℤ z)) ≤ℤ (w *ℤ g)
below_line s w f g x z cap h =
    let whole = simp spread at h in
    let e1 = mul_comm g w in
    let e2 = mul_comm f w in
    simp spread (omega (arith, linear, whole, e1, e2))

under_line : (s w f h over : ℤ) → ((h -ℤ f) *ℤ w) ≤ℤ (s *ℤ over) → (w *ℤ h) ≤ℤ (w *ℤ f +ℤ s *ℤ over)
under_line s w f h over le = grind (arith, ints, spread, mul_comm, le)

-- what bounds the pair of the segment's ends
pair_line : (x y cap f g n : ℤ) → (((cap -ℤ x) -ℤ (cap -ℤ y)) *ℤ n) ≤ℤ (neg_ℤ (cap -ℤ y) *ℤ f +ℤ (cap -ℤ x) *ℤ g)
    → ((n -ℤ f) *ℤ (y -ℤ x)) ≤ℤ ((g -ℤ f) *ℤ (cap -ℤ x))
pair_line x y cap f g n h =
    let whole = simp spread at h in
    let e1 = mul_comm x n in
    let e2 = mul_comm y n in
    let e3 = mul_comm cap n in
    let e4 = mul_comm cap f in
    let e5 = mul_comm y f in
    let e6 = mul_comm x f in
    let e7 = mul_comm cap g in
    let e8 = mul_comm x g in
    simp spread (omega (arith, linear, whole, e1, e2, e3, e4, e5, e6, e7, e8))

-- the term at a cap left of the least corner
pub segment_term : (points corners : List Point) (k a cap h : ℤ) (i place : ℕ) → IsLowerHull points corners → pos 0 ≤ℤ k → pos 0 ≤ℤ cap
    → IsLeastPlace corners k a place → cap <ℤ output_of corners place → HoldsCap corners cap i place
    → IsFloor ((corner_cost corners k a (suc i) -ℤ corner_cost corners k a i) *ℤ over_of corners cap i) (run_of corners i) (h -ℤ corner_cost corners k a i)
    → IsTerm points k a (pos 0) cap h
segment_term points corners k a cap h i place whole sign room least beyond holds floor =
    let inner : suc i < length corners = omega (arith, holds.within, least.within) in
    let zero_at = base points corners whole in
    let bottom = (point_of corners 0).mw in
    let f = corner_cost corners k a i in
    let s = corner_cost corners k a (suc i) -ℤ f in
    let width : ((point_of corners (suc i)).mw -ℤ bottom) -ℤ ((point_of corners i).mw -ℤ bottom) ≡ (point_of corners (suc i)).mw -ℤ (point_of corners i).mw = omega (arith, linear) in
    let positive : pos 0 <ℤ run_of corners i = subst (λ z. pos 0 <ℤ z) (sym width) (sub_positive _ _ (whole.hull.rising i inner)) in
    let above : (p : Point) → IsAbove (point_of corners i) (point_of corners (suc i)) p
    → (s *ℤ ((p.mw -ℤ bottom) -ℤ output_of corners i)) ≤ℤ ((cost_at k a bottom p -ℤ f) *ℤ run_of corners i) =
    λ p h. let apart : p.mw -ℤ (point_of corners i).mw ≡ (p.mw -ℤ bottom) -ℤ output_of corners i = omega (arith, linear) in
    subst (λ z. (s *ℤ z) ≤ℤ ((cost_at k a bottom p -ℤ f) *ℤ run_of corners i)) apart
    (subst (λ z. (s *ℤ (p.mw -ℤ (point_of corners i).mw)) ≤ℤ ((cost_at k a bottom p -ℤ f) *ℤ z)) (sym width)
    (priced_above k a bottom (point_of corners i) (point_of corners (suc i)) p sign h)) in
    let last = whole.hull.place place least.within in
    let first = whole.hull.place i (omega (arith, inner)) in
    let second = whole.hull.place (suc i) inner in
    let no_more = subst (λ (x : Point). corner_cost corners k a place ≤ℤ cost_at k a bottom x) (sym first.2)
    (least_over points corners k a place whole sign least first.0 first.1) in
    let falls : s ≤ℤ pos 0 =
    falls_to s _ f (corner_cost corners k a place) (run_of corners i) (sub_positive (output_of corners i) (output_of corners place) (omega (arith, linear, holds.begins, beyond))) positive no_more
    (above (point_of corners place) (subst (λ x. IsAbove (point_of corners i) (point_of corners (suc i)) x) (sym last.2) (whole.hull.above i inner last.0 last.1))) in
    record {
      reachable = room;
      bound = supported points k a cap h (run_of corners i) s (run_of corners i *ℤ f +ℤ s *ℤ over_of corners cap i) positive falls
          (λ l hl.
          subst (λ z. ((run_of corners i *ℤ f +ℤ s *ℤ over_of corners cap i) -ℤ s *ℤ (cap -ℤ ((point_of points l).mw -ℤ z))) ≤ℤ (run_of corners i *ℤ cost_at k a z (point_of points l))) zero_at
          (below_line s (run_of corners i) f _ (output_of corners i) _ cap (above (point_of points l) (whole.hull.above i inner l hl))))
          (under_line s (run_of corners i) f h (over_of corners cap i) floor.below);
      greatest = λ n bound.
          let near = subst (λ z. ((point_of points first.0).mw -ℤ z) ≤ℤ cap) zero_at (subst (λ (x : Point). (x.mw -ℤ bottom) ≤ℤ cap) first.2 holds.begins) in
          let far = subst (λ z. cap <ℤ ((point_of points second.0).mw -ℤ z)) zero_at (subst (λ (x : Point). cap <ℤ (x.mw -ℤ bottom)) second.2 holds.reaches) in
          let pair = (corners-cell_bound points k a (pos 0) cap n bound).pair first.0 second.0 first.1 second.1 (sub_nonneg _ _ near) (omega (arith, linear)) in
          let back = subst (λ z. (((cap -ℤ ((point_of points first.0).mw -ℤ z)) -ℤ (cap -ℤ ((point_of points second.0).mw -ℤ z))) *ℤ n)
          ≤ℤ (neg_ℤ (cap -ℤ ((point_of points second.0).mw -ℤ z)) *ℤ cost_at k a z (point_of points first.0) +ℤ (cap -ℤ ((point_of points first.0).mw -ℤ z)) *ℤ cost_at k a z (point_of points second.0))) (sym zero_at) pair in
          let left = subst (λ (x : Point). (((cap -ℤ (x.mw -ℤ bottom)) -ℤ (cap -ℤ ((point_of points second.0).mw -ℤ bottom))) *ℤ n)
          ≤ℤ (neg_ℤ (cap -ℤ ((point_of points second.0).mw -ℤ bottom)) *ℤ cost_at k a bottom x +ℤ (cap -ℤ (x.mw -ℤ bottom)) *ℤ cost_at k a bottom (point_of points second.0))) (sym first.2) back in
          let both = subst (λ (x : Point). (((cap -ℤ output_of corners i) -ℤ (cap -ℤ (x.mw -ℤ bottom))) *ℤ n)
          ≤ℤ (neg_ℤ (cap -ℤ (x.mw -ℤ bottom)) *ℤ f +ℤ (cap -ℤ output_of corners i) *ℤ cost_at k a bottom x)) (sym second.2) left in
          omega (arith, linear, IsFloor-greatest _ _ _ (n -ℤ f) positive floor (pair_line (output_of corners i) (output_of corners (suc i)) cap f (corner_cost corners k a (suc i)) n both));
    }

-- ---- the halving
pub lies_right : (corners : List Point) (k a : ℤ) (low high m n : ℕ) → LiesWithin corners k a low high → n ≡ suc m → m < high
    → int_lt (corner_cost corners k a (suc m)) (corner_cost corners k a m) ≡ true → LiesWithin corners k a n high
lies_right corners k a low high m n lies e below falls = grind (arith, ints, lies, e, below, falls)

pub lies_left : (corners : List Point) (k a : ℤ) (low high m : ℕ) → LiesWithin corners k a low high → low ≤ m → m < high
    → int_lt (corner_cost corners k a (suc m)) (corner_cost corners k a m) ≡ false → LiesWithin corners k a low m
lies_left corners k a low high m lies order below rises = grind (arith, ints, lies, order, below, rises)

-- what a test that fails says
pub beyond : (x y : ℤ) → int_le x y ≡ false → y <ℤ x
beyond x y h = grind (arith, ints)
