-- Two lower hulls of the same points have the same corners: the first is the cheapest point at the least output, and behind a
-- common corner neither hull's next one lies left of the other's, since the slopes behind it rise.
-- Cite from a crate above by `use Rattle.cost_curves.proofs.OneHull.{one_hull}`.
use Rattle.std.proofs.Common.{◌≡◌, ℕ, zero, suc, ◌<◌, ◌≤◌, ◌⊎◌, ⊎_elim, sym, subst, ap, ◌∙◌, arith, List, length, ℤ, pos, ◌-ℤ◌, ◌*ℤ◌, ◌≤ℤ◌, ◌<ℤ◌}
use Rattle.std.proofs.lemmas.List.{ext_get_or}
use Rattle.uc_model.specs.Prelude.{point_of}
use Rattle.uc_model.proofs.Common.{linear, le_or_lt, le_antisymm, sub_nonneg, mul-zero, mul_comm, le_from_mul}
use Rattle.cost_curves.specs.LowerHull.{Point, IsAbove, IsBelow, HullOfFirst, IsLowerHull}
use Rattle.cost_curves.proofs.Lines.{flatter_trans, right_of, above_of, above-flatter_start, above-flatter_end, above-flatter_whole, flatter_bend-above, sub_positive, less_le}

-- ---- points
same_point : (p r : Point) → p.mw ≡ r.mw → p.cost ≡ r.cost → p ≡ r
same_point p r e f = λ i. record { mw = e i; cost = f i }

-- a point above the line from a to b at the output of a, or at that of b, costs no less
over_left : (a b p : Point) → a.mw <ℤ b.mw → p.mw ≡ a.mw → IsAbove a b p → a.cost ≤ℤ p.cost
over_left a b p right same above =
    let width = b.mw -ℤ a.mw in
    let none : (b.cost -ℤ a.cost) *ℤ (p.mw -ℤ a.mw) ≡ pos 0 =
    ap (λ z. (b.cost -ℤ a.cost) *ℤ z) (omega (arith, linear)) ∙ mul-zero (b.cost -ℤ a.cost) in
    let swapped = mul_comm (p.cost -ℤ a.cost) width in
    let zero_width = mul-zero width in
    let whole : (width *ℤ pos 0) ≤ℤ (width *ℤ (p.cost -ℤ a.cost)) = omega (arith, linear, above, none, swapped, zero_width) in
    let more = le_from_mul width (pos 0) (p.cost -ℤ a.cost) (sub_positive a.mw b.mw right) whole in
    omega (arith, linear, more)

over_right : (a b p : Point) → a.mw <ℤ b.mw → b.mw ≡ p.mw → IsAbove a b p → b.cost ≤ℤ p.cost
over_right a b p right same above = grind (arith, linear, mul_comm, le_from_mul, sub_positive, right, same, above)

-- y lies above the line from x to z, and z, right of y, above that from y to w: then y isn't below the line from x to w
not_bent : (x y z w : Point) → x.mw <ℤ y.mw → y.mw <ℤ z.mw → y.mw <ℤ w.mw → IsAbove x z y → IsAbove y w z → IsBelow x w y → ⊥
not_bent x y z w first second third over beyond below =
    let to_z = flatter_trans (right_of y z) (above_of y z) (right_of x z) (above_of x z) (right_of x y) (above_of x y)
    (sub_nonneg y.mw z.mw (less_le y.mw z.mw second)) (omega (arith, linear, first, second)) (sub_nonneg x.mw y.mw (less_le x.mw y.mw first))
    (above-flatter_end x y z over) (above-flatter_whole x y z over) in
    let to_w = flatter_trans (right_of y w) (above_of y w) (right_of y z) (above_of y z) (right_of x y) (above_of x y)
    (sub_nonneg y.mw w.mw (less_le y.mw w.mw third)) (sub_positive y.mw z.mw second) (sub_nonneg x.mw y.mw (less_le x.mw y.mw first))
    (above-flatter_start y w z beyond) to_z in
    let above = flatter_bend-above x y w to_w in
    omega (arith, linear, above, below)

-- ---- corners
-- what holds of all points holds of each corner
each_corner : (P : Point → Type 0) (points : List Point) (count : ℕ) (corners : List Point) → HullOfFirst points count corners
    → ((l : ℕ) → l < count → P (point_of points l)) → (j : ℕ) → j < length corners → P (point_of corners j)
each_corner P points count corners hull h j within = let found = hull.place j within in subst P (sym found.2) (h found.0 found.1)

last_or_more : (i n : ℕ) → i < n → (suc i ≡ n) ⊎ (suc i < n)
last_or_more i n h = grind arith

-- no point at the first corner's output costs less
first_low : (points : List Point) (count : ℕ) (corners : List Point) → HullOfFirst points count corners → 0 < length corners
    → (l : ℕ) → l < count → (point_of points l).mw ≡ (point_of corners 0).mw → (point_of corners 0).cost ≤ℤ (point_of points l).cost
first_low points count corners hull some l h same = ⊎_elim
    (λ (alone : 1 ≡ length corners). hull.lowest 0 alone l h (hull.first l h))
    (λ (more : 1 < length corners).
    over_left (point_of corners 0) (point_of corners 1) (point_of points l) (hull.rising 0 more) same (hull.above 0 more l h))
    (last_or_more 0 (length corners) some)

-- behind a common corner the next one of a hull doesn't lie left of that of another one
not_left : (points : List Point) (count : ℕ) (own other : List Point) (i : ℕ) → HullOfFirst points count own → HullOfFirst points count other
    → suc i < length own → suc i < length other → point_of own i ≡ point_of other i
    → (point_of own (suc i)).mw <ℤ (point_of other (suc i)).mw → ⊥
not_left points count own other i hull beside within there common left =
    let x = point_of own i in
    let y = point_of own (suc i) in
    let z = point_of other (suc i) in
    let w = point_of own (suc (suc i)) in
    ⊎_elim
    (λ (last : suc (suc i) ≡ length own).
    let most = each_corner (λ (p : Point). p.mw ≤ℤ y.mw) points count other beside (hull.last (suc i) last) (suc i) there in
    absurd (omega (arith, linear, most, left)))
    (λ (more : suc (suc i) < length own).
    let over : IsAbove (point_of other i) z y =
    each_corner (λ p. IsAbove (point_of other i) z p) points count own hull (beside.above i there) (suc i) within in
    let beyond : IsAbove y w z = each_corner (λ p. IsAbove y w p) points count other beside (hull.above (suc i) more) (suc i) there in
    not_bent x y z w (hull.rising i within) left (hull.rising (suc i) more) (subst (λ p. IsAbove p z y) (sym common) over) beyond (hull.strict i more))
    (last_or_more (suc i) (length own) within)

-- so it is the same
same_next : (points : List Point) (count : ℕ) (own other : List Point) (i : ℕ) → HullOfFirst points count own → HullOfFirst points count other
    → suc i < length own → suc i < length other → point_of own i ≡ point_of other i → point_of own (suc i) ≡ point_of other (suc i)
same_next points count own other i hull beside within there common =
    let x = point_of own i in
    let y = point_of own (suc i) in
    let z = point_of other (suc i) in
    let level : y.mw ≡ z.mw = le_antisymm _ _
    (not_less z.mw y.mw (not_left points count other own i beside hull there within (sym common)))
    (not_less y.mw z.mw (not_left points count own other i hull beside within there common)) in
    let over : IsAbove x y z = each_corner (λ p. IsAbove x y p) points count other beside (hull.above i within) (suc i) there in
    let under : IsAbove x z y = subst (λ p. IsAbove p z y) (sym common)
    (each_corner (λ p. IsAbove (point_of other i) z p) points count own hull (beside.above i there) (suc i) within) in
    let right : x.mw <ℤ z.mw = subst (λ m. x.mw <ℤ m) level (hull.rising i within) in
    same_point y z level (le_antisymm _ _ (over_right x y z (hull.rising i within) level over) (over_right x z y right (sym level) under))
  where
    not_less : (a b : ℤ) → (a <ℤ b → ⊥) → b ≤ℤ a
    not_less a b none = ⊎_elim (λ (le : b ≤ℤ a). le) (λ (less : a <ℤ b). absurd (none less)) (le_or_lt b a)

same_first : (points : List Point) (count : ℕ) (own other : List Point) → HullOfFirst points count own → HullOfFirst points count other
    → 0 < length own → 0 < length other → point_of own 0 ≡ point_of other 0
same_first points count own other hull beside some there =
    let level : (point_of own 0).mw ≡ (point_of other 0).mw = le_antisymm _ _
    (each_corner (λ (p : Point). (point_of own 0).mw ≤ℤ p.mw) points count other beside hull.first 0 there)
    (each_corner (λ (p : Point). (point_of other 0).mw ≤ℤ p.mw) points count own hull beside.first 0 some) in
    same_point (point_of own 0) (point_of other 0) level (le_antisymm _ _
    (each_corner (λ (p : Point). p.mw ≡ (point_of own 0).mw → (point_of own 0).cost ≤ℤ p.cost) points count other beside
    (first_low points count own hull some) 0 there (sym level))
    (each_corner (λ (p : Point). p.mw ≡ (point_of other 0).mw → (point_of other 0).cost ≤ℤ p.cost) points count own hull
    (first_low points count other beside there) 0 some level))

-- each corner of one is that of the other, from the first on
same_corner : (points : List Point) (count : ℕ) (own other : List Point) → 0 < count → HullOfFirst points count own → HullOfFirst points count other
    → (i : ℕ) → i < length own → (i < length other) × (point_of own i ≡ point_of other i)
same_corner points count own other some hull beside zero h = (beside.some some, same_first points count own other hull beside h (beside.some some))
same_corner points count own other some hull beside (suc i) h =
    let before = same_corner points count own other some hull beside i (omega arith) in
    let there : suc i < length other = ⊎_elim
    (λ (last : suc i ≡ length other).
    let most = each_corner (λ (p : Point). p.mw ≤ℤ (point_of other i).mw) points count own hull (beside.last i last) (suc i) h in
    let rising = hull.rising i h in
    let level = ap (λ (p : Point). p.mw) before.1 in
    absurd (omega (arith, linear, most, rising, level)))
    (λ (more : suc i < length other). more)
    (last_or_more i (length other) before.0) in
    (there, same_next points count own other i hull beside h there before.1)

no_longer : (m n : ℕ) → ((i : ℕ) → i < m → i < n) → m ≤ n
no_longer zero n h = omega arith
no_longer (suc m) n h = let last = h m (omega arith) in omega arith

pub one_hull : (points own other : List Point) → IsLowerHull points own → IsLowerHull points other → own ≡ other
one_hull points own other first second =
    let some = first.lawful.some in
    let forward = same_corner points (length points) own other some first.hull second.hull in
    let backward = same_corner points (length points) other own some second.hull first.hull in
    let at_most = no_longer (length own) (length other) (λ i h. (forward i h).0) in
    let at_least = no_longer (length other) (length own) (λ i h. (backward i h).0) in
    ext_get_or (record { mw = pos 0; cost = pos 0 }) own other (omega (arith, at_most, at_least)) (λ i h. (forward i h).1)
