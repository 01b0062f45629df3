-- How a point joins the corners of the lower hull of the points before it.
use Rattle.std.proofs.Common.{◌≡◌, ℕ, zero, suc, ◌-◌, ◌<◌, ◌≤◌, ◌⊎◌, ⊎_elim, Bool, true, false, refl, sym, ap, subst, ◌∙◌, arith, List, [], ◌∷◌, ◌++◌, take, length, length-append, ℤ, ◌-ℤ◌, ◌*ℤ◌, ◌≤ℤ◌, ◌<ℤ◌, IsTrue, int_le}
use Rattle.std.proofs.Math.Seq.{get_or-append_seam}
use Rattle.std.proofs.lemmas.List.{get_or_append_left, get_or-take, length-take-le}
use Rattle.std.proofs.lemmas.Int.{ints}
use Rattle.std.proofs.lemmas.Bool.{cond-true}
use Rattle.uc_model.specs.Prelude.{point_of}
use Rattle.uc_model.proofs.Common.{linear, le_refl, le_trans, le_or_lt, le_antisymm, sub_nonneg, mul-le-mul_right, int_le-true, le-int_le, Rises, outputs_rise}
use Rattle.cost_curves.specs.LowerHull.{Point, AreLawfulPoints, IsAbove, is_above, IsBelow, HullOfFirst}
use Rattle.cost_curves.specs.inside.Corners.{is_over, IsNext, Joins}
use Rattle.cost_curves.proofs.Lines.{flatter_trans, right_of, above_of, above-flatter_start, flatter_start-above, above-flatter_next, flatter_next-above, above-flatter_end, flatter_end-above, above-flatter_whole, before-flatter, sub_positive, less_le}

-- the kept corners' last one sees no point right of it below the line to the next point
pub record Covers (points : List Point) (count : ℕ) (corners : List Point) (point : Point) (kept : ℕ) : Type 0 where
  pub within : kept ≤ length corners
  pub covered : (i : ℕ) → suc i ≡ kept → (l : ℕ) → l < count → (point_of corners i).mw ≤ℤ (point_of points l).mw
      → IsAbove (point_of corners i) point (point_of points l)
  pub alone : kept ≡ 0 → (l : ℕ) → l < count → point.mw ≤ℤ (point_of points l).mw

-- ---- what a test that fails says
false_lt : (a b : ℤ) → int_le a b ≡ false → b <ℤ a
false_lt a b e = grind (arith, ints)

-- ---- a corner is one of the points
corner_right : (points : List Point) (count : ℕ) (corners : List Point) (point : Point) → HullOfFirst points count corners
    → IsNext points count point → (i : ℕ) → i < length corners → (point_of corners i).mw ≤ℤ point.mw
corner_right points count corners point hull next i h =
    let found = hull.place i h in
    subst (λ (x : Point). x.mw ≤ℤ point.mw) (sym found.2) (next.right found.0 found.1)

corner_below : (points : List Point) (count : ℕ) (corners : List Point) (point : Point) → HullOfFirst points count corners
    → IsNext points count point → (i : ℕ) → i < length corners → point.mw ≤ℤ (point_of corners i).mw → point.cost <ℤ (point_of corners i).cost
corner_below points count corners point hull next i h =
    let found = hull.place i h in
    subst (λ (x : Point). point.mw ≤ℤ x.mw → point.cost <ℤ x.cost) (sym found.2) (next.below found.0 found.1)

corner_above : (points : List Point) (count : ℕ) (corners : List Point) → HullOfFirst points count corners
    → (i : ℕ) → suc i < length corners → (j : ℕ) → j < length corners → IsAbove (point_of corners i) (point_of corners (suc i)) (point_of corners j)
corner_above points count corners hull i hi j hj =
    let found = hull.place j hj in
    subst (λ x. IsAbove (point_of corners i) (point_of corners (suc i)) x) (sym found.2) (hull.above i hi found.0 found.1)

-- ---- lines through three or four points, of which one is new
-- a point at the output of a, not below it, lies above each line from a to the right
level_above : (a p l : Point) → a.mw ≤ℤ p.mw → l.mw ≡ a.mw → a.cost ≤ℤ l.cost → IsAbove a p l
level_above a p l right same higher = grind (arith, ints, right, same, higher)

-- of a point that lies above the line from a to b, each one above it at its output does
raise_above : (a b p l : Point) → a.mw ≤ℤ b.mw → IsAbove a b p → p.mw ≡ l.mw → p.cost ≤ℤ l.cost → IsAbove a b l
raise_above a b p l right above same higher =
    let first : (b.cost -ℤ a.cost) *ℤ (p.mw -ℤ a.mw) ≡ (b.cost -ℤ a.cost) *ℤ (l.mw -ℤ a.mw) = ap (λ z. (b.cost -ℤ a.cost) *ℤ (z -ℤ a.mw)) same in
    let more = mul-le-mul_right (b.mw -ℤ a.mw) (p.cost -ℤ a.cost) (l.cost -ℤ a.cost) (sub_nonneg a.mw b.mw right) (omega (arith, linear)) in
    omega (arith, linear, first, more, above)

-- b lies above the line from a to p. A point right of b that lies above the line from b to p lies above that from a
beyond_above : (a b p l : Point) → a.mw <ℤ b.mw → b.mw ≤ℤ p.mw → l.mw ≤ℤ p.mw → b.mw ≤ℤ l.mw
    → (p.mw ≤ℤ b.mw → p.cost <ℤ b.cost) → (p.mw ≤ℤ l.mw → p.cost <ℤ l.cost) → IsAbove a p b → IsAbove b p l → IsAbove a p l
beyond_above a b p l first second third fourth low lower over above = ⊎_elim
    (λ (reached : p.mw ≤ℤ b.mw). let same : p.mw ≡ l.mw = le_antisymm p.mw l.mw (le_trans p.mw b.mw l.mw reached fourth) third in
    raise_above a p p l (le_trans a.mw b.mw p.mw (less_le a.mw b.mw first) second) (le_refl _) same (less_le p.cost l.cost (lower (omega (arith, linear)))))
    (λ (apart : b.mw <ℤ p.mw).
    flatter_end-above a l p
    (flatter_trans (right_of l p) (above_of l p) (right_of b p) (above_of b p) (right_of a p) (above_of a p)
    (sub_nonneg l.mw p.mw third) (sub_positive b.mw p.mw apart) (sub_nonneg a.mw p.mw (le_trans a.mw b.mw p.mw (less_le a.mw b.mw first) second))
    (above-flatter_end b l p above) (above-flatter_end a b p over)))
    (le_or_lt p.mw b.mw)

-- b lies above the line from a to p. A point right of a that lies above the line from a to b lies above that to p
between_above : (a b p l : Point) → a.mw <ℤ b.mw → b.mw ≤ℤ p.mw → a.mw ≤ℤ l.mw → IsAbove a p b → IsAbove a b l → IsAbove a p l
between_above a b p l first second third over above =
    flatter_start-above a p l
    (flatter_trans (right_of a p) (above_of a p) (right_of a b) (above_of a b) (right_of a l) (above_of a l)
    (sub_nonneg a.mw p.mw (le_trans a.mw b.mw p.mw (less_le a.mw b.mw first) second)) (sub_positive a.mw b.mw first) (sub_nonneg a.mw l.mw third)
    (above-flatter_whole a b p over) (above-flatter_start a b l above))

-- p lies above the line from a to b. A point left of b that lies above that line lies above the line from b to p
left_above : (a b p l : Point) → a.mw <ℤ b.mw → b.mw ≤ℤ p.mw → l.mw ≤ℤ b.mw → IsAbove a b p → IsAbove a b l → IsAbove b p l
left_above a b p l first second third over above =
    before-flatter b p l
    (flatter_trans (right_of l b) (above_of l b) (right_of a b) (above_of a b) (right_of b p) (above_of b p)
    (sub_nonneg l.mw b.mw third) (sub_positive a.mw b.mw first) (sub_nonneg b.mw p.mw second)
    (above-flatter_end a l b above) (above-flatter_next a b p over))

-- p lies above the line from b to c, and c above that from a to b: so p lies above the latter
chain_above : (a b c p : Point) → a.mw <ℤ b.mw → b.mw <ℤ c.mw → c.mw ≤ℤ p.mw → IsAbove b c p → IsAbove a b c → IsAbove a b p
chain_above a b c p first second third over above =
    flatter_next-above a b p
    (flatter_trans (right_of a b) (above_of a b) (right_of b c) (above_of b c) (right_of b p) (above_of b p)
    (sub_nonneg a.mw b.mw (less_le a.mw b.mw first)) (sub_positive b.mw c.mw second) (sub_nonneg b.mw p.mw (le_trans b.mw c.mw p.mw (less_le b.mw c.mw second) third))
    (above-flatter_next a b c above) (above-flatter_start b c p over))

-- ---- the loop
pub covers_start : (points : List Point) (count : ℕ) (corners : List Point) (point : Point) → HullOfFirst points count corners
    → IsNext points count point → Covers points count corners point (length corners)
covers_start points count corners point hull next = record {
  within = omega arith;
  covered = λ i e l hl right.
      level_above (point_of corners i) point (point_of points l) (corner_right points count corners point hull next i (omega arith))
      (le_antisymm _ _ (hull.last i e l hl) right) (hull.lowest i e l hl right);
  alone = λ e l hl. absurd (let some = hull.some (omega arith) in omega arith);
}

pub covers-more : (points : List Point) (count : ℕ) (corners : List Point) (point : Point) (i : ℕ) → HullOfFirst points count corners
    → IsNext points count point → Covers points count corners point (suc (suc i))
    → IsTrue (is_above (point_of corners i) point (point_of corners (suc i))) → Covers points count corners point (suc i)
covers-more points count corners point i hull next covers e =
    let inside : suc i < length corners = omega (arith, covers.within) in
    let over : IsAbove (point_of corners i) point (point_of corners (suc i)) = int_le-true _ _ e in
    let rising = hull.rising i inside in
    let right = corner_right points count corners point hull next (suc i) inside in
    record {
      within = omega (arith, covers.within);
      covered = λ j same l hl after.
          subst (λ k. (point_of corners k).mw ≤ℤ (point_of points l).mw → IsAbove (point_of corners k) point (point_of points l)) (omega arith)
          (λ near. ⊎_elim
          (λ (beyond : (point_of corners (suc i)).mw ≤ℤ (point_of points l).mw).
          beyond_above (point_of corners i) (point_of corners (suc i)) point (point_of points l) rising right (next.right l hl) beyond
          (corner_below points count corners point hull next (suc i) inside) (next.below l hl) over (covers.covered (suc i) refl l hl beyond))
          (λ (before : (point_of points l).mw <ℤ (point_of corners (suc i)).mw).
          between_above (point_of corners i) (point_of corners (suc i)) point (point_of points l) rising right near over (hull.above i inside l hl))
          (le_or_lt (point_of corners (suc i)).mw (point_of points l).mw))
          after;
      alone = λ none. absurd (omega arith);
    }

-- ---- the corners that are left
pub joins-none : (points : List Point) (count : ℕ) (corners : List Point) (point : Point) → Covers points count corners point 0
    → Joins points count corners point 0
joins-none points count corners point covers = grind (arith, ints, covers)

-- the point lies above the lines from corner to corner, from the last one down
over_below : (points : List Point) (count : ℕ) (corners : List Point) (point : Point) (i : ℕ) → HullOfFirst points count corners
    → IsNext points count point → suc i < length corners → IsAbove (point_of corners i) (point_of corners (suc i)) point
    → (j : ℕ) → j ≤ i → IsAbove (point_of corners j) (point_of corners (suc j)) point
over_below points count corners point zero hull next inside over j h =
    subst (λ k. IsAbove (point_of corners k) (point_of corners (suc k)) point) (omega arith) over
over_below points count corners point (suc i) hull next inside over j h = ⊎_elim
    (λ (last : suc i ≡ j). subst (λ k. IsAbove (point_of corners k) (point_of corners (suc k)) point) last over)
    (λ (below : j ≤ i).
    over_below points count corners point i hull next (omega arith)
    (chain_above (point_of corners i) (point_of corners (suc i)) (point_of corners (suc (suc i))) point
    (hull.rising i (omega arith)) (hull.rising (suc i) inside) (corner_right points count corners point hull next (suc (suc i)) inside)
    over (corner_above points count corners hull i (omega arith) (suc (suc i)) inside))
    j below)
    (grind arith)

pub joins-more : (points : List Point) (count : ℕ) (corners : List Point) (point : Point) (i : ℕ) → HullOfFirst points count corners
    → IsNext points count point → Covers points count corners point (suc (suc i))
    → is_above (point_of corners i) point (point_of corners (suc i)) ≡ false → Joins points count corners point (suc (suc i))
joins-more points count corners point i hull next covers e =
    let inside : suc i < length corners = omega (arith, covers.within) in
    let a = point_of corners i in
    let b = point_of corners (suc i) in
    let rising = hull.rising i inside in
    let right = corner_right points count corners point hull next (suc i) inside in
    let below : ((b.cost -ℤ a.cost) *ℤ (point.mw -ℤ a.mw)) <ℤ ((point.cost -ℤ a.cost) *ℤ (b.mw -ℤ a.mw)) = false_lt _ _ e in
    let over : IsAbove a b point = omega (arith, linear, below) in
    record {
      over = λ j h. over_below points count corners point i hull next inside over j (omega arith);
      right = λ j same. subst (λ k. (point_of corners k).mw <ℤ point.mw) (omega arith) (beside a b point rising right below (corner_below points count corners point hull next (suc i) inside));
      above = λ j same l hl. subst (λ k. IsAbove (point_of corners k) point (point_of points l)) (omega arith)
          (⊎_elim
          (λ (after : b.mw ≤ℤ (point_of points l).mw). covers.covered (suc i) refl l hl after)
          (λ (before : (point_of points l).mw <ℤ b.mw).
          left_above a b point (point_of points l) rising right (less_le _ _ before) over (hull.above i inside l hl))
          (le_or_lt b.mw (point_of points l).mw));
      strict = λ j same. subst (λ k. IsBelow (point_of corners k) point (point_of corners (suc k))) (omega arith) below;
      alone = λ none. absurd (omega arith);
    }
  where
    -- a point below the last corner at its output would cover it
    beside : (a b p : Point) → a.mw <ℤ b.mw → b.mw ≤ℤ p.mw → ((b.cost -ℤ a.cost) *ℤ (p.mw -ℤ a.mw)) <ℤ ((p.cost -ℤ a.cost) *ℤ (b.mw -ℤ a.mw))
        → (p.mw ≤ℤ b.mw → p.cost <ℤ b.cost) → b.mw <ℤ p.mw
    beside a b p rising right below low = ⊎_elim
        (λ (level : p.mw ≤ℤ b.mw).
        let same : p.mw ≡ b.mw = le_antisymm _ _ level right in
        let less = low level in
        let first : (b.cost -ℤ a.cost) *ℤ (p.mw -ℤ a.mw) ≡ (b.cost -ℤ a.cost) *ℤ (b.mw -ℤ a.mw) = ap (λ z. (b.cost -ℤ a.cost) *ℤ (z -ℤ a.mw)) same in
        let more = mul-le-mul_right (b.mw -ℤ a.mw) (p.cost -ℤ a.cost) (b.cost -ℤ a.cost) (omega (arith, linear, rising)) (omega (arith, linear, less)) in
        absurd (omega (arith, linear, first, more, below)))
        (λ less. less)
        (le_or_lt p.mw b.mw)

-- ---- what the test says of each number of kept corners
pub record Tested (corners : List Point) (point : Point) (kept : ℕ) (result : Bool) : Type 0 where
  pub none : kept ≡ 0 → result ≡ false
  pub one : kept ≡ 1 → result ≡ int_le point.mw (point_of corners 0).mw
  pub more : (i : ℕ) → kept ≡ suc (suc i) → result ≡ is_above (point_of corners i) point (point_of corners (suc i))

pub covers_next : (points : List Point) (count : ℕ) (corners : List Point) (point : Point) (kept : ℕ) (result : Bool)
    → HullOfFirst points count corners → IsNext points count point → Covers points count corners point kept
    → Tested corners point kept result → result ≡ true → Covers points count corners point (kept - 1)
covers_next points count corners point zero result hull next covers tested e = grind (arith, ints, hull, next, covers, tested, e)
covers_next points count corners point (suc zero) result hull next covers tested e = grind (arith, ints, hull, next, covers, tested, e)
covers_next points count corners point (suc (suc i)) result hull next covers tested e =
    grind (arith, ints, covers-more, hull, next, covers, tested, e)

pub joins : (points : List Point) (count : ℕ) (corners : List Point) (point : Point) (kept : ℕ) (result : Bool)
    → HullOfFirst points count corners → IsNext points count point → Covers points count corners point kept
    → Tested corners point kept result → result ≡ false → Joins points count corners point kept
joins points count corners point zero result hull next covers tested e = joins-none points count corners point covers
joins points count corners point (suc zero) result hull next covers tested e = grind (arith, ints, hull, next, covers, tested, e)
joins points count corners point (suc (suc i)) result hull next covers tested e = grind (arith, ints, joins-more, hull, next, covers, tested, e)

-- ---- the points before the next one
-- outputs rise from each point to each later one
pub rises : (points : List Point) → AreLawfulPoints points → Rises points
rises points lawful = record { some = lawful.some; rising = lawful.rising }

pub outputs-le : (points : List Point) → AreLawfulPoints points → (l k : ℕ) → l ≤ k → k < length points → (point_of points l).mw ≤ℤ (point_of points k).mw
outputs-le points lawful l k h inside = let order = outputs_rise points (rises points lawful) l k h inside in omega (arith, linear, order)

-- the test of the last corner, by the number of corners
pub record TestedLast (corners : List Point) (point : Point) (result : Bool) : Type 0 where
  pub none : length corners ≡ 0 → result ≡ false
  pub some : (i : ℕ) → length corners ≡ suc i → result ≡ is_over (point_of corners i) point

last_place : (n : ℕ) → 0 < n → (i : ℕ) × (n ≡ suc i)
last_place zero h = absurd (omega arith)
last_place (suc i) h = (i, refl)

not_over : (corner point : Point) → is_over corner point ≡ false → point.mw ≤ℤ corner.mw → point.cost <ℤ corner.cost
not_over corner point e h = false_lt corner.cost point.cost (sym (cond-true (int_le point.mw corner.mw) (int_le corner.cost point.cost) false (le-int_le _ _ h)) ∙ e)

over_parts : (corner point : Point) → is_over corner point ≡ true → (point.mw ≤ℤ corner.mw) × (corner.cost ≤ℤ point.cost)
over_parts corner point e = grind (arith, ints, e)

corner_low : (points : List Point) (count : ℕ) (corners : List Point) → AreLawfulPoints points → count < length points → HullOfFirst points count corners
    → (i : ℕ) → i < length corners → (point_of corners i).mw ≤ℤ (point_of points count).mw
corner_low points count corners lawful inside hull i h =
    let found = hull.place i h in
    subst (λ (x : Point). x.mw ≤ℤ (point_of points count).mw) (sym found.2) (outputs-le points lawful found.0 count (omega (arith, found.1)) inside)

pub next-from : (points : List Point) (count : ℕ) (corners : List Point) (result : Bool) → AreLawfulPoints points → count < length points
    → HullOfFirst points count corners → TestedLast corners (point_of points count) result → result ≡ false → IsNext points count (point_of points count)
next-from points count corners result lawful inside hull tested e = record {
  right = λ l h. outputs-le points lawful l count (omega arith) inside;
  below = λ l h level.
      let last = last_place (length corners) (hull.some (omega arith)) in
      let end : suc last.0 ≡ length corners = sym last.1 in
      let corner = point_of corners last.0 in
      let low = not_over corner (point_of points count) (sym (tested.some last.0 last.1) ∙ e) in
      let before = hull.last last.0 end l h in
      let lowest = hull.lowest last.0 end l h in
      under corner (point_of points count) (point_of points l) low before (corner_low points count corners lawful inside hull last.0 (omega (arith, last.1))) lowest level;
}
  where
    under : (c p l : Point) → (p.mw ≤ℤ c.mw → p.cost <ℤ c.cost) → l.mw ≤ℤ c.mw → c.mw ≤ℤ p.mw → (c.mw ≤ℤ l.mw → c.cost ≤ℤ l.cost) → p.mw ≤ℤ l.mw → p.cost <ℤ l.cost
    under c p l low before right lowest level =
        let less = low (le_trans p.mw l.mw c.mw level before) in
        let more = lowest (le_trans c.mw p.mw l.mw right level) in
        omega (arith, linear, less, more)

-- ---- the hull with the next point
below_or_last : (l count : ℕ) → l < suc count → (l < count) ⊎ (l ≡ count)
below_or_last l count h = grind arith

-- a fact of the points before and of the next one is one of all of them
each_next : (P : Point → Type 0) (points : List Point) (count : ℕ) → ((l : ℕ) → l < count → P (point_of points l)) → P (point_of points count)
    → (l : ℕ) → l < suc count → P (point_of points l)
each_next P points count before here l h = grind (arith, ints, before, here, h)

-- a point over the last corner changes nothing
pub hull_over : (points : List Point) (count : ℕ) (corners : List Point) (result : Bool) → AreLawfulPoints points → count < length points
    → HullOfFirst points count corners → TestedLast corners (point_of points count) result → result ≡ true → HullOfFirst points (suc count) corners
hull_over points count corners result lawful inside hull tested e =
    let point = point_of points count in
    let last = last_place (length corners) (some_of (length corners) tested.none) in
    let end : suc last.0 ≡ length corners = sym last.1 in
    let within : last.0 < length corners = omega (arith, last.1) in
    let corner = point_of corners last.0 in
    let over = over_parts corner point (sym (tested.some last.0 last.1) ∙ e) in
    let level : corner.mw ≡ point.mw = le_antisymm _ _ (corner_low points count corners lawful inside hull last.0 within) over.0 in
    record {
      some = λ h. omega arith;
      place = λ i h. let found = hull.place i h in (found.0, omega (arith, found.1), found.2);
      rising = hull.rising;
      strict = hull.strict;
      above = λ i h. each_next (λ l. IsAbove (point_of corners i) (point_of corners (suc i)) l) points count (hull.above i h)
          (raise_above (point_of corners i) (point_of corners (suc i)) corner point (less_le _ _ (hull.rising i h)) (corner_above points count corners hull i h last.0 within) level over.1);
      first = each_next (λ l. (point_of corners 0).mw ≤ℤ l.mw) points count hull.first (corner_low points count corners lawful inside hull 0 (omega arith));
      last = λ i same. grind (arith, ints, each_next, corners, i, points, count, hull, same, point, over);
      lowest = λ i same. grind (arith, ints, each_next, corners, i, points, count, hull, same, point, over);
    }
  where
    clash : result ≡ false → ⊥
    clash h = cc

    some_of : (n : ℕ) → (n ≡ 0 → result ≡ false) → 0 < n
    some_of zero none = absurd (clash (none refl))
    some_of (suc n) none = omega arith

-- the kept corners, and the point after them
pub record Extended (corners : List Point) (kept : ℕ) (point : Point) (extended : List Point) : Type 0 where
  pub count : length extended ≡ suc kept
  pub kept_is : (i : ℕ) → i < kept → point_of extended i ≡ point_of corners i
  pub last_is : point_of extended kept ≡ point

pub hull_joined : (points : List Point) (count : ℕ) (corners extended : List Point) (kept : ℕ)
    → HullOfFirst points count corners → IsNext points count (point_of points count) → kept ≤ length corners
    → Joins points count corners (point_of points count) kept → Extended corners kept (point_of points count) extended
    → HullOfFirst points (suc count) extended
hull_joined points count corners extended kept hull next within joins new =
    let point = point_of points count in
    record {
      some = λ h. omega (arith, new.count);
      place = λ i h. ⊎_elim
          (λ (less : i < kept). let found = hull.place i (omega arith) in (found.0, omega (arith, found.1), new.kept_is i less ∙ found.2))
          (λ (last : i ≡ kept). (count, omega arith, subst (λ k. point_of extended k ≡ point) (sym last) new.last_is))
          (below_or_last i kept (subst (λ n. i < n) new.count h));
      rising = λ i h. ⊎_elim
          (λ (less : suc i < kept). pair_old (λ (a b : Point). a.mw <ℤ b.mw) i less (hull.rising i (omega arith)))
          (λ (last : suc i ≡ kept). pair_new (λ (a b : Point). a.mw <ℤ b.mw) i last (joins.right i last))
          (below_or_last (suc i) kept (subst (λ n. suc i < n) new.count h));
      strict = λ i h. ⊎_elim
          (λ (less : suc (suc i) < kept). three_old i less (hull.strict i (omega arith)))
          (λ (last : suc (suc i) ≡ kept). three_new i last (joins.strict i last))
          (below_or_last (suc (suc i)) kept (subst (λ n. suc (suc i) < n) new.count h));
      above = λ i h l hl. ⊎_elim
          (λ (less : suc i < kept). pair_old (λ (a b : Point). IsAbove a b (point_of points l)) i less
          (each_next (λ x. IsAbove (point_of corners i) (point_of corners (suc i)) x) points count (hull.above i (omega arith)) (joins.over i less) l hl))
          (λ (last : suc i ≡ kept). pair_new (λ (a b : Point). IsAbove a b (point_of points l)) i last
          (each_next (λ x. IsAbove (point_of corners i) point x) points count (joins.above i last) (le_refl _) l hl))
          (below_or_last (suc i) kept (subst (λ n. suc i < n) new.count h));
      first = first_of_all kept refl;
      last = λ i same. subst (λ (x : Point). (l : ℕ) → l < suc count → (point_of points l).mw ≤ℤ x.mw) (sym (end_is i same))
          (each_next (λ x. x.mw ≤ℤ point.mw) points count next.right (le_refl _));
      lowest = λ i same. subst (λ (x : Point). (l : ℕ) → l < suc count → x.mw ≤ℤ (point_of points l).mw → x.cost ≤ℤ (point_of points l).cost) (sym (end_is i same))
          (each_next (λ x. point.mw ≤ℤ x.mw → point.cost ≤ℤ x.cost) points count (λ l h near. less_le _ _ (next.below l h near)) (λ near. le_refl _));
    }
  where
    pair_old : (P : Point → Point → Type 0) (i : ℕ) → suc i < kept → P (point_of corners i) (point_of corners (suc i)) → P (point_of extended i) (point_of extended (suc i))
    pair_old P i less h =
        subst (λ x. P x (point_of extended (suc i))) (sym (new.kept_is i (omega arith)))
        (subst (λ x. P (point_of corners i) x) (sym (new.kept_is (suc i) less)) h)

    pair_new : (P : Point → Point → Type 0) (i : ℕ) → suc i ≡ kept → P (point_of corners i) (point_of points count) → P (point_of extended i) (point_of extended (suc i))
    pair_new P i last h =
        subst (λ x. P x (point_of extended (suc i))) (sym (new.kept_is i (omega arith)))
        (subst (λ x. P (point_of corners i) x) (sym (subst (λ k. point_of extended k ≡ point_of points count) (sym last) new.last_is)) h)

    end_is : (i : ℕ) → suc i ≡ length extended → point_of extended i ≡ point_of points count
    end_is i same = let last : kept ≡ i = omega (arith, new.count) in subst (λ k. point_of extended k ≡ point_of points count) last new.last_is

    three_old : (i : ℕ) → suc (suc i) < kept → IsBelow (point_of corners i) (point_of corners (suc (suc i))) (point_of corners (suc i))
        → IsBelow (point_of extended i) (point_of extended (suc (suc i))) (point_of extended (suc i))
    three_old i less h =
        pair_old (λ a b. IsBelow a (point_of extended (suc (suc i))) b) i (omega arith)
        (subst (λ x. IsBelow (point_of corners i) x (point_of corners (suc i))) (sym (new.kept_is (suc (suc i)) less)) h)

    three_new : (i : ℕ) → suc (suc i) ≡ kept → IsBelow (point_of corners i) (point_of points count) (point_of corners (suc i))
        → IsBelow (point_of extended i) (point_of extended (suc (suc i))) (point_of extended (suc i))
    three_new i last h =
        pair_old (λ a b. IsBelow a (point_of extended (suc (suc i))) b) i (omega arith)
        (subst (λ x. IsBelow (point_of corners i) x (point_of corners (suc i))) (sym (end_is (suc (suc i)) (omega (arith, new.count)))) h)

    first_low : 0 < length corners → (point_of corners 0).mw ≤ℤ (point_of points count).mw
    first_low h = corner_right points count corners (point_of points count) hull next 0 h

    first_of_all : (n : ℕ) → n ≡ kept → (l : ℕ) → l < suc count → (point_of extended 0).mw ≤ℤ (point_of points l).mw
    first_of_all zero e = subst (λ (x : Point). (l : ℕ) → l < suc count → x.mw ≤ℤ (point_of points l).mw)
        (sym (subst (λ k. point_of extended k ≡ point_of points count) (sym e) new.last_is))
        (each_next (λ x. (point_of points count).mw ≤ℤ x.mw) points count (joins.alone (sym e)) (le_refl _))
    first_of_all (suc n) e = subst (λ (x : Point). (l : ℕ) → l < suc count → x.mw ≤ℤ (point_of points l).mw) (sym (new.kept_is 0 (omega arith)))
        (each_next (λ x. (point_of corners 0).mw ≤ℤ x.mw) points count hull.first (first_low (omega arith)))

pub extended : (corners : List Point) (kept : ℕ) (point : Point) → kept ≤ length corners → Extended corners kept point (take kept corners ++ point ∷ [])
extended corners kept point within = grind (arith, ints, length-take-le, length-append, get_or_append_left, get_or-take, get_or-append_seam, within)
