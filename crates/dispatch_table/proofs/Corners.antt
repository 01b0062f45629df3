-- A unit's curve has no more corners than the unit has points.
-- Cite by `use Rattle.dispatch_table.proofs.Corners.{few_corners}`.
use Rattle.std.proofs.Common.{◌≡◌, ℕ, zero, suc, ◌<◌, ◌≤◌, ⊎_elim, arith, subst, ap, sym, List, length, ℤ, ◌≤ℤ◌}
use Rattle.std.proofs.lemmas.Bool.{cases_lt}
use Rattle.uc_model.specs.Prelude.{point_of}
use Rattle.uc_model.proofs.Common.{linear, le_refl}
use Rattle.cost_curves.specs.LowerHull.{Point, IsLowerHull}

module _ (points corners : List Point) (is : IsLowerHull points corners) where
  mw : ℕ → ℤ
  mw l = (point_of points l).mw

  rising : (l m : ℕ) → l ≤ m → m < length points → (point_of points l).mw ≤ℤ (point_of points m).mw
  rising l zero h less = let same : l ≡ 0 = omega arith in subst (λ k. (point_of points k).mw ≤ℤ (point_of points 0).mw) (sym same) (le_refl _)
  rising l (suc m) h less = ⊎_elim
      (λ (below : l < suc m).
      let first = rising l m (omega arith) (omega arith) in
      let next = is.lawful.rising m less in
      omega (arith, linear))
      (λ (most : suc m ≤ l). let same : l ≡ suc m = omega arith in subst (λ k. (point_of points k).mw ≤ℤ (point_of points (suc m)).mw) (sym same) (le_refl _))
      (cases_lt l (suc m))

  place : (i : ℕ) (h : i < length corners) → i ≤ (is.hull.place i h).0
  place zero h = omega arith
  place (suc i) h =
      let before : i < length corners = omega arith in
      let here = is.hull.place (suc i) h in
      let there = is.hull.place i before in
      let least = place i before in
      ⊎_elim
      (λ (less : there.0 < here.0). omega arith)
      (λ (most : here.0 ≤ there.0).
      let low = rising here.0 there.0 most there.1 in
      let up = is.hull.rising i h in
      let own = ap (λ (p : Point). p.mw) here.2 in
      let other = ap (λ (p : Point). p.mw) there.2 in
      absurd (omega (arith, linear)))
      (cases_lt there.0 here.0)

  pub few_corners : length corners ≤ length points
  few_corners = ⊎_elim
      (λ (less : length points < length corners).
      let there = is.hull.place (length points) less in
      let least = place (length points) less in
      absurd (omega (arith, there.1)))
      (λ (most : length corners ≤ length points). most)
      (cases_lt (length points) (length corners))
