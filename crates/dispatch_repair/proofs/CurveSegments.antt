-- The segments of each source: the one of a renewable unit, and those between the corners of a thermal unit's curve.
use Rattle.std.proofs.Common.{◌≡◌, ℕ, suc, ◌+◌, ◌-◌, ◌<◌, ◌≤◌, ⊎_elim, refl, sym, subst, ◌∙◌, arith, List, [], ◌∷◌, ◌++◌, length, ℤ, pos, ◌-ℤ◌, ◌*ℤ◌, ◌≤ℤ◌, ◌<ℤ◌, nat_lt}
use Rattle.std.specs.List.{All, Contains}
use Rattle.std.proofs.lemmas.Bool.{lt-ltb, cond-true, cases_lt}
use Rattle.std.proofs.lemmas.List.Elements.{All-append, All-nil, All-cons, Contains-append_left, Contains-push}
use Rattle.uc_model.specs.Prelude.{point_of, output_of, rise, run, thermal_unit, thermal_count, renewable_count}
use Rattle.uc_model.proofs.Common.{linear, le_or_lt}
use Rattle.cost_curves.specs.LowerHull.{IsLowerHull}
use Rattle.cost_curves.specs.LeastCost.{IsRightSlope}
use Rattle.cost_curves.proofs.HullValues.{line, line-segment, output_is, whole_width}
use Rattle.cost_curves.proofs.Lines.{sub_positive}
use Rattle.cost_curves.proofs.Slopes.{slopes_rise}
use Rattle.dispatch_repair.specs.Prelude.{Instance, FromRenewable, FromThermal, Slope, HasNextSlope, Point, Segment, IsAtMost, free_segment, corner_segment, IsSegmentOf, IsNextOn, IsCovered, AreSegmentsOf, source_at, width_at}

-- ---- places of sources
pub renewable_at : (instance : Instance) (w : ℕ) → w < renewable_count instance → source_at instance w ≡ FromRenewable w
renewable_at instance w h = cond-true (nat_lt w (renewable_count instance)) _ _ (lt-ltb w (renewable_count instance) h)

pub thermal_at : (instance : Instance) (g : ℕ) → source_at instance (renewable_count instance + g) ≡ FromThermal g
thermal_at instance g = grind (arith, linear)

-- ---- a segment more

alone : {A : Type 0} (P : A → Type 0) (a : A) → P a → All P (a ∷ [])
alone P a h = All-cons P a [] h (All-nil P)

-- ---- renewable units
free_slopes : (slope other : Slope) → slope.rise ≡ pos 0 → other.rise ≡ pos 0 → IsAtMost slope other
free_slopes slope other h k = grind (arith, linear, h, k)

pub renewable_more : (instance : Instance) (w : ℕ) (segments : List Segment) → w < renewable_count instance → AreSegmentsOf instance w segments
    → AreSegmentsOf instance (suc w) (segments ++ free_segment w ∷ [])
renewable_more instance w segments h are = record {
  each = All-append (IsSegmentOf instance) segments (free_segment w ∷ []) are.each (alone (IsSegmentOf instance) (free_segment w) free);
  covered = λ m hm. ⊎_elim
      (λ (early : m < w). λ amount low high.
      let found = are.covered m early amount low high in
      (found.0, Contains-append_left segments (free_segment w ∷ []) found.0 found.1, found.2))
      (λ (late : w ≤ m). subst (IsCovered instance (segments ++ free_segment w ∷ [])) (omega arith) own) (cases_lt m w);
}
  where
    free : IsSegmentOf instance (free_segment w)
    free = record {
      source = omega (arith, h);
      run = omega (arith, linear);
      below = λ amount slope less next. free_slopes slope (free_segment w).slope (subst (λ s. HasNextSlope instance s amount slope) (renewable_at instance w h) next).0 refl;
    }

    own : IsCovered instance (segments ++ free_segment w ∷ []) w
    own amount low high = (
      free_segment w,
      Contains-push segments (free_segment w),
      record {
        source = refl;
        end = subst (λ s. amount <ℤ width_at instance s) (renewable_at instance w h) high;
        above = λ slope next. free_slopes (free_segment w).slope slope refl (subst (λ s. HasNextSlope instance s amount slope) (renewable_at instance w h) next).0;
      },
    )

-- ---- thermal units
-- the slopes that lie left of the segment's end are at most its own, and those that reach right of its beginning at least
record IsBetween (points corners : List Point) (i : ℕ) (slope : Slope) : Type 0 where
  wide : pos 0 <ℤ slope.run
  below : (amount : ℤ) (other : Slope) → amount <ℤ output_of corners (suc i) → IsRightSlope points amount other → IsAtMost other slope
  above : (amount : ℤ) (other : Slope) → output_of corners i ≤ℤ amount → IsRightSlope points amount other → IsAtMost slope other

between : (points corners : List Point) (n i : ℕ) → IsLowerHull points corners → suc i < length corners
    → IsBetween points corners i (corner_segment n corners i).slope
between points corners n i whole h =
    let its = line points corners whole i h in
    let hull = line-segment points corners i its in
    let left : output_of corners i ≡ output_of points its.left = output_is points corners whole (omega arith) i its.left its.left_is in
    let right : output_of corners (suc i) ≡ output_of points its.right = output_is points corners whole (omega arith) (suc i) its.right its.right_is in
    let rising : (point_of corners (suc i)).cost -ℤ (point_of corners i).cost ≡ rise points its.left its.right =
    λ t. (its.right_is t).cost -ℤ (its.left_is t).cost in
    let running : (point_of corners (suc i)).mw -ℤ (point_of corners i).mw ≡ run points its.left its.right =
    (λ t. (its.right_is t).mw -ℤ (its.left_is t).mw) ∙ (omega (arith, linear)) in
    record {
      wide = sub_positive (point_of corners i).mw (point_of corners (suc i)).mw (whole.hull.rising i h);
      below = λ amount other less is.
          at_most_by other _ rising running is.segment.rise is.segment.run
          (slopes_rise points its.left its.right is.left is.right its.right_within is.segment.left_within hull is.segment.segment
          (omega (arith, linear, is.begins)));
      above = λ amount other least is.
          at_least_by other _ rising running is.segment.rise is.segment.run
          (slopes_rise points is.left is.right its.left its.right is.segment.right_within its.left_within is.segment.segment hull
          (omega (arith, linear, is.reaches)));
    }
  where
    at_most_by : (other slope : Slope) {r w s v : ℤ} → slope.rise ≡ r → slope.run ≡ w → other.rise ≡ s → other.run ≡ v → (s *ℤ w) ≤ℤ (r *ℤ v) → IsAtMost other slope
    at_most_by other slope er ew es ev h = subst (λ z. z) (λ t. (sym es t *ℤ sym ew t) ≤ℤ (sym er t *ℤ sym ev t)) h

    at_least_by : (other slope : Slope) {r w s v : ℤ} → slope.rise ≡ r → slope.run ≡ w → other.rise ≡ s → other.run ≡ v → (r *ℤ v) ≤ℤ (s *ℤ w) → IsAtMost slope other
    at_least_by other slope er ew es ev h = subst (λ z. z) (λ t. (sym er t *ℤ sym ev t) ≤ℤ (sym es t *ℤ sym ew t)) h

-- the segments of the sources before, and those between the first corners
pub record ArePushed (instance : Instance) (n : ℕ) (corners : List Point) (i : ℕ) (segments : List Segment) : Type 0 where
  pub each : All (IsSegmentOf instance) segments
  pub covered : (m : ℕ) → m < n → IsCovered instance segments m
  pub reached : (amount : ℤ) → pos 0 ≤ℤ amount → amount <ℤ output_of corners i
      → (segment : Segment) × Contains segments segment × IsNextOn instance n amount segment

pub pushed_more : (instance : Instance) (g i : ℕ) (corners : List Point) (segments : List Segment) → g < thermal_count instance
    → IsLowerHull (thermal_unit instance g).points corners → suc i < length corners
    → ArePushed instance (renewable_count instance + g) corners i segments
    → ArePushed instance (renewable_count instance + g) corners (suc i) (segments ++ corner_segment (renewable_count instance + g) corners i ∷ [])
pushed_more instance g i corners segments hg whole hi are =
    let n = renewable_count instance + g in
    let its = between (thermal_unit instance g).points corners n i whole hi in
    let segment = corner_segment n corners i in
    let own : IsSegmentOf instance segment = record {
      source = omega arith;
      run = its.wide;
      below = λ amount slope less next. its.below amount slope less (subst (λ s. HasNextSlope instance s amount slope) (thermal_at instance g) next);
    } in
    record {
      each = All-append (IsSegmentOf instance) segments (segment ∷ []) are.each (alone (IsSegmentOf instance) segment own);
      covered = λ m hm amount low high.
          let found = are.covered m hm amount low high in
          (found.0, Contains-append_left segments (segment ∷ []) found.0 found.1, found.2);
      reached = λ amount low high. ⊎_elim
          (λ (late : output_of corners i ≤ℤ amount). (
            segment,
            Contains-push segments segment,
            record {
              source = refl;
              end = high;
              above = λ slope next. its.above amount slope late (subst (λ s. HasNextSlope instance s amount slope) (thermal_at instance g) next);
            },
          ))
          (λ (early : amount <ℤ output_of corners i).
          let found = are.reached amount low early in
          (found.0, Contains-append_left segments (segment ∷ []) found.0 found.1, found.2))
          (le_or_lt (output_of corners i) amount);
    }

-- after the last corner all watts of the unit are covered
pub pushed_all : (instance : Instance) (g i : ℕ) (corners : List Point) (segments : List Segment)
    → IsLowerHull (thermal_unit instance g).points corners → i ≡ length corners - 1
    → ArePushed instance (renewable_count instance + g) corners i segments → AreSegmentsOf instance (suc (renewable_count instance + g)) segments
pushed_all instance g i corners segments whole last are = record {
  each = are.each;
  covered = λ m hm. ⊎_elim (λ (early : m < renewable_count instance + g). are.covered m early)
      (λ (late : renewable_count instance + g ≤ m). subst (IsCovered instance segments) (omega arith) own) (cases_lt m (renewable_count instance + g));
}
  where
    own : IsCovered instance segments (renewable_count instance + g)
    own amount low high =
        are.reached amount low
        (subst (λ k. amount <ℤ output_of corners k) (sym last)
        (subst (λ z. amount <ℤ z) (sym (whole_width (thermal_unit instance g).points corners whole))
        (subst (λ s. amount <ℤ width_at instance s) (thermal_at instance g) high)))
