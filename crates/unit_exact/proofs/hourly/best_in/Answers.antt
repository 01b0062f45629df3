-- The output lies on the hull and within the cap.
use Rattle.std.proofs.Common.{◌≡◌, sym, ap, subst, ◌∙◌, arith, ℤ, pos, ◌+ℤ◌, ◌≤ℤ◌, false, true, to_z, of_z}
use mir.Val.{SFits}
use Rattle.std.specs.Int.{w64, w128, int_min}
use Rattle.std.specs.Int.Signed.{lt_z, le_z}
use Rattle.std.proofs.lemmas.Int.{ints, to_z-of_z}
use Rattle.step_functions.specs.Functions.{Steps, IsPlace, last_place}
use Rattle.hull_function.specs.Hours.{IsSizedHour}
use Rattle.hull_function.specs.Hulls.{IsHullFunction}
use Rattle.hull_function.specs.declared.hour.Hour.{Hour}
use Rattle.unit_exact.proofs.hourly.best_in.Goals as goal

-- the lesser of a place of the hull and a cap of at least 0
abbrev IsBetween : ℤ → ℤ → ℤ → Type 0
IsBetween last limit z = (pos 0 ≤ℤ z) × (z ≤ℤ last) × (z ≤ℤ limit)

-- the output that is taken
between : (hull : Steps) (hour : Hour) (least output : ℤ) → IsHullFunction hull → IsSizedHour hour → IsPlace hull least
    → lt_z (to_z w64 (of_z w64 hour.cap)) (pos 0) ≡ false → output ≡ int_min (to_z w64 (of_z w64 least)) (to_z w64 (of_z w64 hour.cap))
    → IsBetween (last_place hull) hour.cap (to_z w64 (of_z w64 output))
between hull hour least output is sized place sign lower = grind (arith, ints, is, sized, place, sign, lower)

at_place : (first last limit z : ℤ) → first ≡ pos 0 → IsBetween last limit z → (first ≤ℤ z) × (z ≤ℤ last)
at_place first last limit z e is = let low = is.0 in let high = is.1 in (omega (arith, ints), high)

pub cost-requires-clause-output : goal.cost-requires-clause-output
cost-requires-clause-output c =
    let is = between c.args.hull.now c.args.hour.now c.least_place.result c.min-output.result c.requires.hull c.requires.hour c.least_place.ensures.place c.if-hour-lt0.false
    c.min-output.ensures.value in
    let at = at_place c.args.hull.now.first (last_place c.args.hull.now) c.args.hour.now.cap _ c.requires.hull.first is in
    record { low = at.0; high = at.1 }

pub reserve_beside-requires-clause-output : goal.reserve_beside-requires-clause-output
reserve_beside-requires-clause-output c =
    let is = between c.args.hull.now c.args.hour.now c.least_place.result c.min-output.result c.requires.hull c.requires.hour c.least_place.ensures.place c.if-hour-lt0.false
    c.min-output.ensures.value in (is.0, is.2)

-- a cost that is at most a term by its bits
within : (cost term most : ℤ) → cost ≡ most → to_z w128 (of_z w128 cost) ≡ cost → SFits w128 term
    → le_z (to_z w128 (of_z w128 cost)) (to_z w128 (of_z w128 term)) ≡ true → most ≤ℤ term
within cost term most e own fits le = let there = to_z-of_z w128 term fits in grind (arith, ints)

pub returns-then-cost-term : goal.returns-then-cost-term
returns-then-cost-term c =
    let hull = c.args.hull.now in
    let hour = c.args.hour.now in
    let is = between hull hour c.least_place.result c.min-output.result c.requires.hull c.requires.hour c.least_place.ensures.place c.if-hour-lt0.false
    c.min-output.ensures.value in
    let at = at_place hull.first (last_place hull) hour.cap _ c.requires.hull.first is in
    let beside = c.reserve_beside.ensures in
    let own : to_z w64 (of_z w64 c.reserve_beside.result) ≡ c.reserve_beside.result = (let fits = c.reserve_beside.type_inv in omega (arith, ints)) in
    let read : to_z w128 (of_z w128 c.cost.result) ≡ c.cost.result = (let fits = c.cost.type_inv in omega (arith, ints)) in
    record {
      place = record { low = at.0; high = at.1 };
      reserve = subst (λ z. pos 0 ≤ℤ z) (sym own) beside.sign;
      cap = subst (λ z. (to_z w64 (of_z w64 c.min-output.result) +ℤ z) ≤ℤ hour.cap) (sym own) beside.cap;
      none = λ e. own ∙ beside.none e;
      all = λ h. ap (λ z. to_z w64 (of_z w64 c.min-output.result) +ℤ z) own ∙ beside.all h;
      cost = within c.cost.result c.args.term _ c.cost.ensures.value read c.ranges.term c.if-cost-term.true;
    }
