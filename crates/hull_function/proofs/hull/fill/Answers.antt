-- From the point 0 on to the end.
use Rattle.std.proofs.Common.{◌≡◌, lit<, ◌^◌, ◌<◌, ◌≤◌, true, false, ap, subst, ◌∙◌, arith, ℤ, pos, ◌*ℤ◌, ◌≤ℤ◌, ◌<ℤ◌, to_z, of_z, unsigned_abs, rules}
use mir.Val.{SFits}
use Rattle.std.specs.Int.{w64}
use Rattle.std.specs.Int.Signed.{lt_z}
use Rattle.std.proofs.lemmas.Int.{ints, to_z-of_z}
use Rattle.cost_curves.proofs.HullValues.{whole_width}
use Rattle.cost_curves.specs.LowerHull.{width_of}
use Rattle.uc_model.specs.Prelude.{hull_cost}
use Rattle.uc_model.proofs.Common.{linear, le_antisymm, one-mul, narrow, scaled-size}
use Rattle.uc_model.proofs.Sizes.{wide}
use Rattle.dual_model.specs.Prelude.{greatest_output}
use Rattle.step_functions.specs.Functions.{Steps, last_place}
use Rattle.hull_function.specs.inside.HullParts.{IsHullTo, MAX_CORNER}
use Rattle.hull_function.proofs.HullSteps.{hull-begun, hull-whole, outputs-within, scale-size}
use Rattle.hull_function.proofs.hull.fill.Goals as goal

-- the test of the loop, by its bits
before_end : (a b l w : ℤ) → a ≡ l → b ≡ w → unsigned_abs a < 2 ^ 63 → unsigned_abs b < 2 ^ 63 → lt_z (to_z w64 (of_z w64 a)) (to_z w64 (of_z w64 b)) ≡ true → l <ℤ w
before_end a b l w e d h k test = grind (arith, ints)

at_end : (a b l w : ℤ) → a ≡ l → b ≡ w → unsigned_abs a < 2 ^ 63 → unsigned_abs b < 2 ^ 63 → lt_z (to_z w64 (of_z w64 a)) (to_z w64 (of_z w64 b)) ≡ false → w ≤ℤ l
at_end a b l w e d h k test = grind (arith, ints)

pub ceil_at-requires-clause-high : goal.ceil_at-requires-clause-high
ceil_at-requires-clause-high c =
    let points = c.args.points.now in
    let width = whole_width points c.args.curve.now c.requires.curve in
    let low = outputs-within points 0 c.requires.curve.lawful c.requires.curve.lawful.some in
    let one = one-mul (width_of c.args.curve.now) in
    omega (arith, linear, width, low, one)

pub set_point-requires-clause-value : goal.set_point-requires-clause-value
set_point-requires-clause-value c =
    let small : unsigned_abs c.ceil_at.result ≤ 2 ^ 63 = (let own = c.ceil_at.type_inv in omega (arith, ints, own)) in
    let size = scaled-size c.args.k c.ceil_at.result c.scaled.result (10 ^ 9) (2 ^ 63) c.scaled.ensures (scale-size c.args.k c.requires.scale) small in
    omega (arith, ints, size)

pub loop-function-init : goal.loop-function-init
loop-function-init c =
    let points = c.args.points.now in
    let f = c.set_point.new.self in
    let small : unsigned_abs c.ceil_at.result ≤ 2 ^ 63 = (let own = c.ceil_at.type_inv in omega (arith, ints, own)) in
    let scale_size = scale-size c.args.k c.requires.scale in
    let size = scaled-size c.args.k c.ceil_at.result c.scaled.result (10 ^ 9) (2 ^ 63) c.scaled.ensures scale_size small in
    let enough : unsigned_abs c.scaled.result ≤ MAX_CORNER = omega (arith, size) in
    let scale = narrow c.args.k (10 ^ 9) scale_size (lit< tt) in
    let fits : SFits w64 c.ceil_at.result = search rules in
    let first_cost = to_z-of_z w64 c.ceil_at.result fits ∙ c.ceil_at.ensures.hull points c.requires.curve in
    let value : c.scaled.result ≡ to_z w64 (of_z w64 c.args.k) *ℤ hull_cost points 1 (pos 0) =
    c.scaled.ensures ∙ ap (λ z. to_z w64 (of_z w64 c.args.k) *ℤ z) first_cost in
    let cast = wide c.scaled.result MAX_CORNER enough (lit< tt) in
    let last = c.set_point.ensures.last in
    let point = c.set_point.ensures.point in
    let least = outputs-within points 0 c.requires.curve.lawful c.requires.curve.lawful.some in
    record {
      hull = hull-begun points (to_z w64 (of_z w64 c.args.k)) f c.scaled.result c.requires.curve.lawful.some value enough
          (ap (λ (h : Steps). h.first) point) (ap (λ (h : Steps). h.value) point ∙ cast) (ap (λ (h : Steps). h.runs) point) last
          (c.set_point.ensures.value ∙ cast);
      within = omega (arith, linear, last, least);
      room = ap (λ (h : Steps). h.room) point;
    }

pub add_segment-requires-clause-more : goal.add_segment-requires-clause-more
add_segment-requires-clause-more c =
    let width = whole_width c.args.points.now c.args.curve.now c.requires.curve in
    before_end c.last.result c.width.result (last_place c.loop-function.function) (greatest_output c.args.points.now) c.last.ensures.value
    (c.width.ensures ∙ width) (omega arith) (let own = c.width.type_inv in omega (arith, ints, own)) c.loop-function-test.true

pub returns-clause-hull : goal.returns-clause-hull
returns-clause-hull c =
    let points = c.args.points.now in
    let f = c.loop-function.function in
    let width = whole_width points c.args.curve.now c.requires.curve in
    let past = at_end c.last.result c.width.result (last_place f) (greatest_output points) c.last.ensures.value (c.width.ensures ∙ width) (omega arith) (let own = c.width.type_inv in omega (arith, ints, own))
    c.loop-function-test.false in
    let scale = narrow c.args.k (10 ^ 9) (scale-size c.args.k c.requires.scale) (lit< tt) in
    hull-whole points c.args.k f c.requires.few (subst (λ z. IsHullTo points z f) scale c.loop-function.invariant.hull)
    (le_antisymm (last_place f) (greatest_output points) c.loop-function.invariant.within past)
