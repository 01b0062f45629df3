-- The segment on which the next step lies, to its right end.
use Rattle.std.proofs.Common.{◌≡◌, ℕ, lit<, rules, ◌*◌, ◌^◌, ◌≤◌, sym, ap, subst, ◌∙◌, arith, List, ℤ, pos, ◌+ℤ◌, to_z, of_z, unsigned_abs, Some}
use mir.Val.{SFits}
use Rattle.std.specs.Int.{w64, w128}
use Rattle.std.proofs.lemmas.Int.{ints, to_z-of_z}
use Rattle.cost_curves.proofs.HullValues.{whole_width}
use Rattle.uc_model.specs.Prelude.{output_of}
use Rattle.uc_model.proofs.Common.{linear, narrow}
use Rattle.dual_model.specs.Prelude.{floored_slope}
use Rattle.step_functions.specs.Functions.{Steps, last_place}
use Rattle.uc_model.specs.declared.limits.TheConstants.{MAX_POWER}
use Rattle.hull_function.specs.Hulls.{Point}
use Rattle.hull_function.proofs.HullSteps.{IsEnd, IsNextSegment, end-lawful, end-read, ends-apart, hull-end-size, hull-more, hull-rising, next-is, next-segment, outputs-within, scale-size, slope-is}
use Rattle.hull_function.proofs.hull.add_segment.Goals as goal
use Rattle.hull_function.proofs.hull.add_segment.Goals.{After-run, After-segment, After-slope}

pub segment-requires-clause-high : goal.segment-requires-clause-high
segment-requires-clause-high c = grind (arith, ints, whole_width, c)

pub run-requires-clause-from : goal.run-requires-clause-from
run-requires-clause-from c = c.requires.curve.lawful.each 0 c.requires.curve.lawful.some

-- the segment, the output at its end, and both with the slope
next_of : (c : After-segment) → IsNextSegment c.args.points.now c.args.function.now c.segment.result.0 c.segment.result.1
next_of c =
    next-segment c.args.points.now c.args.k c.args.function.now (to_z w64 (of_z w64 (to_z w64 (of_z w64 c.last-place.result) +ℤ pos 1))) c.segment.result.0 c.segment.result.1
    c.requires.hull (next-is (last_place c.args.function.now) c.last-place.result c.last-place.ensures.value
    (subst (λ z. unsigned_abs z ≤ 10 ^ 18) c.last-place.ensures.value c.last-place.ensures.within)) (c.segment.ensures c.args.points.now c.requires.curve)

read_of : (c : After-run) → IsEnd c.args.points.now c.args.function.now c.segment.result.0 c.segment.result.1 c.run.result
read_of c =
    end-read c.args.points.now c.args.k c.args.function.now c.segment.result.0 c.segment.result.1 c.run.result c.last-place.result c.requires.hull c.last-place.ensures.value
    c.last-place.ensures.within (c.segment.ensures c.args.points.now c.requires.curve) c.run.ensures.value c.run.ensures.size

record IsRunOn (points : List Point) (k : ℤ) (f : Steps) (left right : Point) (count : ℕ) (slope : ℤ) : Type 0 where
  next : IsNextSegment points f left right
  small : unsigned_abs (output_of points next.s.right) ≤ 2 * MAX_POWER
  end : output_of points next.s.right ≡ last_place f +ℤ pos count
  is : slope ≡ floored_slope points k (Some next.s)

run_on : (c : After-slope) → IsRunOn c.args.points.now c.args.k c.args.function.now c.segment.result.0 c.segment.result.1 c.steps_between-length.result (to_z w128 (of_z w128 c.slope.result))
run_on c =
    let points = c.args.points.now in
    let f = c.args.function.now in
    let read = end-read points c.args.k f c.segment.result.0 c.segment.result.1 c.run.result c.last-place.result c.requires.hull c.last-place.ensures.value
    c.last-place.ensures.within (c.segment.ensures points c.requires.curve) c.run.ensures.value c.run.ensures.size in
    let next = read.next in
    let place_is = narrow c.last-place.result (2 * MAX_POWER) (subst (λ z. unsigned_abs z ≤ 2 * MAX_POWER) (sym c.last-place.ensures.value) read.place_size) (lit< tt)
    ∙ c.last-place.ensures.value in
    let run_is = narrow c.run.result (2 * MAX_POWER) read.end_size (lit< tt) in
    let fits : SFits w128 c.slope.result = search rules in
    let scale = narrow c.args.k (10 ^ 9) (scale-size c.args.k c.requires.scale) (lit< tt) in
    record {
      next = next;
      small = subst (λ z. unsigned_abs z ≤ 2 * MAX_POWER) read.end_is read.end_size;
      end = sym (run_is ∙ read.end_is) ∙ c.steps_between-length.ensures ∙ ap (λ z. z +ℤ pos c.steps_between-length.result) place_is;
      is = grind (arith, ints, to_z-of_z, slope-is, c, fits, points, next, scale);
    }

pub run-requires-clause-to : goal.run-requires-clause-to
run-requires-clause-to c =
    let next = next_of (goal.at.run-requires-clause-to c).After-segment in
    end-lawful c.args.points.now next.s.right c.segment.result.1 c.requires.curve.lawful next.on.under.right next.right_is

pub steps_between-length-requires-clause-order : goal.steps_between-length-requires-clause-order
steps_between-length-requires-clause-order c =
    let read = read_of (goal.at.steps_between-length-requires-clause-order c).After-run in
    let order = read.order in
    let place_size = read.place_size in
    let end_size = read.end_size in
    let value = c.last-place.ensures.value in
    omega (arith, ints)

pub steps_between-length-requires-clause-from : goal.steps_between-length-requires-clause-from
steps_between-length-requires-clause-from c =
    let size = (read_of (goal.at.steps_between-length-requires-clause-from c).After-run).place_size in
    let value = c.last-place.ensures.value in
    omega (arith, ints)

pub slope-requires-clause-left : goal.slope-requires-clause-left
slope-requires-clause-left c =
    let next = next_of (goal.at.slope-requires-clause-left c).After-segment in
    end-lawful c.args.points.now next.s.left c.segment.result.0 c.requires.curve.lawful next.on.under.left next.left_is

pub slope-requires-clause-right : goal.slope-requires-clause-right
slope-requires-clause-right c =
    let next = next_of (goal.at.slope-requires-clause-right c).After-segment in
    end-lawful c.args.points.now next.s.right c.segment.result.1 c.requires.curve.lawful next.on.under.right next.right_is

pub slope-requires-clause-order : goal.slope-requires-clause-order
slope-requires-clause-order c =
    let next = next_of (goal.at.slope-requires-clause-order c).After-segment in
    ends-apart c.args.points.now next.s c.segment.result.0 c.segment.result.1 next.on.under next.left_is next.right_is

pub extend-requires-clause-length : goal.extend-requires-clause-length
extend-requires-clause-length c =
    let is = run_on (goal.at.extend-requires-clause-length c).After-slope in
    let end = is.end in
    let reaches = is.next.on.reaches in
    let here = is.next.at in
    omega (arith, linear, end, reaches, here)

pub extend-requires-clause-rising : goal.extend-requires-clause-rising
extend-requires-clause-rising c =
    let f = c.args.function.now in
    let is = run_on (goal.at.extend-requires-clause-rising c).After-slope in
    let next = is.next in
    hull-rising c.args.points.now c.args.k c.requires.curve.lawful c.requires.scale next.s next.x next.on f f c.steps_between-length.result (to_z w128 (of_z w128 c.slope.result))
    next.at is.is is.end c.requires.hull

pub extend-requires-clause-place : goal.extend-requires-clause-place
extend-requires-clause-place c =
    let is = run_on (goal.at.extend-requires-clause-place c).After-slope in
    subst (λ z. unsigned_abs z ≤ 10 ^ 18) is.end (let size = is.small in omega (arith, size))

pub extend-requires-clause-size : goal.extend-requires-clause-size
extend-requires-clause-size c =
    let f = c.args.function.now in
    let is = run_on (goal.at.extend-requires-clause-size c).After-slope in
    let next = is.next in
    let size = hull-end-size c.args.points.now c.args.k c.requires.curve.lawful c.requires.scale next.s next.x next.on f f c.steps_between-length.result
    (to_z w128 (of_z w128 c.slope.result)) next.at is.is is.end c.requires.hull c.steps_between-length.result (omega arith) in
    let pieces = c.requires.hull.pieces in
    let within = c.requires.hull.within in
    let few = c.requires.few in
    omega (arith, size, pieces, within, few)

pub returns-clause-hull : goal.returns-clause-hull
returns-clause-hull c =
    let is = run_on (goal.at.returns-clause-hull c).After-slope in
    let next = is.next in
    hull-more c.args.points.now c.args.k c.requires.curve.lawful c.requires.scale next.s next.x next.on c.args.function.now c.extend.new.self c.steps_between-length.result
    (to_z w128 (of_z w128 c.slope.result)) next.at is.is is.end c.requires.hull
    (record {
      first = c.extend.ensures.first;
      last = c.extend.ensures.last;
      before = c.extend.ensures.before;
      after = c.extend.ensures.after;
      value = c.extend.ensures.value;
      old_steps = c.extend.ensures.old_steps;
      new_steps = c.extend.ensures.new_steps;
      runs = c.extend.ensures.runs;
    })

pub returns-clause-within : goal.returns-clause-within
returns-clause-within c =
    let is = run_on (goal.at.returns-clause-within c).After-slope in
    let most = outputs-within c.args.points.now is.next.s.right c.requires.curve.lawful is.next.on.under.right in
    let end = is.end in
    let last = c.extend.ensures.last in
    omega (arith, linear, last, end, most)
