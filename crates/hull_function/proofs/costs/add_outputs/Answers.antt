-- The outputs that the hour may have, with what they cost.
use Rattle.std.proofs.Common.{◌≡◌, ℕ, ◌≤◌, Bool, true, sym, subst, arith, ℤ, pos, ◌≤ℤ◌, to_z, of_z, unsigned_abs}
use Rattle.std.specs.Int.{w64, int_max, int_min}
use Rattle.std.proofs.lemmas.Int.{ints, clamps}
use Rattle.step_functions.specs.Functions.{Steps, last_place}
use Rattle.hull_function.specs.Hours.{Hour, IsSizedHour, MAX_RUN}
use Rattle.hull_function.specs.Hulls.{IsBounded, IsHullFunction}
use Rattle.hull_function.proofs.HourSums.{near-hull, output-bounded}
use Rattle.hull_function.proofs.Represented.{IsCut, SamePlaces, none-left, outputs-left, place_from, uncut-place}
use Rattle.hull_function.proofs.costs.add_outputs.Goals as goal
use Rattle.hull_function.proofs.costs.add_outputs.Goals.{After-add_output, After-cut}

-- the hour's limit as its bits
limit : (hour : Hour) (hull : Steps) (last least : ℤ) → IsSizedHour hour → IsHullFunction hull → last ≡ last_place hull
    → least ≡ int_min (to_z w64 (of_z w64 hour.cap)) (to_z w64 (of_z w64 last)) → to_z w64 (of_z w64 least) ≡ int_min hour.cap (last_place hull)
limit hour hull last least sized is = grind (arith, ints, sized, is)

-- what is cut, where it ends, and how large it is
cut_is : (c : After-cut) → IsCut c.args.function.now c.cut.new.self (pos 0) (int_min c.args.hour.now.cap (last_place c.args.hull.now)) c.cut.result
cut_is c =
    subst (λ z. IsCut c.args.function.now c.cut.new.self (pos 0) z c.cut.result)
    (limit c.args.hour.now c.args.hull.now c.last.result c.min.result c.requires.hour c.requires.hull c.last.ensures.value c.min.ensures.value)
    (record { there = c.cut.ensures.some; first = c.cut.ensures.first; last = c.cut.ensures.last; value = c.cut.ensures.value })

low : (a b : ℤ) → b ≡ int_max a (pos 0) → pos 0 ≤ℤ b
low a b e = omega (arith, ints, clamps)

high : (a most w b : ℤ) → b ≡ int_min a (int_min most w) → b ≤ℤ w
high a most w b e = omega (arith, ints, clamps)

added : (c : After-add_output) → SamePlaces c.cut.new.self c.add_output.new.function
added c = record { first = c.add_output.ensures.first; last = c.add_output.ensures.last }

pub cut-requires-clause-high : goal.cut-requires-clause-high
cut-requires-clause-high c = grind (arith, ints, c)

pub returns-then-not-cut-clause-costs : goal.returns-then-not-cut-clause-costs
returns-then-not-cut-clause-costs c = grind (arith, ints, none-left, cut_is, After-cut, c)

pub add_output-requires-clause-low : goal.add_output-requires-clause-low
add_output-requires-clause-low c = low c.args.function.now.first c.cut.new.self.first (c.cut.ensures.first c.if-not-cut.false)

pub add_output-requires-clause-high : goal.add_output-requires-clause-high
add_output-requires-clause-high c =
    high (last_place c.args.function.now) c.args.hour.now.cap (last_place c.args.hull.now) (last_place c.cut.new.self)
    ((cut_is (goal.at.add_output-requires-clause-high c).After-cut).last c.if-not-cut.false)

-- a cut leaves values as they are
cut_small : (f g : Steps) (low high : ℤ) (some : Bool) (size : ℕ) → IsCut f g low high some → some ≡ true → IsBounded f size → IsBounded g size
cut_small f g low high some size cut live small p place =
    let left = uncut-place f g low high some cut p live place in
    subst (λ z. unsigned_abs z ≤ size) (sym (cut.value live p place)) (small p left.place)

pub add_output-requires-clause-size : goal.add_output-requires-clause-size
add_output-requires-clause-size c =
    cut_small c.args.function.now c.cut.new.self (pos 0) _ c.cut.result MAX_RUN (cut_is (goal.at.add_output-requires-clause-size c).After-cut) c.if-not-cut.false c.requires.size

pub returns-clause-costs : goal.returns-clause-costs
returns-clause-costs c = λ table unit t others is_hull at is.
    let here = goal.at.returns-clause-costs c in
    outputs-left table unit t c.args.hull.now c.args.hour.now is_hull at c.args.function.now c.cut.new.self c.cut.result others is
    (cut_is here.After-cut) c.if-not-cut.false c.add_output.new.function (added here.After-add_output) c.add_output.ensures.value

pub returns-clause-size : goal.returns-clause-size
returns-clause-size c = λ size small live.
    let here = goal.at.returns-clause-size c in
    output-bounded c.args.hour.now c.requires.hour c.cut.new.self c.args.hull.now c.requires.hull
    (low c.args.function.now.first c.cut.new.self.first (c.cut.ensures.first c.if-not-cut.false))
    (high (last_place c.args.function.now) c.args.hour.now.cap (last_place c.args.hull.now) (last_place c.cut.new.self) ((cut_is here.After-cut).last c.if-not-cut.false))
    c.add_output.new.function size (added here.After-add_output) c.add_output.ensures.value
    (cut_small c.args.function.now c.cut.new.self (pos 0) _ c.cut.result size (cut_is here.After-cut) c.if-not-cut.false small)

pub returns-clause-near : goal.returns-clause-near
returns-clause-near c = λ live p place.
    let here = goal.at.returns-clause-near c in
    near-hull c.args.hour.now c.requires.hour c.cut.new.self c.args.hull.now c.requires.hull
    (low c.args.function.now.first c.cut.new.self.first (c.cut.ensures.first c.if-not-cut.false))
    (high (last_place c.args.function.now) c.args.hour.now.cap (last_place c.args.hull.now) (last_place c.cut.new.self) ((cut_is here.After-cut).last c.if-not-cut.false)) p
    (place_from c.cut.new.self c.add_output.new.function p (added here.After-add_output) place)
