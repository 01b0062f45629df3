-- The step's run is so many runs behind the first of those.
use Rattle.std.proofs.Common.{◌≡◌, ℕ, ◌+◌, ◌-◌, List, length, take, drop, sym, ap, ◌∙◌, arith}
use Rattle.std.proofs.lemmas.List.{take_rest, take-take}
use Rattle.step_functions.specs.Runs.{Run, steps_of}
use Rattle.step_functions.specs.inside.Places.{Place, IsPlaceOf}
use Rattle.step_functions.proofs.RunSteps.{steps-take-add}
use Rattle.step_functions.proofs.edits.divide.Goals as goal

-- the place among the runs from there on, which are a slice
part : (from step : ℕ) (xs ys : List Run) (place : Place) → ys ≡ xs → IsPlaceOf (take (length ys - from) (drop from ys)) step place
    → steps_of (take from xs) + step ≡ steps_of (take (from + place.run) xs) + place.offset
part from step xs ys place same h = grind (arith, take_rest, steps-take-add, same, h)

pub returns-then-place-eq0-clause-begins : goal.returns-then-place-eq0-clause-begins
returns-then-place-eq0-clause-begins c = grind (arith, part, c)

pub returns-clause-begins : goal.returns-clause-begins
returns-clause-begins c = grind (arith, part, c)

pub returns-clause-front : goal.returns-clause-front
returns-clause-front c =
    let xs = c.args.runs.now.items in
    let ys = c.halve.new.runs.items in
    let from = c.args.from in
    let number = from + c.place_of-place.result.run in
    sym (take-take from number ys (omega arith)) ∙ ap (take from) c.halve.ensures.front ∙ take-take from number xs (omega arith)
