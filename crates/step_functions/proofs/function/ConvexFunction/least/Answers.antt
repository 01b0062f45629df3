-- The values fall over the steps below 0, and rise from those below 1 on.
use Rattle.std.proofs.Common.{◌≡◌, sym, ap, ◌∙◌, arith, pos, ◌+ℤ◌, to_z, of_z}
use Rattle.std.specs.Int.{w64, w128}
use Rattle.std.proofs.lemmas.Int.{ints}
use Rattle.step_functions.specs.Runs.{steps_of}
use Rattle.step_functions.specs.Functions.{Steps}
use Rattle.step_functions.specs.inside.Kept.{height}
use Rattle.step_functions.specs.inside.Edits.{AreBelow}
use Rattle.step_functions.proofs.Bottoms.{bottom-least, bottom-flat}
use Rattle.step_functions.proofs.Values.{value_at-place}
use Rattle.step_functions.proofs.function.ConvexFunction.least.Goals as goal

falling : (c : goal.After-result-2-1) → AreBelow c.args.self.now.runs (pos 0) c.steps_below-falling.result
falling c = grind (arith, ints)

level : (c : goal.After-result-2-1) → AreBelow c.args.self.now.runs (pos 1) c.steps_below-level.result
level c = grind (arith, ints)

value_is : (c : goal.After-result-2-1) → to_z w128 (of_z w128 c.height.result) ≡ height c.args.self.now.value c.args.self.now.runs c.steps_below-falling.result
value_is c = grind (arith, ints)

pub returns-clause-reached : goal.returns-clause-reached
returns-clause-reached c =
    let same = ap (λ (f : Steps). f.first) c.self.view_is in
    let count = ap (λ (f : Steps). steps_of f.runs) c.self.view_is in
    let within = (falling c).within in
    let low = c.self.invariant.first in
    let high = c.self.invariant.last in
    value_at-place c.args.self.now (to_z w64 (of_z w64 (to_z w64 (of_z w64 c.self.inside.first) +ℤ to_z w64 c.steps_below-falling.result)))
    c.steps_below-falling.result (omega (arith, ints))
    ∙ sym (value_is c)

pub returns-clause-least : goal.returns-clause-least
returns-clause-least c = bottom-least c.args.self.now c.steps_below-falling.result _ (falling c) (value_is c)

pub returns-clause-flat : goal.returns-clause-flat
returns-clause-flat c =
    let same = ap (λ (f : Steps). f.first) c.self.view_is in
    let count = ap (λ (f : Steps). steps_of f.runs) c.self.view_is in
    let within = (falling c).within in
    let within_level = (level c).within in
    let low = c.self.invariant.first in
    let high = c.self.invariant.last in
    bottom-flat c.args.self.now c.steps_below-falling.result c.steps_below-level.result
    (to_z w128 (of_z w128 c.height.result))
    (to_z w64 (of_z w64 (to_z w64 (of_z w64 c.self.inside.first) +ℤ to_z w64 c.steps_below-falling.result)))
    (to_z w64 (of_z w64 (to_z w64 (of_z w64 c.self.inside.first) +ℤ to_z w64 c.steps_below-level.result)))
    (falling c) (level c) (value_is c) (omega (arith, ints)) (omega (arith, ints))
