-- A level run is longer, or a new one stands in front.
use Rattle.std.proofs.Common.{◌≡◌, ◌<◌, ℤ, pos, length, arith, rules, sym, ap, ◌∙◌}
use mir.Val.{SFits}
use Rattle.std.specs.Int.{w128}
use Rattle.std.proofs.lemmas.Int.{ints}
use Rattle.std.proofs.lemmas.List.{get_or_read}
use Rattle.step_functions.specs.Runs.{Run}
use Rattle.step_functions.proofs.RunEdits.{levelled-set, levelled-put, have_steps-put}
use Rattle.step_functions.proofs.edits.insert_level.Goals as goal

pub returns-then-index-eq0-clause-level : goal.returns-then-index-eq0-clause-level
returns-then-index-eq0-clause-level c =
    let fits : SFits w128 c.index.result.now.slope = search rules in
    let zero : c.index.result.now.slope ≡ pos 0 = omega (arith, ints) in
    let xs = c.args.runs.now.items in
    let n = c.args.number in
    let d : Run = record { length = 0; slope = pos 0 } in
    let within : n < length xs = omega (arith, c.args.runs.now.ok.0) in
    let left = get_or_read xs n c.index_mut.result.now within c.index_mut.ensures.value d in
    let right = get_or_read xs n c.index.result.now within c.index.ensures d in
    let slope_of : Run → ℤ = λ run. run.slope in
    levelled-set xs n c.args.length c.index_mut.result.now within c.index_mut.ensures.value (ap slope_of (left ∙ sym right) ∙ zero)

pub returns-else-number-len-clause-level : goal.returns-else-number-len-clause-level
returns-else-number-len-clause-level c = levelled-put c.args.runs.now.items c.insert.new.runs.items c.args.number c.args.length c.insert.ensures.runs

pub returns-else-number-len-clause-lengths : goal.returns-else-number-len-clause-lengths
returns-else-number-len-clause-lengths c = grind (arith, ints, have_steps-put, c)
