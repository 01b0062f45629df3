-- The others from the run on in which the first step lies.
use Rattle.std.proofs.Common.{subst, arith}
use Rattle.std.proofs.lemmas.List.{take_rest}
use Rattle.step_functions.specs.inside.Edits.{AreAdded}
use Rattle.step_functions.proofs.RunSteps.{steps-take-drop}
use Rattle.step_functions.proofs.RunSums.{added-behind, small-behind}
use Rattle.step_functions.proofs.edits.add_runs.Goals as goal

pub add_from-requires-clause-within : goal.add_from-requires-clause-within
add_from-requires-clause-within c = grind (arith, take_rest, steps-take-drop, c)

pub add_from-requires-clause-fits : goal.add_from-requires-clause-fits
add_from-requires-clause-fits c = grind (arith, take_rest, steps-take-drop, c)

pub add_from-requires-clause-other_sizes : goal.add_from-requires-clause-other_sizes
add_from-requires-clause-other_sizes c = grind (arith, take_rest, small-behind, c)

pub returns-clause-added : goal.returns-clause-added
returns-clause-added c =
    let others = c.args.others.now in
    let run = c.place_of-place.result.run in
    let offset = c.place_of-place.result.offset in
    added-behind c.args.runs.now.items others c.add_from.new.runs.items c.args.skipped run offset c.place_of-place.ensures.before
    (subst (λ xs. AreAdded c.args.runs.now.items xs c.add_from.new.runs.items offset) (take_rest others run) c.add_from.ensures.added)
