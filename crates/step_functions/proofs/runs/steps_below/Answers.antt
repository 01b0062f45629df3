-- The runs in front hold the steps in front.
use Rattle.std.proofs.Common.{take, sym, subst, to_z, of_z}
use Rattle.std.specs.Int.{w128}
use Rattle.std.proofs.lemmas.Int.{to_z-of_z}
use Rattle.step_functions.specs.Runs.{steps_of}
use Rattle.step_functions.specs.inside.Edits.{AreBelow}
use Rattle.step_functions.proofs.RisingRuns.{runs-below}
use Rattle.step_functions.proofs.runs.steps_below.Goals as goal

pub returns : goal.returns
returns c =
    let runs = c.args.runs.now in
    let same = to_z-of_z w128 c.args.slope c.ranges.slope in
    subst (AreBelow runs c.args.slope) (sym c.steps.ensures)
    (subst (λ s. AreBelow runs s (steps_of (take c.runs_below.result runs))) same
    (runs-below runs c.runs_below.result (to_z w128 (of_z w128 c.args.slope)) c.requires.lengths c.requires.rising c.runs_below.ensures.within c.runs_below.ensures.below c.runs_below.ensures.next))
