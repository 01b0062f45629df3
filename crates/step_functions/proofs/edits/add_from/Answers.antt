-- One other more is added.
use Rattle.std.proofs.Common.{◌+◌, ◌<◌, ◌^◌, take, sym, subst, ◌∙◌, arith, rules, unsigned_abs}
use mir.Val.{SFits}
use Rattle.std.specs.Int.{w128}
use Rattle.std.proofs.lemmas.Int.{to_z-of_z}
use Rattle.step_functions.specs.Runs.{run_of, slope_at, steps_of}
use Rattle.step_functions.specs.inside.Edits.{IsSteeper}
use Rattle.step_functions.proofs.RunSums.{added-more, small-slopes, fits-rest}
use Rattle.step_functions.proofs.edits.add_from.Goals as goal

pub loop-other-init : goal.loop-other-init
loop-other-init c = grind (arith, c)

pub add_run-from-requires-clause-within : goal.add_run-from-requires-clause-within
add_run-from-requires-clause-within c =
    let l = c.loop-other in
    let rest = fits-rest c.args.runs.now.items c.args.others.now l.runs.items c.args.used l.used l.from l.rest l.other-index l.invariant.0 in
    omega (arith, c.min-length.ensures)

pub add_run-from-requires-clause-sizes : goal.add_run-from-requires-clause-sizes
add_run-from-requires-clause-sizes c =
    let l = c.loop-other in
    let others = c.args.others.now in
    let fits : SFits w128 (run_of others l.other-index).slope = search rules in
    λ k h. subst (λ s. unsigned_abs (slope_at l.runs.items (steps_of (take l.from l.runs.items) + k)) + unsigned_abs s < 2 ^ 127)
    (sym (to_z-of_z w128 (run_of others l.other-index).slope fits))
    (small-slopes c.args.runs.now.items others l.runs.items c.args.used l.used l.from l.rest l.other-index l.invariant.0 (omega arith)
    c.requires.other_lengths c.requires.sizes c.requires.other_sizes k (omega (arith, c.min-length.ensures)))

pub loop-other-preserved : goal.loop-other-preserved
loop-other-preserved c =
    let l = c.loop-other in
    let others = c.args.others.now in
    let fits : SFits w128 (run_of others l.other-index).slope = search rules in
    let new = c.add_run-from.new.runs in (
      added-more c.args.runs.now.items others l.runs.items new.items c.args.used l.used l.from c.add_run-from.result l.rest l.other-index c.min-length.result
          l.invariant.0 (omega arith) c.requires.other_lengths c.min-length.ensures (omega (arith, new.ok.0, c.add_run-from.ensures.within)) c.add_run-from.ensures.begins
          (subst (λ s. IsSteeper l.runs.items new.items (steps_of (take l.from l.runs.items)) c.min-length.result s) (to_z-of_z w128 (run_of others l.other-index).slope fits) c.add_run-from.ensures.steeper)
          c.add_run-from.ensures.lengths (omega (arith, new.ok.0, l.runs.ok.0, c.add_run-from.ensures.one)),
      c.add_run-from.ensures.capacity ∙ l.invariant.1,
    )
