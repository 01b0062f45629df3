-- Between the run and the one where it ends, each run is steeper.
use Rattle.std.proofs.Common.{◌≡◌, ◌+◌, ◌-◌, ◌<◌, ◌^◌, ◌++◌, All, length, take, drop, ap, sym, subst, arith, to_z, of_z, unsigned_abs}
use Rattle.std.specs.Int.{w128}
use Rattle.std.proofs.lemmas.Int.{to_z-of_z}
use borrow.Rule.Slice.PartMut.{post_of}
use Rattle.step_functions.specs.Runs.{steps_of}
use Rattle.step_functions.specs.inside.Edits.{IsSteeper}
use Rattle.step_functions.proofs.RunParts.{part-sizes, part_of, written, steeper_part, steeper-part, steeper-same, steps-part, steps-take-steeper, have_steps-steeper}
use Rattle.step_functions.proofs.edits.add_run.Goals as goal

pub steepen-requires : goal.steepen-requires
steepen-requires c =
    let runs = c.divide-end.new.runs.items in
    subst (λ ys. All (λ run. unsigned_abs run.slope + unsigned_abs (to_z w128 (of_z w128 c.args.added.slope)) < 2 ^ 127) (part_of ys c.args.from c.divide-end.result))
    (sym c.deref_mut.ensures.value)
    (part-sizes c.args.runs.now.items runs c.args.from c.divide-end.result c.args.added.length c.args.added.slope c.divide-end.ensures.after
    (omega (arith, c.divide-end.new.runs.ok.0, c.args.runs.now.ok.0)) c.divide-end.ensures.lengths c.divide-end.ensures.same c.divide-end.ensures.front c.divide-end.ensures.begins
    c.requires.sizes)

-- what is left, the slope written as its bits or not
left : (c : goal.After-runs-1)
    → (let ys = c.deref_mut.result.now in let all = take c.args.from ys ++ (c.steepen.new.runs ++ post_of c.args.from (c.divide-end.result - c.args.from) ys) in
    take c.divide-end.new.runs.len (all ++ drop (length all) c.divide-end.new.runs.items))
    ≡ steeper_part c.divide-end.new.runs.items c.args.from c.divide-end.result c.args.added.slope
left c = grind (arith, written, to_z-of_z, part_of)

pub returns-clause-begins : goal.returns-clause-begins
returns-clause-begins c = grind (arith, left, steps-take-steeper, c)

pub returns-clause-steeper : goal.returns-clause-steeper
returns-clause-steeper c =
    let old = c.args.runs.now.items in
    let runs = c.divide-end.new.runs.items in
    let from = c.args.from in
    let end = c.divide-end.result in
    let slope = c.args.added.slope in
    let front = ap steps_of c.divide-end.ensures.front in
    let count : steps_of (part_of runs from end) ≡ c.args.added.length = omega (arith, steps-part runs from end c.divide-end.ensures.after, c.divide-end.ensures.begins) in
    subst (λ ys. IsSteeper old ys (steps_of (take from old)) c.args.added.length slope) (sym (left c))
    (steeper-same old runs (steeper_part runs from end slope) (steps_of (take from old)) c.args.added.length slope c.divide-end.ensures.same
    (subst (λ n. IsSteeper runs (steeper_part runs from end slope) (steps_of (take from old)) n slope) count
    (subst (λ n. IsSteeper runs (steeper_part runs from end slope) n (steps_of (part_of runs from end)) slope) front
    (steeper-part runs from end slope c.divide-end.ensures.after))))

pub returns-clause-lengths : goal.returns-clause-lengths
returns-clause-lengths c = grind (arith, left, have_steps-steeper, c)
