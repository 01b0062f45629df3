-- The run stands in two parts.
use Rattle.std.proofs.Common.{sym, subst, arith}
use Rattle.step_functions.proofs.RunEdits.{halved-runs, halved-by, IsHalved}
use Rattle.step_functions.proofs.edits.halve.Goals as goal

is_halved : (c : goal.After-insert) → IsHalved c.args.runs.now.items c.insert.new.runs.items c.args.number c.args.length
is_halved c =
    let xs = c.args.runs.now.items in
    subst (λ ys. IsHalved xs ys c.args.number c.args.length)
    (sym (halved-by xs c.insert.new.runs.items c.args.number c.args.length c.index-front.result.now c.index_mut.result.now
    (omega (arith, c.args.runs.now.ok.0)) c.index-front.ensures c.index_mut.ensures.value c.insert.ensures.runs))
    (halved-runs xs c.args.number c.args.length (omega (arith, c.args.runs.now.ok.0)) c.requires.some c.requires.rest c.requires.lengths)

pub returns-clause-same : goal.returns-clause-same
returns-clause-same c = (is_halved c).same

pub returns-clause-before : goal.returns-clause-before
returns-clause-before c = (is_halved c).before

pub returns-clause-lengths : goal.returns-clause-lengths
returns-clause-lengths c = (is_halved c).lengths

pub returns-clause-front : goal.returns-clause-front
returns-clause-front c = (is_halved c).front
