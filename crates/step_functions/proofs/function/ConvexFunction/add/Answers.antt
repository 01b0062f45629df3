-- Cut to the places of both, it has only places of the other one.
use Rattle.std.proofs.Common.{sym, ap, subst, ◌∙◌, arith, ◌+ℤ◌, IsTrue}
use Rattle.std.proofs.lemmas.Int.{ints, clamps}
use Rattle.step_functions.specs.Functions.{IsPlace, IsSmall, value_at}
use Rattle.step_functions.proofs.function.ConvexFunction.add.Goals as goal
use Rattle.step_functions.proofs.function.ConvexFunction.add.Goals.{After-cut}

some : (c : After-cut) → IsTrue c.cut.result
some c =
    let after = c.requires.after in
    let before = c.requires.before in
    c.cut.ensures.some.1 (omega (arith, ints), omega (arith, ints), omega (arith, ints))

pub add_within-requires-clause-after : goal.add_within-requires-clause-after
add_within-requires-clause-after c =
    let first = c.cut.ensures.first (some (goal.at.add_within-requires-clause-after c).After-cut) in
    omega (arith, ints, clamps)

pub add_within-requires-clause-before : goal.add_within-requires-clause-before
add_within-requires-clause-before c =
    let last = c.cut.ensures.last (some (goal.at.add_within-requires-clause-before c).After-cut) in
    omega (arith, ints, clamps)

pub add_within-requires-clause-size : goal.add_within-requires-clause-size
add_within-requires-clause-size c = λ p at.
    let low = at.low in
    let high = at.high in
    let there = some (goal.at.add_within-requires-clause-size c).After-cut in
    let first = c.cut.ensures.first there in
    let last = c.cut.ensures.last there in
    let own : IsPlace c.args.self.now p = record { low = omega (arith, ints, clamps); high = omega (arith, ints, clamps) } in
    let others : IsPlace c.args.other.now p = record { low = omega (arith, ints, clamps); high = omega (arith, ints, clamps) } in
    subst (λ x. IsSmall (x +ℤ value_at c.args.other.now p)) (sym (c.cut.ensures.value there p at)) (c.requires.size p own others)

pub returns-clause-first : goal.returns-clause-first
returns-clause-first c =
    let first = c.cut.ensures.first (some (goal.at.returns-clause-first c).After-cut) in
    omega (arith, ints, clamps)

pub returns-clause-last : goal.returns-clause-last
returns-clause-last c =
    let last = c.cut.ensures.last (some (goal.at.returns-clause-last c).After-cut) in
    omega (arith, ints, clamps)

pub returns-clause-value : goal.returns-clause-value
returns-clause-value c = λ p at.
    let low = at.low in
    let high = at.high in
    let there = some (goal.at.returns-clause-value c).After-cut in
    let mid : IsPlace c.cut.new.self p = record { low = omega (arith, ints); high = omega (arith, ints) } in
    c.add_within.ensures.value p at ∙ ap (λ x. x +ℤ value_at c.args.other.now p) (c.cut.ensures.value there p mid)
