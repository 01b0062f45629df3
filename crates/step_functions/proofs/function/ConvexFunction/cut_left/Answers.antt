-- The steps behind are kept, from the value there on.
use Rattle.std.proofs.Common.{◌≡◌, sym, ap, subst, ◌∙◌, arith, to_z, of_z, vec_capacity}
use Rattle.std.specs.Int.{w64, w128}
use Rattle.std.proofs.lemmas.Int.{ints}
use Rattle.step_functions.specs.contracts.function.ConvexFunction.{the_view}
use Rattle.step_functions.specs.Functions.{Steps, last_place}
use Rattle.step_functions.specs.inside.Kept.{IsKept}
use Rattle.step_functions.proofs.Cuts.{IsCutLeft, cut_left, left-last, left-made, left-kept, told-same}
use Rattle.step_functions.proofs.function.ConvexFunction.cut_left.Goals as goal
use Rattle.step_functions.proofs.function.ConvexFunction.cut_left.Goals.{After-remove_first}

-- what is cut, and what is left
cut : (c : After-remove_first)
    → IsCutLeft (the_view c.self.inside) c.divide-count.new.runs.items c.divide-count.result c.steps_to-skipped.result (to_z w64 (of_z w64 c.args.low))
    (to_z w128 (of_z w128 c.height-self-inside.result))
cut c = grind (arith, ints)

abbrev left : After-remove_first → Steps
left c =
    cut_left (the_view c.self.inside) c.divide-count.new.runs.items c.divide-count.result (to_z w64 (of_z w64 c.args.low)) (to_z w128 (of_z w128 c.height-self-inside.result))
    (vec_capacity c.remove_first.new.runs)

written : (c : After-remove_first) → record (left c) { runs = c.remove_first.new.runs.items } ≡ left c
written c = ap (λ xs. record (left c) { runs = xs }) c.remove_first.ensures.runs

pub invariant_of-self : goal.invariant_of-self
invariant_of-self c =
    let at = (goal.at.invariant_of-self c).After-remove_first in
    subst IsKept (sym (written at)) (left-kept (the_view c.self.inside) c.divide-count.new.runs.items c.divide-count.result _ _ _ _ (cut at) c.self.invariant)

pub returns-clause-value : goal.returns-clause-value
returns-clause-value c =
    let at = (goal.at.returns-clause-value c).After-remove_first in
    told-same (the_view c.self.inside) (left at) c.args.self.now _ c.steps_to-skipped.result c.self.view_is (written at)
    (left-made (the_view c.self.inside) c.divide-count.new.runs.items c.divide-count.result _ _ _ _ (cut at))

pub returns-clause-last : goal.returns-clause-last
returns-clause-last c =
    let at = (goal.at.returns-clause-last c).After-remove_first in
    ap (λ (h : Steps). last_place h) (written at)
    ∙ left-last (the_view c.self.inside) c.divide-count.new.runs.items c.divide-count.result _ _ _ (vec_capacity c.remove_first.new.runs) (cut at)
    ∙ ap (λ (h : Steps). last_place h) c.self.view_is
