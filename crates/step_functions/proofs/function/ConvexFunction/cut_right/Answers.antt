-- The steps in front are kept.
use Rattle.std.proofs.Common.{◌≡◌, sym, ap, subst, arith, vec_capacity}
use Rattle.step_functions.specs.contracts.function.ConvexFunction.{the_view}
use Rattle.step_functions.specs.Functions.{Steps}
use Rattle.step_functions.specs.inside.Kept.{IsKept}
use Rattle.step_functions.proofs.Cuts.{IsCutRight, cut_right, right-made, right-kept, told-same}
use Rattle.step_functions.proofs.function.ConvexFunction.cut_right.Goals as goal
use Rattle.step_functions.proofs.function.ConvexFunction.cut_right.Goals.{After-truncate}

-- what is cut, and what is left
cut : (c : After-truncate) → IsCutRight (the_view c.self.inside) c.divide-count.new.runs.items c.divide-count.result c.steps_to-kept.result
cut c = record { same = c.divide-count.ensures.same; lengths = c.divide-count.ensures.lengths; begins = omega (arith, c.divide-count.ensures.begins) }

abbrev left : After-truncate → Steps
left c = cut_right (the_view c.self.inside) c.divide-count.new.runs.items c.divide-count.result (vec_capacity c.truncate.new.self)

written : (c : After-truncate) → record (left c) { runs = c.truncate.new.self.items } ≡ left c
written c = ap (λ xs. record (left c) { runs = xs }) c.truncate.ensures.items

pub invariant_of-self : goal.invariant_of-self
invariant_of-self c =
    let at = (goal.at.invariant_of-self c).After-truncate in
    subst IsKept (sym (written at)) (right-kept (the_view c.self.inside) c.divide-count.new.runs.items c.divide-count.result _ _ (cut at) c.self.invariant)

pub returns-clause-value : goal.returns-clause-value
returns-clause-value c =
    let at = (goal.at.returns-clause-value c).After-truncate in
    told-same (the_view c.self.inside) (left at) c.args.self.now _ 0 c.self.view_is (written at)
    (right-made (the_view c.self.inside) c.divide-count.new.runs.items c.divide-count.result _ _ (cut at))
