-- One term; or the first one, what lies between, and the last one.
use Rattle.std.proofs.Common.{◌≡◌, ◌+◌, ◌-◌, ◌*◌, add-one, subst, ◌∙◌, lit<, arith, ◌+ℤ◌, to_z, of_z}
use Rattle.std.specs.Int.{w128}
use Rattle.uc_model.specs.Prelude.{sum_below}
use Rattle.uc_model.proofs.Common.{sum-is, sum-size}
use Rattle.uc_model.proofs.Sizes.{wide}
use Rattle.interval_graph.specs.Intervals.{AreTermRows, MAX_INTERVAL, MAX_TERM}
use Rattle.interval_graph.specs.RunningSums.{full_value}
use Rattle.interval_graph.proofs.IntervalCosts.{one-there, several, IsCost}
use Rattle.interval_graph.proofs.intervals.Intervals.cost.Goals as goal

pub returns-then-a-b-clause-terms : goal.returns-then-a-b-clause-terms
returns-then-a-b-clause-terms c = one-there c.args.self.now c.args.a c.args.b c.term.result c.if-a-b.true c.term.ensures.value

-- the sum of the three
in_parts : (c : goal.After-sum) → IsCost c.args.self.now c.args.a c.args.b (to_z w128 (of_z w128 c.sum.result))
in_parts c =
    let first = c.in-Some.first in
    let middle = c.between-middle.result in
    let last = c.in-Some-term.last in
    let front-size = sum-size first middle c.sum-front.result MAX_TERM (2 * MAX_INTERVAL) c.sum-front.ensures c.in-Some.ensures.size c.between-middle.ensures.size in
    let front-is = sum-is first middle c.sum-front.result MAX_TERM (2 * MAX_INTERVAL) c.sum-front.ensures c.in-Some.ensures.size c.between-middle.ensures.size (lit< tt) in
    let size = sum-size c.sum-front.result last c.sum.result (MAX_TERM + 2 * MAX_INTERVAL) MAX_TERM c.sum.ensures front-size c.in-Some-term.ensures.size in
    let is = sum-is c.sum-front.result last c.sum.result (MAX_TERM + 2 * MAX_INTERVAL) MAX_TERM c.sum.ensures front-size c.in-Some-term.ensures.size (lit< tt) in
    several c.args.self.now c.args.a c.args.b first middle last (to_z w128 (of_z w128 c.sum.result)) (omega (arith, c.if-a-b.false)) c.requires.within
    (subst AreTermRows c.self.view_is c.self.invariant.0)
    (c.in-Some.ensures.value) (c.in-Some-term.ensures.value)
    (subst (λ n. middle ≡ sum_below (c.args.b - n) (λ k. full_value c.args.self.now (n + k))) (add-one c.args.a) c.between-middle.ensures.value)
    (wide c.sum.result (MAX_TERM + 2 * MAX_INTERVAL + MAX_TERM) size (lit< tt) ∙ is ∙ (λ i. front-is i +ℤ last))

pub returns-clause-cost : goal.returns-clause-cost
returns-clause-cost c = (in_parts c).is

pub returns-clause-terms : goal.returns-clause-terms
returns-clause-terms c = (in_parts c).terms

pub returns-clause-size : goal.returns-clause-size
returns-clause-size c = (in_parts c).size
