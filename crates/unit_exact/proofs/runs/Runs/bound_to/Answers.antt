-- The hull's least beside the price, and the least of the hours before.
use Rattle.std.proofs.Common.{◌≡◌, ℕ, suc, ◌-◌, ◌*◌, ◌≤◌, ap, subst, ◌∙◌, arith, ℤ, ◌+ℤ◌, ◌-ℤ◌, ◌*ℤ◌, ◌≤ℤ◌, refl, to_z, of_z, unsigned_abs}
use Rattle.std.specs.Int.{w64, w128}
use Rattle.std.proofs.lemmas.Int.{ints}
use Rattle.uc_model.proofs.Common.{linear}
use Rattle.step_functions.specs.Functions.{Steps, IsPlace, value_at}
use Rattle.unit_runs.specs.CostThrough.{cost_through}
use Rattle.unit_exact.specs.inside.Problems.{MAX_SWITCH}
use Rattle.hull_function.proofs.HullFunction.{hull-function}
use Rattle.hull_function.specs.Hulls.{IsBounded, IsHullFunction}
use Rattle.hull_function.specs.Hours.{IsCostsOf, MAX_HOUR}
use Rattle.hull_function.specs.Problems.{MAX_POWER, MAX_PRICE}
use Rattle.unit_exact.proofs.RunBounds.{run-bound}
use Rattle.unit_exact.proofs.RunSteps.{hours-size}
use Rattle.unit_exact.proofs.runs.Runs.bound_to.Goals as goal

pub cost-requires-clause-hull : goal.cost-requires-clause-hull
cost-requires-clause-hull c =
    let p = c.args.problem.now in
    hull-function p.unit.now p.table.now.k p.hull.now c.requires.lawful.unit_is c.requires.hull.function

least-size : (f : Steps) (place value : ℤ) (n : ℕ) → IsBounded f n → IsPlace f place → value_at f place ≡ value → n ≤ MAX_SWITCH
    → unsigned_abs value ≤ MAX_SWITCH
least-size f place value n small is e few = grind (arith, ints, small, is, e, few)

pub overflow_add-result : goal.overflow_add-result
overflow_add-result c =
    let p = c.args.problem.now in
    let n = c.args.t - c.args.from in
    let few = hours-size n p.periods (omega arith) c.requires.lawful.periods_are.1 in
    let least = least-size c.args.self.now.living.function c.least.result.first c.least.result.value (MAX_HOUR * n) (c.requires.running.size c.requires.alive)
    c.least.ensures.first c.least.ensures.reached few in
    let own = c.cost.ensures.size in
    let fixed = c.at-last.ensures.sized.fixed in
    omega (arith, ints, least, own, fixed)

-- a place of the hull is a number of 64 bits
own-place : (f : Steps) (place : ℤ) → IsHullFunction f → IsPlace f place → to_z w64 (of_z w64 place) ≡ place
own-place f place is at = grind (arith, ints, is, at)

sum-at_most : (l o f v : ℤ) → unsigned_abs l ≤ MAX_SWITCH → unsigned_abs o ≤ MAX_HOUR → unsigned_abs f ≤ MAX_PRICE * MAX_POWER → (l +ℤ (o +ℤ f)) ≤ℤ v
    → to_z w128 (of_z w128 (to_z w128 (of_z w128 l) +ℤ to_z w128 (of_z w128 (to_z w128 (of_z w128 o) +ℤ to_z w128 (of_z w128 f))))) ≤ℤ v
sum-at_most l o f v h k m total = omega (arith, ints)

pub returns : goal.returns
returns c =
    let p = c.args.problem.now in
    let n = c.args.t - c.args.from in
    let f = c.args.self.now.living.function in
    let hour = c.at-last.result in
    let few = hours-size n p.periods (omega arith) c.requires.lawful.periods_are.1 in
    let least = least-size f c.least.result.first c.least.result.value (MAX_HOUR * n) (c.requires.running.size c.requires.alive)
    c.least.ensures.first c.least.ensures.reached few in
    let own = c.cost.ensures.size in
    let fixed = c.at-last.ensures.sized.fixed in
    let price : to_z w128 (of_z w128 c.from.result) ≡ hour.price = omega (arith, ints) in
    let before = cost_through p.periods p.table.now p.unit.now c.args.from (suc n) n in
    let costs = subst (λ b. IsCostsOf b f before) c.requires.alive c.requires.running.costs in
    λ v e.
    let bound = run-bound p.table.now p.unit.now c.args.t p.hull.now f hour c.least_place-output.result c.least.result.value c.requires.hull.function
    c.at-last.ensures.at c.at-last.ensures.sized before costs c.least.ensures.least
    (subst (λ z. (q : ℤ) → IsPlace p.hull.now q → (value_at p.hull.now c.least_place-output.result +ℤ z *ℤ c.least_place-output.result) ≤ℤ (value_at p.hull.now q +ℤ z *ℤ q))
    price c.least_place-output.ensures.least)
    p.periods c.args.from v c.requires.order c.at-last.ensures.cap refl e in
    let place = own-place p.hull.now c.least_place-output.result (hull-function p.unit.now p.table.now.k p.hull.now c.requires.lawful.unit_is c.requires.hull.function)
    c.least_place-output.ensures.place in
    let is = c.cost.ensures.value ∙ ap (λ z. value_at p.hull.now z +ℤ hour.price *ℤ z -ℤ hour.worth *ℤ hour.cap) place in
    let total : (c.least.result.value +ℤ (c.cost.result +ℤ hour.fixed)) ≤ℤ v = omega (arith, linear, bound, is) in
    sum-at_most c.least.result.value c.cost.result hour.fixed v least own fixed total
