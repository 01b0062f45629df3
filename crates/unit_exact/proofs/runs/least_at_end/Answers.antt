-- By whether the run ends in the horizon.
use Rattle.std.proofs.Common.{◌≡◌, lit<, suc, ◌^◌, sym, ap, ◌∙◌, arith, pos, ◌-ℤ◌, neg_ℤ, to_z, of_z, nat_lt}
use Rattle.std.specs.Int.{w64}
use Rattle.std.proofs.lemmas.Int.{ints}
use Rattle.std.proofs.lemmas.Bool.{cond-true, cond-false, lt-ltb, le-ltb}
use Rattle.uc_model.proofs.Common.{narrow}
use Rattle.dual_model.specs.Prelude.{greatest_output}
use Rattle.hull_function.specs.Problems.{MAX_POWER}
use Rattle.unit_runs.specs.CostThrough.{least_between}
use Rattle.unit_exact.proofs.runs.least_at_end.Goals as goal

pub returns-then-t-problem-clause-least : goal.returns-then-t-problem-clause-least
returns-then-t-problem-clause-least c =
    let p = c.args.problem.now in
    let unit = p.unit.now in
    let lawful = c.requires.lawful.unit_is in
    let low : to_z w64 (of_z w64 (pos 0 -ℤ to_z w64 (of_z w64 unit.ru))) ≡ neg_ℤ unit.ru = (let size = lawful.ramp_up.power in omega (arith, ints)) in
    let high = narrow unit.rd MAX_POWER lawful.ramp_down.power (lit< tt) in
    let inside = lt-ltb (suc c.args.t) p.periods (omega (arith, c.if-t-problem.true)) in
    λ cost is. c.least_between.ensures.least cost is
    ∙ (λ i. least_between (low i) (high i) cost)
    ∙ sym (cond-true (nat_lt (suc c.args.t) p.periods) (least_between (neg_ℤ unit.ru) unit.rd cost) (least_between (pos 0) (greatest_output unit.points) cost) inside)

pub returns-else-t-problem-clause-least : goal.returns-else-t-problem-clause-least
returns-else-t-problem-clause-least c =
    let p = c.args.problem.now in
    let unit = p.unit.now in
    let high = narrow c.last.result (10 ^ 18) c.last.ensures.within (lit< tt) ∙ c.last.ensures.value ∙ c.requires.hull.function.last in
    let past = le-ltb (suc c.args.t) p.periods (omega (arith, c.if-t-problem.false)) in
    λ cost is. c.least_between-else-t-problem.ensures.least cost is
    ∙ ap (λ z. least_between (pos 0) z cost) high
    ∙ sym (cond-false (nat_lt (suc c.args.t) p.periods) (least_between (neg_ℤ unit.ru) unit.rd cost) (least_between (pos 0) (greatest_output unit.points) cost) past)
