-- One stop more, or the end of the horizon.
use Rattle.std.proofs.Common.{◌≡◌, add-one, suc, ◌+◌, ◌-◌, true, refl, sym, ap, subst, ◌∙◌, arith, Some, None}
use Rattle.unit_runs.specs.CostThrough.{run_cost}
use Rattle.unit_runs.specs.RunsToGo.{may_stay, run_from, run_until}
use Rattle.unit_exact.specs.inside.Choices.{choice_cost, IsCostBelow, IsOneOf}
use Rattle.unit_exact.specs.inside.Running.{IsRunning}
use Rattle.unit_exact.specs.inside.Switches.{AreSwitches, IsBestTo, entry_in}
use Rattle.unit_exact.proofs.BestTo.{best-end, best-last, best-more}
use Rattle.unit_exact.proofs.Sizes.{some-size}
use Rattle.unit_exact.proofs.StopSteps.{run-last, run-until}
use Rattle.unit_exact.proofs.stops.later_stop.Goals as goal

pub stop_total-total-requires-clause-entry : goal.stop_total-total-requires-clause-entry
stop_total-total-requires-clause-entry c =
    let p = c.args.problem.now in
    let t = c.loop-t.t in
    let begun = c.run_begin-from.ensures in
    subst (λ k. AreSwitches p.periods p.table.now p.unit.now p.fix.now (suc t) (entry_in c.args.entries.now k)) (sym (add-one t))
    (c.requires.later.entry (suc t) (omega (arith, begun)) (omega arith))

pub cost_below-total-requires-clause-running : goal.cost_below-total-requires-clause-running
cost_below-total-requires-clause-running c =
    let p = c.args.problem.now in
    let t = c.loop-t.t in
    let begun = c.run_begin-from.ensures in
    let past = c.requires.past in
    let end : t ≡ p.periods - 1 = omega (arith, c.loop-t-test.false, begun, past) in
    subst (λ k. IsRunning p.periods p.table.now p.unit.now p.hull.now k (p.periods - 1 - k) c.loop-t.runs) (sym begun)
    (subst (λ n. IsRunning p.periods p.table.now p.unit.now p.hull.now (run_from c.args.since) (n - run_from c.args.since) c.loop-t.runs) end
    c.loop-t.invariant.running)

pub loop-t-init : goal.loop-t-init
loop-t-init c =
    let p = c.args.problem.now in
    let begun = c.run_begin-from.ensures in
    let none : 0 ≡ c.run_begin-from.result - run_from c.args.since = omega (arith, begun) in
    record {
      running = subst (λ n. IsRunning p.periods p.table.now p.unit.now p.hull.now (run_from c.args.since) n c.args.runs.now) none c.requires.running;
      best = subst (λ k. IsBestTo p.periods p.table.now p.unit.now p.fix.now c.args.since true c.args.since (suc k) c.args.known) (sym begun) c.requires.known;
    }

pub loop-t-preserved : goal.loop-t-preserved
loop-t-preserved c =
    let p = c.args.problem.now in
    let t = c.loop-t.t in
    let begun = c.run_begin-from.ensures in
    let hours : suc (t - run_from c.args.since) ≡ t + 1 - run_from c.args.since = omega (arith, begun) in
    let may = ap (λ k. may_stay p.unit.now p.fix.now k true) (sym (add-one t)) ∙ sym c.may_stay_on.ensures ∙ c.if-not-may_stay_on.false in
    record {
      running =
          subst (λ n. IsRunning p.periods p.table.now p.unit.now p.hull.now (run_from c.args.since) n c.go_on.new.self) hours
          (subst (λ k. IsRunning p.periods p.table.now p.unit.now p.hull.now k (suc (t - k)) c.go_on.new.self) begun c.go_on.ensures);
      best =
          subst (λ k. IsBestTo p.periods p.table.now p.unit.now p.fix.now c.args.since true c.args.since (suc k) c.better-best.result) (sym (add-one t))
          (best-more p.periods p.table.now p.unit.now p.fix.now c.args.since true c.args.since (suc t) (Some (suc t)) c.loop-t.best c.better-best.result
          c.stop_total-total.result refl (omega arith) c.loop-t.invariant.best c.stop_total-total.ensures.total c.stop_total-total.ensures.size
          c.better-best.ensures.cost (subst (λ k. IsOneOf c.loop-t.best c.stop_total-total.result (Some k) c.better-best.result) (add-one t) c.better-best.ensures.choice)
          (omega arith) may);
    }

pub returns-then-not-may_stay_on-clause-least : goal.returns-then-not-may_stay_on-clause-least
returns-then-not-may_stay_on-clause-least c =
    let p = c.args.problem.now in
    let t = c.loop-t.t in
    let may = ap (λ k. may_stay p.unit.now p.fix.now k true) (sym (add-one t)) ∙ sym c.may_stay_on.ensures ∙ c.if-not-may_stay_on.true in
    best-last p.periods p.table.now p.unit.now p.fix.now c.args.since true c.args.since (suc t) (Some (suc t)) c.loop-t.best c.better-best.result
    c.stop_total-total.result refl (omega arith) c.loop-t.invariant.best c.stop_total-total.ensures.total c.stop_total-total.ensures.size
    c.better-best.ensures.cost (subst (λ k. IsOneOf c.loop-t.best c.stop_total-total.result (Some k) c.better-best.result) (add-one t) c.better-best.ensures.choice)
    (omega arith) may

pub returns-clause-least : goal.returns-clause-least
returns-clause-least c =
    let p = c.args.problem.now in
    let t = c.loop-t.t in
    let since = c.args.since in
    let begun = c.run_begin-from.ensures in
    let past = c.requires.past in
    let end : suc t ≡ p.periods = omega (arith, c.loop-t-test.false, begun, past) in
    let last : suc (p.periods - 1) ≡ p.periods = omega (arith, past) in
    let from = c.run_begin-from.result in
    let cost = run_cost p.periods p.table.now p.unit.now from (suc (p.periods - 1 - from)) in
    let until = run-until p.periods p.table.now p.unit.now p.fix.now (p.periods - 1) since cost (omega (arith, past))
    (λ i. run_cost p.periods p.table.now p.unit.now (begun i) (suc (p.periods - 1 - begun i)))
    ∙ ap (run_until p.periods p.table.now p.unit.now since) last in
    let whole = run-last p.periods p.table.now p.unit.now p.fix.now since cost until in
    let found = c.cost_below-total.result in
    best-end p.periods p.table.now p.unit.now p.fix.now since true since p.periods None c.loop-t.best c.better.result found refl (omega arith)
    (subst (λ k. IsBestTo p.periods p.table.now p.unit.now p.fix.now since true since k c.loop-t.best) end c.loop-t.invariant.best)
    (subst (λ o. IsCostBelow (choice_cost c.loop-t.best) o found) whole
    (subst (λ l. IsCostBelow l cost found) c.cost_of.ensures c.cost_below-total.ensures.cost))
    (some-size (p.periods - p.periods) found c.cost_below-total.ensures.size) c.better.ensures.cost c.better.ensures.choice refl
