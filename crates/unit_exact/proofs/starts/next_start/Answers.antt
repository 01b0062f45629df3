-- One start more, or the last one.
use Rattle.std.proofs.Common.{add-one, inl, false, refl, sym, subst, ◌∙◌, arith, Some}
use Rattle.unit_exact.specs.inside.Switches.{IsBestTo}
use Rattle.unit_exact.proofs.BestTo.{best-more, best-last, best-end, rest-total}
use Rattle.unit_exact.proofs.starts.next_start.Goals as goal

pub loop-t-init : goal.loop-t-init
loop-t-init c = grind (arith, c)

pub loop-t-preserved : goal.loop-t-preserved
loop-t-preserved c =
    let p = c.args.problem.now in
    subst (λ k. IsBestTo p.periods p.table.now p.unit.now p.fix.now c.args.since false c.args.since k c.better-best.result) (sym (add-one c.loop-t.t))
    (best-more p.periods p.table.now p.unit.now p.fix.now c.args.since false c.args.since c.loop-t.t (Some c.loop-t.t) c.loop-t.best c.better-best.result
    c.start_total.result refl (omega arith) c.loop-t.invariant (inl c.start_total.ensures.total) c.start_total.ensures.size c.better-best.ensures.cost
    c.better-best.ensures.choice (omega arith) (sym c.may_stay_off.ensures ∙ c.if-not-may_stay_off.false))

pub returns-then-not-may_stay_off : goal.returns-then-not-may_stay_off
returns-then-not-may_stay_off c =
    let p = c.args.problem.now in
    best-last p.periods p.table.now p.unit.now p.fix.now c.args.since false c.args.since c.loop-t.t (Some c.loop-t.t) c.loop-t.best c.better-best.result
    c.start_total.result refl (omega arith) c.loop-t.invariant (inl c.start_total.ensures.total) c.start_total.ensures.size c.better-best.ensures.cost
    c.better-best.ensures.choice (omega arith) (sym c.may_stay_off.ensures ∙ c.if-not-may_stay_off.true)

pub returns : goal.returns
returns c = grind (arith, best-end, rest-total, c)
