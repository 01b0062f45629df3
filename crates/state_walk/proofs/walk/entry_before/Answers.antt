-- One step of the recursion, whose costs fit.
use Rattle.std.proofs.Common.{◌≡◌, ℕ, suc, ◌-◌, true, false, sym, ap, subst, ◌∙◌, arith, ℤ, Option}
use Rattle.uc_model.specs.Prelude.{period_count}
use Rattle.dual_model.specs.Prelude.{move, cost_to_go, IsWithin, MAX_COST_TO_GO, total_of, lesser_of}
use Rattle.state_walk.specs.inside.WalkTable.{CostToGo, Fix, Terms, Thermal, entry}
use Rattle.dual_model.proofs.CostSizes.{move-fits, cost_to_go-fits}
use Rattle.state_walk.proofs.walk.entry_before.Goals as goal

along : (a b : Option ℤ) → a ≡ b → IsWithin MAX_COST_TO_GO b → IsWithin MAX_COST_TO_GO a
along a b e h = subst (λ x. IsWithin MAX_COST_TO_GO x) (sym e) h

-- the entry of one period more
entry-suc : (terms : Terms) (unit : Thermal) (fix : Fix) (n m t since : ℕ) → m ≡ suc n → (on off : Option ℤ)
    → on ≡ lesser_of (total_of (move terms unit fix t true since true) (cost_to_go terms unit fix n (suc t) true since))
    (total_of (move terms unit fix t true since false) (cost_to_go terms unit fix n (suc t) false (suc t)))
    → off ≡ lesser_of (total_of (move terms unit fix t false since true) (cost_to_go terms unit fix n (suc t) true (suc t)))
    (total_of (move terms unit fix t false since false) (cost_to_go terms unit fix n (suc t) false since))
    → (let e : CostToGo = record { on = on; off = off } in e) ≡ entry terms unit fix m t since
entry-suc terms unit fix n m t since e on off is_on is_off = grind (arith, is_on, is_off)

pub total-requires-clause-left : goal.total-requires-clause-left
total-requires-clause-left c = along _ _ c.move_cost.ensures (move-fits c.args.unit.now c.args.terms.now c.args.fix.now c.requires.lawful c.requires.sized c.args.t c.requires.period true c.args.since true)

pub total-requires-clause-right : goal.total-requires-clause-right
total-requires-clause-right c = along _ _ (ap (λ (e : CostToGo). e.on) c.requires.after) (cost_to_go-fits c.args.unit.now c.args.terms.now c.args.fix.now c.requires.lawful c.requires.sized _ (suc c.args.t) (omega (arith, c.requires.period)) true c.args.since)

pub total-requires-2-clause-left : goal.total-requires-2-clause-left
total-requires-2-clause-left c = along _ _ c.move_cost-2.ensures (move-fits c.args.unit.now c.args.terms.now c.args.fix.now c.requires.lawful c.requires.sized c.args.t c.requires.period true c.args.since false)

pub total-requires-2-clause-right : goal.total-requires-2-clause-right
total-requires-2-clause-right c = along _ _ (ap (λ (e : CostToGo). e.off) c.requires.entered) (cost_to_go-fits c.args.unit.now c.args.terms.now c.args.fix.now c.requires.lawful c.requires.sized _ (suc c.args.t) (omega (arith, c.requires.period)) false (suc c.args.t))

pub total-requires-3-clause-left : goal.total-requires-3-clause-left
total-requires-3-clause-left c = along _ _ c.move_cost-3.ensures (move-fits c.args.unit.now c.args.terms.now c.args.fix.now c.requires.lawful c.requires.sized c.args.t c.requires.period false c.args.since true)

pub total-requires-3-clause-right : goal.total-requires-3-clause-right
total-requires-3-clause-right c = along _ _ (ap (λ (e : CostToGo). e.on) c.requires.entered) (cost_to_go-fits c.args.unit.now c.args.terms.now c.args.fix.now c.requires.lawful c.requires.sized _ (suc c.args.t) (omega (arith, c.requires.period)) true (suc c.args.t))

pub total-requires-4-clause-right : goal.total-requires-4-clause-right
total-requires-4-clause-right c = along _ _ (ap (λ (e : CostToGo). e.off) c.requires.after) (cost_to_go-fits c.args.unit.now c.args.terms.now c.args.fix.now c.requires.lawful c.requires.sized _ (suc c.args.t) (omega (arith, c.requires.period)) false c.args.since)

pub returns : goal.returns
returns c =
    let later_on = ap (λ (e : CostToGo). e.on) c.requires.after in
    let later_off = ap (λ (e : CostToGo). e.off) c.requires.after in
    let entered_on = ap (λ (e : CostToGo). e.on) c.requires.entered in
    let entered_off = ap (λ (e : CostToGo). e.off) c.requires.entered in
    let stayed = c.total.ensures ∙ (λ i. total_of (c.move_cost.ensures i) (later_on i)) in
    let stopped = c.total-2.ensures ∙ (λ i. total_of (c.move_cost-2.ensures i) (entered_off i)) in
    let started = c.total-3.ensures ∙ (λ i. total_of (c.move_cost-3.ensures i) (entered_on i)) in
    let stayed_off = c.total-4.ensures ∙ (λ i. total_of (c.move_cost-4.ensures i) (later_off i)) in
    entry-suc c.args.terms.now c.args.unit.now c.args.fix.now (period_count c.args.terms.now - suc c.args.t) (period_count c.args.terms.now - c.args.t)
    c.args.t c.args.since (omega (arith, c.requires.period)) _ _
    (c.lesser.ensures ∙ (λ i. lesser_of (stayed i) (stopped i)))
    (c.lesser-2.ensures ∙ (λ i. lesser_of (started i) (stayed_off i)))
