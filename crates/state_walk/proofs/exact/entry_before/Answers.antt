-- One step of the recursion, whose costs fit.
use Rattle.std.proofs.Common.{◌≡◌, ℕ, suc, ◌-◌, true, false, sym, ap, subst, ◌∙◌, arith, ℤ, Option, None, if◌then◌else◌}
use Rattle.dual_model.specs.Prelude.{IsWithin, MAX_COST_TO_GO, total_of, lesser_of}
use Rattle.unit_runs.specs.RunsToGo.{may_stay, runs_to_go, switch_cost}
use Rattle.unit_runs.proofs.Changes.{by_change}
use Rattle.state_walk.specs.inside.ExactTable.{Fix, exact_entry}
use Rattle.state_walk.specs.inside.Problems.{Table, Thermal}
use Rattle.state_walk.specs.inside.WalkTable.{CostToGo}
use Rattle.state_walk.proofs.WaySizes.{from-before, switch-fits, to-go-fits}
use Rattle.state_walk.proofs.exact.entry_before.Goals as goal

-- the entry of one period more
entry-suc : (periods : ℕ) (table : Table) (unit : Thermal) (fix : Fix) (n m t since : ℕ) → m ≡ suc n → (on off : Option ℤ)
    → on ≡ lesser_of (total_of (switch_cost periods table unit fix t true since) (runs_to_go periods table unit fix n (suc t) false (suc t)))
    (if may_stay unit fix t true then runs_to_go periods table unit fix n (suc t) true since else None)
    → off ≡ lesser_of (total_of (switch_cost periods table unit fix t false since) (runs_to_go periods table unit fix n (suc t) true (suc t)))
    (if may_stay unit fix t false then runs_to_go periods table unit fix n (suc t) false since else None)
    → (let e : CostToGo = record { on = on; off = off } in e) ≡ exact_entry periods table unit fix m t since
entry-suc periods table unit fix n m t since e on off is_on is_off =
    (λ i. record {
      on = (is_on ∙ sym (by_change periods table unit fix n t true since)) i;
      off = (is_off ∙ sym (by_change periods table unit fix n t false since)) i;
    })
    ∙ ap (λ k. exact_entry periods table unit fix k t since) (sym e)

pub onward-requires-clause-switch : goal.onward-requires-clause-switch
onward-requires-clause-switch c =
    let p = c.args.problem.now in
    let l = c.requires.period in
    subst (λ o. IsWithin MAX_COST_TO_GO o) (sym c.stop_cost.ensures)
    (switch-fits p.periods p.table.now p.unit.now p.hull.now c.requires.lawful p.fix.now c.args.t true c.args.since (from-before c.args.since c.args.t c.requires.past)
    (omega (arith, l)))

pub onward-requires-clause-switched : goal.onward-requires-clause-switched
onward-requires-clause-switched c = grind (arith, to-go-fits, c)

pub onward-requires-2-clause-switch : goal.onward-requires-2-clause-switch
onward-requires-2-clause-switch c =
    let p = c.args.problem.now in
    let l = c.requires.period in
    subst (λ o. IsWithin MAX_COST_TO_GO o) (sym c.start_cost.ensures)
    (switch-fits p.periods p.table.now p.unit.now p.hull.now c.requires.lawful p.fix.now c.args.t false c.args.since (from-before c.args.since c.args.t c.requires.past)
    (omega (arith, l)))

pub onward-requires-2-clause-switched : goal.onward-requires-2-clause-switched
onward-requires-2-clause-switched c = grind (arith, to-go-fits, c)

pub returns : goal.returns
returns c =
    let p = c.args.problem.now in
    let l = c.requires.period in
    let kept_on = ap (λ (e : CostToGo). e.on) c.requires.kept in
    let kept_off = ap (λ (e : CostToGo). e.off) c.requires.kept in
    let stopped = ap (λ (e : CostToGo). e.off) c.requires.switched in
    let started = ap (λ (e : CostToGo). e.on) c.requires.switched in
    entry-suc p.periods p.table.now p.unit.now p.fix.now (p.periods - suc c.args.t) (p.periods - c.args.t) c.args.t c.args.since (omega (arith, l)) _ _
    (c.onward.ensures ∙ (λ i. lesser_of (total_of (c.stop_cost.ensures i) (stopped i)) (if c.may_stay_on.ensures i then kept_on i else None)))
    (c.onward-2.ensures ∙ (λ i. lesser_of (total_of (c.start_cost.ensures i) (started i)) (if c.may_be_off.ensures i then kept_off i else None)))
