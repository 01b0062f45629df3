-- One period of the least cost of going on, with the period in place of the number of periods left.
use Rattle.std.proofs.Common.{◌≡◌, ℕ, suc, ◌-◌, ◌<◌, ◌≤◌, Bool, true, false, arith, ℤ, Option}
use Rattle.std.proofs.lemmas.Bool.{cond-true, cond-false, eq-eqb, ne_eqb}
use Rattle.uc_model.specs.Prelude.{IsLawfulThermal, period_count}
use Rattle.dual_model.specs.Prelude.{AreSizedTerms, move, cost_to_go, end_cost, IsWithin, MAX_COST_TO_GO, lesser_of, total_of}
use Rattle.dual_model.proofs.CostSizes.{cost_to_go-fits}
use Rattle.unit_path.specs.inside.Choices.{Fix, Terms, Thermal, start_total, stop_cost}

-- the least cost of going on from a state before period t
abbrev pub to_go : Terms → Thermal → Fix → ℕ → Bool → ℕ → Option ℤ
to_go terms unit fix t was since = cost_to_go terms unit fix (period_count terms - t) t was since

pub to_go-end : (terms : Terms) (unit : Thermal) (fix : Fix) (t : ℕ) → t ≡ period_count terms → (was : Bool) (since : ℕ)
    → to_go terms unit fix t was since ≡ end_cost terms unit t was since
to_go-end terms unit fix t h was since = grind (arith, h)

pub to_go-fits : (unit : Thermal) (terms : Terms) (fix : Fix) → IsLawfulThermal unit → AreSizedTerms unit terms → (t : ℕ) → t ≤ period_count terms
    → (was : Bool) (since : ℕ) → IsWithin MAX_COST_TO_GO (to_go terms unit fix t was since)
to_go-fits unit terms fix lawful sized t h was since = cost_to_go-fits unit terms fix lawful sized (period_count terms - t) t (omega arith) was since

-- ---- switches
pub stop_cost-at : (terms : Terms) (unit : Thermal) (fix : Fix) (since t : ℕ) → t < period_count terms
    → stop_cost terms unit fix since t ≡ total_of (move terms unit fix t true since false) (to_go terms unit fix (suc t) false (suc t))
stop_cost-at terms unit fix since t h = cond-false _ _ _ (ne_eqb t (period_count terms) (λ e. omega arith))

pub stop_cost-end : (terms : Terms) (unit : Thermal) (fix : Fix) (since t : ℕ) → t ≡ period_count terms
    → stop_cost terms unit fix since t ≡ end_cost terms unit t true since
stop_cost-end terms unit fix since t h = cond-true _ _ _ (eq-eqb t (period_count terms) h)

pub start_total-at : (terms : Terms) (unit : Thermal) (fix : Fix) (since t : ℕ) → t < period_count terms
    → start_total terms unit fix since t ≡ total_of (move terms unit fix t false since true) (to_go terms unit fix (suc t) true (suc t))
start_total-at terms unit fix since t h = cond-false _ _ _ (ne_eqb t (period_count terms) (λ e. omega arith))

pub start_total-end : (terms : Terms) (unit : Thermal) (fix : Fix) (since t : ℕ) → t ≡ period_count terms
    → start_total terms unit fix since t ≡ end_cost terms unit t false since
start_total-end terms unit fix since t h = cond-true _ _ _ (eq-eqb t (period_count terms) h)

-- a unit that is on stays on or stops, and one that is off starts or rests
pub on-step : (terms : Terms) (unit : Thermal) (fix : Fix) (since t : ℕ) → t < period_count terms → to_go terms unit fix t true since
    ≡ lesser_of (total_of (move terms unit fix t true since true) (to_go terms unit fix (suc t) true since)) (stop_cost terms unit fix since t)
on-step terms unit fix since t h = grind (arith, h)

pub off-step : (terms : Terms) (unit : Thermal) (fix : Fix) (since t : ℕ) → t < period_count terms → to_go terms unit fix t false since
    ≡ lesser_of (start_total terms unit fix since t) (total_of (move terms unit fix t false since false) (to_go terms unit fix (suc t) false since))
off-step terms unit fix since t h = grind (arith, h)
