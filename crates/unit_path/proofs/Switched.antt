-- The entries of a switch in the table, as the least ways behind them.
use Rattle.std.proofs.Common.{arith, ◌≡◌, ℕ, ◌<◌, true, ◌*ℤ◌, Option, Some, ◌==◌}
use Rattle.std.proofs.lemmas.Bool.{cases_Bool, cond-true, cond-false}
use Rattle.uc_model.specs.Prelude.{sigma, period_count, may_start, may_stop}
use Rattle.dual_model.specs.Prelude.{stop_since, IsWithin, MAX_COST_TO_GO, total_of}
use Rattle.unit_path.specs.inside.Choices.{Fix, Terms, Thermal, Choice, choice_cost, start_total, stop_cost}
use Rattle.unit_path.specs.inside.Hours.{leave_cost, IsStartIn, IsStopIn}
use Rattle.unit_path.proofs.Going.{start_total-at, to_go}

pub stop-total : (terms : Terms) (unit : Thermal) (fix : Fix) (since t : ℕ) (choice : Option Choice) → t < period_count terms
    → may_stop unit since t ≡ true → IsStopIn terms unit fix t choice
    → total_of (leave_cost terms unit fix t (since == t)) (choice_cost choice) ≡ stop_cost terms unit fix since t
stop-total terms unit fix since t choice h may entry = grind (arith, h, may, entry)

pub start-fits : (terms : Terms) (unit : Thermal) (fix : Fix) (t : ℕ) (choice : Option Choice) → IsStartIn terms unit fix t choice → IsWithin MAX_COST_TO_GO (choice_cost choice)
start-fits terms unit fix t choice entry = grind (arith, entry)

-- a start's way, where the unit has been off for long enough
pub start-total_of : (terms : Terms) (unit : Thermal) (fix : Fix) (since t : ℕ) (choice : Option Choice) → t < period_count terms
    → may_start unit since t ≡ true → IsStartIn terms unit fix t choice
    → total_of (Some (terms.k *ℤ sigma unit (stop_since since) t)) (choice_cost choice) ≡ start_total terms unit fix since t
start-total_of terms unit fix since t choice h may entry = grind (arith, to_go, cases_Bool, start_total-at, cond-true, cond-false, h, may, entry)
