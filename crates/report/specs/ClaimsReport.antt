-- The report of a certificate that was accepted: what it claims. This project's own form. Money has six decimals.
use Rattle.std.specs.Prelude.{ℕ, Bool, true, false, List, [], ◌∷◌, ℤ, Option, Some, None, codes}
use Rattle.outside.specs.Lines.{joined, line}
use Rattle.report.specs.FoundReport.{cost_line, bound_line}

-- no line where there is no schedule
abbrev pub schedule_cost_line : Option ℤ → List ℕ
schedule_cost_line None = []
schedule_cost_line (Some cost) = cost_line cost

-- that there is no schedule, or what the schedule costs, if there is one, and what every schedule costs at least
abbrev pub claim_lines : Option ℤ → Option ℤ → Bool → List ℕ
claim_lines cost bound true = line (codes "infeasible") []
claim_lines cost bound false = joined (schedule_cost_line cost ∷ bound_line bound ∷ [])

-- the whole report
abbrev pub claims_report : Option ℤ → Option ℤ → Bool → List ℕ
claims_report cost bound infeasible = joined (line (codes "accepted") [] ∷ claim_lines cost bound infeasible ∷ [])
