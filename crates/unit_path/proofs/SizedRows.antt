-- Terms that are sized for a unit are rows of terms, with one at the full cap.
use Rattle.std.proofs.Common.{ℕ, ◌≤◌, false, arith, ℤ, pos, ◌-ℤ◌, ◌*ℤ◌, ◌≤ℤ◌, Option, Some, None, IfSome, unsigned_abs}
use Rattle.uc_model.specs.Prelude.{start_reduction, stop_reduction, cell_cap, IsLawfulThermal, period_count}
use Rattle.uc_model.specs.declared.instance.Thermal.{Thermal}
use Rattle.uc_model.specs.declared.terms.Terms.{Terms}
use Rattle.uc_model.proofs.Common.{linear, mul-zero, min_nonneg}
use Rattle.dual_model.specs.Prelude.{AreSizedTerms, IsSized}
use Rattle.dual_model.proofs.Allowed.{sized-there}
use Rattle.uc_model.specs.declared.limits.TheConstants.{MAX_TERM}
use Rattle.interval_graph.specs.Intervals.{AreTermRows}

sized-size : (cap : ℤ) (term : Option ℤ) → IsSized cap term → IfSome term (λ m. unsigned_abs m ≤ MAX_TERM)
sized-size cap None is = tt
sized-size cap (Some m) is = is.1

full-cap : (periods : ℕ) (unit : Thermal) (t : ℕ) → IsLawfulThermal unit → pos 0 ≤ℤ cell_cap periods unit t false false
full-cap periods unit t lawful =
    let range = lawful.range in
    let start = mul-zero (start_reduction unit) in
    let stop = mul-zero (stop_reduction unit) in
    min_nonneg (unit.pmax -ℤ unit.pmin -ℤ start_reduction unit *ℤ pos 0) (unit.pmax -ℤ unit.pmin -ℤ stop_reduction unit *ℤ pos 0)
    (omega (arith, linear)) (omega (arith, linear))

pub sized-rows : (unit : Thermal) (terms : Terms) → IsLawfulThermal unit → AreSizedTerms unit terms → AreTermRows terms.terms
sized-rows unit terms lawful sized = record {
  periods = sized.periods.1;
  size = λ t start stop within. sized-size _ _ (sized.term t start stop within);
  full = λ t within. sized-there _ _ (sized.term t false false within) (full-cap (period_count terms) unit t lawful);
}
