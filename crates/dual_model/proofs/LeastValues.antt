-- What the walk's recursion gives is the least value of a pattern, or that there is none.
use Rattle.std.proofs.Common.{◌≡◌, sym, ◌∙◌, arith, ℤ, Option, Some, None}
use Rattle.uc_model.specs.Prelude.{Commitment, IsLawfulThermal, period_count}
use Rattle.uc_model.proofs.Common.{linear}
use Rattle.dual_model.specs.Prelude.{Terms, Thermal, AreSizedTerms, Fix, IsPattern, IsLeastValue, pattern_value, cost_to_go, end_cost, move}
use Rattle.dual_model.specs.PatternValue.{HasNoPattern}
use Rattle.dual_model.proofs.Optimum.{AtMost, way-at_most, attained}
use Rattle.dual_model.proofs.Ways.{own_way-right, whole_way-from}
use Rattle.dual_model.proofs.Allowed.{all_right-pattern, pattern-all_right}

-- the recursion from the beginning
abbrev pub from_start : Terms → Thermal → Fix → Option ℤ
from_start terms unit fix = cost_to_go terms unit fix (period_count terms) 0 unit.on0 0

-- a pattern costs at least the recursion's value
pattern-at_most : (terms : Terms) (unit : Thermal) (fix : Fix) (on : Commitment) → AreSizedTerms unit terms
    → IsPattern (period_count terms) unit fix on → AtMost (from_start terms unit fix) (pattern_value terms unit on)
pattern-at_most terms unit fix on sized pattern =
    way-at_most (move terms unit fix) (end_cost terms unit) on (period_count terms) 0 unit.on0 0 (pattern_value terms unit on)
    (whole_way-from terms unit fix on (all_right-pattern terms unit fix on sized pattern))

pub least-from_start : (terms : Terms) (unit : Thermal) (fix : Fix) (v : ℤ) → IsLawfulThermal unit → AreSizedTerms unit terms
    → from_start terms unit fix ≡ Some v → IsLeastValue terms unit fix v
least-from_start terms unit fix v lawful sized e =
    let best = attained (move terms unit fix) (end_cost terms unit) (period_count terms) 0 unit.on0 0 v e in
    let all = own_way-right terms unit fix best.on (period_count terms) 0 v (omega arith) best.is in
    let same : Some v ≡ Some (pattern_value terms unit best.on) = sym best.is ∙ whole_way-from terms unit fix best.on all in
    record {
      on = best.on;
      pattern = pattern-all_right terms unit fix best.on lawful sized all;
      value = cc;
      least = λ other pattern.
          let most = pattern-at_most terms unit fix other sized pattern in
          let cost : v ≡ most.cost = (let is = most.is in cc) in
          let below = most.below in
          omega (arith, linear);
    }

pub none-from_start : (terms : Terms) (unit : Thermal) (fix : Fix) → AreSizedTerms unit terms
    → from_start terms unit fix ≡ None → HasNoPattern terms unit fix
none-from_start terms unit fix sized e on pattern =
    let most = pattern-at_most terms unit fix on sized pattern in
    let is = most.is in
    cc
