-- A pattern whose way is the least one is allowed and as is decided, and its value is the way's cost.
use Rattle.std.proofs.Common.{◌≡◌, ℕ, ◌≤◌, false, subst, arith, ℤ, Option, Some, None, MatchOption, IfSome, IfNone, unsigned_abs}
use Rattle.uc_model.specs.Prelude.{IsLawfulThermal, commitment_of, thermal_unit, period_count}
use Rattle.uc_model.specs.declared.instance.Instance.{Instance}
use Rattle.dual_model.specs.declared.node.Node.{Node}
use Rattle.dual_model.specs.declared.table.Table.{Table}
use Rattle.dual_model.specs.Prelude.{IsFixOf, IsBestPattern, AreTermsOf, IsLeastValue, IsPattern, pattern_value, AreSizedTerms, IsWithin, MAX_COST_TO_GO}
use Rattle.dual_model.specs.Fixings.{HasNoPattern as HasNoPatternAt}
use Rattle.dual_model.proofs.TableValues.{unit_value-of}
use Rattle.dual_model.specs.PatternValue.{HasNoPattern}
use Rattle.dual_model.proofs.CostSizes.{cost_to_go-fits}
use Rattle.dual_model.proofs.LeastValues.{from_start, least-from_start, none-from_start}
use Rattle.dual_model.proofs.Allowed.{pattern-all_right}
use Rattle.dual_model.proofs.Ways.{own_way-right, whole_way-from, AllRight}
use Rattle.unit_path.specs.inside.Ways.{Fix, Pattern, Terms, Thermal, IsWay}
use Rattle.unit_path.proofs.BestPatterns.{best-of}

all_right : (terms : Terms) (unit : Thermal) (fix : Fix) (cost : ℤ) (pattern : Pattern) → IsWay terms unit fix cost pattern
    → AllRight terms unit fix (commitment_of pattern) 0
all_right terms unit fix cost pattern is =
    own_way-right terms unit fix (commitment_of pattern) (period_count terms) 0 cost (omega arith) is.attained

pub way-pattern : (terms : Terms) (unit : Thermal) (fix : Fix) (cost : ℤ) (pattern : Pattern) → IsLawfulThermal unit → AreSizedTerms unit terms
    → IsWay terms unit fix cost pattern → IsPattern (period_count terms) unit fix (commitment_of pattern)
way-pattern terms unit fix cost pattern lawful sized is =
    pattern-all_right terms unit fix (commitment_of pattern) lawful sized (all_right terms unit fix cost pattern is)

same-some : (a b : ℤ) → Some a ≡ Some b → a ≡ b
same-some a b e = cc

pub way-value : (terms : Terms) (unit : Thermal) (fix : Fix) (cost : ℤ) (pattern : Pattern)
    → IsWay terms unit fix cost pattern → cost ≡ pattern_value terms unit (commitment_of pattern)
way-value terms unit fix cost pattern is = grind (arith, same-some, whole_way-from, all_right, is)

-- ---- the answer
-- the cost of the least way, with a pattern whose way it is; or that there is none
abbrev pub IsAnswer : Terms → Thermal → Fix → Option (ℤ × Pattern) → Type 0
IsAnswer terms unit fix None = from_start terms unit fix ≡ None
IsAnswer terms unit fix (Some best) = (from_start terms unit fix ≡ Some best.0) × IsWay terms unit fix best.0 best.1

pub answer-value : (terms : Terms) (unit : Thermal) (fix : Fix) (best : Option (ℤ × Pattern)) → IsLawfulThermal unit → AreSizedTerms unit terms
    → IsAnswer terms unit fix best → IfSome best (λ best. IsLeastValue terms unit fix best.0)
answer-value terms unit fix None lawful sized is = tt
answer-value terms unit fix (Some best) lawful sized is = least-from_start terms unit fix best.0 lawful sized is.0

pub answer-pattern : (terms : Terms) (unit : Thermal) (fix : Fix) (best : Option (ℤ × Pattern)) → IsLawfulThermal unit → AreSizedTerms unit terms
    → IsAnswer terms unit fix best → IfSome best (λ best. IsPattern (period_count terms) unit fix (commitment_of best.1))
answer-pattern terms unit fix None lawful sized is = tt
answer-pattern terms unit fix (Some best) lawful sized is = way-pattern terms unit fix best.0 best.1 lawful sized is.1

pub answer-attained : (terms : Terms) (unit : Thermal) (fix : Fix) (best : Option (ℤ × Pattern))
    → IsAnswer terms unit fix best → IfSome best (λ best. best.0 ≡ pattern_value terms unit (commitment_of best.1))
answer-attained terms unit fix None is = tt
answer-attained terms unit fix (Some best) is = way-value terms unit fix best.0 best.1 is.1

pub answer-within : (terms : Terms) (unit : Thermal) (fix : Fix) (best : Option (ℤ × Pattern))
    → IsAnswer terms unit fix best → IfSome best (λ best. (t : ℕ) → period_count terms ≤ t → commitment_of best.1 t ≡ false)
answer-within terms unit fix None is = tt
answer-within terms unit fix (Some best) is = is.1.after

pub answer-none : (terms : Terms) (unit : Thermal) (fix : Fix) (best : Option (ℤ × Pattern)) → AreSizedTerms unit terms
    → IsAnswer terms unit fix best → IfNone best (HasNoPattern terms unit fix)
answer-none terms unit fix None sized is = none-from_start terms unit fix sized is
answer-none terms unit fix (Some best) sized is = tt

pub answer-size : (terms : Terms) (unit : Thermal) (fix : Fix) (best : Option (ℤ × Pattern)) → IsLawfulThermal unit → AreSizedTerms unit terms
    → IsAnswer terms unit fix best → IfSome best (λ best. unsigned_abs best.0 ≤ MAX_COST_TO_GO)
answer-size terms unit fix None lawful sized is = tt
answer-size terms unit fix (Some best) lawful sized is =
    subst (λ o. IsWithin MAX_COST_TO_GO o) is.0 (cost_to_go-fits unit terms fix lawful sized (period_count terms) 0 (omega arith) unit.on0 0)

pub answer-at_table : (instance : Instance) (node : Node) (table : Table) (g : ℕ) (terms : Terms) (unit : Thermal) (fix : Fix) (best : Option (ℤ × Pattern))
    → IsLawfulThermal unit → AreSizedTerms unit terms → thermal_unit instance g ≡ unit → AreTermsOf instance table g terms → IsFixOf instance.periods node g fix
    → IsAnswer terms unit fix best
    → MatchOption best (HasNoPatternAt instance node g) (λ best. IsBestPattern instance node table g (commitment_of best.1) best.0)
answer-at_table instance node table g terms unit fix None lawful sized same are decided is =
    unit_value-of instance node table g unit terms fix None same are decided (λ w e. cc) (λ e. none-from_start terms unit fix sized is)
answer-at_table instance node table g terms unit fix (Some best) lawful sized same are decided is =
    best-of instance node table g unit terms fix best.0 (commitment_of best.1) same are decided
    (least-from_start terms unit fix best.0 lawful sized is.0)
    (way-pattern terms unit fix best.0 best.1 lawful sized is.1)
    (way-value terms unit fix best.0 best.1 is.1)
