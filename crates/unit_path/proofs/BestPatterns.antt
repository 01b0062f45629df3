-- A pattern that attains the least value by a unit's terms attains the unit's value at the table that the terms are of.
use Rattle.std.proofs.Common.{arith, ◌≡◌, ℕ, sym, subst, ◌∙◌, ℤ, Some}
use Rattle.uc_model.specs.Prelude.{Commitment, thermal_unit, period_count}
use Rattle.uc_model.specs.declared.instance.Thermal.{Thermal}
use Rattle.uc_model.specs.declared.instance.Instance.{Instance}
use Rattle.uc_model.specs.declared.terms.Terms.{Terms}
use Rattle.dual_model.specs.Prelude.{IsFixOf, IsBestPattern, IsUnitValue, IsPattern, IsLeastValue, pattern_value, AreTermsOf}
use Rattle.dual_model.specs.declared.node.Fix.{Fix}
use Rattle.dual_model.specs.declared.node.Node.{Node}
use Rattle.dual_model.specs.declared.table.Table.{Table}
use Rattle.dual_model.proofs.TableValues.{to_table, unit_value-of}

pub best-of : (instance : Instance) (node : Node) (table : Table) (g : ℕ) (unit : Thermal) (terms : Terms) (fix : Fix) (v : ℤ) (on : Commitment)
    → thermal_unit instance g ≡ unit → AreTermsOf instance table g terms → IsFixOf instance.periods node g fix
    → IsLeastValue terms unit fix v → IsPattern (period_count terms) unit fix on → v ≡ pattern_value terms unit on
    → IsBestPattern instance node table g on v
best-of instance node table g unit terms fix v on same are decided least pattern attained =
    record {
      pattern = record { allowed = own.allowed; agrees = decided.same on ∙ own.agrees };
      value = grind (arith, to_table, instance, table, g, on, attained, terms, same, are);
      least = whole.best.least;
    }
  where
    own : IsPattern instance.periods (thermal_unit instance g) fix on
    own = subst (λ u. IsPattern instance.periods u fix on) (sym same) (subst (λ n. IsPattern n unit fix on) are.periods pattern)

    whole : IsUnitValue instance node table g v
    whole = unit_value-of instance node table g unit terms fix (Some v) same are decided
        (λ w e. subst (IsLeastValue terms unit fix) (let is : v ≡ w = cc in is) least) (λ e. cc)
