-- The table's answer is the recursion's from the beginning.
use Rattle.std.proofs.Common.{◌≡◌, ℤ, sym, ◌∙◌, arith, Option, Some, None, IfSome, IfNone}
use Rattle.uc_model.specs.Prelude.{IsLawfulThermal}
use Rattle.uc_model.specs.declared.instance.Thermal.{Thermal}
use Rattle.uc_model.specs.declared.terms.Terms.{Terms}
use Rattle.dual_model.specs.declared.node.Fix.{Fix}
use Rattle.dual_model.specs.Prelude.{AreSizedTerms, IsLeastValue}
use Rattle.dual_model.proofs.CostSizes.{cost_to_go-fits}
use Rattle.dual_model.specs.PatternValue.{HasNoPattern}
use Rattle.dual_model.proofs.LeastValues.{from_start, least-from_start, none-from_start}
use Rattle.dual_model.proofs.TableValues.{unit_value-of}
use Rattle.state_walk.proofs.walk.least.Goals as goal

value : (terms : Terms) (unit : Thermal) (fix : Fix) (v : Option ℤ) → IsLawfulThermal unit → AreSizedTerms unit terms
    → v ≡ from_start terms unit fix → IfSome v (IsLeastValue terms unit fix)
value terms unit fix None lawful sized e = tt
value terms unit fix (Some v) lawful sized e = least-from_start terms unit fix v lawful sized (sym e)

none : (terms : Terms) (unit : Thermal) (fix : Fix) (v : Option ℤ) → AreSizedTerms unit terms
    → v ≡ from_start terms unit fix → IfNone v (HasNoPattern terms unit fix)
none terms unit fix None sized e = none-from_start terms unit fix sized (sym e)
none terms unit fix (Some v) sized e = tt

pub returns-clause-value : goal.returns-clause-value
returns-clause-value c = grind (arith, value, c)

pub returns-clause-none : goal.returns-clause-none
returns-clause-none c =
    none c.args.terms.now c.args.unit.now c.args.fix.now c.least_cost_to_go.result c.requires.sized c.least_cost_to_go.ensures

pub returns-clause-unit_value : goal.returns-clause-unit_value
returns-clause-unit_value c = λ instance node table g same are decided.
    unit_value-of instance node table g c.args.unit.now c.args.terms.now c.args.fix.now c.least_cost_to_go.result same are decided
    (λ w e. least-from_start c.args.terms.now c.args.unit.now c.args.fix.now w c.requires.lawful c.requires.sized (sym c.least_cost_to_go.ensures ∙ e))
    (λ e. none-from_start c.args.terms.now c.args.unit.now c.args.fix.now c.requires.sized (sym c.least_cost_to_go.ensures ∙ e))

pub returns-clause-size : goal.returns-clause-size
returns-clause-size c = grind (arith, cost_to_go-fits, c)
