-- The least way is a pattern's, from whose way the clauses follow.
use Rattle.std.proofs.Common.{◌≡◌, ◌≤◌, sym, ap, subst, ◌∙◌, lit<, arith, ℤ, to_z, of_z, Option, Some, unsigned_abs}
use Rattle.std.specs.Int.{w128}
use Rattle.uc_model.specs.Prelude.{IsLawfulThermal, period_count}
use Rattle.uc_model.proofs.Sizes.{wide}
use Rattle.dual_model.specs.Prelude.{AreSizedTerms, IsWithin, MAX_COST_TO_GO}
use Rattle.dual_model.proofs.CostSizes.{cost_to_go-fits}
use Rattle.dual_model.proofs.LeastValues.{from_start}
use Rattle.unit_path.specs.inside.Ways.{Fix, Pattern, Terms, Thermal, IsWay}
use Rattle.unit_path.specs.inside.Choices.{Choice, choice_cost}
use Rattle.unit_path.proofs.BestWays.{answer-at_table, answer-attained, answer-none, answer-pattern, answer-size, answer-value, answer-within, IsAnswer}
use Rattle.unit_path.proofs.SizedRows.{sized-rows}
use Rattle.unit_path.proofs.path.least.Goals as goal
use Rattle.unit_path.proofs.path.least.Goals.{in-None, in-Some}

found : (terms : Terms) (unit : Thermal) (fix : Fix) (switch : Option Choice) (first : Choice) (pattern : Pattern) (result : Option (ℤ × Pattern))
    → IsLawfulThermal unit → AreSizedTerms unit terms → choice_cost switch ≡ from_start terms unit fix → switch ≡ Some first → IsWay terms unit fix first.cost pattern
    → result ≡ Some (to_z w128 (of_z w128 first.cost), pattern) → IsAnswer terms unit fix result
found terms unit fix switch first pattern result lawful sized cost is way e =
    let whole : from_start terms unit fix ≡ Some first.cost = sym cost ∙ ap choice_cost is in
    let size : unsigned_abs first.cost ≤ MAX_COST_TO_GO =
    subst (λ o. IsWithin MAX_COST_TO_GO o) whole (cost_to_go-fits unit terms fix lawful sized (period_count terms) 0 (omega arith) unit.on0 0) in
    subst (λ r. IsAnswer terms unit fix r) (sym (e ∙ ap (λ z. Some (z, pattern)) (wide first.cost MAX_COST_TO_GO size (lit< tt)))) (whole, way)

answer : (c : goal.Joined-first_switch) → IsAnswer c.args.terms.now c.args.unit.now c.args.fix.now c.match-first_switch.result
answer c = elim c.match-first_switch.branch [
  | in-None w ↦ subst (λ r. IsAnswer c.args.terms.now c.args.unit.now c.args.fix.now r) (sym w.result-is)
      (sym c.first_switch.ensures.cost ∙ ap choice_cost w.in-None.is)
  | in-Some w ↦ found c.args.terms.now c.args.unit.now c.args.fix.now c.first_switch.result w.in-Some.first w.pattern_of.result c.match-first_switch.result
      c.requires.lawful c.requires.sized c.first_switch.ensures.cost w.in-Some.is w.pattern_of.ensures w.result-is
]

pub fill-requires-clause-rows : goal.fill-requires-clause-rows
fill-requires-clause-rows c = sized-rows c.args.unit.now c.args.terms.now c.requires.lawful c.requires.sized

pub returns-clause-value : goal.returns-clause-value
returns-clause-value c = answer-value c.args.terms.now c.args.unit.now c.args.fix.now c.match-first_switch.result c.requires.lawful c.requires.sized (answer c)

pub returns-clause-pattern : goal.returns-clause-pattern
returns-clause-pattern c = answer-pattern c.args.terms.now c.args.unit.now c.args.fix.now c.match-first_switch.result c.requires.lawful c.requires.sized (answer c)

pub returns-clause-attained : goal.returns-clause-attained
returns-clause-attained c = answer-attained c.args.terms.now c.args.unit.now c.args.fix.now c.match-first_switch.result (answer c)

pub returns-clause-within : goal.returns-clause-within
returns-clause-within c = answer-within c.args.terms.now c.args.unit.now c.args.fix.now c.match-first_switch.result (answer c)

pub returns-clause-none : goal.returns-clause-none
returns-clause-none c = answer-none c.args.terms.now c.args.unit.now c.args.fix.now c.match-first_switch.result c.requires.sized (answer c)

pub returns-clause-size : goal.returns-clause-size
returns-clause-size c = answer-size c.args.terms.now c.args.unit.now c.args.fix.now c.match-first_switch.result c.requires.lawful c.requires.sized (answer c)

pub returns-clause-unit_value : goal.returns-clause-unit_value
returns-clause-unit_value c = λ instance node table g same are decided.
    answer-at_table instance node table g c.args.terms.now c.args.unit.now c.args.fix.now c.match-first_switch.result c.requires.lawful c.requires.sized same are decided (answer c)
