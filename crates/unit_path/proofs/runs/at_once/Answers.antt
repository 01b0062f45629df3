-- The stop's move with the way behind it.
use Rattle.std.proofs.Common.{arith, ◌≡◌, ◌<◌, ℕ, true, sym, ap, ◌∙◌, lit<, ℤ, Option, Some}
use Rattle.std.proofs.lemmas.Bool.{eq-eqb, le-leb, lt-leb}
use Rattle.uc_model.proofs.Sizes.{wide}
use Rattle.uc_model.specs.Prelude.{period_count, may_stop}
use Rattle.dual_model.specs.Prelude.{MAX_MOVE, total_of}
use Rattle.unit_path.specs.inside.Choices.{Fix, Terms, Thermal, Choice, choice_cost, stop_cost}
use Rattle.unit_path.specs.inside.Hours.{leave_cost, IsStopIn}
use Rattle.unit_path.proofs.Going.{stop_cost-at, to_go}
use Rattle.unit_path.proofs.RunLaws.{stop-barred}
use Rattle.unit_path.proofs.Switched.{stop-total}
use Rattle.unit_path.proofs.runs.at_once.Goals as goal

whole : (terms : Terms) (unit : Thermal) (fix : Fix) (since : ℕ) (cost : Option ℤ) (stop : Option Choice) → since < period_count terms
    → may_stop unit since since ≡ true → IsStopIn terms unit fix since stop → cost ≡ leave_cost terms unit fix since true
    → total_of cost (choice_cost stop) ≡ stop_cost terms unit fix since since
whole terms unit fix since cost stop h may entry e = grind (arith, eq-eqb, stop-total, h, may, entry, e)

pub returns-then-first_switch-since : goal.returns-then-first_switch-since
returns-then-first_switch-since c = grind (arith, lt-leb, stop_cost-at, to_go, stop-barred, c)

pub joined-requires-clause-more : goal.joined-requires-clause-more
joined-requires-clause-more c = grind (arith, c)

pub returns-in-None : goal.returns-in-None
returns-in-None c =
    let may = c.first_switch.ensures.first c.args.since ∙ le-leb c.first_switch.result c.args.since c.if-first_switch-since.false in
    ap (λ x. total_of x (choice_cost c.args.hour.now.stop)) (sym c.in-None.is) ∙ whole c.args.terms.now c.args.unit.now c.args.fix.now c.args.since c.hour_to.result c.args.hour.now.stop c.requires.period may c.requires.hour.stop c.hour_to.ensures.value

pub returns-in-Some : goal.returns-in-Some
returns-in-Some c =
    let may = c.first_switch.ensures.first c.args.since ∙ le-leb c.first_switch.result c.args.since c.if-first_switch-since.false in
    c.joined.ensures
    ∙ (λ i. total_of (Some (wide c.in-Some.cost MAX_MOVE c.in-Some.ensures.size (lit< tt) i)) (c.cost_of.ensures i))
    ∙ ap (λ x. total_of x (choice_cost c.args.hour.now.stop)) (sym c.in-Some.is)
    ∙ whole c.args.terms.now c.args.unit.now c.args.fix.now c.args.since c.hour_to.result c.args.hour.now.stop c.requires.period may c.requires.hour.stop c.hour_to.ensures.value
