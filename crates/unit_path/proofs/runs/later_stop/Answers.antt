-- The run goes on until it may end, or to a period in which the unit may not be on.
use Rattle.std.proofs.Common.{◌≡◌, ◌+◌, ◌-◌, ◌⊎◌, true, ap, subst, ◌∙◌, arith, lit<, None}
use Rattle.std.proofs.lemmas.Bool.{le-leb, lt-leb}
use Rattle.uc_model.proofs.Sizes.{wide}
use Rattle.dual_model.specs.Prelude.{MAX_COST_TO_GO, lesser_of, total_of}
use Rattle.unit_path.specs.inside.Choices.{choice_cost, longer_of, stays, stop_cost}
use Rattle.unit_path.specs.inside.Hours.{hour_in}
use Rattle.dual_model.proofs.Costs.{lesser-none}
use Rattle.unit_path.proofs.Entries.{on_until-entry, onward-entry}
use Rattle.unit_path.proofs.Going.{to_go}
use Rattle.unit_path.proofs.LeastStops.{least-at_once, least-later}
use Rattle.unit_path.proofs.RunLaws.{run-least, stays-barred}
use Rattle.unit_path.proofs.runs.later_stop.Goals as goal

pub returns-then-from-hours : goal.returns-then-from-hours
returns-then-from-hours c =
    let terms = c.args.terms.now in
    let unit = c.args.unit.now in
    let fix = c.args.fix.now in
    let since = c.args.since in
    let from = c.min-from.result in
    let hours = c.args.hours.now in
    let until = on_until-entry terms unit fix since hours c.requires.later (since + 1) (omega arith) (omega arith) in
    let none : stays terms unit fix since since (from - since) ≡ None =
    stays-barred terms unit fix since since (hour_in hours (since + 1)).on_until (from - since)
    (omega (arith, until.later)) (omega (arith, until.later, c.if-from-hours.true, c.requires.later.count))
    (until.at (omega (arith, c.if-from-hours.true, c.requires.later.count))) in
    least-at_once terms unit fix c.requires.lawful c.requires.sized since c.args.known (omega arith) c.requires.known
    (run-least terms unit fix since from (omega (arith, c.requires.later.count)) (omega (arith, c.requires.later.count))
    (λ k low high. c.first_switch.ensures.first k ∙ lt-leb c.first_switch.result k (omega arith))
    ∙ ap (λ x. lesser_of (stop_cost terms unit fix since since) (total_of x (to_go terms unit fix from true since))) none
    ∙ lesser-none (stop_cost terms unit fix since since))

pub run_cost-spent-requires-clause-on : goal.run_cost-spent-requires-clause-on
run_cost-spent-requires-clause-on c = grind (arith, c)

pub longer_by-requires-clause-choice : goal.longer_by-requires-clause-choice
longer_by-requires-clause-choice c =
    (onward-entry c.args.terms.now c.args.unit.now c.args.fix.now c.args.since c.args.hours.now c.requires.later c.args.since c.min-from.result
    (omega (arith, c.requires.later.count)) (omega (arith, c.requires.later.count)) (omega (arith, c.requires.later.count))
    (λ h. c.first_switch.ensures.first c.min-from.result ∙ le-leb c.first_switch.result c.min-from.result (omega (arith, c.requires.later.count)))).size

pub returns : goal.returns
returns c =
    let terms = c.args.terms.now in
    let unit = c.args.unit.now in
    let fix = c.args.fix.now in
    let since = c.args.since in
    let from = c.min-from.result in
    let onward = (hour_in c.args.hours.now from).onward in
    let longer : c.longer_by.result ≡ longer_of c.run_cost-spent.result onward =
    c.longer_by.ensures ∙ ap (λ x. longer_of x onward) (wide c.run_cost-spent.result MAX_COST_TO_GO c.run_cost-spent.ensures.size (lit< tt)) in
    let least = onward-entry terms unit fix since c.args.hours.now c.requires.later since from
    (omega (arith, c.requires.later.count)) (omega (arith, c.requires.later.count)) (omega (arith, c.requires.later.count))
    (λ h. c.first_switch.ensures.first from ∙ le-leb c.first_switch.result from (omega (arith, c.requires.later.count))) in
    least-later terms unit fix c.requires.lawful c.requires.sized since from c.args.known c.run_cost-spent.result onward c.better_of.result
    (omega (arith, c.requires.later.count)) (omega (arith, c.requires.later.count))
    (λ k low high. c.first_switch.ensures.first k ∙ lt-leb c.first_switch.result k (omega arith))
    c.requires.known c.run_cost-spent.ensures.value least
    (c.better_of.ensures.cost ∙ ap (λ o. lesser_of (choice_cost c.args.known) (choice_cost o)) longer)
    (subst (λ o. (c.better_of.result ≡ c.args.known) ⊎ (c.better_of.result ≡ o)) longer c.better_of.ensures.choice)
