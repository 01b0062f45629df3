-- A stop at once, or a run that goes on; at the end of the horizon the last hour.
use Rattle.std.proofs.Common.{◌≡◌, suc, true, refl, sym, ap, ◌∙◌, arith, None, eq-eqb}
use Rattle.uc_model.proofs.Sizes.{wide}
use Rattle.dual_model.specs.Prelude.{move, lesser_of, total_of}
use Rattle.unit_path.specs.inside.Choices.{stop_cost}
use Rattle.unit_path.specs.inside.Hours.{stay_cost}
use Rattle.unit_path.proofs.Going.{on-step, to_go}
use Rattle.unit_path.proofs.LeastStops.{at_once-from, least-at_once, least-end}
use Rattle.unit_path.proofs.runs.next_stop.Goals as goal

pub returns-then-since-end : goal.returns-then-since-end
returns-then-since-end c = grind (arith, least-end, eq-eqb, c)

pub later_stop-requires-clause-known : goal.later_stop-requires-clause-known
later_stop-requires-clause-known c = grind (arith, c)

pub later_stop-requires-clause-spent : goal.later_stop-requires-clause-spent
later_stop-requires-clause-spent c = grind (arith, wide, eq-eqb, c)

pub returns-in-None : goal.returns-in-None
returns-in-None c =
    let terms = c.args.terms.now in
    let unit = c.args.unit.now in
    let fix = c.args.fix.now in
    let since = c.args.since in
    let none : move terms unit fix since true since true ≡ None =
    ap (λ b. stay_cost terms unit fix since b) (eq-eqb since since refl) ∙ sym c.hour_to.ensures.value ∙ c.in-None.is in
    least-at_once terms unit fix c.requires.lawful c.requires.sized since c.better-known.result (omega arith)
    (at_once-from terms unit fix since c.better-known.result c.at_once-at_once.result
    c.at_once-at_once.ensures c.better-known.ensures.cost c.better-known.ensures.choice)
    (on-step terms unit fix since since (omega (arith, c.requires.later.count, c.if-since-end.false))
    ∙ ap (λ x. lesser_of (total_of x (to_go terms unit fix (suc since) true since)) (stop_cost terms unit fix since since)) none)
