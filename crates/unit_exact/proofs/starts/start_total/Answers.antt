-- A start cost and a way to the end are within their limits.
use Rattle.std.proofs.Common.{lit<, true, false, sym, ap, ◌∙◌, arith, Some, None}
use Rattle.std.proofs.lemmas.Bool.{cond-true}
use Rattle.uc_model.proofs.Common.{abs_wide}
use Rattle.uc_model.proofs.Sizes.{wide}
use Rattle.dual_model.specs.Prelude.{may_move, total_of}
use Rattle.dual_model.proofs.Following.{may-turn_on}
use Rattle.unit_exact.specs.inside.Choices.{choice_cost}
use Rattle.unit_exact.specs.inside.Problems.{MAX_SWITCH}
use Rattle.unit_exact.proofs.Sizes.{some-map}
use Rattle.unit_exact.proofs.Steps.{total-before}
use Rattle.unit_exact.proofs.starts.start_total.Goals as goal

pub with_choice-requires : goal.with_choice-requires
with_choice-requires c = grind (arith, may-turn_on, abs_wide, some-map, c)

pub returns-clause-total : goal.returns-clause-total
returns-clause-total c =
    let p = c.args.problem.now in
    let may = sym c.may_start.ensures ∙ c.if-not-may_start.false in
    let next = c.requires.entry.start (may-turn_on p.unit.now p.fix.now c.args.t c.args.since may) in
    let cast = wide c.start_cost.result MAX_SWITCH c.start_cost.ensures.size (lit< tt) in
    c.with_choice.ensures
    ∙ ap (λ z. total_of (Some z) (choice_cost c.args.entry.now.start)) (cast ∙ c.start_cost.ensures.value)
    ∙ ap (λ o. total_of o (choice_cost c.args.entry.now.start)) (sym (cond-true (may_move p.unit.now p.fix.now c.args.t false c.args.since true) _ None may))
    ∙ ap (total_of _) next.cost
    ∙ sym (total-before p.periods p.table.now p.unit.now p.fix.now c.args.t false c.args.since c.requires.period)

pub returns-clause-size : goal.returns-clause-size
returns-clause-size c = grind (arith, c)
