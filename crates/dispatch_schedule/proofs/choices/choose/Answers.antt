-- The next amount.
use Rattle.std.proofs.Common.{List, ◌≡◌, ◌+◌, ◌<◌, length, pos, sym, ap, subst, ◌∙◌, arith, to_z, of_z, w64}
use Rattle.std.proofs.lemmas.Int.{ints}
use Rattle.std.proofs.lemmas.List.{get_or_default}
use Rattle.dispatch_rules.specs.declared.amount.Amount.TheVariants.{Length, Shed}
use Rattle.dispatch_schedule.specs.ColumnValues.{nothing}
use Rattle.dispatch_schedule.specs.inside.Chosen.{Chosen, AreChosen, numerator_over}
use Rattle.dispatch_schedule.proofs.Rows.{chosen_more}
use Rattle.dispatch_schedule.proofs.choices.choose.Goals as goal

pub loop-c-preserved : goal.loop-c-preserved
loop-c-preserved c =
    let same : to_z w64 (of_z w64 c.numerator-numerator.result) ≡ c.numerator-numerator.result = omega (arith, ints) in
    let within : c.loop-c.c < length c.args.values.now = omega (arith, c.requires.length) in
    subst (AreChosen c.args.amounts.now c.args.values.now c.args.denominator.now (c.loop-c.c + 1)) (sym {A = List Chosen} c.in_ok-push.ensures.items)
    (chosen_more c.args.amounts.now c.args.values.now c.args.denominator.now c.loop-c.c c.loop-c.chosen.items _ c.loop-c.invariant
    (get_or_default c.args.amounts.now c.loop-c.c (Length 0 0 0) (Shed 0) c.loop-c-test.true)
    (same ∙ c.numerator-numerator.ensures
    ∙ ap (numerator_over c.args.denominator.now) (get_or_default c.args.values.now c.loop-c.c (record { numerator = pos 0; denominator = pos 0 }) nothing within)))
