-- The list of values is that of the table, so the denominator is its least one; and the chosen amounts are those of each task that ends there.
use Rattle.std.proofs.Common.{rules, ◌≡◌, length, pos, ◌≤ℤ◌, ◌<ℤ◌, sym, ap, subst, ◌∙◌, arith, List, to_z, of_z, SFits}
use Rattle.std.specs.Int.{w128}
use Rattle.std.proofs.lemmas.Int.{ints, to_z-of_z}
use Rattle.fractions.specs.declared.fraction.Fraction.{Fraction}
use Rattle.dispatch_rules.specs.Prelude.{program}
use Rattle.dispatch_schedule.specs.inside.Values.{AreValuesTo, joined_to}
use Rattle.dispatch_schedule.specs.inside.Chosen.{AreChosen}
use Rattle.dispatch_schedule.proofs.ColumnValues.{has_values}
use Rattle.dispatch_schedule.proofs.Endings.{are_positive, from_joining, narrow_is, denominator_is, choice, are_small, are_small_outputs, printed_denominator_is, prints, sized}
use Rattle.dispatch_schedule.proofs.schedules.schedule.Goals as goal
use Rattle.dispatch_schedule.proofs.schedules.schedule.Goals.{After-deref, After-deref-2, After-deref-3}

pub column_values-requires : goal.column_values-requires
column_values-requires c = has_values (program c.requires.end.0) c.args.table.now c.requires.end.1.reached

-- the values in the slice
values_are : (c : After-deref) → AreValuesTo c.args.table.now c.args.table.now.constraints (length c.args.amounts.now) c.deref.result.now
values_are c =
    subst (AreValuesTo c.args.table.now c.args.table.now.constraints (length c.args.amounts.now)) (sym c.deref.ensures.value) c.in_ok-values.ensures

pub least_denominator-requires : goal.least_denominator-requires
least_denominator-requires c =
    are_positive c.args.instance.now c.args.patterns.now c.args.amounts.now c.args.table.now c.deref.result.now (values_are c) c.requires.end.0 c.requires.end.1

pub returns-in-Err : goal.returns-in-Err
returns-in-Err c = λ task end. (
  from_joining c.args.instance.now c.args.patterns.now c.args.amounts.now c.args.table.now c.deref.result.now (values_are c.before.before.before) task end
      c.in-Err.wide.size c.in-Err.wide.other c.in-Err.ensures.wide.0,
  c.in-Err.ensures.wide.1,
)

pub returns-then-denominator : goal.returns-then-denominator
returns-then-denominator c = λ task end.
    let fits : SFits w128 c.in-Ok.denominator = search rules in
    let same = to_z-of_z w128 c.in-Ok.denominator fits in
    let above : pos 99 <ℤ to_z w128 (of_z w128 c.in-Ok.denominator) = grind (arith, ints, c.if-denominator.true) in (
      same ∙ c.in-Ok.ensures.value ∙ denominator_is c.args.instance.now c.args.patterns.now c.args.amounts.now c.args.table.now c.deref.result.now (values_are c.before.before.before.before) task end,
      above,
      narrow_is c.args.instance.now c.args.patterns.now c.args.amounts.now c.args.table.now c.deref.result.now (values_are c.before.before.before.before) task end c.in-Ok.ensures.narrow,
    )

-- the values in the slice that is read again, and their denominator, which is at most 99
values_again : (c : After-deref-2) → AreValuesTo c.args.table.now c.args.table.now.constraints (length c.args.amounts.now) c.deref-2.result.now
values_again c =
    subst (AreValuesTo c.args.table.now c.args.table.now.constraints (length c.args.amounts.now)) (sym c.deref-2.ensures.value) c.in_ok-values.ensures

over_again : (c : After-deref-2) → to_z w128 (of_z w128 c.in-Ok.denominator) ≡ joined_to c.deref-2.result.now (length c.deref-2.result.now)
over_again c =
    let fits : SFits w128 c.in-Ok.denominator = search rules in
    to_z-of_z w128 c.in-Ok.denominator fits ∙ c.in-Ok.ensures.value ∙ ap (λ (xs : List Fraction). joined_to xs (length xs)) (c.deref.ensures.value ∙ sym c.deref-2.ensures.value)

small_again : (c : After-deref-2) → to_z w128 (of_z w128 c.in-Ok.denominator) ≤ℤ pos 99
small_again c = grind (arith, ints, c.if-denominator.false)

pub choose-requires-clause-choices : goal.choose-requires-clause-choices
choose-requires-clause-choices c =
    choice c.args.instance.now c.args.patterns.now c.args.amounts.now c.args.table.now c.deref-2.result.now (values_again c.before) c.requires.end.0 c.requires.end.1
    c.requires.lawful (to_z w128 (of_z w128 c.in-Ok.denominator)) (over_again c.before) (small_again c.before)

-- the amounts in the slice
chosen_are : (c : After-deref-3) → AreChosen c.args.amounts.now c.deref-2.result.now (to_z w128 (of_z w128 c.in-Ok.denominator)) (length c.args.amounts.now) c.deref-3.result.now
chosen_are c =
    subst (AreChosen c.args.amounts.now c.deref-2.result.now (to_z w128 (of_z w128 c.in-Ok.denominator)) (length c.args.amounts.now)) (sym c.deref-3.ensures.value)
    c.in_ok-chosen.ensures

pub print-requires-clause-small : goal.print-requires-clause-small
print-requires-clause-small c =
    are_small c.args.instance.now c.args.patterns.now c.args.amounts.now c.args.table.now c.deref-2.result.now (values_again c.before.before.before.before.before.before) c.requires.end.0 c.requires.end.1
    c.requires.lawful (to_z w128 (of_z w128 c.in-Ok.denominator)) (over_again c.before.before.before.before.before.before) (small_again c.before.before.before.before.before.before) c.deref-3.result.now (chosen_are c)

pub print-requires-clause-outputs : goal.print-requires-clause-outputs
print-requires-clause-outputs c =
    are_small_outputs c.args.instance.now c.args.patterns.now c.args.amounts.now c.args.table.now c.deref-2.result.now (values_again c.before.before.before.before.before.before) c.requires.end.0 c.requires.end.1
    c.requires.lawful (to_z w128 (of_z w128 c.in-Ok.denominator)) (over_again c.before.before.before.before.before.before) (small_again c.before.before.before.before.before.before) c.deref-3.result.now (chosen_are c)

pub returns : goal.returns
returns c = λ task end. let e = c.in_ok-printed.ensures in (
  printed_denominator_is c.args.instance.now c.args.patterns.now c.args.amounts.now c.args.table.now c.deref-2.result.now (values_again c.before.before.before.before.before.before.before.before.before.before.before) task end
      c.requires.lawful (to_z w128 (of_z w128 c.in-Ok.denominator)) (over_again c.before.before.before.before.before.before.before.before.before.before.before) (small_again c.before.before.before.before.before.before.before.before.before.before.before) c.deref-3.result.now (chosen_are c.before.before.before.before.before)
      c.in_ok-printed.printed c.in_ok-printed.ensures,
  narrow_is c.args.instance.now c.args.patterns.now c.args.amounts.now c.args.table.now c.deref.result.now (values_are c.before.before.before.before.before.before.before.before.before.before.before.before.before.before.before.before) task end c.in-Ok.ensures.narrow,
  sized c.args.instance.now c.args.patterns.now c.args.amounts.now c.args.table.now c.deref-2.result.now (values_again c.before.before.before.before.before.before.before.before.before.before.before) task end
      c.requires.lawful (to_z w128 (of_z w128 c.in-Ok.denominator)) (over_again c.before.before.before.before.before.before.before.before.before.before.before) (small_again c.before.before.before.before.before.before.before.before.before.before.before) c.deref-3.result.now (chosen_are c.before.before.before.before.before)
      c.in_ok-printed.printed c.in_ok-printed.ensures,
  prints c.args.instance.now c.args.patterns.now c.args.amounts.now c.args.table.now c.deref-2.result.now (values_again c.before.before.before.before.before.before.before.before.before.before.before) task end
      c.requires.lawful (to_z w128 (of_z w128 c.in-Ok.denominator)) (over_again c.before.before.before.before.before.before.before.before.before.before.before) (small_again c.before.before.before.before.before.before.before.before.before.before.before) c.deref-3.result.now (chosen_are c.before.before.before.before.before)
      c.in_ok-printed.printed c.in_ok-printed.ensures,
)
