-- Each amount is the task's.
use Rattle.std.proofs.Common.{◌^◌, ◌<◌, ◌≤◌, refl, length, arith, sym, subst, ap, ◌∙◌, pos, ◌<ℤ◌, to_z, unsigned_abs, below_more, add-one}
use Rattle.std.specs.Int.{w128}
use Rattle.std.proofs.lemmas.Int.{unsigned_abs-mul}
use Rattle.pivot_run.specs.Prelude.{IsNarrow}
use Rattle.fractions.specs.Fractions.{JoinForms, joined, missing_factor}
use Rattle.dispatch_rules.specs.declared.amount.Amount.{Amount}
use Rattle.dispatch_rules.specs.Prelude.{cost_fraction, scale_to, amount_at}
use Rattle.dispatch_table.specs.Tasks.{task_of}
use Rattle.dispatch_table.proofs.Pushed.{bits_are}
use Rattle.dispatch_table.proofs.Scales.{read_in, read_amount, scale_positive}
use Rattle.dispatch_table.proofs.scale.scale.Goals as goal

pub with_denominator-requires-clause-amount : goal.with_denominator-requires-clause-amount
with_denominator-requires-clause-amount c =
    read_in (task_of c.args.given.now) c.args.amounts.now c.loop-c.c _ c.requires.amounts c.loop-c-test.true

pub with_denominator-requires-clause-scale : goal.with_denominator-requires-clause-scale
with_denominator-requires-clause-scale c =
    subst (λ z. pos 0 <ℤ z) (sym c.loop-c.invariant.value)
    (scale_positive (task_of c.args.given.now) c.requires.given.curves.curve c.loop-c.c (subst (λ xs. c.loop-c.c ≤ length xs) c.requires.amounts c.loop-c.auto.c-end))

pub loop-c-preserved : goal.loop-c-preserved
loop-c-preserved c =
    let task = task_of c.args.given.now in
    let before = to_z w128 c.loop-c.scale-bits in
    let made = c.in_ok-scale.ensures in
    let own = read_amount (task_of c.args.given.now) c.args.amounts.now c.loop-c.c _ c.requires.amounts c.loop-c-test.true in
    let narrow : IsNarrow (JoinForms before (cost_fraction task (amount_at task c.loop-c.c)).denominator) =
    subst (λ (a : Amount). IsNarrow (JoinForms before (cost_fraction task a).denominator)) own made.narrow in
    let value = made.value ∙ ap (λ (a : Amount). joined before (cost_fraction task a).denominator) own in
    let factor = missing_factor before (cost_fraction task (amount_at task c.loop-c.c)).denominator in
    let small : unsigned_abs c.in_ok-scale.scale < 2 ^ 126 =
    subst (λ z. unsigned_abs z < 2 ^ 126) (sym value) (subst (λ n. n < 2 ^ 126) (sym (unsigned_abs-mul before factor)) (narrow before factor (refl, refl))) in
    record {
      value = bits_are c.in_ok-scale.scale small ∙ value ∙ ap (λ z. joined z (cost_fraction task (amount_at task c.loop-c.c)).denominator) c.loop-c.invariant.value
          ∙ ap (scale_to task) (sym (add-one c.loop-c.c));
      narrow = below_more _ _ c.loop-c.invariant.narrow
          (subst (λ z. IsNarrow (JoinForms z (cost_fraction task (amount_at task c.loop-c.c)).denominator)) c.loop-c.invariant.value narrow);
    }

pub returns-clause-narrow : goal.returns-clause-narrow
returns-clause-narrow c = λ a b forms.
    let count = ap length c.requires.amounts in
    c.loop-c.invariant.narrow forms.0 (omega (arith, forms.1, count)) a b forms.2
