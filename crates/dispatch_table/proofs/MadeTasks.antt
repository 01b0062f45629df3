-- The task of an instance, its patterns and its curves, with its scale.
-- Cite by `use Rattle.dispatch_table.proofs.MadeTasks.{is_task_of}`.
use Rattle.std.proofs.Common.{◌≡◌, ℕ, ◌<◌, ⊎_elim, refl, sym, ap, subst, ◌∙◌, arith, List, [], ◌∷◌, map, length, ℤ, pos, unsigned_abs, IsTrue, ◌<ℤ◌}
use Rattle.std.specs.Int.{◌∣◌}
use Rattle.std.proofs.lemmas.Bool.{cond-true}
use Rattle.std.proofs.lemmas.List.{get_or-map}
use Rattle.uc_model.specs.Prelude.{Demand, thermal_count}
use Rattle.pivot_run.specs.Prelude.{IsNarrow, entry}
use Rattle.dispatch_program.specs.Prelude.{free_columns, start_table}
use Rattle.dispatch_rules.specs.declared.amount.Amount.{Amount}
use Rattle.dispatch_rules.specs.declared.amount.Amount.TheVariants.{Length, Held, Shed}
use Rattle.dispatch_rules.specs.Prelude.{segments, CostForms, IsTaskOf, MakingForms, ScaleForms, cost_fraction, scale_to, Task, Limit, limit, limits, amounts, amounts_in, amount_at, listed, program, right_of, unit_amounts, IsTask}
use Rattle.dispatch_rules.proofs.Listed.{StandsIn, stands_alone, stands_left, stands_listed}
use Rattle.dispatch_table.specs.Numbers.{program_from}
use Rattle.dispatch_table.specs.Start.{AreCosts}
use Rattle.dispatch_table.specs.Tasks.{Given, IsGiven, task_of, task_with}
use Rattle.dispatch_table.proofs.SameTables.{same_table}
use Rattle.dispatch_table.proofs.Scales.{amount_in, cost_is, cost-whole, divides_scale, scale_positive}

-- each segment of an on cell has an amount
length_stands : (task : Task) (g t k : ℕ) → g < thermal_count task.instance → t < task.instance.periods → IsTrue (task.on g t) → k < segments (task.corners g)
    → StandsIn (Shed 0) (Length g t k) (amounts task)
length_stands task g t k unit period on segment =
    let x = Length g t k in
    let lengths = listed (segments (task.corners g)) (λ j. Length g t j ∷ []) in
    stands_listed (Shed 0) x task.instance.periods (amounts_in task) t period
    (stands_left (Shed 0) x (listed (thermal_count task.instance) (unit_amounts task t)) _
    (stands_listed (Shed 0) x (thermal_count task.instance) (unit_amounts task t) g unit
    (subst (λ xs. StandsIn (Shed 0) x xs) (sym (cond-true (task.on g t) _ _ on))
    (stands_left (Shed 0) x lengths (Held g t ∷ [])
    (stands_listed (Shed 0) x (segments (task.corners g)) (λ j. Length g t j ∷ []) k segment (stands_alone (Shed 0) x))))))

module _ (given : Given) (is : IsGiven given) (s : ℤ) (scale : s ≡ scale_to (task_of given) (length (amounts (task_of given)))) where
  abbrev task : Task
  task = task_with given s

  pub is_task_of : IsTaskOf given.instance.now given.patterns.now task
  is_task_of = record {
    instance_is = refl;
    on = λ g t. refl;
    corners = is.curves.curve;
    scale = scale;
  }

  divides : (c : ℕ) → c < length (amounts (task_of given)) → unsigned_abs (cost_fraction (task_of given) (amount_at (task_of given) c)).denominator ∣ unsigned_abs s
  divides c h =
      subst (λ z. unsigned_abs (cost_fraction (task_of given) (amount_at (task_of given) c)).denominator ∣ unsigned_abs z) (sym scale)
      (divides_scale (task_of given) is.curves.curve (length (amounts (task_of given))) c h (omega arith))

  pub is_task : IsTask task
  is_task = record {
    periods = omega (arith, is.lawful.periods.0);
    hulls = is.curves.curve;
    scale = subst (λ z. pos 0 <ℤ z) (sym scale) (scale_positive (task_of given) is.curves.curve (length (amounts (task_of given))) (omega arith));
    whole = λ g t k unit period on segment.
        let there = length_stands (task_of given) g t k unit period on (omega arith) in
        cost-whole (task_of given) is.curves.curve s g t k unit segment
        (subst (λ (a : Amount). unsigned_abs (cost_fraction (task_of given) a).denominator ∣ unsigned_abs s) there.2 (divides there.0 there.1));
  }

  -- ---- the table
  module _ (own : List Amount) (rules : List Limit) (rights costs : List ℤ) (same : own ≡ amounts (task_of given)) (named : rules ≡ limits (task_of given)) where
    pub table_is : rights ≡ map (right_of (task_of given)) (limits (task_of given)) → AreCosts given s costs
        → start_table (program_from own rules rights costs) ≡ start_table (program task)
    table_is sides are =
        (λ j. start_table (program_from (same j) (named j) rights costs))
        ∙ same_table (program task) (entry rights) (entry costs)
        (λ i h. ap (λ xs. entry xs i) sides ∙ get_or-map (right_of (task_of given)) (limits (task_of given)) i (limit Demand 0 0 0) (pos 0) h)
        (λ c h. are.value c h ∙ cost_is (task_of given) is.curves.curve s (amount_at (task_of given) c) (amount_in (task_of given) c (Shed 0) h) (divides c h))

    pub free_is : free_columns (program_from own rules rights costs) ≡ free_columns (program task)
    free_is = λ j. free_columns (program_from (same j) (named j) rights costs)

  pub narrow : IsNarrow (ScaleForms (task_of given)) → IsNarrow (CostForms (task_of given)) → IsNarrow (MakingForms task)
  narrow first second a b forms = ⊎_elim (λ h. first a b h) (λ h. second a b h) forms
