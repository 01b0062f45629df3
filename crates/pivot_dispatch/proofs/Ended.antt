-- A commitment's table where its run has ended: a sum is left, or the basis is a cheapest one.
-- Cite by `use Rattle.pivot_dispatch.proofs.Ended.{table_reached, rules_are, rows_are, columns_are, times_are, same_on, lawful_task, allowed_task, sum_left, cheapest_here, end_is}`.
use Rattle.std.proofs.Common.{◌≡◌, ℕ, suc, ◌+◌, ◌-◌, ◌<◌, ◌⊎◌, ⊎_elim, true, false, sym, ap, subst, ◌∙◌, arith, map, length, pos, ◌≤ℤ◌, IsTrue, nat_lt}
use Rattle.std.specs.Int.{int_min}
use Rattle.std.proofs.lemmas.Bool.{cond_both}
use Rattle.std.proofs.lemmas.List.{length-map}
use Rattle.uc_model.specs.Prelude.{is_allowed, start_cap, stop_cap, IsLawfulInstance, thermal_unit, thermal_count}
use Rattle.uc_model.proofs.Common.{linear, int_min_left}
use Rattle.dual_model.proofs.UnitValues.{cap-allowed}
use Rattle.pivot_run.specs.Prelude.{Table, number, right_side}
use Rattle.pivot_run.proofs.Orders.{int_lt-true, int_lt-false}
use Rattle.dispatch_program.specs.Prelude.{IsReached, CostValue, RightSide, place, IsCheapest, SumIsLeft}
use Rattle.dispatch_program.proofs.ProgramRuns.{runs_come}
use Rattle.dispatch_program.proofs.Starts.{rows_long}
use Rattle.dispatch_rules.specs.Prelude.{AreAllowed, commitment_at, limit_of, Task, limits, program, cost_times, HasRoom}
use Rattle.dispatch_rules.proofs.Going.{runs_end_last}
use Rattle.dispatch_prices.specs.Dispatched.{IsAllowedTask}
use Rattle.dispatch_prices.specs.declared.multipliers.FinalTableau.{FinalTableau}
use Rattle.dispatch_prices.specs.Readings.{IsEndAt}
use Rattle.pivot_dispatch.specs.Answers.{cost_row}
use Rattle.pivot_dispatch.specs.inside.Endings.{Ending, IsEndedBy, leaves_sum}

module _ (end : Ending) (task : Task) (ended : IsEndedBy end task) where
  abbrev t : Table
  t = end.last.now.table

  pub table_reached : IsReached (program task) t
  table_reached = subst (IsReached (program task)) (sym ended.ends.table) (runs_come (program task) end.pivots)

  pub rules_are : (program task).rules ≡ length end.last.now.limits.items
  rules_are = ap length (sym ended.limits) ∙ length-map end.last.now.limits.items limit_of

  pub rows_are : length t.rows ≡ length end.last.now.limits.items + 2
  rows_are =
      let rows = table_reached.keeps.rows in
      let long = rows_long (program task) in
      let rules = rules_are in
      omega arith

  pub columns_are : t.columns ≡ place (program task) CostValue + 2
  columns_are =
      let size = table_reached.keeps.columns in
      omega arith

  -- how often the cost stands in its row
  pub times_are : (o c : ℕ) → o ≡ length end.last.now.limits.items + 1 → c + 2 ≡ t.columns → number t o c ≡ cost_times task (cost_row task t)
  times_are o c row column =
      let rules = rules_are in
      let size = columns_are in
      let first : o ≡ (program task).rules + 1 = omega arith in
      let second : c ≡ place (program task) CostValue = omega arith in
      λ i. number t (first i) (second i)

  right_is : number t (program task).rules (place (program task) RightSide) ≡ right_side t (length end.last.now.limits.items)
  right_is =
      let size = table_reached.keeps.columns in
      let last : place (program task) RightSide ≡ t.columns - 1 = omega arith in
      λ i. number t (rules_are i) (last i)

  -- ---- the commitment
  -- its function
  pub same_on : task.on ≡ commitment_at end.patterns.now
  same_on = λ i g s. ended.of.on g s i

  pub lawful_task : IsLawfulInstance end.instance.now → IsLawfulInstance task.instance
  lawful_task lawful = subst IsLawfulInstance (sym ended.of.instance_is) lawful

  module _ (allowed : AreAllowed end.instance.now end.patterns.now) where
    pub allowed_task : IsAllowedTask task
    allowed_task =
        subst (λ on. (g : ℕ) → g < thermal_count task.instance → IsTrue (is_allowed task.instance.periods (thermal_unit task.instance g) (on g))) (sym same_on)
        (subst (λ instance. (g : ℕ) → g < thermal_count instance → IsTrue (is_allowed instance.periods (thermal_unit instance g) (commitment_at end.patterns.now g)))
        (sym ended.of.instance_is) allowed.allowed)

    room : HasRoom task
    room g s hg hs on =
        let unit = thermal_unit task.instance g in
        cond_both (nat_lt (suc s) task.instance.periods) (int_min (start_cap unit (task.on g) s) (stop_cap unit (task.on g) s)) (start_cap unit (task.on g) s)
        (λ z. pos 0 ≤ℤ z → pos 0 ≤ℤ start_cap unit (task.on g) s)
        (λ e high. let low = int_min_left (start_cap unit (task.on g) s) (stop_cap unit (task.on g) s) in omega (arith, linear))
        (λ e high. high)
        (cap-allowed task.instance.periods unit (task.on g) (allowed_task g hg) s hs on)

    module _ (lawful : IsLawfulInstance end.instance.now) where
      last : SumIsLeft (program task) t ⊎ IsCheapest (program task) t
      last =
          subst (λ table. SumIsLeft (program task) table ⊎ IsCheapest (program task) table) (sym ended.ends.table)
          (runs_end_last task end.pivots (lawful_task lawful) ended.is room ended.ends.ended)

      pub sum_left : leaves_sum end ≡ true → SumIsLeft (program task) t
      sum_left owes = ⊎_elim
          (λ (left : SumIsLeft (program task) t). left)
          (λ (cheapest : IsCheapest (program task) t).
          let less = int_lt-true (right_side t (length end.last.now.limits.items)) (pos 0) owes in
          let none = cheapest.0 in
          let same = right_is in
          absurd (omega (arith, linear)))
          last

      pub cheapest_here : leaves_sum end ≡ false → IsCheapest (program task) t
      cheapest_here paid = ⊎_elim
          (λ (left : SumIsLeft (program task) t).
          let high = int_lt-false (right_side t (length end.last.now.limits.items)) (pos 0) paid in
          let below = left.0 in
          let same = right_is in
          absurd (omega (arith, linear)))
          (λ (cheapest : IsCheapest (program task) t). cheapest)
          last

  -- ---- the table
  -- it is the end of a run
  pub end_is : (at : FinalTableau) → at.table.now ≡ t → at.unknowns ≡ length end.last.now.amounts.items → at.limits.now ≡ end.last.now.limits.items
      → at.rights.now ≡ end.last.now.rights.items → IsEndAt task at
  end_is at table unknowns listed rights = record {
    unknowns_are = unknowns ∙ ap length ended.amounts;
    limits_are = subst (λ l. map limit_of l ≡ limits task) (sym listed) ended.limits;
    rights_are = rights ∙ ended.rights;
    reached = subst (IsReached (program task)) (sym table) table_reached;
  }
