-- The prices at the end of a run make a lawful table.
-- Cite by `use Rattle.pivot_dispatch.proofs.Tables.{lawful_table, sum_last, cost_last, sum_scale, cost_positive}`.
use Rattle.std.proofs.Common.{◌≡◌, ◌+◌, sym, ap, subst, ◌∙◌, arith, List, ℤ, pos, ◌*ℤ◌, ◌≤ℤ◌, ◌<ℤ◌}
use Rattle.uc_model.proofs.Common.{zero-mul, mul-zero, mul-lt-mul_left}
use Rattle.dual_model.specs.Prelude.{IsLawfulTable}
use Rattle.dual_model.specs.declared.table.Table.{Table}
use Rattle.pivot_run.specs.Tables as tables
use Rattle.dispatch_program.specs.Prelude.{IsLastRow, IsReached, CostValue, place, IsCheapest, SumIsLeft}
use Rattle.dispatch_program.proofs.LastTables.{count, cost_column, ends_are_last}
use Rattle.dispatch_rules.specs.Prelude.{Task, program, IsTask, scale_of}
use Rattle.dispatch_prices.specs.Readings.{IsPriceTable}
use Rattle.dispatch_prices.proofs.Signs.{lawful_signs}
use Rattle.pivot_dispatch.specs.Answers.{cost_row, sum_row}

pub lawful_table : (task : Task) (row : List ℤ) (k : ℤ) (table : Table) → IsLastRow (program task) row → IsPriceTable task row k table
    → k ≡ scale_of task row → k ≤ℤ pos 1000000000 → IsLawfulTable task.instance table
lawful_table task row k table last of scale within = record {
  size = (of.read scale).size;
  signs = lawful_signs task row last k table of scale;
  limits = record {
    scale = subst (λ z. z ≤ℤ pos 1000000000) (sym of.scale) within;
    pi = of.demand;
    mu = of.reserve;
    ramps = of.ramps;
  };
}

module _ (task : Task) (t : tables.Table) (reached : IsReached (program task) t) where
  pub sum_last : SumIsLeft (program task) t → IsLastRow (program task) (sum_row task t)
  sum_last left = let size = count (program task) t reached in ends_are_last (program task) t (program task).rules reached (omega arith) (omega arith) left.1

  pub cost_last : IsCheapest (program task) t → IsLastRow (program task) (cost_row task t)
  cost_last cheapest = ends_are_last (program task) t ((program task).rules + 1) reached (omega arith) (omega arith) cheapest.1

  -- the row of the sum has nothing of the cost
  pub sum_scale : scale_of task (sum_row task t) ≡ pos 0
  sum_scale =
      let size = count (program task) t reached in
      let nothing : tables.number t (program task).rules (place (program task) CostValue) ≡ pos 0 =
      ap (tables.number t (program task).rules) (sym (cost_column (program task) t reached))
      ∙ reached.keeps.basis.others ((program task).rules + 1) (program task).rules (omega arith) (omega arith) (λ e. absurd (omega arith)) in
      ap (λ z. z *ℤ task.scale) nothing ∙ zero-mul task.scale

  -- and that of the cost has some
  pub cost_positive : IsTask task → pos 0 <ℤ scale_of task (cost_row task t)
  cost_positive is =
      let size = count (program task) t reached in
      let times : pos 0 <ℤ tables.number t ((program task).rules + 1) (place (program task) CostValue) =
      subst (λ c. pos 0 <ℤ tables.number t ((program task).rules + 1) c) (cost_column (program task) t reached)
      (reached.keeps.basis.own ((program task).rules + 1) (omega arith)) in
      subst (λ z. z <ℤ scale_of task (cost_row task t)) (mul-zero (tables.number t ((program task).rules + 1) (place (program task) CostValue)))
      (mul-lt-mul_left (tables.number t ((program task).rules + 1) (place (program task) CostValue)) (pos 0) task.scale times is.scale)
