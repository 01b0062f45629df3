-- The end of a run: where a sum is left, the row of the sum has nothing of the cost, so its right side alone is the bound; else the basis gives values.
-- Cite by `use Rattle.dispatch_rules.proofs.RunEnds.{runs_give_rays, runs_give_dispatches}`.
use Rattle.std.proofs.Common.{◌≡◌, ◌+◌, refl, sym, ap, ◌∙◌, arith, List, ℤ, pos, ◌*ℤ◌}
use Rattle.std.proofs.lemmas.Bool.{cond_both}
use Rattle.uc_model.specs.Prelude.{point_of, thermal_unit, thermal_count}
use Rattle.uc_model.proofs.Common.{linear, zero-mul, sum_below-zero}
use Rattle.dual_model.specs.Prelude.{least_start_cost}
use Rattle.pivot_run.specs.Prelude.{row_at, number}
use Rattle.dispatch_program.specs.Prelude.{CostValue, place, basis_values}
use Rattle.dispatch_program.proofs.LastTables.{count, cost_column, ends_are_last, bases_give_values}
use Rattle.dispatch_rules.specs.Dispatch.{Task, program}
use Rattle.dispatch_rules.specs.Duals.{scale_of, left_cost, left_costs, start_cost, start_costs}
use Rattle.dispatch_rules.specs.RunEnds.{RunsGiveRays, RunsGiveDispatches}
use Rattle.dispatch_rules.proofs.NodeBounds.{last_rows_bound}
use Rattle.dispatch_rules.proofs.Primals.{values_dispatch_is}
use Rattle.dispatch_rules.proofs.Bests.{node_covers_dispatch}

-- ---- a row without the cost
left_none : (task : Task) (row : List ℤ) → scale_of task row ≡ pos 0 → left_costs task row ≡ pos 0
left_none task row none =
    sum_below-zero (thermal_count task.instance) _ (λ g h. sum_below-zero task.instance.periods (left_cost task row g) (λ t l.
    cond_both (task.on g t) (scale_of task row *ℤ (point_of (task.corners g) 0).cost) (pos 0) (λ z. z ≡ pos 0)
    (λ e. ap (λ k. k *ℤ (point_of (task.corners g) 0).cost) none ∙ zero-mul ((point_of (task.corners g) 0).cost)) (λ e. refl)))

start_none : (task : Task) (row : List ℤ) → scale_of task row ≡ pos 0 → start_costs task row ≡ pos 0
start_none task row none =
    sum_below-zero (thermal_count task.instance) _ (λ g h. sum_below-zero task.instance.periods (start_cost task row g) (λ t l.
    ap (λ k. k *ℤ least_start_cost (thermal_unit task.instance g) (task.on g) t) none
    ∙ zero-mul (least_start_cost (thermal_unit task.instance g) (task.on g) t)))

pub runs_give_rays : RunsGiveRays
runs_give_rays task t table node v lawful is reached left read alone value =
    let p = program task in
    let row = row_at t.rows (program task).rules in
    let size = count (program task) t reached in
    let last = ends_are_last (program task) t (program task).rules reached (omega arith) (omega arith) left.1 in
    let bound = last_rows_bound task row table node v lawful is last read alone value in
    let nothing : number t (program task).rules (place (program task) CostValue) ≡ pos 0 =
    ap (number t (program task).rules) (sym (cost_column (program task) t reached))
    ∙ reached.keeps.basis.others ((program task).rules + 1) (program task).rules (omega arith) (omega arith) (λ e. absurd (omega arith)) in
    let scale : scale_of task (row_at t.rows (program task).rules) ≡ pos 0 = ap (λ z. z *ℤ task.scale) nothing ∙ zero-mul task.scale in
    let lefts = left_none task (row_at t.rows (program task).rules) scale in
    let starts = start_none task (row_at t.rows (program task).rules) scale in
    let below = left.0 in
    (read.scale ∙ scale, omega (arith, linear))

pub runs_give_dispatches : RunsGiveDispatches
runs_give_dispatches task t table node v d share segment lawful is reached cheapest shares read alone value segments =
    let values = bases_give_values (program task) t d share reached cheapest.0 shares in
    let last = ends_are_last (program task) t ((program task).rules + 1) reached (omega arith) (omega arith) cheapest.1 in (
      values_dispatch_is task d (basis_values (program task) t d share) is.periods values.0,
      node_covers_dispatch task (row_at t.rows ((program task).rules + 1)) table node d (basis_values (program task) t d share) segment v
          lawful is last read alone value values.0 segments values.1,
    )
