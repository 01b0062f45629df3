-- What the end of a run says of its commitment: a ray that excludes it, or a cheapest schedule with prices that bound its cost exactly.
-- Cite by `use Rattle.pivot_dispatch.proofs.Commitments.{ray_of, best_of}`.
use Rattle.std.proofs.Common.{◌≡◌, ℕ, sym, subst, ◌∙◌, List, pos, ◌≤ℤ◌, ◌<ℤ◌, IsTrue, false}
use Rattle.std.specs.List.{list_all}
use Rattle.uc_model.specs.Prelude.{Commitment, IsLawfulInstance, Obeys, cell_at, printed_denominator, printed_schedule, Schedule, thermal_unit}
use Rattle.uc_model.proofs.Common.{pos_nonneg}
use Rattle.dual_model.specs.Prelude.{keeps}
use Rattle.dual_model.specs.declared.node.Node.{Node}
use Rattle.dual_model.specs.declared.table.Table.{Table}
use Rattle.dual_model.proofs.ValueKinds.{values_exist_at_schedules}
use Rattle.start_costs.specs.Cheapest.{HasLeastCategory}
use Rattle.schedule_check.specs.SizedNumbers.{HasSizedNumbers}
use Rattle.pivot_run.specs.Tables as tables
use Rattle.dispatch_program.specs.Prelude.{IsReached, basis_values, IsCheapest, SumIsLeft}
use Rattle.dispatch_program.proofs.LastTables.{bases_give_values}
use Rattle.dispatch_rules.specs.Prelude.{Pattern, commitment_at, Task, program, IsTask, scale_of, Printed}
use Rattle.dispatch_rules.proofs.Primals.{values_dispatch_is}
use Rattle.dispatch_rules.proofs.RunEnds.{runs_give_rays}
use Rattle.dispatch_prices.specs.Dispatched as dispatched
use Rattle.dispatch_prices.specs.Readings.{IsPriceTable}
use Rattle.dispatch_prices.proofs.Deciding.{agrees_there}
use Rattle.dispatch_prices.proofs.Obeying.{dispatches_obey}
use Rattle.dispatch_prices.proofs.Worth.{prices_are_exact, dispatches_are_least}
use Rattle.dispatch_prices.proofs.Signs.{lawful_signs}
use Rattle.pivot_dispatch.specs.Answers.{cost_row, sum_row}
use Rattle.pivot_dispatch.specs.Commitments.{IsBestOf, IsDecidedAt, IsRayOf}
use Rattle.pivot_dispatch.proofs.Tables.{lawful_table, sum_last, cost_last, sum_scale, cost_positive}

module _ (task : Task) (patterns : List Pattern) (t : tables.Table) (table : Table) (lawful : IsLawfulInstance task.instance) (is : IsTask task)
    (same : task.on ≡ commitment_at patterns) (reached : IsReached (program task) t) where
  decided_is : (node : Node) → IsDecidedAt task.instance patterns node → dispatched.IsDecided task node
  decided_is node decided = record {
    cells = decided.cells;
    agrees = subst (λ (on : ℕ → Commitment). IsTrue (list_all (λ fixing. keeps fixing (on fixing.g)) node.fixings)) (sym same) decided.agrees;
    alone = record { alone = λ g other hg at s hs. (λ i. same i g s) ∙ decided.alone g other hg at s hs };
  }

  -- ---- a sum is left
  pub ray_of : SumIsLeft (program task) t → IsPriceTable task (sum_row task t) (pos 0) table → IsRayOf task.instance patterns table
  ray_of left of =
      let none = sum_scale task t reached in
      let last = sum_last task t reached left in
      record {
        lawful = lawful_table task (sum_row task t) (pos 0) table last of (sym none) (pos_nonneg 1000000000);
        scale = of.scale;
        above = λ node value decided node_value.
            (runs_give_rays task t table node value lawful is reached left (of.read (sym none)) (decided_is node decided).alone node_value).1;
      }

  -- ---- none is left
  module _ (allowed : dispatched.IsAllowedTask task) (cheapest : IsCheapest (program task) t)
      (of : IsPriceTable task (cost_row task t) table.k table) (scale : table.k ≡ scale_of task (cost_row task t)) where
    positive : pos 0 <ℤ table.k
    positive = subst (λ z. pos 0 <ℤ z) (sym scale) (cost_positive task t reached is)

    basis : dispatched.IsPricedBasis task t table
    basis = record {
      reached = reached;
      cheapest = cheapest;
      read = of.read scale;
      signs = lawful_signs task (cost_row task t) (cost_last task t reached cheapest) table.k table of scale;
      scale = positive;
    }

    module _ (printed : Printed) (shown : dispatched.IsDispatched task t printed) where
      abbrev q : ℕ
      q = printed_denominator task.instance printed

      abbrev x : Schedule
      x = printed_schedule task.instance printed q

      shown_obeys : Obeys task.instance q x
      shown_obeys = dispatches_obey task shown.d (basis_values (program task) t shown.d shown.share) printed lawful is allowed shown.shares.denominator
          (values_dispatch_is task shown.d (basis_values (program task) t shown.d shown.share) is.periods
          (bases_give_values (program task) t shown.d shown.share reached cheapest.0 shown.shares).0)
          shown.prints

      pub best_of : table.k ≤ℤ pos 1000000000 → HasSizedNumbers printed → IsBestOf task.instance patterns printed table
      best_of within sized = record {
        shape = shown.prints.shape;
        numbers = sized;
        on = λ g s hg hs. shown.prints.on g s hg hs ∙ (λ i. same i g s);
        category = λ g s hg hs. subst (λ (on : ℕ → Commitment). HasLeastCategory (thermal_unit task.instance g) (on g) s (cell_at printed g s).category) same
            (shown.prints.category g s hg hs);
        obeys = shown_obeys;
        least = λ other y of_same. dispatches_are_least task t table printed lawful is allowed basis shown other y (record {
          obeys = of_same.obeys;
          on = λ g s hg hs. of_same.on g s hg hs ∙ sym (λ i. same i g s);
          category = of_same.category;
        });
        lawful = lawful_table task (cost_row task t) table.k table (cost_last task t reached cheapest) of scale within;
        scale = positive;
        exact = λ node value decided node_value.
            prices_are_exact task t table node printed value lawful is allowed basis shown (decided_is node decided) node_value;
        valued = λ node decided. values_exist_at_schedules false task.instance node table q x lawful (record {
          obeys = shown_obeys;
          agrees = agrees_there task node x (decided_is node decided) (λ g s hg hs. shown.prints.on g s hg hs);
        });
      }
