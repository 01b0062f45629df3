-- The value at the prices of a cheapest basis is K times the cost of its printed schedule: the last row pays for that, and weak duality
-- lets it pay no more. So no schedule of the commitment costs less.
-- Cite by `use Rattle.dispatch_prices.proofs.Worth.{prices_are_exact, dispatches_are_least}`.
use Rattle.std.proofs.Common.{◌≡◌, ℕ, ◌+◌, ◌<◌, sym, ap, subst, ◌∙◌, arith, List, ℤ, pos, ◌+ℤ◌, ◌-ℤ◌, ◌*ℤ◌, ◌≤ℤ◌, false, if◌then◌else◌}
use Rattle.uc_model.specs.Prelude.{sum_below, cell_cost, unit_cost, cost, category_cost, Schedule, thermal_unit, thermal_count, printed_denominator, printed_schedule, IsLawfulInstance}
use Rattle.uc_model.proofs.Common.{linear, le_trans, le_antisymm, mul_left_comm, mul-add, mul-sub, mul-le-mul_left, le_from_mul, pos_nonneg, sum_below-same, sum_below-sub, sum_below-mul_left}
use Rattle.dual_model.specs.Prelude.{IsBoundTable, IsScheduleAt, least_start_cost, cell_cost_by_least_starts, unit_cost_by_least_starts, cost_by_least_starts, IsNodeValue}
use Rattle.dual_model.proofs.ValueKinds.{least_starts, values_exist_at_schedules}
use Rattle.dual_model.proofs.Locality.{SameBelow, starts-same, sigma-same}
use Rattle.dual_model.specs.declared.table.Table.{Table}
use Rattle.dual_model.specs.declared.node.Node.{Node}
use Rattle.pivot_run.specs.Prelude.{row_at}
use Rattle.pivot_run.specs.Tables as pivots
use Rattle.dispatch_program.specs.Prelude.{basis_values}
use Rattle.dispatch_program.proofs.LastTables.{ends_are_last, bases_give_values}
use Rattle.dispatch_rules.specs.Prelude.{Task, program, IsTask, cost_times, scale_of, IsDispatch, Printed}
use Rattle.dispatch_rules.proofs.RunEnds.{runs_give_dispatches}
use Rattle.dispatch_rules.proofs.Primals.{values_dispatch_is}
use Rattle.dispatch_prices.specs.Dispatched.{IsAllowedTask, IsPricedBasis, IsDispatched, IsDecided, IsOfCommitment, PricesAreExact, DispatchesAreLeast}
use Rattle.dispatch_prices.proofs.CellCosts.{segment, are_segments}
use Rattle.dispatch_prices.proofs.Obeying.{dispatches_obey}
use Rattle.dispatch_prices.proofs.Payments.{schedule_pays}
use Rattle.dispatch_prices.proofs.Deciding.{deciding, is_decided, agrees_there}

module _ (task : Task) (t : pivots.Table) (table : Table) (printed : Printed) (lawful : IsLawfulInstance task.instance) (is : IsTask task)
    (allowed : IsAllowedTask task) (priced : IsPricedBasis task t table) (dispatched : IsDispatched task t printed) where
  abbrev last : List ℤ
  last = row_at t.rows ((program task).rules + 1)

  abbrev q : ℕ
  q = printed_denominator task.instance printed

  abbrev x : Schedule
  x = printed_schedule task.instance printed q

  abbrev values : ℕ → ℤ
  values = basis_values (program task) t dispatched.d dispatched.share

  -- the cost stands in its last row
  nonneg : pos 0 ≤ℤ cost_times task last
  nonneg = (ends_are_last (program task) t ((program task).rules + 1) priced.reached (omega arith) (omega arith) priced.cheapest.1).value

  dispatch : IsDispatch task dispatched.d values
  dispatch =
      values_dispatch_is task dispatched.d values is.periods
      (bases_give_values (program task) t dispatched.d dispatched.share priced.reached priced.cheapest.0 dispatched.shares).0

  scheduled : (node : Node) → IsDecided task node → IsScheduleAt task.instance node q x
  scheduled node decided = record {
    obeys = dispatches_obey task dispatched.d values printed lawful is allowed dispatched.shares.denominator dispatch dispatched.prints;
    agrees = agrees_there task node x decided (λ g s hg hs. dispatched.prints.on g s hg hs);
  }

  bound_table : IsBoundTable task.instance table
  bound_table = record { size = priced.read.size; signs = priced.signs }

  -- the last row pays for the schedule
  paid : (node : Node) (value : ℤ) → IsDecided task node → IsNodeValue task.instance node table value
      → (table.k *ℤ cost_by_least_starts task.instance q x) ≤ℤ (pos q *ℤ value)
  paid node value decided node_value =
      let segments = are_segments task dispatched.d values printed lawful is allowed dispatched.shares.denominator dispatch dispatched.prints in
      let chosen = segment task dispatched.d values printed lawful is allowed dispatched.shares.denominator dispatch dispatched.prints in
      let ends = runs_give_dispatches task t table node value dispatched.d dispatched.share chosen lawful is priced.reached priced.cheapest dispatched.shares
      priced.read decided.alone node_value segments in
      let pays = schedule_pays task dispatched.d values printed lawful is allowed dispatched.shares.denominator dispatch dispatched.prints last nonneg in
      let times = mul-le-mul_left (pos q) _ _ (pos_nonneg q) ends.1 in
      let whole = le_trans _ _ _ pays times in
      le_from_mul dispatched.d _ _ dispatched.shares.denominator
      (subst (λ z. (dispatched.d *ℤ (z *ℤ cost_by_least_starts task.instance q x)) ≤ℤ (dispatched.d *ℤ (pos q *ℤ value))) (sym priced.read.scale)
      (subst (λ z. (dispatched.d *ℤ (scale_of task last *ℤ cost_by_least_starts task.instance q x)) ≤ℤ z) (mul_left_comm (pos q) dispatched.d value) whole))

  pub exact : (node : Node) (value : ℤ) → IsDecided task node → IsNodeValue task.instance node table value
      → pos q *ℤ value ≡ table.k *ℤ cost_by_least_starts task.instance q x
  exact node value decided node_value =
      le_antisymm _ _ (least_starts false task.instance node table value q x lawful bound_table node_value (scheduled node decided)) (paid node value decided node_value)

  -- ---- another schedule of the commitment
  -- by the least start costs
  pub least_by_starts : (other : ℕ) (y : Schedule) → IsOfCommitment task printed other y
      → (pos other *ℤ cost_by_least_starts task.instance q x) ≤ℤ (pos q *ℤ cost_by_least_starts task.instance other y)
  least_by_starts other y of =
      let node = deciding task in
      let decided = is_decided task in
      let some = values_exist_at_schedules false task.instance (deciding task) table q x lawful (scheduled (deciding task) (is_decided task)) in
      let own = exact (deciding task) some.0 (is_decided task) some.1 in
      let there = least_starts false task.instance (deciding task) table some.0 other y lawful bound_table some.1
      (record { obeys = of.obeys; agrees = agrees_there task (deciding task) y (is_decided task) of.on }) in
      let times = mul-le-mul_left (pos q) _ _ (pos_nonneg q) there in
      let left = mul_left_comm table.k (pos other) (cost_by_least_starts task.instance q x) ∙ ap (λ z. pos other *ℤ z) (sym own) ∙ mul_left_comm (pos other) (pos q) some.0 in
      let right = mul_left_comm (pos q) table.k (cost_by_least_starts task.instance other y) in
      le_from_mul table.k _ _ priced.scale (omega (arith, linear, times, left, right))

-- ---- the start categories
abbrev extra_in : Task → Schedule → ℕ → ℕ → ℤ
extra_in task y g s =
    category_cost (thermal_unit task.instance g) ((y.thermal g).category s) -ℤ least_start_cost (thermal_unit task.instance g) (y.thermal g).on s

-- what the categories cost beyond the least start costs
abbrev extra : Task → Schedule → ℤ
extra task y = sum_below (thermal_count task.instance) (λ g. sum_below task.instance.periods (extra_in task y g))

split : (task : Task) (q : ℕ) (y : Schedule) → cost task.instance q y ≡ cost_by_least_starts task.instance q y +ℤ pos q *ℤ extra task y
split task q y =
    let cells = λ (g : ℕ). sum_below-same task.instance.periods
    (λ s. cell_cost q (thermal_unit task.instance g) (y.thermal g) s -ℤ cell_cost_by_least_starts q (thermal_unit task.instance g) (y.thermal g) s)
    (λ s. pos q *ℤ extra_in task y g s) (λ s h. one g s) in
    let units = sum_below-same (thermal_count task.instance)
    (λ g. unit_cost task.instance.periods q (thermal_unit task.instance g) (y.thermal g) -ℤ unit_cost_by_least_starts task.instance.periods q (thermal_unit task.instance g) (y.thermal g))
    (λ g. pos q *ℤ sum_below task.instance.periods (extra_in task y g))
    (λ g h. sym (sum_below-sub task.instance.periods (cell_cost q (thermal_unit task.instance g) (y.thermal g)) (cell_cost_by_least_starts q (thermal_unit task.instance g) (y.thermal g)))
    ∙ cells g ∙ sum_below-mul_left task.instance.periods (pos q) (extra_in task y g)) in
    let apart = sum_below-sub (thermal_count task.instance) (λ g. unit_cost task.instance.periods q (thermal_unit task.instance g) (y.thermal g))
    (λ g. unit_cost_by_least_starts task.instance.periods q (thermal_unit task.instance g) (y.thermal g)) in
    let all = sum_below-mul_left (thermal_count task.instance) (pos q) (λ g. sum_below task.instance.periods (extra_in task y g)) in
    omega (arith, linear, units, apart, all)
  where
    one : (g s : ℕ) → cell_cost q (thermal_unit task.instance g) (y.thermal g) s -ℤ cell_cost_by_least_starts q (thermal_unit task.instance g) (y.thermal g) s
        ≡ pos q *ℤ extra_in task y g s
    one g s =
        let product = mul-sub (pos q) (category_cost (thermal_unit task.instance g) ((y.thermal g).category s)) (least_start_cost (thermal_unit task.instance g) (y.thermal g).on s) in
        omega (arith, linear, product)

same_extra : (task : Task) (first second : Schedule)
    → ((g s : ℕ) → g < thermal_count task.instance → s < task.instance.periods → (first.thermal g).on s ≡ (second.thermal g).on s)
    → ((g s : ℕ) → g < thermal_count task.instance → s < task.instance.periods → (first.thermal g).category s ≡ (second.thermal g).category s)
    → extra task first ≡ extra task second
same_extra task first second on category =
    sum_below-same (thermal_count task.instance) _ _ (λ g hg. sum_below-same task.instance.periods (extra_in task first g) (extra_in task second g) (λ s hs.
    let below : SameBelow task.instance.periods (first.thermal g).on (second.thermal g).on = record { same = λ k hk. on g k hg hk } in
    λ i. category_cost (thermal_unit task.instance g) (category g s hg hs i)
    -ℤ (if starts-same task.instance.periods (thermal_unit task.instance g) (first.thermal g).on (second.thermal g).on below s hs i
    then sigma-same task.instance.periods (thermal_unit task.instance g) (first.thermal g).on (second.thermal g).on below s (omega arith) i else pos 0)))

pub prices_are_exact : PricesAreExact
prices_are_exact task t table node printed value lawful is allowed priced dispatched decided node_value =
    exact task t table printed lawful is allowed priced dispatched node value decided node_value

pub dispatches_are_least : DispatchesAreLeast
dispatches_are_least task t table printed lawful is allowed priced dispatched other y of =
    sums (pos other) (pos q) _ _ _ _ _ _ (split task q x) (split task other y)
    (same_extra task x y (λ g s hg hs. dispatched.prints.on g s hg hs ∙ sym (of.on g s hg hs)) (λ g s hg hs. sym (of.category g s hg hs)))
    (least_by_starts task t table printed lawful is allowed priced dispatched other y of)
  where
    q : ℕ
    q = printed_denominator task.instance printed

    x : Schedule
    x = printed_schedule task.instance printed (printed_denominator task.instance printed)

    sums : (p q c d by_c by_d e f : ℤ) → c ≡ by_c +ℤ q *ℤ e → d ≡ by_d +ℤ p *ℤ f → e ≡ f → (p *ℤ by_c) ≤ℤ (q *ℤ by_d) → (p *ℤ c) ≤ℤ (q *ℤ d)
    sums p q c d by_c by_d e f first second same less =
        let own = ap (λ z. p *ℤ z) first ∙ mul-add p by_c (q *ℤ e) in
        let there = ap (λ z. q *ℤ z) second ∙ mul-add q by_d (p *ℤ f) in
        let turned = mul_left_comm p q e ∙ ap (λ z. q *ℤ (p *ℤ z)) same in
        omega (arith, linear, less, own, there, turned)
