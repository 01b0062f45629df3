-- What is held of a commitment's table where its run has ended.
use Rattle.std.specs.Prelude.{◌≡◌, ℕ, Bool, List, length, map, pos, int_lt, ◌≤ℤ◌}
use Rattle.pivot_run.specs.Prelude.{IsNarrow, Table, right_side}
use Rattle.dispatch_rules.specs.Prelude.{IsTaskOf, MakingForms, limit_of, Task, amounts, limits, program, right_of, IsTask, scale_of}
use Rattle.dispatch_rules.specs.declared.limit.LimitAt.{LimitAt}
use Rattle.dispatch_prices.specs.ReadOff.{HasSmallMultipliers, ReadingForms}
use Rattle.dispatch_prices.specs.Readings.{IsPriceTable}
use Rattle.dual_model.specs.declared.table.Table.{Table as Prices}
use Rattle.pivot_run.specs.declared.stop.Stop.{Stop}
use Rattle.pivot_run.specs.declared.stop.StopCause.{StopCause as StopWhat}
use Rattle.pivot_run.specs.declared.stop.StopCause.TheVariants.{Product as ProductStop, Pivots as PivotsStop}
use Rattle.dispatch_prices.specs.declared.unfit.Unfit.{Unfit}
use Rattle.dispatch_prices.specs.declared.unfit.Unfit.TheVariants.{Product as ProductOf, Multiplier as MultiplierOf, NoMemory}
use Rattle.pivot_dispatch.specs.Answers.{Ends, DispatchAnswer, WideCause, TableScaleForms, cost_row}
use Rattle.pivot_dispatch.specs.declared.pivot.DispatchAnswer.TheVariants.{Wide}
use Rattle.pivot_dispatch.specs.declared.pivot.WideCause.TheVariants.{Product, Multiplier, Pivots}
pub use Rattle.pivot_dispatch.specs.declared.ending.Ending.{Ending}

-- the run on the task's table has made so many pivots, and ended
pub record IsEndedBy (end : Ending) (task : Task) : Type 0 where
  pub of : IsTaskOf end.instance.now end.patterns.now task
  pub is : IsTask task
  pub rights : end.last.now.rights.items ≡ map (right_of task) (limits task)
  pub amounts : end.last.now.amounts.items ≡ amounts task
  pub limits : map limit_of end.last.now.limits.items ≡ limits task
  pub scale : end.last.now.scale ≡ task.scale
  pub making : IsNarrow (MakingForms task)
  pub ends : Ends task end.pivots end.last.now.table

abbrev pub IsEnded : Ending → Type 0
IsEnded end = (task : Task) × IsEndedBy end task

-- whether a sum is left
abbrev pub leaves_sum : Ending → Bool
leaves_sum end = int_lt (right_side end.last.now.table (length end.last.now.limits.items)) (pos 0)

-- the answer tells why a row gives no prices
abbrev pub Tells : Unfit → ℕ → DispatchAnswer → Type 0
Tells (ProductOf wide) pivots pivot = pivot ≡ Wide Product wide.size wide.other pivots
Tells (MultiplierOf z) pivots pivot = pivot ≡ Wide Multiplier z (pos 0) pivots
Tells NoMemory pivots pivot = ⊥

-- or where the run stops
abbrev pub what_of : StopWhat → WideCause
what_of ProductStop = Product
what_of PivotsStop = Pivots

abbrev pub IsStopped : Stop → DispatchAnswer → Type 0
IsStopped stop pivot = pivot ≡ Wide (what_of stop.what) stop.size stop.other stop.pivots

-- the prices of the last row of a cheapest basis, at its scale, which small products made
pub record IsPricedBy (task : Task) (t : Table) (table : Prices) : Type 0 where
  pub prices : IsPriceTable task (cost_row task t) table.k table
  pub scale : table.k ≡ scale_of task (cost_row task t)
  pub within : table.k ≤ℤ pos 1000000000
  pub forms : IsNarrow (TableScaleForms task t)
  pub reading : IsNarrow (ReadingForms (program task) (cost_row task t))
  pub small : (listed : List LimitAt) → map limit_of listed ≡ limits task → HasSmallMultipliers (program task) listed (cost_row task t)
