-- The changes so far, and those from this period on, are all.
use Rattle.std.proofs.Common.{◌≡◌, ◌++◌, drop}
use Rattle.table_list.specs.Changes.{price_changes}
use Rattle.table_list.specs.TableChanges.{changes_of}
use Rattle.table_list.specs.Passing.{price_change}
use Rattle.table_list.proofs.differences.push_prices.Given as goal

abbrev pub invariant-loop-t : goal.invariant-loop-t
invariant-loop-t l =
    changes_of l.changes.items ++ price_changes (price_change l.prices) l.t (drop l.t l.olds) (drop l.t l.news)
    ≡ changes_of l.initial.changes.items ++ price_changes (price_change l.prices) 0 l.olds l.news
