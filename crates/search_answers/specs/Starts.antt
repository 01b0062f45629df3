-- What the claims of the root begin with.
use Rattle.std.specs.Prelude.{◌≡◌, ℤ, Option, Some}
use Rattle.decommitment.specs.Standings.{IsDropped, ending_of}
use Rattle.decommitment.specs.declared.pass.Standing.TheVariants as standing
use Rattle.opening.specs.RootTables.{IsPricedOf}
use Rattle.uc_model.specs.declared.instance.Instance.{Instance}
use Rattle.search_answers.specs.Opening.{IsRootTable}
use Rattle.search_answers.specs.declared.start.OpenedSearch.{OpenedSearch}
use Rattle.uc_model.specs.declared.schedule.Printed.{Printed}
use Rattle.decommitment.specs.declared.pass.Standing.{Standing}
use Rattle.schedule_check.specs.Accepted.{IsAcceptedIfFound}
use Rattle.search_answers.specs.Best.{kept_stuck}
use Rattle.search_answers.specs.SearchResult.{IsNoDearer}
use Rattle.node_visits.specs.Trials.{IsNextAt}

-- the best schedule is that of the drop commitment, where this has one
abbrev pub IsFirstBest : Standing → Option (Printed × ℤ) → Type 0
IsFirstBest (standing.Dispatched printed cost) best = best ≡ Some (printed, cost)
IsFirstBest (standing.Stuck period most_on) best = Unit {0}

-- the drop commitment, with what is known by it
pub record IsOpened (instance : Instance) (opened : OpenedSearch) : Type 0 where
  pub standing : Standing
  pub dropped : IsDropped instance standing
  pub stuck : opened.most_on ≡ kept_stuck standing
  pub table : IsRootTable instance (ending_of standing) opened.start.opening.table opened.start.opening.value
  pub priced : IsPricedOf instance opened.start.opening
  pub accepted : IsAcceptedIfFound instance opened.start.best
  pub no_dearer : IsNoDearer opened.start.best (ending_of standing)
  pub is_first : IsFirstBest standing opened.start.best
  pub is_next : IsNextAt instance 1 opened.start.next
