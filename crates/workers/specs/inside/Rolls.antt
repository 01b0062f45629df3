-- What the steps of a roll are for each other.
use Rattle.std.specs.Prelude.{◌≡◌, ℕ, ◌<◌, ◌≤◌, ℤ, false, Some}
use Rattle.uc_model.specs.Prelude.{IsLawfulInstance}
use Rattle.schedule_check.specs.Accepted.{IsAccepted, IsAcceptedIfFound}
use Rattle.branch_tree.specs.declared.found.Found.{Found}
use Rattle.roll.specs.Prelude.{IsNextWindow, IsRolledSoFar}
use Rattle.roll.specs.declared.places.Place.{Place}
use Rattle.tree_search.specs.Options.{AreOptions}
use Rattle.workers.specs.Rolling.{IsRolled}
use Rattle.uc_model.specs.declared.instance.Instance.{Instance}
use Rattle.uc_model.specs.declared.schedule.Printed.{Printed}
use Rattle.search_answers.specs.SearchResult.{IsSearchResult}
use Rattle.workers.specs.declared.rolling.Plan.{Plan}
use Rattle.workers.specs.declared.rolling.Kept.{Kept}
use Rattle.workers.specs.declared.rolling.Step.{Step}
use Rattle.workers.specs.declared.rolling.Step.TheVariants.{Further, Ended}

-- what the search of a window may find
abbrev pub MayFind : Plan → Instance → Found → Type 0
MayFind plan ahead found = IsSearchResult plan.options.now.exact_units ahead plan.options.now.budget plan.options.now.gap found

-- a lawful instance, lawful options without exact dispatch, whose powers may be no whole watts, and windows of at least one period, of which
-- at least one is kept
pub record IsPlan (plan : Plan) : Type 0 where
  pub lawful : IsLawfulInstance plan.instance.now
  pub options : AreOptions plan.options.now
  pub pivot : plan.options.now.pivot ≡ false
  pub window : 1 ≤ plan.window
  pub step : 1 ≤ plan.step

-- what is kept is rolled so far
abbrev pub IsKeptSoFar : Plan → Kept → Type 0
IsKeptSoFar plan kept =
    IsRolledSoFar (MayFind plan) plan.instance.now plan.window plan.step kept.done kept.windows kept.schedule

-- what the search of the window at the place found
pub record IsFoundAhead (plan : Plan) (kept : Kept) (place : Place) (found : Found) : Type 0 where
  pub ahead : Instance
  pub next : IsNextWindow plan.instance.now kept.schedule kept.done place.len ahead
  pub lawful : IsLawfulInstance ahead
  pub search : MayFind plan ahead found
  pub accepted : IsAcceptedIfFound ahead found.schedule

-- the schedule is one that it found
pub record IsShownAhead (plan : Plan) (kept : Kept) (place : Place) (shown : Printed) : Type 0 where
  pub found : Found
  pub is_found : IsFoundAhead plan kept place found
  pub cost : ℤ
  pub is_shown : found.schedule ≡ Some (shown, cost)
  pub accepted : IsAccepted is_found.ahead shown cost

-- more than `done` periods are kept, or the roll has ended
abbrev pub IsStep : Plan → ℕ → Step → Type 0
IsStep plan done (Further kept) = IsKeptSoFar plan kept × (done < kept.done)
IsStep plan done (Ended rolled) =
    IsRolled plan.options.now.exact_units plan.instance.now plan.options.now.budget plan.options.now.gap plan.window plan.step rolled
