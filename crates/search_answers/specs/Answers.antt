-- What the search makes of what it knows.
use Rattle.std.specs.Prelude.{◌≡◌, Bool, ℕ, true, List, [], ℤ, Option, None, Some}
use Rattle.uc_model.specs.Prelude.{thermal_count}
pub use Rattle.uc_model.specs.declared.instance.Instance.{Instance}
pub use Rattle.uc_model.specs.declared.stuck.Stuck.{Stuck}
use Rattle.branch_tree.specs.Prelude.{EndAt, TreeView}
use Rattle.branch_tree.specs.declared.tree.Leaf.{Leaf}
use Rattle.branch_tree.specs.declared.found.Found.{Found}
use Rattle.search_answers.specs.Pivoted.{IsPivotedFound}
use Rattle.search_answers.specs.Writable.{IsWritable}
use Rattle.search_answers.specs.Best.{told_of}
use Rattle.search_machine.specs.Prelude.{bound_of}
use Rattle.decommitment.specs.DropCommitment.{Ending}
use Rattle.uc_model.specs.declared.schedule.Printed.{Printed}
use Rattle.search_answers.specs.SearchResult.{IsSearchResult, is_ending_within}
use Rattle.branch_tree.specs.declared.found.Entry.{Entry}
use Rattle.opening.specs.declared.root_tables.Priced.{Priced}

-- a tree of its root alone, which stores this leaf
abbrev pub lone_root : Instance → Leaf → TreeView
lone_root instance leaf = record { units = thermal_count instance; periods = instance.periods; room = 1; nodes = EndAt 0 leaf }

-- a search result that can be written, and that keeps to the exact dispatch where this is used
pub record IsAnswerOf (exact exact_dispatch : Bool) (instance : Instance) (budget gap : ℕ) (found : Found) : Type 0 where
  pub result : IsSearchResult exact instance budget gap found
  pub writable : IsWritable exact_dispatch instance found
  pub pivoted : IsPivotedFound exact_dispatch instance budget gap found

-- what is told of the most-on commitment: nothing where there is a schedule, or no bound
abbrev pub told_by : Option ℤ → Option (Printed × ℤ) → Option Stuck → Option Stuck
told_by None best stuck = None
told_by (Some bound) best stuck = told_of best stuck

-- nothing was evaluated, where the schedule of the drop commitment is within the gap of the bound that the root begins with
abbrev pub IsQuiet : Ending → Priced → ℕ → List Entry → Type 0
IsQuiet ending opening gap log = is_ending_within ending (bound_of opening.value opening.table.k) gap ≡ true → log ≡ []
