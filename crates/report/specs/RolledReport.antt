-- The report of a roll, as it is printed. This project's own form. Windows and periods count from 1.
use Rattle.std.specs.Prelude.{ℕ, List, [], ◌∷◌, ℤ, Option, Some, None, codes}
use Rattle.uc_model.specs.Decimal.{whole_text}
use Rattle.uc_model.specs.declared.instance.Instance.{Instance}
use Rattle.branch_tree.specs.Prelude.{tree_bound}
use Rattle.outside.specs.Lines.{joined, line}
use Rattle.report.specs.FoundReport.{Found, Printed, cost_line, schedule_lines, size_line}
pub use Rattle.roll.specs.declared.rolled.Rolled.{Rolled}
use Rattle.roll.specs.declared.rolled.Rolled.TheVariants.{Whole, Stopped}

-- how many windows the schedule is stitched of
abbrev pub windows_line : ℕ → List ℕ
windows_line windows = line (codes "rolled") (whole_text windows ∷ codes "windows" ∷ [])

-- why a window has no schedule: with no bound there is none, and else none was found
abbrev pub none_text : Option ℤ → List ℕ
none_text None = codes "infeasible"
none_text (Some bound) = codes "no schedule found"

-- a window without a schedule, with its first and its last period
abbrev pub stopped_line : ℕ → ℕ → ℕ → Found → List ℕ
stopped_line window from to found =
    joined (codes "window " ∷ whole_text window ∷ codes " periods " ∷ whole_text from ∷ codes " to " ∷ whole_text to ∷ codes ": "
    ∷ none_text (tree_bound found.tree) ∷ codes "\n" ∷ [])

-- a schedule of all periods
abbrev pub whole_lines : Instance → Printed → ℤ → ℕ → List ℕ
whole_lines instance schedule cost windows =
    joined (windows_line windows ∷ cost_line cost ∷ schedule_lines instance schedule ∷ [])

abbrev pub outcome_lines : Instance → Rolled → List ℕ
outcome_lines instance (Whole schedule cost windows) = whole_lines instance schedule cost windows
outcome_lines instance (Stopped window from to kept found) = stopped_line window from to found

-- the whole report, by how many numbers were rounded
abbrev pub rolled_report : Instance → Rolled → ℕ → List ℕ
rolled_report instance rolled rounded = joined (size_line instance rounded ∷ outcome_lines instance rolled ∷ [])
