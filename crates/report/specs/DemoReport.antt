-- What `demo` prints: the seed, and the first lines of the report of what a search found for its instance, at a gap of a thousandth
-- of the cost. This project's own form.
use Rattle.std.specs.Prelude.{ℕ, List, [], ◌∷◌, ℤ, Option, Some, None, codes}
use Rattle.uc_model.specs.Decimal.{whole_text}
use Rattle.branch_tree.specs.Prelude.{tree_bound}
use Rattle.outside.specs.Lines.{joined, line}
use Rattle.report.specs.FoundReport.{Found, Printed, schedule_summary, no_schedule_summary}

abbrev pub seed_line : ℕ → List ℕ
seed_line seed = line (codes "demo") (whole_text seed ∷ [])

-- with a schedule, or without; the gap is in parts per million
abbrev pub outcome_summary : Found → Option (Printed × ℤ) → List ℕ
outcome_summary found None = no_schedule_summary found (tree_bound found.tree)
outcome_summary found (Some priced) = schedule_summary found 1000 priced.1

-- the whole text
abbrev pub demo_report : ℕ → Found → List ℕ
demo_report seed found = joined (seed_line seed ∷ outcome_summary found found.schedule ∷ [])
