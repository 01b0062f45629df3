-- When a search is closed, and the exit status of what it found. Source: the relative gap of a mixed-integer solver; the
-- statuses are this project's own.
use Rattle.std.specs.Prelude.{ℕ, Bool, false, ℤ, pos, ◌-ℤ◌, int_le, Option, Some, None, if◌then◌else◌}
use Rattle.uc_model.specs.Prelude.{tolerance_of}
use Rattle.uc_model.specs.declared.schedule.Printed.{Printed}
use Rattle.branch_tree.specs.StoredTree.{tree_bound}
use Rattle.branch_tree.specs.declared.found.Found.{Found}

-- whether the cost is within the gap, in parts per million, of the bound
abbrev pub is_within_gap : ℤ → Option ℤ → ℕ → Bool
is_within_gap cost None gap = false
is_within_gap cost (Some bound) gap = int_le (cost -ℤ bound) (pos (tolerance_of cost gap))

-- the same of a schedule with its cost; with no schedule it isn't
abbrev pub is_schedule_within : Option (Printed × ℤ) → Option ℤ → ℕ → Bool
is_schedule_within None bound gap = false
is_schedule_within (Some priced) bound gap = is_within_gap priced.1 bound gap

-- whether the search is closed: it found a schedule whose cost is within the gap
abbrev pub is_closed : Found → ℕ → Bool
is_closed found gap = is_schedule_within found.schedule (tree_bound found.tree) gap

-- 3 where each leaf is excluded, so that there is no schedule; else 2 where none was found; else 0 where the search is
-- closed, and 1 where it isn't
abbrev pub status_by : Option (Printed × ℤ) → Option ℤ → ℕ → ℕ
status_by schedule None gap = 3
status_by None (Some bound) gap = 2
status_by (Some priced) (Some bound) gap = if is_within_gap priced.1 (Some bound) gap then 0 else 1

abbrev pub status_of : Found → ℕ → ℕ
status_of found gap = status_by found.schedule (tree_bound found.tree) gap
