-- The table of the exact walk: the least cost of going on from each state before a period, where a run is paid for at its
-- end, and what the runs cost that end there.
use Rattle.std.specs.Prelude.{◌≡◌, ℕ, ◌≤◌, true, false, List, ℤ, Option, slice_index_or, None}
use Rattle.unit_runs.specs.RunsToGo.{run_until, runs_to_go}
pub use Rattle.unit_runs.specs.RunsToGo.{Fix}
use Rattle.state_walk.specs.inside.Problems.{Table, Thermal}
use Rattle.state_walk.specs.inside.WalkTable.{CostToGo, entry_at}

-- the table before period t, with n periods left: an entry for each time since which a state may last
abbrev pub exact_entry : ℕ → Table → Thermal → Fix → ℕ → ℕ → ℕ → CostToGo
exact_entry periods table unit fix n t since =
    record { on = runs_to_go periods table unit fix n t true since; off = runs_to_go periods table unit fix n t false since }

abbrev pub IsExactTable : ℕ → Table → Thermal → Fix → ℕ → ℕ → List CostToGo → Type 0
IsExactTable periods table unit fix n t values =
    (since : ℕ) → since ≤ t → entry_at values since ≡ exact_entry periods table unit fix n t since

-- the costs of the runs that end before period t, by the time since which the unit is on
abbrev pub cost_at : List (Option ℤ) → ℕ → Option ℤ
cost_at costs since = slice_index_or costs since None

abbrev pub AreRunsTo : ℕ → Table → Thermal → ℕ → List (Option ℤ) → Type 0
AreRunsTo periods table unit t costs = (since : ℕ) → since ≤ t → cost_at costs since ≡ run_until periods table unit since t
