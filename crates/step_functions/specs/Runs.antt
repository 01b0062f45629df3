-- The steps of a piecewise linear function on whole places, one from each place to the next, as runs of one slope. Source: the
-- increments of piecewise linear convex functions (R. T. Rockafellar, "Network Flows and Monotropic Optimization", 1984).
--
-- Steps count from 0.
use Rattle.std.specs.Prelude.{ℕ, ◌-◌, nat_lt, List, [], ◌∷◌, ℤ, pos, if◌then◌else◌, slice_index_or}
use Rattle.std.specs.List.{sum_by}
pub use Rattle.step_functions.specs.declared.runs.Run.{Run}

-- the i-th run; past the last one, one without steps
abbrev pub run_of : List Run → ℕ → Run
run_of runs i = slice_index_or runs i (record { length = 0; slope = pos 0 })

-- how many steps the runs have
abbrev pub steps_of : List Run → ℕ
steps_of runs = sum_by (λ run. run.length) runs

-- the slope of the k-th step, by how much the function rises over it; past the last one 0
abbrev pub slope_at : List Run → ℕ → ℤ
slope_at [] k = pos 0
slope_at (run ∷ rest) k = if nat_lt k run.length then run.slope else slope_at rest (k - run.length)
