-- The least cost of what is left of a run, by the output before it, hour by hour from the run's end back: the mirror image of
-- the run's least cost by the output of its last hour. Source: the dynamic program of A. Frangioni and C. Gentile, "Solving
-- Nonlinear Single-Unit Commitment Problems with Ramping Constraints" (Operations Research 54, 2006), with the reserve taken
-- out.
--
-- Outputs are watts above the minimum, and costs 1/K micro-dollars; None is what may not be.
use Rattle.std.specs.Prelude.{ℕ, zero, suc, Bool, false, ◌&&◌, ◌==◌, nat_lt, ℤ, pos, ◌+ℤ◌, ◌-ℤ◌, neg_ℤ, int_le, Option, Some, None, if◌then◌else◌}
use Rattle.dual_model.specs.Prelude.{greatest_output, total_of}
use Rattle.uc_model.specs.Prelude.{cell_cap}
use Rattle.unit_runs.specs.CostThrough.{least_between, reserve_cost}
use Rattle.hull_function.specs.Hours.{with_output}
pub use Rattle.unit_runs.specs.Runs.{Table, Thermal}

-- an output from one to another
abbrev pub is_between : ℤ → ℤ → ℤ → Bool
is_between low high p = int_le low p && int_le p high

-- the last output of a run that ends before period t lies between these: before a stop in the horizon it can fall to nothing
abbrev pub lowest_end : ℕ → Thermal → ℕ → ℤ
lowest_end periods unit t = if nat_lt t periods then neg_ℤ unit.ru else pos 0

abbrev pub highest_end : ℕ → Thermal → ℕ → ℤ
highest_end periods unit t = if nat_lt t periods then unit.rd else greatest_output unit.points

-- what hours cost by the output before them, of which the first is in period t and has this cap: the least within the ramps,
-- with what the most reserve earns in that hour; `hours` is what they cost by its output
abbrev pub hours_after : Table → Thermal → ℕ → ℤ → (ℤ → Option ℤ) → ℤ → Option ℤ
hours_after table unit t cap hours q =
    total_of (least_between (q -ℤ unit.rd) (q +ℤ unit.ru) hours) (Some (reserve_cost table unit t cap q))

-- the least cost of the last n hours of a run, from period t on, by the output before them; the run may begin with them
abbrev pub cost_to_end : ℕ → Table → Thermal → ℕ → ℕ → Bool → ℤ → Option ℤ
cost_to_end periods table unit zero t first q =
    if is_between (lowest_end periods unit t) (highest_end periods unit t) q then Some (pos 0) else None
cost_to_end periods table unit (suc n) t first q =
    hours_after table unit t (cell_cap periods unit t first (n == 0))
    (with_output table unit t (cell_cap periods unit t first (n == 0)) (cost_to_end periods table unit n (suc t) false)) q
