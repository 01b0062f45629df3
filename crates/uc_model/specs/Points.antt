-- Points of a production cost and weights on them. Source: the piecewise production cost of the pglib-uc
-- format, which the reference model by Knueven, Ostrowski and Watson takes as weights on the points.
use Rattle.std.specs.Prelude.{ℕ, List, ℤ, pos, ◌-ℤ◌, ◌*ℤ◌, length, slice_index_or}
use Rattle.uc_model.specs.Sums.{sum_below}
pub use Rattle.uc_model.specs.declared.instance.Point.{Point}

-- point l, from 0, and its output above the first point's
abbrev pub point_of : List Point → ℕ → Point
point_of points l = slice_index_or points l (record { mw = pos 0; cost = pos 0 })

abbrev pub output_of : List Point → ℕ → ℤ
output_of points l = (point_of points l).mw -ℤ (point_of points 0).mw

-- the sum of weights on the points, the output above the minimum that they give, and its cost
abbrev pub weighted_total : List Point → (ℕ → ℕ) → ℤ
weighted_total points weight = sum_below (length points) (λ l. pos (weight l))

abbrev pub weighted_output : List Point → (ℕ → ℕ) → ℤ
weighted_output points weight = sum_below (length points) (λ l. output_of points l *ℤ pos (weight l))

abbrev pub weighted_cost : List Point → (ℕ → ℕ) → ℤ
weighted_cost points weight = sum_below (length points) (λ l. (point_of points l).cost *ℤ pos (weight l))
