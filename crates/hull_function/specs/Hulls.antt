-- L on a unit's points as a convex function, and its size. Source: the exact value's function L, along the lower hull of the
-- points with slopes that are rounded down; the limits are this project's.
use Rattle.std.specs.Prelude.{◌≡◌, ℕ, ◌*◌, ◌^◌, ◌≤◌, List, ℤ, pos, ◌≤ℤ◌, unsigned_abs}
pub use Rattle.uc_model.specs.declared.instance.Point.{Point}
use Rattle.uc_model.specs.declared.limits.TheConstants.{MAX_POWER}
use Rattle.dual_model.specs.Prelude.{greatest_output}
use Rattle.dual_model.specs.ExactValue.{floored_cost}
use Rattle.dual_model.specs.declared.limits.TheConstants.{MAX_SCALE}
pub use Rattle.step_functions.specs.Functions.{Steps}
use Rattle.step_functions.specs.Functions.{IsPlace, last_place, value_at}

-- a scale within the limits
pub record IsScale (k : ℤ) : Type 0 where
  pub low : pos 0 ≤ℤ k
  pub high : k ≤ℤ MAX_SCALE

-- the values of a function are at most so large
abbrev pub IsBounded : Steps → ℕ → Type 0
IsBounded f size = (p : ℤ) → IsPlace f p → unsigned_abs (value_at f p) ≤ size

abbrev pub MAX_HULL : ℕ
MAX_HULL = 2 * 10 ^ 28

-- the function is L on the unit's points, at most so large
pub record IsHull (points : List Point) (k : ℤ) (f : Steps) : Type 0 where
  pub first : f.first ≡ pos 0
  pub last : last_place f ≡ greatest_output points
  pub value : (p : ℕ) → pos p ≤ℤ greatest_output points → value_at f (pos p) ≡ floored_cost points k 1 p
  pub size : IsBounded f MAX_HULL

-- such a function: of outputs from 0 on, and at most so large
pub record IsHullFunction (f : Steps) : Type 0 where
  pub first : f.first ≡ pos 0
  pub last : (pos 0 ≤ℤ last_place f) × (last_place f ≤ℤ pos (2 * MAX_POWER))
  pub size : IsBounded f MAX_HULL
