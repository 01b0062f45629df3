-- The rays of the opening: whether one of them shows that no schedule exists, by V or, where `exact`, by VE. This project's own.
--
-- Rays count from 0 here.
use Rattle.std.specs.Prelude.{ℕ, ◌<◌, Bool}
pub use Rattle.uc_model.specs.declared.instance.Instance.{Instance}
use Rattle.dual_model.specs.Prelude.{HasPositiveValue, ray_count, ray_table, root}

-- ray n leaves no schedule
abbrev pub IsRayPositive : Bool → Instance → ℕ → Type 0
IsRayPositive exact instance n = HasPositiveValue exact instance root (ray_table instance n)

-- no ray before ray n does
abbrev pub HasNoRayBelow : Bool → Instance → ℕ → Type 0
HasNoRayBelow exact instance n = (earlier : ℕ) → earlier < n → ¬ IsRayPositive exact instance earlier

-- none does
abbrev pub HasNoRay : Bool → Instance → Type 0
HasNoRay exact instance = HasNoRayBelow exact instance (ray_count instance.periods)

-- ray n is the first that does
pub record IsFirstRay (exact : Bool) (instance : Instance) (n : ℕ) : Type 0 where
  pub within : n < ray_count instance.periods
  pub positive : IsRayPositive exact instance n
  pub first : HasNoRayBelow exact instance n
