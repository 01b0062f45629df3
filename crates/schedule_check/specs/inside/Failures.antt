-- The first of some places at which a test fails. This project's own.
use Rattle.std.specs.Prelude.{◌≡◌, ℕ, ◌<◌, Bool, false, IsTrue, Option, Some, None}
pub use Rattle.schedule_check.specs.declared.broken.Place.{Place}

-- k is the first of n indexes at which the test fails
pub record FailsFirstAt (n : ℕ) (test : ℕ → Bool) (k : ℕ) : Type 0 where
  pub within : k < n
  pub fails : test k ≡ false
  pub before : (j : ℕ) → j < k → IsTrue (test j)

-- the first of n indexes at which the test fails, or none where it holds at each
abbrev pub IsFirstFailure : ℕ → (ℕ → Bool) → Option ℕ → Type 0
IsFirstFailure n test None = (k : ℕ) → k < n → IsTrue (test k)
IsFirstFailure n test (Some k) = FailsFirstAt n test k

-- the same of units and periods, in this order
pub record FailsFirstIn (units periods : ℕ) (test : ℕ → ℕ → Bool) (place : Place) : Type 0 where
  pub unit : place.unit < units
  pub period : FailsFirstAt periods (test place.unit) place.period
  pub before : (g t : ℕ) → g < place.unit → t < periods → IsTrue (test g t)

abbrev pub IsFirstPlace : ℕ → ℕ → (ℕ → ℕ → Bool) → Option Place → Type 0
IsFirstPlace units periods test None = (g t : ℕ) → g < units → t < periods → IsTrue (test g t)
IsFirstPlace units periods test (Some place) = FailsFirstIn units periods test place
