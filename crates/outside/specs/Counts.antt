-- Counts of faults, each kept by the object that a call is made on.
use Rattle.std.specs.Prelude.{ℕ, ◌+◌, ◌-◌, ◌^◌, ◌<◌, ◌≤◌, ◌⊎◌, min}

-- the last value of a count, which it keeps once it has reached it
abbrev pub last_count : ℕ
last_count = 2 ^ 64 - 1

-- The count rose, or stands at its last value. It never falls.
pub record HasRisen (old new : ℕ) : Type 0 where
  pub later : old ≤ new
  pub cause : (old < new) ⊎ (last_count ≤ new)

-- one more than a count, which stays at its last value
abbrev pub one_more : ℕ → ℕ
one_more count = min (count + 1) last_count
