-- How often a unit starts or stops before each period. This project's own.
use Rattle.std.specs.Prelude.{◌≡◌, ℕ, zero, suc, ◌+◌, ◌<◌, Bool, List, length, slice_index, if◌then◌else◌}
use Rattle.uc_model.specs.Prelude.{Commitment, starts, stops}
use Rattle.uc_model.specs.declared.instance.Thermal.{Thermal}
use Rattle.schedule_check.specs.declared.counts.Change.{Change}
pub use Rattle.schedule_check.specs.declared.counts.Change.TheVariants.{Start, Stop}

abbrev pub change_at : Change → Thermal → Commitment → ℕ → Bool
change_at Start unit on t = starts unit on t
change_at Stop unit on t = stops unit on t

-- at how many of the indexes below n the test holds
abbrev pub count_below : ℕ → (ℕ → Bool) → ℕ
count_below zero test = 0
count_below (suc n) test = count_below n test + (if test n then 1 else 0)

-- the list has, for each number up to `last`, the count below it
pub record AreCounts (counts : List ℕ) (last : ℕ) (test : ℕ → Bool) : Type 0 where
  pub room : last < length counts
  pub each : (k : ℕ) → k < suc last → slice_index counts k ≡ count_below k test
