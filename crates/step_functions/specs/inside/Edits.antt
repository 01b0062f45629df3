-- What edits of runs leave.
use Rattle.std.specs.Prelude.{◌≡◌, ℕ, ◌+◌, ◌≤◌, ◌<◌, List, ℤ, pos, ◌+ℤ◌, ◌<ℤ◌, ◌≤ℤ◌}
pub use Rattle.step_functions.specs.declared.runs.Run.{Run}
use Rattle.step_functions.specs.Runs.{slope_at, steps_of}

-- a run with a slope added to its own
abbrev pub with_slope : ℤ → Run → Run
with_slope slope run = record run { slope = run.slope +ℤ slope }

-- the same steps, in whatever runs
pub record SameSteps (old new : List Run) : Type 0 where
  pub count : steps_of new ≡ steps_of old
  pub slopes : (k : ℕ) → slope_at new k ≡ slope_at old k

-- the first m steps, and no others, have a slope below this
pub record AreBelow (runs : List Run) (slope : ℤ) (m : ℕ) : Type 0 where
  pub within : m ≤ steps_of runs
  pub below : (k : ℕ) → k < m → slope_at runs k <ℤ slope
  pub next : (k : ℕ) → m ≤ k → k < steps_of runs → slope ≤ℤ slope_at runs k

-- so many level steps put in behind the first `before` ones
pub record AreLevelled (old new : List Run) (before added : ℕ) : Type 0 where
  pub count : steps_of new ≡ steps_of old + added
  pub front : (k : ℕ) → k < before → slope_at new k ≡ slope_at old k
  pub level : (k : ℕ) → k < added → slope_at new (before + k) ≡ pos 0
  pub back : (k : ℕ) → slope_at new (before + added + k) ≡ slope_at old (before + k)

-- so many level steps put in behind those that fall
pub record IsSpread (old new : List Run) (added : ℕ) : Type 0 where
  pub before : ℕ
  pub falling : AreBelow old (pos 0) before
  pub levelled : AreLevelled old new before added

-- a slope added to so many steps behind the first `before` ones
pub record IsSteeper (old new : List Run) (before count : ℕ) (slope : ℤ) : Type 0 where
  pub total : steps_of new ≡ steps_of old
  pub front : (k : ℕ) → k < before → slope_at new k ≡ slope_at old k
  pub part : (k : ℕ) → k < count → slope_at new (before + k) ≡ slope_at old (before + k) +ℤ slope
  pub back : (k : ℕ) → slope_at new (before + count + k) ≡ slope_at old (before + count + k)

-- to each step the one of the others is added that lies `skipped` further
pub record AreAdded (old others new : List Run) (skipped : ℕ) : Type 0 where
  pub count : steps_of new ≡ steps_of old
  pub slopes : (k : ℕ) → k < steps_of old → slope_at new k ≡ slope_at old k +ℤ slope_at others (skipped + k)
