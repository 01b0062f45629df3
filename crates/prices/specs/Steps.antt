-- The tables that a search steps to. Which table is tried next at a node is free; that it can be told from each that was tried there
-- before, by the number of those, is this project's own choice.
use Rattle.std.specs.Prelude.{◌≡◌, ℕ, ◌+◌, ◌^◌, ◌≤◌, ◌⊎◌, pos, unsigned_abs}
use Rattle.dual_model.specs.Prelude.{pi_at, mu_at, up_at, down_at}
pub use Rattle.dual_model.specs.declared.table.Table.{Table}

-- m is the size of a multiplier of the table
pub data HasMultiplier (table : Table) (m : ℕ) : Type 0 where
  Demand : (t : ℕ) → unsigned_abs (pi_at table t) ≡ m → HasMultiplier table m
  Reserve : (t : ℕ) → unsigned_abs (mu_at table t) ≡ m → HasMultiplier table m
  Up : (g t : ℕ) → unsigned_abs (up_at table g t) ≡ m → HasMultiplier table m
  Down : (g t : ℕ) → unsigned_abs (down_at table g t) ≡ m → HasMultiplier table m

-- m is the greatest size of one
pub record IsGreatestSize (table : Table) (m : ℕ) : Type 0 where
  pub attained : HasMultiplier table m
  pub greatest : (size : ℕ) → HasMultiplier table size → size ≤ m

-- a table for a node at which `had` others were tried: the scale tells it, or of a ray the greatest multiplier
abbrev pub IsStepFor : ℕ → Table → Type 0
IsStepFor had table =
    (table.k ≡ pos (1000000 + had)) ⊎ ((table.k ≡ pos 0) × IsGreatestSize table (2 ^ 40 + had))

-- no table is one for two such numbers
abbrev pub StepsDiffer : Type 0
StepsDiffer = (table : Table) (first second : ℕ) → IsStepFor first table → IsStepFor second table → first ≡ second
