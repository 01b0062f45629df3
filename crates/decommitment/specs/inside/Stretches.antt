-- Rows of amounts that are compared over stretches of thermal units, and marks on these units. This project's own.
--
-- Units count from 0 here.
use Rattle.std.specs.Prelude.{◌≡◌, ℕ, ◌+◌, ◌<◌, ◌≤◌, List, ℤ, Bool, false, IsTrue, length, slice_index_or}
use Rattle.dispatch_repair.specs.Amounts.{amount_at}

-- unit g has the same amount in two rows, in which so many renewable units come first
abbrev pub IsSameAt : ℕ → List ℤ → List ℤ → ℕ → Type 0
IsSameAt renewables first second g = amount_at first (renewables + g) ≡ amount_at second (renewables + g)

-- unit g has a mark
abbrev pub IsMarked : List Bool → ℕ → Type 0
IsMarked marks g = IsTrue (slice_index_or marks g false)

-- only units that had one have a mark, and of the units from one to before another only those with the same amount
pub record HaveKept (renewables : ℕ) (first second : List ℤ) (from to : ℕ) (old new : List Bool) : Type 0 where
  pub count : length new ≡ length old
  pub marked : (g : ℕ) → g < length old → IsMarked new g → IsMarked old g
  pub same : (g : ℕ) → g < length old → IsMarked new g → from ≤ g → g < to → IsSameAt renewables first second g
