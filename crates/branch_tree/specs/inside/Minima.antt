-- A tournament of minima over a list of values, of which some may be none. Source: the shape of a binary heap, whose place k
-- has the places 2 k + 1 and 2 k + 2 just below it.
use Rattle.std.specs.Prelude.{◌≡◌, ◌≢◌, ℕ, zero, suc, ◌+◌, ◌*◌, ◌<◌, ◌⊎◌, List, ℤ, Option, None, length, slice_index_or}
use Rattle.branch_tree.specs.StoredTree.{AtMost, lesser_bound}

-- the values, and for how many there is room
pub record MinimaView : Type 0 where
  pub values : List (Option ℤ)
  pub room : ℕ

-- a place is one of the two just below another
abbrev pub IsJustBelow : ℕ → ℕ → Type 0
IsJustBelow top place = (place ≡ 2 * top + 1) ⊎ (place ≡ 2 * top + 2)

-- so many steps down lead from a place to another
abbrev pub IsStepsBelow : ℕ → ℕ → ℕ → Type 0
IsStepsBelow zero top place = place ≡ top
IsStepsBelow (suc steps) top place = (next : ℕ) × IsJustBelow top next × IsStepsBelow steps next place

-- a place is another or lies below it
abbrev pub IsBelow : ℕ → ℕ → Type 0
IsBelow top place = (steps : ℕ) × IsStepsBelow steps top place

-- the least of the values at some places: at most each of them, and whatever is at most each of them is at most it
pub record IsLeastOver (IsThere : ℕ → Type 0) (values : List (Option ℤ)) (least : Option ℤ) : Type 0 where
  pub below : (k : ℕ) → IsThere k → AtMost least (slice_index_or values k None)
  pub greatest : (bound : Option ℤ) → ((k : ℕ) → IsThere k → AtMost bound (slice_index_or values k None)) → AtMost bound least

-- the least of all
abbrev pub IsLeastOf : List (Option ℤ) → Option ℤ → Type 0
IsLeastOf values least = IsLeastOver (λ k. k < length values) values least

-- the entry of each place is the least of the values there and below it
pub record IsTournament (values entries : List (Option ℤ)) : Type 0 where
  pub count : length entries ≡ length values
  pub each : (k : ℕ) → IsLeastOver (IsBelow k) values (slice_index_or entries k None)

-- the lesser of a place's value and the entries just below it
abbrev pub lesser_at : List (Option ℤ) → List (Option ℤ) → ℕ → Option ℤ
lesser_at values entries place =
    lesser_bound (slice_index_or values place None)
    (lesser_bound (slice_index_or entries (2 * place + 1) None) (slice_index_or entries (2 * place + 2) None))

-- each entry is that lesser, but maybe that of one place
pub record IsMendedBut (values entries : List (Option ℤ)) (place : ℕ) : Type 0 where
  pub count : length entries ≡ length values
  pub within : place < length values
  pub others : (k : ℕ) → k ≢ place → slice_index_or entries k None ≡ lesser_at values entries k
