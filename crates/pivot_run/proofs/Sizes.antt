-- The sizes of a row's numbers.
-- Cite by `use Rattle.pivot_run.proofs.Sizes.{small_from}`.
use Rattle.std.proofs.Common.{ℕ, ◌^◌, ◌<◌, ◌≤◌, arith, List, length, ℤ, unsigned_abs}
use Rattle.std.proofs.lemmas.Bool.{cases_lt}
use Rattle.std.proofs.lemmas.List.{get_or_past}
use Rattle.pivot_run.specs.Prelude.{IsSmall, entry}

-- past the end of a row all is 0
pub small_from : (row : List ℤ) (n : ℕ) → length row ≤ n → ((k : ℕ) → k < n → unsigned_abs (entry row k) < 2 ^ 127) → IsSmall row
small_from row n all each c = grind (arith, get_or_past, cases_lt, all, each, c)
