-- Lists that are written number by number, and their sums.
use Rattle.std.proofs.Common.{◌≡◌, ℕ, ◌+◌, ◌<◌, ◌≤◌, List, length, arith, ℤ, slice_set, unsigned_abs, get_or-set_other, get_or-set_same, length-set, All}
use Rattle.std.proofs.lemmas.Bool.{cases_lt}
use Rattle.std.proofs.lemmas.List.{get_or_default}
use Rattle.uc_model.specs.Prelude.{sum_below}
use Rattle.uc_model.proofs.Common.{sum_below-same}
use Rattle.uplift.specs.Sizes.{MAX_UNITS, MAX_UPLIFT}
use Rattle.uplift.specs.inside.Lists.{AreFirst, sum_in}

-- one number more
pub more_first : (count n : ℕ) (number : ℕ → ℤ) (numbers : List ℤ) (next : ℤ) → n < count → next ≡ number n → unsigned_abs next ≤ MAX_UPLIFT
    → AreFirst count n number numbers → AreFirst count (n + 1) number (slice_set numbers n next)
more_first count n number numbers next within is fits before =
    grind (arith, length-set, slice_set, cases_lt, get_or-set_same, get_or-set_other, within, is, fits, before)

-- the sum of all
pub sum_is : (count : ℕ) (number : ℕ → ℤ) (numbers : List ℤ) → AreFirst count count number numbers → sum_in numbers ≡ sum_below count number
sum_is count number numbers are = grind (arith, sum_below-same, are)

-- there are few enough, and each is small
pub few_and_small : (count : ℕ) (number : ℕ → ℤ) (numbers : List ℤ) → count ≤ MAX_UNITS → AreFirst count count number numbers
    → (length numbers ≤ MAX_UNITS) × All (λ n. unsigned_abs n ≤ MAX_UPLIFT) numbers
few_and_small count number numbers few are = grind (arith, get_or_default, few, are)
