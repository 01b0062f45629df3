-- Sums, tests and least values over the indexes below a number.
use Rattle.std.specs.Prelude.{ℕ, zero, suc, Bool, true, false, ◌&&◌, ◌||◌, ℤ, pos, ◌+ℤ◌, if◌then◌else◌}
use Rattle.std.specs.Int.{int_min}

-- f 0 + .. + f (n - 1)
abbrev pub sum_below : ℕ → (ℕ → ℤ) → ℤ
sum_below zero f = pos 0
sum_below (suc n) f = sum_below n f +ℤ f n

-- the test holds of each index below n
abbrev pub all_below : ℕ → (ℕ → Bool) → Bool
all_below zero test = true
all_below (suc n) test = test n && all_below n test

-- the test holds of some index below n
abbrev pub any_below : ℕ → (ℕ → Bool) → Bool
any_below zero test = false
any_below (suc n) test = test n || any_below n test

-- the least of `other` and of the values f i at the indexes i below n that pass the test
abbrev pub least_below : ℕ → (ℕ → Bool) → (ℕ → ℤ) → ℤ → ℤ
least_below zero test f other = other
least_below (suc n) test f other = if test n then int_min (f n) (least_below n test f other) else least_below n test f other

-- 1 where the test holds, else 0
abbrev pub bit : Bool → ℤ
bit true = pos 1
bit false = pos 0
