-- The columns of the slacks and of the artificial columns lie within the table.
-- Cite by `use Rattle.dispatch_prices.proofs.Places.{counted_most}`.
use Rattle.std.proofs.Common.{◌≡◌, ℕ, zero, suc, ◌+◌, ◌<◌, ◌≤◌, Bool, true, ⊎_elim, ap, arith}
use Rattle.std.proofs.lemmas.Bool.{cases_lt}
use Rattle.dispatch_program.specs.Prelude.{Program, bump, counted, is_limit, has_artificial, place, RightSide, SumValue, Slack, Artificial}
use Rattle.dispatch_program.proofs.Starts.{counted-le}

-- as many or more below a greater number
pub counted_most : (test : ℕ → Bool) (i n : ℕ) → i ≤ n → counted test i ≤ counted test n
counted_most test i zero h = let none : i ≡ 0 = omega arith in omega (arith, ap (counted test) none)
counted_most test i (suc n) h = ⊎_elim
    (λ (less : i < suc n). let before = counted_most test i n (omega arith) in omega arith)
    (λ (most : suc n ≤ i). let same : i ≡ suc n = omega arith in omega (arith, ap (counted test) same))
    (cases_lt i (suc n))

-- one more than those before a number below n, where that counts
pub counted_next : (test : ℕ → Bool) (i n : ℕ) → i < n → counted test i + bump (test i) ≤ counted test n
counted_next test i n h = counted_most test (suc i) n (omega arith)

pub slack_within : (p : Program) (i : ℕ) → i < p.rules → is_limit p i ≡ true → place p (Slack i) < place p RightSide
slack_within p i h e = let less = counted-le (is_limit p) i p.rules h e in omega arith

pub artificial_within : (p : Program) (i : ℕ) → i < p.rules → has_artificial p i ≡ true → place p (Artificial i) < place p SumValue
artificial_within p i h e = let less = counted-le (has_artificial p) i p.rules h e in omega arith
