-- What an on-interval costs by running sums of the terms at the full cap: its first term, what lies between, and its last
-- term. Source: prefix sums (Blelloch, "Prefix sums and their applications", 1990).
--
-- Periods count from 0 here.
use Rattle.std.specs.Prelude.{◌≡◌, ℕ, suc, ◌<◌, ◌≤◌, Bool, true, false, ◌==◌, List, ℤ, pos, ◌+ℤ◌, ◌-ℤ◌, length, slice_index_or, unwrap_or, Option, if◌then◌else◌}
use Rattle.uc_model.specs.Prelude.{sum_below}
use Rattle.interval_graph.specs.Intervals.{interval_cost, term_in}

-- the term of a cell in period t, and 0 where there is none
abbrev pub term_value : List (List (Option ℤ)) → ℕ → Bool → Bool → ℤ
term_value rows t start stop = unwrap_or (term_in rows t start stop) (pos 0)

-- the same at the full cap
abbrev pub full_value : List (List (Option ℤ)) → ℕ → ℤ
full_value rows t = term_value rows t false false

-- for each period, the sum of the terms at the full cap before it
pub record AreRunningSums (rows : List (List (Option ℤ))) (sums : List ℤ) : Type 0 where
  pub count : length sums ≡ length rows
  pub before : (t : ℕ) → t < length rows → slice_index_or sums t (pos 0) ≡ sum_below t (full_value rows)

-- the terms at the full cap from period `from` to the one before `to`, by the sums before both
abbrev pub between : List ℤ → ℕ → ℕ → ℤ
between sums from to = slice_index_or sums to (pos 0) -ℤ slice_index_or sums from (pos 0)

-- the cost of the interval from a to b; a period alone has one term
abbrev pub cost_by_sums : List (List (Option ℤ)) → List ℤ → ℕ → ℕ → ℤ
cost_by_sums rows sums a b =
    if a == b then term_value rows a true true
    else (term_value rows a true false +ℤ between sums (suc a) b) +ℤ term_value rows b false true

-- the law: that cost is the plain sum
abbrev pub SumsAgree : Type 0
SumsAgree = (rows : List (List (Option ℤ))) (sums : List ℤ) (a b : ℕ) →
    a ≤ b → b < length rows → AreRunningSums rows sums → cost_by_sums rows sums a b ≡ interval_cost rows a b
