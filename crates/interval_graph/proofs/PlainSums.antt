-- The plain sum of an interval's terms: its first term, the terms at the full cap between, which are two running sums
-- apart, and its last term.
use Rattle.std.proofs.Common.{◌≡◌, ℕ, suc, ◌+◌, ◌-◌, ◌<◌, ◌≤◌, ⊎_elim, Bool, true, false, ◌==◌, List, refl, sym, ap, ◌∙◌, arith, ℤ, pos, ◌+ℤ◌, ◌-ℤ◌, Option, unwrap_or, if◌then◌else◌}
use Rattle.std.proofs.lemmas.Bool.{cases_lt, eq-eqb, ne_eqb}
use Rattle.uc_model.specs.Prelude.{sum_below}
use Rattle.uc_model.proofs.Common.{linear, sum_below-first, sum_below-same, sum_below-split}
use Rattle.interval_graph.specs.Intervals.{interval_cost, interval_term}
use Rattle.interval_graph.specs.RunningSums.{between, full_value, term_value, SumsAgree}

-- ---- the cells of an interval
-- the term of the i-th cell, from 0
abbrev pub cell : List (List (Option ℤ)) → ℕ → ℕ → ℕ → ℤ
cell rows a b i = unwrap_or (interval_term rows a b (a + i)) (pos 0)

-- by the place that its period has in the interval
pub cell-in : (rows : List (List (Option ℤ))) (a b i t : ℕ) (start stop : Bool) → a + i ≡ t → (t == a) ≡ start → (t == b) ≡ stop
    → cell rows a b i ≡ term_value rows t start stop
cell-in rows a b i t start stop here first last = grind (arith, linear, here, first, last)

pub first-cell : (rows : List (List (Option ℤ))) (a b : ℕ) → a < b → cell rows a b 0 ≡ term_value rows a true false
first-cell rows a b h = cell-in rows a b 0 a true false (omega arith) (eq-eqb a a refl) (ne_eqb a b (λ e. omega arith))

pub middle-cell : (rows : List (List (Option ℤ))) (a b k : ℕ) → suc (a + k) < b → cell rows a b (suc k) ≡ full_value rows (suc a + k)
middle-cell rows a b k h = grind (arith, linear, h)

pub last-cell : (rows : List (List (Option ℤ))) (a b i : ℕ) → a < b → a + i ≡ b → cell rows a b i ≡ term_value rows b false true
last-cell rows a b i h here = cell-in rows a b i b false true here (ne_eqb b a (λ e. omega arith)) (eq-eqb b b refl)

-- ---- the whole
pub alone : (rows : List (List (Option ℤ))) (a b : ℕ) → a ≡ b → interval_cost rows a b ≡ term_value rows a true true
alone rows a b same = grind (arith, linear, same)

pub in_parts : (rows : List (List (Option ℤ))) (a b : ℕ) → a < b
    → interval_cost rows a b ≡ (term_value rows a true false +ℤ sum_below (b - suc a) (λ k. full_value rows (suc a + k))) +ℤ term_value rows b false true
in_parts rows a b h =
    let n : ℕ = b - suc a in
    let count : suc b - a ≡ suc (suc n) = omega arith in
    let first = first-cell rows a b h in
    let last = last-cell rows a b (suc n) h (omega arith) in
    let front = sum_below-first n (cell rows a b) in
    let middle = sum_below-same n (λ k. cell rows a b (suc k)) (λ k. full_value rows (suc a + k)) (λ k l. middle-cell rows a b k (omega arith)) in
    ap (λ m. sum_below m (cell rows a b)) count ∙ (let sum : sum_below (suc (suc n)) (cell rows a b) ≡ (term_value rows a true false +ℤ sum_below n (λ k. full_value rows (suc a + k))) +ℤ term_value rows b false true = omega (arith, linear) in sum)

-- the terms at the full cap between two periods are the sum before the later one less that before the earlier one
pub apart : (rows : List (List (Option ℤ))) (from to : ℕ) → from ≤ to
    → sum_below (to - from) (λ k. full_value rows (from + k)) ≡ sum_below to (full_value rows) -ℤ sum_below from (full_value rows)
apart rows from to h =
    let whole : from + (to - from) ≡ to = omega arith in
    let split = sum_below-split from (to - from) (full_value rows) in
    let same = ap (λ n. sum_below n (full_value rows)) whole in
    omega (arith, linear)

pub agree : SumsAgree
agree rows sums a b order within running =
    ⊎_elim
    (λ (before : a < b).
    let other : (a == b) ≡ false = ne_eqb a b (λ e. omega arith) in
    let start = running.before (suc a) (omega arith) in
    let stop = running.before b within in
    let middle = apart rows (suc a) b before in
    let parts = in_parts rows a b before in
    ap (λ same. if same then term_value rows a true true else (term_value rows a true false +ℤ between sums (suc a) b) +ℤ term_value rows b false true) other
    ∙ (let e : (term_value rows a true false +ℤ between sums (suc a) b) +ℤ term_value rows b false true ≡ interval_cost rows a b = omega (arith, linear) in e))
    (λ (after : b ≤ a).
    let same : a ≡ b = omega arith in
    ap (λ same. if same then term_value rows a true true else (term_value rows a true false +ℤ between sums (suc a) b) +ℤ term_value rows b false true) (eq-eqb a b same)
    ∙ sym (alone rows a b same))
    (cases_lt a b)
