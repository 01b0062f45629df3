-- A sum over the on periods of a commitment is one over its runs, of the sum over each run's hours.
-- Cite from a crate above by `use Rattle.unit_runs.proofs.RunSums.{sum_of_runs}`.
use Rattle.std.proofs.Common.{◌≡◌, ℕ, zero, suc, ◌+◌, ◌-◌, ◌<◌, ◌≤◌, Bool, true, false, cond, not, ◌&&◌, ◌||◌, ne_eqb, refl, ap, ◌∙◌, arith, ℤ, pos, ◌+ℤ◌, ◌≤ℤ◌, IsTrue}
use Rattle.uc_model.specs.Prelude.{sum_below, was_on}
use Rattle.uc_model.proofs.Common.{linear, le_refl, sum_below-first, sum_below-same, sum_below-le}
use Rattle.unit_runs.specs.Runs.{Thermal}
use Rattle.unit_runs.specs.Patterns.{Commitment, starts, begins, hours_on, run_hours, EachRun, sum_over_runs}

-- c t + .. + c (t + n - 1)
abbrev pub sum_from : ℕ → ℕ → (ℕ → ℤ) → ℤ
sum_from zero t c = pos 0
sum_from (suc n) t c = c t +ℤ sum_from n (suc t) c

sum_from-is : (n t : ℕ) (c : ℕ → ℤ) → sum_from n t c ≡ sum_below n (λ i. c (t + i))
sum_from-is zero t c = refl
sum_from-is (suc n) t c =
    let first = sum_below-first n (λ i. c (t + i)) in
    let here : t + 0 ≡ t = omega arith in
    let at = ap c here in
    let rest : sum_below n (λ i. c (t + suc i)) ≡ sum_below n (λ i. c (suc t + i)) =
    sum_below-same n _ _ (λ i l. let next : t + suc i ≡ suc t + i = omega arith in ap c next) in
    let before = sum_from-is n (suc t) c in
    omega (arith, linear)

pub from_zero : (n : ℕ) (c : ℕ → ℤ) → sum_below n c ≡ sum_from n 0 c
from_zero n c = grind (arith, linear, sum_below-same, sum_from-is)

pub sum_from-same : (n t : ℕ) (c d : ℕ → ℤ) → ((k : ℕ) → t ≤ k → c k ≡ d k) → sum_from n t c ≡ sum_from n t d
sum_from-same zero t c d e = refl
sum_from-same (suc n) t c d e = λ i. e t (omega arith) i +ℤ sum_from-same n (suc t) c d (λ k l. e k (omega arith)) i

-- f over the runs that begin in the n periods from t on, before which the unit is on or not
abbrev runs_from : Commitment → (ℕ → ℕ → ℤ) → ℕ → ℕ → Bool → ℤ
runs_from on f zero t was = pos 0
runs_from on f (suc n) t was = cond (not was && on t) (f t (hours_on on (suc n) t)) (pos 0) +ℤ runs_from on f n (suc t) (on t)

-- ---- the on periods from t on are those of the run that lasts, and of the runs that begin
one_more : (was b : Bool) (t h : ℕ) (g : ℕ → ℤ) (total runs : ℤ) → total ≡ cond b (sum_from h (suc t) g) (pos 0) +ℤ runs
    → cond b (g t) (pos 0) +ℤ total
    ≡ cond was (sum_from (cond b (suc h) 0) t g) (pos 0) +ℤ (cond (not was && b) (sum_from (cond b (suc h) 0) t g) (pos 0) +ℤ runs)
one_more true true t h g total runs e = omega (arith, linear)
one_more true false t h g total runs e = omega (arith, linear)
one_more false true t h g total runs e = omega (arith, linear)
one_more false false t h g total runs e = omega (arith, linear)

nothing_left : (was : Bool) → pos 0 ≡ cond was (pos 0) (pos 0) +ℤ pos 0
nothing_left true = refl
nothing_left false = refl

split : (on : Commitment) (g : ℕ → ℤ) (n t : ℕ) (was : Bool)
    → sum_from n t (λ k. cond (on k) (g k) (pos 0))
    ≡ cond was (sum_from (hours_on on n t) t g) (pos 0) +ℤ runs_from on (λ k hours. sum_from hours k g) n t was
split on g zero t was = nothing_left was
split on g (suc n) t was = one_more was (on t) t (hours_on on n (suc t)) g _ _ (split on g n (suc t) (on t))

-- the runs that begin after the first period begin with a start
started : (periods : ℕ) (unit : Thermal) (on : Commitment) (f : ℕ → ℕ → ℤ) (n t : ℕ) → t + n ≡ periods
    → runs_from on f n t (was_on unit on t) ≡ sum_from n t (λ k. cond (starts unit on k) (f k (run_hours periods on k)) (pos 0))
started periods unit on f zero t e = refl
started periods unit on f (suc n) t e =
    let left : suc n ≡ periods - t = omega arith in
    λ i. cond (starts unit on t) (f t (hours_on on (left i) t)) (pos 0) +ℤ started periods unit on f n (suc t) (omega arith) i

first_run : (a b : Bool) (v : ℤ) → cond ((not a && b) || (a && true)) v (pos 0) ≡ cond a v (pos 0) +ℤ cond (not a && b) v (pos 0)
first_run true b v = omega (arith, linear)
first_run false true v = omega (arith, linear)
first_run false false v = omega (arith, linear)

no_first : (a b : Bool) → (b || (a && false)) ≡ b
no_first true true = refl
no_first true false = refl
no_first false true = refl
no_first false false = refl

-- the run that lasts when the horizon begins, and those of the starts
pub sums-begun : (periods : ℕ) (unit : Thermal) (on : Commitment) (f : ℕ → ℕ → ℤ) → 0 < periods
    → sum_over_runs periods unit on f
    ≡ cond unit.on0 (f 0 (run_hours periods on 0)) (pos 0)
    +ℤ sum_from periods 0 (λ k. cond (starts unit on k) (f k (run_hours periods on k)) (pos 0))
sums-begun periods unit on f some = by_count periods refl
  where
    each : (ℕ → Bool) → ℕ → ℤ
    each test k = cond (test k) (f k (run_hours periods on k)) (pos 0)

    later : (k : ℕ) → 1 ≤ k → each (begins unit on) k ≡ each (starts unit on) k
    later k l =
        ap (λ b. cond b (f k (run_hours periods on k)) (pos 0))
        (ap (λ z. starts unit on k || (unit.on0 && z)) (ne_eqb k 0 (λ e. omega arith)) ∙ no_first unit.on0 (starts unit on k))

    by_count : (n : ℕ) → periods ≡ n
        → sum_below periods (each (begins unit on))
        ≡ cond unit.on0 (f 0 (run_hours periods on 0)) (pos 0) +ℤ sum_from periods 0 (each (starts unit on))
    by_count zero e = absurd (omega arith)
    by_count (suc n) e =
        let all = from_zero periods (each (begins unit on)) in
        let count = ap (λ m. sum_from m 0 (each (begins unit on))) e in
        let other_count = ap (λ m. sum_from m 0 (each (starts unit on))) e in
        let first = first_run unit.on0 (on 0) (f 0 (run_hours periods on 0)) in
        let rest = sum_from-same n 1 (each (begins unit on)) (each (starts unit on)) later in
        omega (arith, linear, all, count, other_count, first, rest)

-- ---- sums over runs
same_where : (b : Bool) (v w : ℤ) → (IsTrue b → v ≡ w) → cond b v (pos 0) ≡ cond b w (pos 0)
same_where true v w e = e refl
same_where false v w e = refl

le_where : (b : Bool) (v w : ℤ) → (IsTrue b → v ≤ℤ w) → cond b v (pos 0) ≤ℤ cond b w (pos 0)
le_where true v w h = h refl
le_where false v w h = le_refl (pos 0)

pub sum_over_runs-same : (periods : ℕ) (unit : Thermal) (on : Commitment) (f g : ℕ → ℕ → ℤ)
    → EachRun periods unit on (λ from hours. f from hours ≡ g from hours)
    → sum_over_runs periods unit on f ≡ sum_over_runs periods unit on g
sum_over_runs-same periods unit on f g e = sum_below-same periods _ _ (λ t l. same_where (begins unit on t) _ _ (e t l))

pub sum_over_runs-le : (periods : ℕ) (unit : Thermal) (on : Commitment) (f g : ℕ → ℕ → ℤ)
    → EachRun periods unit on (λ from hours. f from hours ≤ℤ g from hours)
    → sum_over_runs periods unit on f ≤ℤ sum_over_runs periods unit on g
sum_over_runs-le periods unit on f g h = sum_below-le periods _ _ (λ t l. le_where (begins unit on t) _ _ (h t l))

pub sum_from-add : (n t : ℕ) (c d : ℕ → ℤ) → sum_from n t (λ k. c k +ℤ d k) ≡ sum_from n t c +ℤ sum_from n t d
sum_from-add zero t c d = refl
sum_from-add (suc n) t c d = let rest = sum_from-add n (suc t) c d in omega (arith, linear)

pub sum_of_runs : (periods : ℕ) (unit : Thermal) (on : Commitment) (g : ℕ → ℤ) → 0 < periods
    → sum_below periods (λ t. cond (on t) (g t) (pos 0))
    ≡ sum_over_runs periods unit on (λ from hours. sum_below hours (λ i. g (from + i)))
sum_of_runs periods unit on g some =
    let own = λ (from : ℕ) (hours : ℕ). sum_from hours from g in
    let all = from_zero periods (λ t. cond (on t) (g t) (pos 0)) in
    let parts = split on g periods 0 unit.on0 in
    let count : periods ≡ periods - 0 = omega arith in
    let lasting = ap (λ n. cond unit.on0 (sum_from (hours_on on n 0) 0 g) (pos 0)) count in
    let starts_are = started periods unit on own periods 0 (omega arith) in
    let whole = sums-begun periods unit on own some in
    let plain = sum_over_runs-same periods unit on own (λ from hours. sum_below hours (λ i. g (from + i))) (λ t l b. sum_from-is (run_hours periods on t) t g) in
    omega (arith, linear, all, parts, lasting, starts_are, whole, plain)
