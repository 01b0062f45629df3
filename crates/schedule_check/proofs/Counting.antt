-- Counts of the indexes below a number at which a test holds: what the windows of minimum times and the stops between
-- two lags are by them.
use Rattle.std.proofs.Common.{◌≡◌, ℕ, zero, suc, ◌+◌, ◌-◌, ◌<◌, ◌≤◌, ⊎_elim, Bool, true, false, ◌&&◌, ◌||◌, refl, sym, ap, subst, ◌∙◌, arith, List, length, get_or, pos, IsTrue, nat_le, nat_lt, slice_set, int_le, get_or-set_same, get_or-set_other, if◌then◌else◌}
use mir.Val.{bool_byte}
use Rattle.std.proofs.lemmas.Bool.{cases_lt, cases_Bool, and_parts, and_from, leb-true, le-leb, ltb-true, lt-ltb, le-ltb, true≢false}
use Rattle.uc_model.specs.Prelude.{sum_below, any_below, bit, keeps_minimum_at}
use Rattle.uc_model.proofs.Common.{linear, any_below-at, any_below-from, sum_below-split}
use Rattle.schedule_check.specs.inside.Changes.{count_below}

-- ---- single counts
pub one_more : (b : Bool) → (if b then 1 else 0) ≤ 1
one_more true = omega arith
one_more false = omega arith

pub count-le : (n : ℕ) (test : ℕ → Bool) → count_below n test ≤ n
count-le zero test = omega arith
count-le (suc n) test = let before = count-le n test in let last = one_more (test n) in omega arith

pub count-more : (m n : ℕ) (test : ℕ → Bool) → m ≤ n → count_below m test ≤ count_below n test
count-more m zero test h = let none : m ≡ 0 = omega arith in subst (λ k. count_below k test ≤ 0) (sym none) (omega arith)
count-more m (suc n) test h =
    ⊎_elim
    (λ (less : m < suc n). let before = count-more m n test (omega arith) in omega arith)
    (λ (same : suc n ≤ m). let equal : m ≡ suc n = omega arith in subst (λ k. count_below m test ≤ count_below k test) equal (omega arith))
    (cases_lt m (suc n))

-- ---- the sum over a window
pub count-sum : (n : ℕ) (test : ℕ → Bool) → sum_below n (λ i. bit (test i)) ≡ pos (count_below n test)
count-sum zero test = refl
count-sum (suc n) test = grind (arith, linear, (count-sum n test))

pub window_sum : (from window : ℕ) (test : ℕ → Bool)
    → sum_below window (λ i. bit (test (from + i))) ≡ pos (count_below (from + window) test - count_below from test)
window_sum from window test =
    let whole = sum_below-split from window (λ i. bit (test i)) in
    let front = count-sum from test in
    let all = count-sum (from + window) test in
    let more = count-more from (from + window) test (omega arith) in
    omega (arith, linear)

-- ---- one more count
pub byte_is : (b : Bool) → bool_byte b ≡ (if b then 1 else 0)
byte_is true = refl
byte_is false = refl

-- the list with the count before the next index
pub counted : (counts : List ℕ) (t added : ℕ) (now : Bool) (test : ℕ → Bool) → suc t < length counts
    → ((k : ℕ) → k < suc t → get_or counts k 0 ≡ count_below k test) → now ≡ test t → added ≡ bool_byte now
    → (k : ℕ) → k < suc (t + 1) → get_or (slice_set counts (t + 1) (get_or counts t 0 + added)) k 0 ≡ count_below k test
counted counts t added now test room before same byte k h =
    grind (arith, linear, get_or-set_other, slice_set, get_or-set_same, byte_is, cases_lt, room, before, same, byte, h)

-- ---- the stops between two lags
later : (c : ℕ) (b : Bool) → IsTrue b → c < c + (if b then 1 else 0)
later c true h = omega arith
later c false h = absurd (true≢false (sym h))

none_added : (c : ℕ) (b : Bool) → b ≡ false → c + (if b then 1 else 0) ≡ c
none_added c b h = ap (λ x. c + (if x then 1 else 0)) h ∙ omega arith

-- some index since `low` and before `high` passes the test exactly where their counts differ
pub some_between : (low high : ℕ) (test : ℕ → Bool) → count_below low test < count_below high test
    → (k : ℕ) × (low ≤ k) × (k < high) × IsTrue (test k)
some_between low zero test h = absurd (omega arith)
some_between low (suc high) test h =
    ⊎_elim
    (λ (here : IsTrue (test high)).
    ⊎_elim
    (λ (within : low < suc high). (high, omega arith, omega arith, here))
    (λ (past : suc high ≤ low). absurd (let more = count-more (suc high) low test past in omega (arith, more)))
    (cases_lt low (suc high)))
    (λ (none : test high ≡ false).
    let same = none_added (count_below high test) (test high) none in
    let before = some_between low high test (omega (arith, same)) in
    (before.0, before.1, omega (arith, before.2), before.3))
    (cases_Bool (test high))

pub between_some : (low high k : ℕ) (test : ℕ → Bool) → low ≤ k → k < high → IsTrue (test k) → count_below low test < count_below high test
between_some low high k test after until h =
    let first = count-more low k test after in
    let here = later (count_below k test) (test k) h in
    let rest = count-more (suc k) high test until in
    omega (arith, first, here, rest)

pub same_test : (a b : Bool) → (IsTrue a → IsTrue b) → (IsTrue b → IsTrue a) → a ≡ b
same_test true b h k = sym (h refl)
same_test false true h k = k refl
same_test false false h k = refl

pub apart : (a b : ℕ) → nat_lt 0 (b - a) ≡ nat_lt a b
apart a b = grind (arith, linear)

pub has_stop : (from to t : ℕ) (test : ℕ → Bool) → to ≤ suc t
    → any_below to (λ i. nat_le from i && test (t - i)) ≡ nat_lt (count_below (suc t - to) test) (count_below (suc t - from) test)
has_stop from to t test reached =
    same_test _ _
    (λ some.
    let found = any_below-at to (λ i. nat_le from i && test (t - i)) some in
    let parts = and_parts (nat_le from found.0) (test (t - found.0)) found.2 in
    let low = leb-true from found.0 parts.0 in
    lt-ltb _ _ (between_some (suc t - to) (suc t - from) (t - found.0) test (omega (arith, found.1)) (omega (arith, found.1, low)) parts.1))
    (λ apart.
    let found = some_between (suc t - to) (suc t - from) test (ltb-true _ _ apart) in
    let back : t - (t - found.0) ≡ found.0 = omega (arith, found.2) in
    any_below-from to (λ i. nat_le from i && test (t - i)) (t - found.0) (omega (arith, found.1, found.2))
    (and_from _ _ (le-leb from (t - found.0) (omega (arith, found.2))) (subst (λ k. IsTrue (test k)) (sym back) found.3)))

-- ---- minimum times
byte_bit : (b : Bool) → bit b ≡ pos (bool_byte b)
byte_bit true = refl
byte_bit false = refl

pub keeps : (window t within : ℕ) (state : Bool) (test after : ℕ → Bool) → window ≤ suc t → after t ≡ state
    → within ≡ count_below (t + 1) test - count_below (t + 1 - window) test
    → nat_le within (bool_byte state) ≡ keeps_minimum_at window test after t
keeps window t within state test after whole same counted =
    let sum = window_sum (suc t - window) window test in
    let end : suc t - window + window ≡ suc t = omega arith in
    let next : t + 1 ≡ suc t = omega arith in
    let changes : sum_below window (λ i. bit (test (suc t - window + i))) ≡ pos within =
    sum ∙ ap (λ k. pos (count_below k test - count_below (suc t - window) test)) end
    ∙ ap (λ k. pos (count_below k test - count_below (k - window) test)) (sym next) ∙ ap pos (sym counted) in
    let now : bit (after t) ≡ pos (bool_byte state) = byte_bit (after t) ∙ ap (λ b. pos (bool_byte b)) same in
    let compared : int_le (sum_below window (λ i. bit (test (suc t - window + i)))) (bit (after t)) ≡ nat_le within (bool_byte state) =
    (λ i. int_le (changes i) (now i)) in
    sym (ap (λ b. b || int_le (sum_below window (λ i. bit (test (suc t - window + i)))) (bit (after t))) (le-ltb (suc t) window whole) ∙ compared)
