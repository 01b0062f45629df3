-- Minimum up and down times of at least 1 exclude a start and a stop in one period, even where starts and
-- stops are variables of their own, as in the reference model, tied to the state only by
-- u(t) - u(t-1) = v(t) - w(t).
use Rattle.std.proofs.Common.{◌≡◌, ℕ, zero, suc, ◌+◌, ◌-◌, ◌<◌, ◌≤◌, ◌≢◌, ◌⊎◌, ⊎_elim, min, max, Bool, true, false, not, ◌&&◌, refl, sym, ap, ◌∙◌, arith, ℤ, pos, ◌+ℤ◌, ◌-ℤ◌, ◌≤ℤ◌, IsTrue, int_le, nat_lt}
use mathlib.Core.Bool.{and_comm}
use Rattle.std.proofs.lemmas.Bool.{or_cases, cases_Bool, cases_order, ltb-true, true≢false, not-true, not-false, not_from_true}
use Rattle.uc_model.specs.Prelude.{sum_below, bit, Commitment, state_before, keeps_minimum_at, KeepsMinimumTimes}
use Rattle.uc_model.proofs.Ring.{linear}
use Rattle.uc_model.proofs.Sums.{term-le-sum_below}
use Rattle.uc_model.proofs.Tests.{int_le-true}

pub bit_nonneg : (b : Bool) → pos 0 ≤ℤ bit b
bit_nonneg true = omega (arith, linear)
bit_nonneg false = omega (arith, linear)

pub bit-le-one : (b : Bool) → bit b ≤ℤ pos 1
bit-le-one true = omega (arith, linear)
bit-le-one false = omega (arith, linear)

bit-true : (b : Bool) → IsTrue b → bit b ≡ pos 1
bit-true b h = ap bit h

pub one-le-bit : (b : Bool) → pos 1 ≤ℤ bit b → IsTrue b
one-le-bit true h = refl
one-le-bit false h = absurd (omega (arith, linear))

-- two terms at different places are at most the sum
pub two_terms-le-sum_below : (n : ℕ) (f : ℕ → ℤ) (j k : ℕ) → j < k → k < n → ((i : ℕ) → i < n → pos 0 ≤ℤ f i)
    → (f j +ℤ f k) ≤ℤ sum_below n f
two_terms-le-sum_below zero f j k l h nonneg = absurd (omega arith)
two_terms-le-sum_below (suc n) f j k l h nonneg =
    let more : pos 0 ≤ℤ f n = nonneg n (omega arith) in
    ⊎_elim
    (λ (less : k < n).
    let earlier = two_terms-le-sum_below n f j k l less (λ i m. nonneg i (omega arith)) in omega (arith, linear))
    (λ (last : k ≡ n).
    let first = term-le-sum_below n f j (omega arith) (λ i m. nonneg i (omega arith)) in
    let same = ap f last in
    omega (arith, linear))
    (grind arith)

-- what a whole window says of a change within it: the state is there at its end, and there is no other change
pub record OneChange (window : ℕ) (changes state : Commitment) (k end : ℕ) : Type 0 where
  pub state_at : IsTrue (state end)
  pub only : (j : ℕ) → suc end - window ≤ j → j ≤ end → IsTrue (changes j) → j ≡ k

pub one_change : (window : ℕ) (changes state : Commitment) (k end : ℕ) → window ≤ suc end → suc end - window ≤ k → k ≤ end
    → IsTrue (changes k) → IsTrue (keeps_minimum_at window changes state end) → OneChange window changes state k end
one_change window changes state k end whole since until change keeps =
    record { state_at = there; only = only_one }
  where
    bounded : sum_below window (λ i. bit (changes (suc end - window + i))) ≤ℤ bit (state end)
    bounded =
        ⊎_elim
        (λ (short : IsTrue (nat_lt (suc end) window)). absurd (let l = ltb-true (suc end) window short in omega arith))
        (λ (sum : IsTrue (int_le (sum_below window (λ i. bit (changes (suc end - window + i)))) (bit (state end)))).
        int_le-true _ _ sum)
        (or_cases (nat_lt (suc end) window) _ keeps)

    one_at : (j : ℕ) → suc end - window ≤ j → IsTrue (changes j) → bit (changes (suc end - window + (j - (suc end - window)))) ≡ pos 1
    one_at j h c = ap (λ i. bit (changes i)) (omega arith) ∙ bit-true (changes j) c

    nonneg : (i : ℕ) → i < window → pos 0 ≤ℤ bit (changes (suc end - window + i))
    nonneg i h = bit_nonneg (changes (suc end - window + i))

    there : IsTrue (state end)
    there =
        let term = term-le-sum_below window (λ i. bit (changes (suc end - window + i))) (k - (suc end - window)) (omega arith) nonneg in
        let one = one_at k since change in
        one-le-bit (state end) (omega (arith, linear, bounded))

    two : (i j : ℕ) → suc end - window ≤ i → i < j → j ≤ end → IsTrue (changes i) → IsTrue (changes j) → ⊥
    two i j h l u ci cj =
        let terms =
        two_terms-le-sum_below window (λ n. bit (changes (suc end - window + n))) (i - (suc end - window)) (j - (suc end - window))
        (omega arith) (omega arith) nonneg
        in
        let one_i = one_at i h ci in
        let one_j = one_at j (omega arith) cj in
        let most = bit-le-one (state end) in
        omega (arith, linear, bounded)

    only_one : (j : ℕ) → suc end - window ≤ j → j ≤ end → IsTrue (changes j) → j ≡ k
    only_one j h u c =
        ⊎_elim
        (λ (same : j ≡ k). same)
        (λ (apart : (j < k) ⊎ (k < j)).
        ⊎_elim
        (λ (before : j < k). absurd (two j k h before until c change))
        (λ (after : k < j). absurd (two k j since after u change c))
        apart)
        (cases_order j k)

-- between a period with the state and a later one without it there is a fall
pub fall : (initial : Bool) (on : Commitment) (a b : ℕ) → a < b → IsTrue (on a) → on b ≡ false
    → (k : ℕ) × (a < k) × (k ≤ b) × IsTrue (state_before initial on k) × (on k ≡ false)
fall initial on a zero h there gone = absurd (omega arith)
fall initial on a (suc b) h there gone =
    ⊎_elim
    (λ (before : IsTrue (on b)). (suc b, omega arith, omega arith, before, gone))
    (λ (before : on b ≡ false).
    let apart : a ≢ b = λ e. true≢false (sym there ∙ ap on e ∙ before) in
    let earlier = fall initial on a b (omega arith) there before in
    (earlier.0, earlier.1, omega (arith, earlier.2), earlier.3, earlier.4))
    (cases_Bool (on b))

state_before-not : (initial : Bool) (on : Commitment) (k : ℕ)
    → state_before (not initial) (λ t. not (on t)) k ≡ not (state_before initial on k)
state_before-not initial on zero = refl
state_before-not initial on (suc k) = refl

-- u(t) - u(t-1) = v(t) - w(t) at a fall, and at a rise
falls_by_stop : (now before up down : Bool) → bit now -ℤ bit before ≡ bit up -ℤ bit down → before ≡ true → now ≡ false → IsTrue down
falls_by_stop now before up down e was is = grind (arith, linear, e, was, is)

rises_by_start : (now before up down : Bool) → bit now -ℤ bit before ≡ bit up -ℤ bit down → before ≡ false → now ≡ true → IsTrue up
rises_by_start now before up down e was is = grind (arith, linear, e, was, is)

-- so a start and a stop can't stand in one period
pub not_both : (initial : Bool) (on up down : Commitment) (periods time_up time_down : ℕ) → 1 ≤ time_up → 1 ≤ time_down
    → KeepsMinimumTimes initial on up down periods time_up time_down
    → (t : ℕ) → t < periods → IsTrue (up t) → IsTrue (down t) → ⊥
not_both initial on up down periods time_up time_down hu hd keeps t ht start stop =
    ⊎_elim
    (λ (same : end_up ≡ end_down).
    true≢false (sym after_start.state_at ∙ ap on same ∙ not-true (on end_down) after_stop.state_at))
    (λ (apart : (end_up < end_down) ⊎ (end_down < end_up)).
    ⊎_elim
    (λ (earlier : end_up < end_down).
    let down_at = fall initial on end_up end_down earlier after_start.state_at (not-true (on end_down) after_stop.state_at) in
    let k = down_at.0 in
    let within : k < periods = omega (arith, down_at.1, down_at.2) in
    let stops = falls_by_stop (on k) (state_before initial on k) (up k) (down k) (keeps.state k within) down_at.3 down_at.4 in
    let same = after_stop.only k (omega (arith, down_at.1, down_at.2)) down_at.2 stops in
    omega (arith, down_at.1, same))
    (λ (later : end_down < end_up).
    let up_at =
    fall (not initial) (λ i. not (on i)) end_down end_up later after_stop.state_at
    (not_from_true (on end_up) after_start.state_at)
    in
    let k = up_at.0 in
    let within : k < periods = omega (arith, up_at.1, up_at.2) in
    let was : state_before initial on k ≡ false = not-true _ (sym (state_before-not initial on k) ∙ up_at.3) in
    let is : on k ≡ true = not-false (on k) up_at.4 in
    let starts = rises_by_start (on k) (state_before initial on k) (up k) (down k) (keeps.state k within) was is in
    let same = after_start.only k (omega (arith, up_at.1, up_at.2)) up_at.2 starts in
    omega (arith, up_at.1, same))
    apart)
    (cases_order end_up end_down)
  where
    end_up : ℕ
    end_up = max t (min time_up periods - 1)

    end_down : ℕ
    end_down = max t (min time_down periods - 1)

    after_start : OneChange (min time_up periods) up on t end_up
    after_start =
        one_change (min time_up periods) up on t end_up (omega arith) (omega arith) (omega arith) start
        (keeps.minimum_up end_up (omega arith))

    after_stop : OneChange (min time_down periods) down (λ k. not (on k)) t end_down
    after_stop =
        one_change (min time_down periods) down (λ k. not (on k)) t end_down (omega arith) (omega arith) (omega arith) stop
        (keeps.minimum_down end_down (omega arith))

-- and both follow from the state
start_is : (now before up down : Bool) → bit now -ℤ bit before ≡ bit up -ℤ bit down → (IsTrue up → IsTrue down → ⊥)
    → up ≡ (not before && now)
start_is true true true true e apart = absurd (apart refl refl)
start_is true true true false e apart = absurd (omega (arith, linear))
start_is true true false down e apart = refl
start_is true false true down e apart = refl
start_is true false false true e apart = absurd (omega (arith, linear))
start_is true false false false e apart = absurd (omega (arith, linear))
start_is false true true true e apart = absurd (apart refl refl)
start_is false true true false e apart = absurd (omega (arith, linear))
start_is false true false down e apart = refl
start_is false false true true e apart = absurd (apart refl refl)
start_is false false true false e apart = absurd (omega (arith, linear))
start_is false false false down e apart = refl

stop_is : (now before up down : Bool) → bit now -ℤ bit before ≡ bit up -ℤ bit down → (IsTrue up → IsTrue down → ⊥)
    → down ≡ (before && not now)
stop_is now before up down e apart = start_is before now down up (omega (arith, linear)) (λ d u. apart u d) ∙ and_comm (not now) before

pub starts-follow : (initial : Bool) (on up down : Commitment) (periods time_up time_down : ℕ) → 1 ≤ time_up → 1 ≤ time_down
    → KeepsMinimumTimes initial on up down periods time_up time_down
    → (t : ℕ) → t < periods → up t ≡ (not (state_before initial on t) && on t)
starts-follow initial on up down periods time_up time_down hu hd keeps t ht =
    start_is (on t) (state_before initial on t) (up t) (down t) (keeps.state t ht)
    (not_both initial on up down periods time_up time_down hu hd keeps t ht)

pub stops-follow : (initial : Bool) (on up down : Commitment) (periods time_up time_down : ℕ) → 1 ≤ time_up → 1 ≤ time_down
    → KeepsMinimumTimes initial on up down periods time_up time_down
    → (t : ℕ) → t < periods → down t ≡ (state_before initial on t && not (on t))
stops-follow initial on up down periods time_up time_down hu hd keeps t ht =
    stop_is (on t) (state_before initial on t) (up t) (down t) (keeps.state t ht)
    (not_both initial on up down periods time_up time_down hu hd keeps t ht)
