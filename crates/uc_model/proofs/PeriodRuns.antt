-- Commitments that are on in one run of periods, up to some period or from it on: where they start and stop, and that
-- they keep the minimum times.
use Rattle.std.proofs.Common.{◌≡◌, ℕ, zero, suc, ◌+◌, ◌-◌, ◌<◌, ◌≤◌, ⊎_elim, true, false, sym, ap, ◌∙◌, arith, pos, ◌≤ℤ◌, IsTrue, nat_lt}
use Rattle.std.proofs.lemmas.Bool.{and_parts, and_from, and_left, and_right, or_left, or_right, cases_Bool, cases_lt, true≢false, not-true, false_from_ne_true, ltb-true, leb-true, lt-ltb, le-ltb, lt-leb, le-leb}
use Rattle.uc_model.specs.Prelude.{sum_below, bit, Thermal, Commitment, was_on, starts, stops, keeps_minimum_at, on_during}
use Rattle.uc_model.proofs.Ring.{linear}
use Rattle.uc_model.proofs.Sums.{sum_below-zero}
use Rattle.uc_model.proofs.MinimumTimes.{bit_nonneg}
use Rattle.uc_model.proofs.Tests.{le-int_le}

-- ---- the run by its ends
pub during-at : (first end t : ℕ) → IsTrue (on_during first end t) → (first ≤ t) × (t < end)
during-at first end t h = let parts = and_parts _ _ h in (leb-true first t parts.0, ltb-true t end parts.1)

pub during-from : (first end t : ℕ) → first ≤ t → t < end → IsTrue (on_during first end t)
during-from first end t h k = and_from _ _ (le-leb first t h) (lt-ltb t end k)

pub during-off_before : (first end t : ℕ) → t < first → on_during first end t ≡ false
during-off_before first end t h = and_left _ _ (lt-leb first t h)

pub during-off_past : (first end t : ℕ) → end ≤ t → on_during first end t ≡ false
during-off_past first end t h = and_right _ _ (le-ltb t end h)

-- an off period behind the first is behind the end, and one before the end is before the first
pub during-past : (first end t : ℕ) → first ≤ t → on_during first end t ≡ false → end ≤ t
during-past first end t h off = grind (arith, linear, h, off)

-- ---- starts and stops
pub start_parts : (unit : Thermal) (on : Commitment) (t : ℕ) → IsTrue (starts unit on t) → (was_on unit on t ≡ false) × (on t ≡ true)
start_parts unit on t h = let parts = and_parts _ _ h in (not-true _ parts.0, parts.1)

pub stop_parts : (unit : Thermal) (on : Commitment) (t : ℕ) → IsTrue (stops unit on t) → (was_on unit on t ≡ true) × (on t ≡ false)
stop_parts unit on t h = let parts = and_parts _ _ h in (parts.0, not-true _ parts.1)

-- a unit that is on at first and to the period before n never starts, and stops in n
pub never_starts : (unit : Thermal) (n t : ℕ) → unit.on0 ≡ true → IsTrue (starts unit (on_during 0 n) t) → ⊥
never_starts unit n zero first h = true≢false (sym first ∙ (start_parts unit (on_during 0 n) zero h).0)
never_starts unit n (suc t) first h = grind (arith, linear, first, h)

pub stops_in : (unit : Thermal) (n t : ℕ) → IsTrue (stops unit (on_during 0 n) t) → t ≡ n
stops_in unit n zero h = grind (arith, linear, h)
stops_in unit n (suc t) h = grind (arith, linear, h)

-- one that is off at first and on from n to the end starts in n, and never stops
pub starts_in : (unit : Thermal) (n end t : ℕ) → IsTrue (starts unit (on_during n end) t) → t ≡ n
starts_in unit n end zero h = grind (arith, linear, h)
starts_in unit n end (suc t) h = grind (arith, linear, h)

pub never_stops : (unit : Thermal) (n end t : ℕ) → unit.on0 ≡ false → t < end → IsTrue (stops unit (on_during n end) t) → ⊥
never_stops unit n end zero first h k = true≢false (sym (stop_parts unit (on_during n end) zero k).0 ∙ first)
never_stops unit n end (suc t) first h k = grind (arith, linear, first, h, k)

-- ---- M4 and M5 with no change, and with one
pub keeps-none : (window : ℕ) (changes state : Commitment) (t : ℕ) → ((k : ℕ) → k ≤ t → IsTrue (changes k) → ⊥)
    → IsTrue (keeps_minimum_at window changes state t)
keeps-none window changes state t none = grind (arith, linear, or_left, lt-ltb, or_right, le-int_le, cases_lt, sum_below-zero, false_from_ne_true, bit_nonneg, none)

one_at_most : (m : ℕ) (changes : Commitment) (from n : ℕ) → ((i : ℕ) → i < m → IsTrue (changes (from + i)) → from + i ≡ n)
    → sum_below m (λ i. bit (changes (from + i))) ≤ℤ pos 1
one_at_most zero changes from n only = omega (arith, linear)
one_at_most (suc m) changes from n only = ⊎_elim
    (λ (change : changes (from + m) ≡ true).
    let one = ap bit change in
    let rest = sum_below-zero m (λ i. bit (changes (from + i)))
    (λ i h. ap bit (false_from_ne_true _ (λ also. apart (only m (omega arith) change) (only i (omega arith) also) h))) in
    omega (arith, linear))
    (λ (clear : changes (from + m) ≡ false).
    let none = ap bit clear in
    let rest = one_at_most m changes from n (λ i h. only i (omega arith)) in
    omega (arith, linear))
    (cases_Bool (changes (from + m)))
  where
    apart : {i : ℕ} → from + m ≡ n → from + i ≡ n → i < m → ⊥
    apart last earlier less = omega arith

pub keeps-one : (window : ℕ) (changes state : Commitment) (n t : ℕ) → ((k : ℕ) → k ≤ t → IsTrue (changes k) → k ≡ n)
    → (n ≤ t → IsTrue (state t)) → IsTrue (keeps_minimum_at window changes state t)
keeps-one window changes state n t only there = ⊎_elim
    (λ (earlier : t < n). keeps-none window changes state t (λ k h change. omega (arith, only k h change)))
    (λ (later : n ≤ t). ⊎_elim
    (λ (short : suc t < window). or_left (nat_lt (suc t) window) _ (lt-ltb (suc t) window short))
    (λ (whole : window ≤ suc t). or_right (nat_lt (suc t) window) _ (le-int_le _ _ (one later whole)))
    (cases_lt (suc t) window))
    (cases_lt t n)
  where
    one : n ≤ t → window ≤ suc t → sum_below window (λ i. bit (changes (suc t - window + i))) ≤ℤ bit (state t)
    one later whole =
        let most = one_at_most window changes (suc t - window) n (λ i h. only (suc t - window + i) (omega arith)) in
        let state_on = ap bit (there later) in
        omega (arith, linear)
