-- Minimum times by single changes: M4 and M5 hold throughout exactly where each change lasts for the minimum time, or to the
-- last period. So a rule over windows is told change by change, and a cut of the periods weakens it.
use Rattle.std.proofs.Common.{◌≡◌, ℕ, zero, suc, ◌+◌, ◌-◌, ◌<◌, ◌≤◌, ⊎_elim, min, max, Bool, true, false, not, ◌&&◌, refl, sym, ap, ◌∙◌, arith, pos, ◌≤ℤ◌, IsTrue, nat_lt}
use Rattle.std.proofs.lemmas.Bool.{and_parts, and_from, or_left, or_right, cases_Bool, cases_lt, true≢false, not-true, not-false, not_from_true, not_from_false, false_from_ne_true, lt-ltb}
use Rattle.uc_model.specs.Prelude.{sum_below, bit, Commitment, state_before, keeps_minimum_at}
use Rattle.uc_model.proofs.Common.{linear, sum_below-zero, le-int_le, OneChange, fall, one_change}

-- the changes are those from another state to the state, in each of the periods
abbrev pub AreRises : ℕ → Bool → Commitment → Commitment → Type 0
AreRises periods initial state changes = (t : ℕ) → t < periods → changes t ≡ (not (state_before initial state t) && state t)

-- each change lasts for the time, or to the last of the periods
abbrev pub EachLasts : ℕ → ℕ → Commitment → Commitment → Type 0
EachLasts periods time changes state = (s t : ℕ) → s ≤ t → t < periods → t < s + time → IsTrue (changes s) → IsTrue (state t)

-- the rule on the time holds in each of the periods
abbrev pub KeepsMinimum : ℕ → ℕ → Commitment → Commitment → Type 0
KeepsMinimum periods time changes state = (t : ℕ) → t < periods → IsTrue (keeps_minimum_at (min time periods) changes state t)

-- ---- from the rule to the changes
-- between a period without the state and a later one with it there is a change
rise : (periods : ℕ) (initial : Bool) (state changes : Commitment) → AreRises periods initial state changes
    → (a b : ℕ) → a < b → b < periods → state a ≡ false → IsTrue (state b)
    → (k : ℕ) × (a < k) × (k ≤ b) × IsTrue (changes k)
rise periods initial state changes rises a b less within off there =
    let found = fall (not initial) (λ t. not (state t)) a b less (not_from_false _ off) (not_from_true _ there) in
    let k = found.0 in
    let after : k < periods = omega (arith, found.2) in
    let was : not (state_before initial state k) ≡ true = before_at k ∙ found.3 in
    let now : state k ≡ true = not-false (state k) found.4 in
    (k, found.1, found.2, rises k after ∙ and_from _ _ was now)
  where
    before_at : (k : ℕ) → not (state_before initial state k) ≡ state_before (not initial) (λ t. not (state t)) k
    before_at zero = refl
    before_at (suc k) = refl

pub each_lasts : (periods time : ℕ) (initial : Bool) (changes state : Commitment) → 1 ≤ time → AreRises periods initial state changes
    → KeepsMinimum periods time changes state → EachLasts periods time changes state
each_lasts periods time initial changes state some rises keeps s t since within until change =
    ⊎_elim
    (λ (there : state t ≡ true). there)
    (λ (gone : state t ≡ false).
    absurd (⊎_elim
    (λ (before : t < end).
    let back = rise periods initial state changes rises t end before end_within gone one.state_at in
    let same = one.only back.0 (omega (arith, back.1)) back.2 back.3 in
    omega (arith, same, back.1))
    (λ (here : end ≤ t).
    let equal : end ≡ t = omega arith in
    true≢false (sym one.state_at ∙ ap state equal ∙ gone))
    (cases_lt t end)))
    (cases_Bool (state t))
  where
    end : ℕ
    end = max t (min time periods - 1)

    end_within : end < periods
    end_within = omega arith

    one : OneChange (min time periods) changes state s end
    one = one_change (min time periods) changes state s end (omega arith) (omega arith) (omega arith) change (keeps end end_within)

-- ---- from the changes to the rule
-- there is at most one change among periods that are no more than the time
at_most_one : (periods time : ℕ) (initial : Bool) (changes state : Commitment) → AreRises periods initial state changes
    → EachLasts periods time changes state → (from n : ℕ) → n ≤ time → from + n ≤ periods
    → sum_below n (λ i. bit (changes (from + i))) ≤ℤ pos 1
at_most_one periods time initial changes state rises lasts from zero short within = omega (arith, linear)
at_most_one periods time initial changes state rises lasts from (suc n) short within = ⊎_elim
    (λ (change : changes (from + n) ≡ true).
    let one = ap bit change in
    let none = sum_below-zero n (λ i. bit (changes (from + i))) (λ i h. ap bit (false_from_ne_true _ (λ also. no_earlier i h also change))) in
    omega (arith, linear))
    (λ (clear : changes (from + n) ≡ false).
    let none = ap bit clear in
    let rest = at_most_one periods time initial changes state rises lasts from n (omega arith) (omega arith) in
    omega (arith, linear))
    (cases_Bool (changes (from + n)))
  where
    -- the state stands before the later change, which comes from another one
    no_earlier : (i : ℕ) → i < n → IsTrue (changes (from + i)) → changes (from + n) ≡ true → ⊥
    no_earlier i less earlier later =
        let parts = and_parts (not (state_before initial state (from + n))) (state (from + n)) (sym (rises (from + n) (omega arith)) ∙ later) in
        let stands = lasts (from + i) (from + n - 1) (omega arith) (omega arith) (omega arith) earlier in
        let next : from + n ≡ suc (from + n - 1) = omega arith in
        let before : state_before initial state (from + n) ≡ false = not-true _ parts.0 in
        true≢false (sym stands ∙ sym (ap (state_before initial state) next) ∙ before)

pub keeps_minimum : (periods time : ℕ) (initial : Bool) (changes state : Commitment) → AreRises periods initial state changes
    → EachLasts periods time changes state → KeepsMinimum periods time changes state
keeps_minimum periods time initial changes state rises lasts t within = ⊎_elim
    (λ (short : suc t < window). or_left (nat_lt (suc t) window) _ (lt-ltb (suc t) window short))
    (λ (whole : window ≤ suc t). or_right (nat_lt (suc t) window) _ (le-int_le _ _ (bounded whole)))
    (cases_lt (suc t) window)
  where
    window : ℕ
    window = min time periods

    bounded : window ≤ suc t → sum_below window (λ i. bit (changes (suc t - window + i))) ≤ℤ bit (state t)
    bounded whole = ⊎_elim
        (λ (there : state t ≡ true).
        let most = at_most_one periods time initial changes state rises lasts (suc t - window) window (omega arith) (omega arith) in
        let one = ap bit there in
        omega (arith, linear))
        (λ (gone : state t ≡ false).
        let none = sum_below-zero window (λ i. bit (changes (suc t - window + i)))
        (λ i h. ap bit (false_from_ne_true _ (λ change.
        true≢false (sym (lasts (suc t - window + i) t (omega arith) within (omega arith) change) ∙ gone)))) in
        let zero_bit = ap bit gone in
        omega (arith, linear))
        (cases_Bool (state t))
