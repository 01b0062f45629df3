-- Minimum times by the last change of state: the windows of M4 and M5 with the initial times of M2 and M3 say the same as
-- that no state is left before it has lasted long enough. Said of any state; M4 takes it for on, M5 for off.
use Rattle.std.proofs.Common.{◌≡◌, ℕ, zero, suc, ◌+◌, ◌-◌, ◌<◌, ◌≤◌, ⊎_elim, min, Bool, false, not, ◌&&◌, refl, sym, ap, subst, ◌∙◌, arith, ℤ, pos, ◌≤ℤ◌, IsTrue, int_le, nat_lt}
use Rattle.std.proofs.lemmas.Bool.{cases_Bool, cases_lt, or_cases, or_left, or_right, and_parts, and_from, true≢false, not-true, not_from_false, ltb-true, lt-ltb, leb-true, le-leb}
use Rattle.uc_model.specs.Prelude.{sum_below, any_below, bit, Commitment, state_before, keeps_minimum_at, has_lasted}
use Rattle.uc_model.proofs.Common.{linear, sum_below-zero, sum_below-single, term-le-sum_below, int_le-true, le-int_le, any_below-at, any_below-from, bit_nonneg, bit-le-one, two_terms-le-sum_below, one-le-bit}
use Rattle.dual_model.proofs.Switches.{since, since-zero, since-suc, since_after-same, since_after-other}

-- the state is entered in period t, or left
abbrev pub enters : Bool → Commitment → ℕ → Bool
enters initial state t = not (state_before initial state t) && state t

abbrev pub leaves : Bool → Commitment → ℕ → Bool
leaves initial state t = state_before initial state t && not (state t)

-- it is left only after it has lasted
abbrev pub LeavesInTime : Bool → Commitment → ℕ → ℕ → ℕ → Type 0
LeavesInTime initial state periods left most =
    (t : ℕ) → t < periods → IsTrue (leaves initial state t) → IsTrue (has_lasted left most (since initial state t) t)

bit-is : (b c : Bool) → b ≡ c → bit b ≡ bit c
bit-is b c e = ap bit e

-- ---- from lasting to windows
-- from the period k in which it was entered the state lasts to the period j
lasts : (initial : Bool) (state : Commitment) (periods left most : ℕ) → LeavesInTime initial state periods left most
    → (k d : ℕ) → IsTrue (enters initial state k) → d < most → k + d < periods
    → IsTrue (state (k + d)) × (since initial state (suc (k + d)) ≡ suc k)
lasts initial state periods left most leave k zero enter h within =
    let parts = and_parts (not (state_before initial state k)) (state k) enter in
    let same : k + 0 ≡ k = omega arith in (
      ap state same ∙ parts.1,
      ap (λ i. since initial state (suc i)) same
          ∙ since_after-other (state_before initial state k) (since initial state k) (state k) k
          (not-true _ parts.0 ∙ ap not (sym parts.1)),
    )
lasts initial state periods left most leave k (suc d) enter h within =
    let before = lasts initial state periods left most leave k d enter (omega arith) (omega arith) in
    let same : k + suc d ≡ suc (k + d) = omega arith in
    let there : IsTrue (state (suc (k + d))) =
    ⊎_elim
    (λ (yes_it_is : IsTrue (state (suc (k + d)))). yes_it_is)
    (λ (gone : state (suc (k + d)) ≡ false).
    let lasted = leave (suc (k + d)) (omega arith) (and_from _ _ before.0 (not_from_false _ gone)) in
    let long : k + most ≤ suc (k + d) = leb-true _ _ (subst (λ i. IsTrue (has_lasted left most i (suc (k + d)))) before.1 lasted) in
    absurd (omega arith))
    (cases_Bool (state (suc (k + d)))) in (
      ap state same ∙ there,
      ap (λ i. since initial state (suc i)) same
          ∙ since_after-same (state (k + d)) (since initial state (suc (k + d))) (state (suc (k + d))) (suc (k + d)) (before.0 ∙ sym there)
          ∙ before.1,
    )

-- so in a window there is at most one entry, and with it the state at the end
lasts_to : (initial : Bool) (state : Commitment) (periods left most : ℕ) → LeavesInTime initial state periods left most
    → (k t : ℕ) → IsTrue (enters initial state k) → k ≤ t → t < k + most → t < periods
    → IsTrue (state t) × (since initial state (suc t) ≡ suc k)
lasts_to initial state periods left most leave k t enter h near within =
    let at : k + (t - k) ≡ t = omega arith in
    let found = lasts initial state periods left most leave k (t - k) enter (omega arith) (omega arith) in
    (ap state (sym at) ∙ found.0, ap (λ i. since initial state (suc i)) (sym at) ∙ found.1)

pub window-from_lasting : (initial : Bool) (state : Commitment) (periods left most : ℕ) → 1 ≤ most → LeavesInTime initial state periods left most
    → (t : ℕ) → t < periods → IsTrue (keeps_minimum_at (min most periods) (enters initial state) state t)
window-from_lasting initial state periods left most some leave t within =
    ⊎_elim
    (λ (short : suc t < min most periods). or_left _ _ (lt-ltb _ _ short))
    (λ (whole : min most periods ≤ suc t). or_right _ _ (le-int_le _ _ (bounded whole)))
    (cases_lt (suc t) (min most periods))
  where
    window : ℕ
    window = min most periods

    entry_bit : ℕ → ℤ
    entry_bit i = bit (enters initial state (suc t - window + i))

    -- an entry in the window
    found : window ≤ suc t → (i : ℕ) → i < window → IsTrue (enters initial state (suc t - window + i))
        → IsTrue (state t) × (since initial state (suc t) ≡ suc (suc t - window + i))
    found whole i h enter = lasts_to initial state periods left most leave (suc t - window + i) t enter (omega arith) (omega arith) within

    some_entry : window ≤ suc t → (i : ℕ) × (i < window) × IsTrue (enters initial state (suc t - window + i))
        → sum_below window entry_bit ≤ℤ bit (state t)
    some_entry whole entry =
        let here = found whole entry.0 entry.1 entry.2 in
        let single : sum_below window entry_bit ≡ entry_bit entry.0 =
        sum_below-single window entry_bit entry.0 entry.1
        (λ j h other. ⊎_elim
        (λ (again : IsTrue (enters initial state (suc t - window + j))).
        let there = found whole j h again in
        let same : suc (suc t - window + j) ≡ suc (suc t - window + entry.0) = sym there.1 ∙ here.1 in
        absurd (other (omega arith)))
        (λ (none : enters initial state (suc t - window + j) ≡ false). bit-is _ _ none)
        (cases_Bool (enters initial state (suc t - window + j)))) in
        let one : entry_bit entry.0 ≡ pos 1 = bit-is _ _ entry.2 in
        let there : bit (state t) ≡ pos 1 = bit-is _ _ here.0 in
        omega (arith, linear)

    no_entry : any_below window (λ i. enters initial state (suc t - window + i)) ≡ false → sum_below window entry_bit ≤ℤ bit (state t)
    no_entry none =
        let zero_sum : sum_below window entry_bit ≡ pos 0 =
        sum_below-zero window entry_bit (λ k h. ⊎_elim
        (λ (one : IsTrue (enters initial state (suc t - window + k))).
        absurd (true≢false (sym (any_below-from window (λ i. enters initial state (suc t - window + i)) k h one) ∙ none)))
        (λ (zero_bit : enters initial state (suc t - window + k) ≡ false). bit-is _ _ zero_bit)
        (cases_Bool (enters initial state (suc t - window + k)))) in
        let low = bit_nonneg (state t) in
        omega (arith, linear)

    bounded : window ≤ suc t → sum_below window entry_bit ≤ℤ bit (state t)
    bounded whole =
        ⊎_elim
        (λ (one : IsTrue (any_below window (λ i. enters initial state (suc t - window + i)))). some_entry whole (any_below-at _ _ one))
        (λ (none : any_below window (λ i. enters initial state (suc t - window + i)) ≡ false). no_entry none)
        (cases_Bool (any_below window (λ i. enters initial state (suc t - window + i))))

-- and the initial state lasts as long as it must
lasts_initially : (initial : Bool) (state : Commitment) (periods left most : ℕ) → LeavesInTime initial state periods left most
    → IsTrue initial → (t : ℕ) → t ≤ left → t ≤ periods → IsTrue (state_before initial state t) × (since initial state t ≡ 0)
lasts_initially initial state periods left most leave first zero h within = (first, refl)
lasts_initially initial state periods left most leave first (suc t) h within =
    let before = lasts_initially initial state periods left most leave first t (omega arith) (omega arith) in
    ⊎_elim
    (λ (there : IsTrue (state t)).
    (there, since_after-same (state_before initial state t) (since initial state t) (state t) t (before.0 ∙ sym there) ∙ before.1))
    (λ (gone : state t ≡ false).
    let lasted = leave t (omega arith) (and_from _ _ before.0 (not_from_false _ gone)) in
    let long : left ≤ t = leb-true _ _ (subst (λ i. IsTrue (has_lasted left most i t)) before.1 lasted) in
    absurd (omega arith))
    (cases_Bool (state t))

pub initial-from_lasting : (initial : Bool) (state : Commitment) (periods left most : ℕ) → LeavesInTime initial state periods left most
    → IsTrue initial → (t : ℕ) → t < periods → t < left → IsTrue (state t)
initial-from_lasting initial state periods left most leave first t within h =
    (lasts_initially initial state periods left most leave first (suc t) h within).0

-- ---- from windows to lasting
-- a state that is back by a later period was entered in between
back_again : (initial : Bool) (state : Commitment) (t d : ℕ) → state t ≡ false → IsTrue (state (t + d))
    → (j : ℕ) × (t < j) × (j ≤ t + d) × IsTrue (enters initial state j)
back_again initial state t zero gone there = absurd (true≢false (sym there ∙ ap state (let e : t + 0 ≡ t = omega arith in e) ∙ gone))
back_again initial state t (suc d) gone there =
    let next : t + suc d ≡ suc (t + d) = omega arith in
    ⊎_elim
    (λ (already : IsTrue (state (t + d))).
    let found = back_again initial state t d gone already in
    (found.0, found.1, omega (arith, found.2), found.3))
    (λ (later : state (t + d) ≡ false). (
      suc (t + d),
      omega arith,
      omega arith,
      and_from _ _ (not_from_false _ later) (sym (ap state next) ∙ there),
    ))
    (cases_Bool (state (t + d)))

pub lasting-from_windows : (initial : Bool) (state : Commitment) (periods left most : ℕ)
    → (IsTrue initial → (t : ℕ) → t < periods → t < left → IsTrue (state t))
    → ((t : ℕ) → t < periods → IsTrue (keeps_minimum_at (min most periods) (enters initial state) state t))
    → LeavesInTime initial state periods left most
lasting-from_windows initial state periods left most first keeps t within leave = by_origin (since initial state t) refl
  where
    there : IsTrue (state_before initial state t)
    there = (and_parts (state_before initial state t) (not (state t)) leave).0

    gone : state t ≡ false
    gone = not-true (state t) (and_parts (state_before initial state t) (not (state t)) leave).1

    window : ℕ
    window = min most periods

    nonneg : (e : ℕ) (i : ℕ) → i < window → pos 0 ≤ℤ bit (enters initial state (suc e - window + i))
    nonneg e i h = bit_nonneg _

    -- what the whole window to the period e says
    bounded : (e : ℕ) → e < periods → window ≤ suc e → sum_below window (λ i. bit (enters initial state (suc e - window + i))) ≤ℤ bit (state e)
    bounded e h whole =
        ⊎_elim
        (λ (short : IsTrue (nat_lt (suc e) window)). absurd (let less = ltb-true (suc e) window short in omega arith))
        (λ (sum : IsTrue (int_le (sum_below window (λ i. bit (enters initial state (suc e - window + i)))) (bit (state e)))). int_le-true _ _ sum)
        (or_cases (nat_lt (suc e) window) _ (keeps e h))

    -- the bit of an entry in it
    entry_at : (e k : ℕ) → suc e - window ≤ k → IsTrue (enters initial state k)
        → bit (enters initial state (suc e - window + (k - (suc e - window)))) ≡ pos 1
    entry_at e k h enter =
        let at : suc e - window + (k - (suc e - window)) ≡ k = omega arith in
        ap (λ i. bit (enters initial state i)) at ∙ bit-is _ _ enter

    -- left too early after an entry in k: in the window to t there is an entry without the state
    too_early_late : (k : ℕ) → IsTrue (enters initial state k) → k < t → t < k + most → window ≤ suc t → ⊥
    too_early_late k enter before soon whole =
        let term = term-le-sum_below window (λ i. bit (enters initial state (suc t - window + i))) (k - (suc t - window)) (omega arith) (nonneg t) in
        let one = entry_at t k (omega arith) enter in
        let most_of = bounded t within whole in
        let none : bit (state t) ≡ pos 0 = bit-is _ _ gone in
        omega (arith, linear)

    -- or in the first window there are two
    too_early_soon : (k : ℕ) → IsTrue (enters initial state k) → k < t → suc t < window → ⊥
    too_early_soon k enter before short =
        let e : ℕ = window - 1 in
        let most_of = bounded (window - 1) (omega arith) (omega arith) in
        let high = bit-le-one (state (window - 1)) in
        let term = term-le-sum_below window (λ i. bit (enters initial state (suc (window - 1) - window + i))) (k - (suc (window - 1) - window)) (omega arith) (nonneg (window - 1)) in
        let one = entry_at (window - 1) k (omega arith) enter in
        let at_end : IsTrue (state (window - 1)) = one-le-bit _ (omega (arith, linear)) in
        let same : t + (window - 1 - t) ≡ window - 1 = omega arith in
        let again = back_again initial state t (window - 1 - t) gone (ap state same ∙ at_end) in
        let another = entry_at (window - 1) again.0 (omega (arith, again.1)) again.3 in
        let both =
        two_terms-le-sum_below window (λ i. bit (enters initial state (suc (window - 1) - window + i)))
        (k - (suc (window - 1) - window)) (again.0 - (suc (window - 1) - window)) (omega (arith, again.1)) (omega (arith, again.2))
        (nonneg (window - 1)) in
        omega (arith, linear)

    by_origin : (s : ℕ) → since initial state t ≡ s → IsTrue (has_lasted left most s t)
    by_origin zero e =
        ⊎_elim
        (λ (soon : t < left).
        absurd (true≢false (sym (first (sym (since-zero initial state t e) ∙ there) t within soon) ∙ gone)))
        (λ (late : left ≤ t). le-leb _ _ late)
        (cases_lt t left)
    by_origin (suc k) e =
        let origin = since-suc initial state t k e in
        let on_at : IsTrue (state k) = origin.kept k (omega arith) origin.before ∙ there in
        let enter : IsTrue (enters initial state k) = and_from _ _ (ap not (origin.switched ∙ ap not on_at)) on_at in
        ⊎_elim
        (λ (soon : t < k + most).
        ⊎_elim
        (λ (short : suc t < window). absurd (too_early_soon k enter origin.before short))
        (λ (whole : window ≤ suc t). absurd (too_early_late k enter origin.before soon whole))
        (cases_lt (suc t) window))
        (λ (late : k + most ≤ t). le-leb _ _ late)
        (cases_lt t (k + most))
