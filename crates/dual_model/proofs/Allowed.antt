-- A commitment is a pattern, allowed and as decided, exactly where each move of its way may be made.
use Rattle.std.proofs.Common.{◌≡◌, ℕ, zero, suc, ◌-◌, ◌<◌, ◌≤◌, ⊎_elim, min, Bool, true, false, not, ◌&&◌, ◌||◌, refl, sym, subst, ◌∙◌, arith, ℤ, pos, ◌≤ℤ◌, IsTrue, Option, Some, None, nat_lt, int_le, if◌then◌else◌}
use mathlib.Core.Bool.{not-not}
use Rattle.std.proofs.lemmas.Bool.{and_parts, and_from, or_cases, or_left, or_right, true≢false, not-true, not_from_false, ltb-true, lt-ltb, cond-true, cond-false}
use Rattle.uc_model.specs.Prelude.{all_below, Commitment, state_before, was_on, starts, stops, keeps_minimum_at, must_run_at, initial_up_at, initial_down_at, minimum_up_at, minimum_down_at, cap, is_allowed_at, initial_stop_holds, commitment_of, IsLawfulThermal, period_count, term_at, has_lasted}
use Rattle.uc_model.proofs.Common.{linear, int_le-true, le-int_le, all_below-at, all_below-from}
use Rattle.dual_model.specs.Prelude.{Terms, Thermal, AreSizedTerms, IsSized, IsPattern, is_followed, Fix, holds_initially, initial_limit, hour_cost}
use Rattle.dual_model.proofs.Switches.{since}
use Rattle.dual_model.proofs.Lasting.{enters, leaves, LeavesInTime, window-from_lasting, initial-from_lasting, lasting-from_windows}
use Rattle.dual_model.proofs.CellCaps.{cell_cap-cap}
use Rattle.dual_model.proofs.InitialLimits.{initial_stop-limit, initial_stop-from}
use Rattle.dual_model.proofs.Ways.{hour, IsRight, IsThere, AllRight}

-- ---- the parts of what is allowed in a period
record AllowedAt (periods : ℕ) (unit : Thermal) (on : Commitment) (t : ℕ) : Type 0 where
  pub must_run : IsTrue (must_run_at unit on t)
  pub up : IsTrue (initial_up_at unit on t)
  pub down : IsTrue (initial_down_at unit on t)
  pub minimum_up : IsTrue (minimum_up_at periods unit on t)
  pub minimum_down : IsTrue (minimum_down_at periods unit on t)
  pub capped : IsTrue (not (on t) || int_le (pos 0) (cap periods unit on t))

allowed_parts : (periods : ℕ) (unit : Thermal) (on : Commitment) (t : ℕ) → IsTrue (is_allowed_at periods unit on t) → AllowedAt periods unit on t
allowed_parts periods unit on t h = grind (arith, linear, and_parts, h)

allowed_from : (periods : ℕ) (unit : Thermal) (on : Commitment) (t : ℕ) → AllowedAt periods unit on t → IsTrue (is_allowed_at periods unit on t)
allowed_from periods unit on t a = grind (arith, linear, a)

-- ---- M1 and what is decided, over plain bits
on_bits : (known bit_is now : Bool) → (IsTrue known → now ≡ bit_is) → now ≡ true → IsTrue (not known || bit_is)
on_bits true b now h e = sym (h refl) ∙ e
on_bits false b now h e = refl

off_bits : (must known bit_is now : Bool) → IsTrue (not must || now) → (IsTrue known → now ≡ bit_is) → now ≡ false
    → IsTrue (not must && (not known || not bit_is))
off_bits true known b now m h e = absurd (true≢false (sym m ∙ e))
off_bits false true b now m h e = not_from_false b (sym (h refl) ∙ e)
off_bits false false b now m h e = refl

must_bits : (must known bit_is now : Bool) → (now ≡ false → IsTrue (not must && (not known || not bit_is))) → IsTrue (not must || now)
must_bits must known b true h = or_right (not must) true refl
must_bits true known b false h = absurd (true≢false (sym (h refl)))
must_bits false known b false h = refl

decided_bits : (must known bit_is now : Bool) → (now ≡ true → IsTrue (not known || bit_is))
    → (now ≡ false → IsTrue (not must && (not known || not bit_is))) → IsTrue known → now ≡ bit_is
decided_bits must true b true h k e = sym (h refl)
decided_bits must true b false h k e = sym (not-true b (and_parts (not must) (not b) (k refl)).1)
decided_bits must false b now h k e = absurd (true≢false (sym e))

decided_at : (known bit_is now : Bool) → IsTrue (not known || (if bit_is then now else not now)) → IsTrue known → now ≡ bit_is
decided_at true true now h k = h
decided_at true false now h k = not-true now h
decided_at false b now h k = absurd (true≢false (sym k))

decided_to : (known bit_is now : Bool) → (IsTrue known → now ≡ bit_is) → IsTrue (not known || (if bit_is then now else not now))
decided_to true true now h = h refl
decided_to true false now h = not_from_false now (h refl)
decided_to false b now h = refl

-- ---- initial times, over plain bits
guard_from : (initial short state : Bool) → IsTrue (not (initial && short) || state) → IsTrue initial → IsTrue short → IsTrue state
guard_from true true state h a b = h
guard_from true false state h a b = absurd (true≢false (sym b))
guard_from false short state h a b = absurd (true≢false (sym a))

guard_to : (initial short state : Bool) → (IsTrue initial → IsTrue short → IsTrue state) → IsTrue (not (initial && short) || state)
guard_to true true state h = h refl refl
guard_to true false state h = refl
guard_to false short state h = refl

-- ---- M2 and M4
stops_in_time : (periods : ℕ) (unit : Thermal) (on : Commitment) → ((t : ℕ) → t < periods → AllowedAt periods unit on t)
    → LeavesInTime unit.on0 on periods (unit.ut - unit.ut0) unit.ut
stops_in_time periods unit on allowed =
    lasting-from_windows unit.on0 on periods (unit.ut - unit.ut0) unit.ut
    (λ first t within soon. guard_from _ _ _ (allowed t within).up first (lt-ltb _ _ soon))
    (λ t within. (allowed t within).minimum_up)

up_from : (periods : ℕ) (unit : Thermal) (on : Commitment) → 1 ≤ unit.ut → LeavesInTime unit.on0 on periods (unit.ut - unit.ut0) unit.ut
    → (t : ℕ) → t < periods → IsTrue (initial_up_at unit on t) × IsTrue (minimum_up_at periods unit on t)
up_from periods unit on some leave t within = (
  guard_to _ _ _ (λ first soon.
      initial-from_lasting unit.on0 on periods (unit.ut - unit.ut0) unit.ut leave first t within (ltb-true _ _ soon)),
  window-from_lasting unit.on0 on periods (unit.ut - unit.ut0) unit.ut some leave t within,
)

-- ---- M3 and M5, which are the same of a unit that is off
abbrev off_state : Commitment → Commitment
off_state on t = not (on t)

before-off : (unit : Thermal) (on : Commitment) (t : ℕ) → state_before (not unit.on0) (off_state on) t ≡ not (was_on unit on t)
before-off unit on zero = refl
before-off unit on (suc t) = refl

enters-off : (unit : Thermal) (on : Commitment) (t : ℕ) → enters (not unit.on0) (off_state on) t ≡ stops unit on t
enters-off unit on t = (λ i. not (before-off unit on t i) && not (on t)) ∙ (λ i. not-not (was_on unit on t) i && not (on t))

leaves-off : (unit : Thermal) (on : Commitment) (t : ℕ) → leaves (not unit.on0) (off_state on) t ≡ starts unit on t
leaves-off unit on t = λ i. before-off unit on t i && not-not (on t) i

since-off : (unit : Thermal) (on : Commitment) (t : ℕ) → since (not unit.on0) (off_state on) t ≡ since unit.on0 on t
since-off unit on zero = refl
since-off unit on (suc t) = grind (arith, linear, (since-off unit on t))

keeps-same : (window : ℕ) (changes others state : Commitment) (t : ℕ) → ((k : ℕ) → changes k ≡ others k)
    → keeps_minimum_at window changes state t ≡ keeps_minimum_at window others state t
keeps-same window changes others state t same = grind (arith, linear, same)

starts_in_time : (periods : ℕ) (unit : Thermal) (on : Commitment) → ((t : ℕ) → t < periods → AllowedAt periods unit on t)
    → LeavesInTime (not unit.on0) (off_state on) periods (unit.dt - unit.dt0) unit.dt
starts_in_time periods unit on allowed =
    lasting-from_windows (not unit.on0) (off_state on) periods (unit.dt - unit.dt0) unit.dt
    (λ first t within soon. guard_from _ _ _ (allowed t within).down first (lt-ltb _ _ soon))
    (λ t within.
    keeps-same (min unit.dt periods) (enters (not unit.on0) (off_state on)) (stops unit on) (off_state on) t (enters-off unit on)
    ∙ (allowed t within).minimum_down)

down_from : (periods : ℕ) (unit : Thermal) (on : Commitment) → 1 ≤ unit.dt
    → LeavesInTime (not unit.on0) (off_state on) periods (unit.dt - unit.dt0) unit.dt
    → (t : ℕ) → t < periods → IsTrue (initial_down_at unit on t) × IsTrue (minimum_down_at periods unit on t)
down_from periods unit on some leave t within = (
  guard_to _ _ _ (λ first soon.
      initial-from_lasting (not unit.on0) (off_state on) periods (unit.dt - unit.dt0) unit.dt leave first t within (ltb-true _ _ soon)),
  sym (keeps-same (min unit.dt periods) (enters (not unit.on0) (off_state on)) (stops unit on) (off_state on) t (enters-off unit on))
      ∙ window-from_lasting (not unit.on0) (off_state on) periods (unit.dt - unit.dt0) unit.dt some leave t within,
)

-- ---- the terms of the cells
-- the cell of an on period has a term exactly where its cap is at least 0
pub sized-there : (c : ℤ) (term : Option ℤ) → IsSized c term → pos 0 ≤ℤ c → IsThere term
sized-there c None size h = absurd (omega (arith, linear))
sized-there c (Some m) size h = (m, refl)

sized-nonneg : (c : ℤ) (term : Option ℤ) → IsSized c term → IsThere term → pos 0 ≤ℤ c
sized-nonneg c None size there = absurd (let e = there.1 in cc)
sized-nonneg c (Some m) size there = size.0

hour_cost-there : (terms : Terms) (unit : Thermal) (t : ℕ) (term : Option ℤ) → IsThere term → IsThere (hour_cost terms unit t term)
hour_cost-there terms unit t None there = absurd (let e = there.1 in cc)
hour_cost-there terms unit t (Some m) there = (_, refl)

term-there : (terms : Terms) (unit : Thermal) (t : ℕ) (term : Option ℤ) → IsThere (hour_cost terms unit t term) → IsThere term
term-there terms unit t None there = absurd (let e = there.1 in cc)
term-there terms unit t (Some m) there = (m, refl)

hour-there : (terms : Terms) (unit : Thermal) (on : Commitment) → AreSizedTerms unit terms
    → (t : ℕ) → t < period_count terms → IsTrue (not (on t) || int_le (pos 0) (cap (period_count terms) unit on t))
    → IsThere (hour terms unit on (suc t))
hour-there terms unit on sized t within capped = by_bit (on t) refl
  where
    term : Option ℤ
    term = term_at terms t (starts unit on t) (is_followed (period_count terms) unit on t)

    by_bit : (b : Bool) → on t ≡ b → IsThere (hour terms unit on (suc t))
    by_bit true e =
        let low : pos 0 ≤ℤ cap (period_count terms) unit on t =
        ⊎_elim
        (λ (off : IsTrue (not (on t))). absurd (true≢false (sym e ∙ not-true (on t) off)))
        (λ (le : IsTrue (int_le (pos 0) (cap (period_count terms) unit on t))). int_le-true _ _ le)
        (or_cases (not (on t)) (int_le (pos 0) (cap (period_count terms) unit on t)) capped) in
        let there = sized-there _ term (sized.term t (starts unit on t) (is_followed (period_count terms) unit on t) within)
        (subst (λ z. pos 0 ≤ℤ z) (sym (cell_cap-cap (period_count terms) unit on t e)) low) in
        let cost = hour_cost-there terms unit t term there in
        (cost.0, cond-true (on t) (hour_cost terms unit t term) (Some (pos 0)) e ∙ cost.1)
    by_bit false e = (pos 0, cond-false (on t) (hour_cost terms unit t term) (Some (pos 0)) e)

capped-from : (terms : Terms) (unit : Thermal) (on : Commitment) → AreSizedTerms unit terms
    → (t : ℕ) → t < period_count terms → IsThere (hour terms unit on (suc t))
    → IsTrue (not (on t) || int_le (pos 0) (cap (period_count terms) unit on t))
capped-from terms unit on sized t within there = by_bit (on t) refl
  where
    term : Option ℤ
    term = term_at terms t (starts unit on t) (is_followed (period_count terms) unit on t)

    by_bit : (b : Bool) → on t ≡ b → IsTrue (not (on t) || int_le (pos 0) (cap (period_count terms) unit on t))
    by_bit true e =
        let cost : IsThere (hour_cost terms unit t term) = (there.0, sym (cond-true (on t) (hour_cost terms unit t term) (Some (pos 0)) e) ∙ there.1) in
        let low = sized-nonneg _ term (sized.term t (starts unit on t) (is_followed (period_count terms) unit on t) within) (term-there terms unit t term cost) in
        or_right (not (on t)) _ (le-int_le _ _ (subst (λ z. pos 0 ≤ℤ z) (cell_cap-cap (period_count terms) unit on t e) low))
    by_bit false e = or_left (not (on t)) _ (not_from_false (on t) e)

-- ---- both ways
pub all_right-pattern : (terms : Terms) (unit : Thermal) (fix : Fix) (on : Commitment) → AreSizedTerms unit terms
    → IsPattern (period_count terms) unit fix on → AllRight terms unit fix on 0
all_right-pattern terms unit fix on sized pattern = record { right = right; there = there }
  where
    parts : IsTrue (initial_stop_holds unit on) × IsTrue (all_below (period_count terms) (is_allowed_at (period_count terms) unit on))
    parts = and_parts (initial_stop_holds unit on) (all_below (period_count terms) (is_allowed_at (period_count terms) unit on)) pattern.allowed

    each : (t : ℕ) → t < period_count terms → AllowedAt (period_count terms) unit on t
    each t within = allowed_parts (period_count terms) unit on t (all_below-at _ _ parts.1 t within)

    decided : (t : ℕ) → t < period_count terms → IsTrue (commitment_of fix.known t) → on t ≡ commitment_of fix.on t
    decided t within = decided_at _ _ (on t)
        (all_below-at (period_count terms)
        (λ k. not (commitment_of fix.known k) || (if commitment_of fix.on k then on k else not (on k))) pattern.agrees t within)

    initially : (t : ℕ) → was_on unit on t ≡ true → IsTrue (holds_initially unit t (not (on t)))
    initially zero e = initial_stop-limit unit on parts.0 e
    initially (suc t) e = or_left (nat_lt 0 (suc t)) _ (lt-ltb 0 (suc t) (omega arith))

    right : (t : ℕ) → 0 ≤ t → t < period_count terms → IsRight unit fix on t
    right t low within = record {
      on_may = on_bits _ _ (on t) (decided t within);
      off_may = off_bits unit.must_run _ _ (on t) (each t within).must_run (decided t within);
      initially = initially t;
      stop_may = λ w n. stops_in_time (period_count terms) unit on each t within (and_from _ _ w (not_from_false _ n));
      start_may = λ w n.
          subst (λ i. IsTrue (has_lasted (unit.dt - unit.dt0) unit.dt i t)) (since-off unit on t)
          (starts_in_time (period_count terms) unit on each t within (leaves-off unit on t ∙ and_from _ _ (not_from_false _ w) n));
    }

    there : (t : ℕ) → 0 ≤ t → t ≤ period_count terms → IsThere (hour terms unit on t)
    there zero low within = (pos 0, refl)
    there (suc t) low within = hour-there terms unit on sized t (omega arith) (each t (omega arith)).capped

pub pattern-all_right : (terms : Terms) (unit : Thermal) (fix : Fix) (on : Commitment) → IsLawfulThermal unit → AreSizedTerms unit terms
    → AllRight terms unit fix on 0 → IsPattern (period_count terms) unit fix on
pattern-all_right terms unit fix on lawful sized all =
    record {
      allowed = and_from _ _ (initial_stop-from unit on first) (all_below-from _ _ (λ t within. allowed_from (period_count terms) unit on t (each t within)));
      agrees = all_below-from (period_count terms)
          (λ k. not (commitment_of fix.known k) || (if commitment_of fix.on k then on k else not (on k)))
          (λ t within. decided_to _ _ (on t) (decided_bits unit.must_run _ _ (on t) (right t within).on_may (right t within).off_may));
    }
  where
    right : (t : ℕ) → t < period_count terms → IsRight unit fix on t
    right t within = all.right t (omega arith) within

    first : unit.on0 ≡ true → IsTrue (int_le unit.p0 (initial_limit unit (not (on 0))))
    first e = (right 0 (omega (arith, sized.periods.0))).initially e

    up : LeavesInTime unit.on0 on (period_count terms) (unit.ut - unit.ut0) unit.ut
    up t within leave =
        let parts = and_parts (was_on unit on t) (not (on t)) leave in
        (right t within).stop_may parts.0 (not-true _ parts.1)

    down : LeavesInTime (not unit.on0) (off_state on) (period_count terms) (unit.dt - unit.dt0) unit.dt
    down t within leave =
        let parts = and_parts (not (was_on unit on t)) (on t) (sym (leaves-off unit on t) ∙ leave) in
        subst (λ i. IsTrue (has_lasted (unit.dt - unit.dt0) unit.dt i t)) (sym (since-off unit on t))
        ((right t within).start_may (not-true _ parts.0) parts.1)

    each : (t : ℕ) → t < period_count terms → AllowedAt (period_count terms) unit on t
    each t within =
        let ups = up_from (period_count terms) unit on lawful.time_up.0 up t within in
        let downs = down_from (period_count terms) unit on lawful.time_down.0 down t within in
        record {
          must_run = must_bits unit.must_run (commitment_of fix.known t) (commitment_of fix.on t) (on t) (right t within).off_may;
          up = ups.0;
          down = downs.0;
          minimum_up = ups.1;
          minimum_down = downs.1;
          capped = capped-from terms unit on sized t within (all.there (suc t) (omega arith) within);
        }
