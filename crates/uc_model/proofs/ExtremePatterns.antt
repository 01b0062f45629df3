-- A unit's patterns with the most and with the fewest on periods. Each keeps its initial state up to some period, and has
-- the other one from there to the end: the most one of a unit that is on is on throughout, and the fewest one stops as
-- early as it may; so with starts where it is off. Every allowed pattern lies between the two, period by period.
-- Cite from a crate above by `use Rattle.uc_model.proofs.ExtremePatterns.{most-from_highest}`.
use Rattle.std.proofs.Common.{◌≡◌, ℕ, zero, suc, ◌-◌, ◌<◌, ◌≤◌, ◌⊎◌, ⊎_elim, min, max, Bool, true, false, not, refl, sym, ap, ◌∙◌, arith, ◌≤ℤ◌, ◌<ℤ◌, IsTrue}
use Rattle.std.proofs.lemmas.Bool.{and_from, cases_Bool, cases_lt, true≢false, not_from_false, true_from_ne_false, false_from_ne_true}
use Rattle.uc_model.specs.Prelude.{bit, Thermal, Commitment, starts, stops, is_allowed, on_periods, on_during, IsMostOn, IsFewestOn, HasNoAllowedPattern, HasExactlyOne, IsLawfulThermal}
use Rattle.uc_model.proofs.Ring.{linear, le_or_lt}
use Rattle.uc_model.proofs.Sums.{sum_below-le}
use Rattle.uc_model.proofs.MinimumTimes.{bit_nonneg}
use Rattle.uc_model.proofs.PeriodRuns.{during-at, during-from, during-past, during-off_before, during-off_past, never_starts, stops_in, starts_in, never_stops, keeps-none, keeps-one}
use Rattle.uc_model.proofs.AllowedParts.{allowed-parts, allowed-from}

-- ---- patterns with one change at most
stop-allowed : (periods n : ℕ) (unit : Thermal) → IsLawfulThermal unit → unit.on0 ≡ true → unit.p0 ≤ℤ unit.pmax
    → (unit.must_run ≡ true → periods ≤ n) → ((t : ℕ) → t < periods → t < unit.ut - unit.ut0 → t < n)
    → (n ≡ 0 → unit.p0 ≤ℤ unit.sd) → (0 < n → n < periods → unit.pmin ≤ℤ unit.sd)
    → IsTrue (is_allowed periods unit (on_during 0 n))
stop-allowed periods n unit lawful first low must held at_once later =
    allowed-from periods unit (on_during 0 n) lawful.range (record {
      initial = λ _. (low, λ off. at_once (let past = during-past 0 n 0 (omega arith) off in omega arith));
      cells = λ t within. record {
        must_run = λ m. during-from 0 n t (omega arith) (let never = must m in omega arith);
        up = λ _ early. during-from 0 n t (omega arith) (held t within early);
        down = λ off _. absurd (true≢false (sym first ∙ off));
        minimum_up = keeps-none _ (starts unit (on_during 0 n)) (on_during 0 n) t (λ k _ change. never_starts unit n k first change);
        minimum_down =
            keeps-one _ (stops unit (on_during 0 n)) (λ k. not (on_during 0 n k)) n t (λ k _ change. stops_in unit n k change)
            (λ past. not_from_false _ (during-off_past 0 n t past));
        start = λ _ change. absurd (never_starts unit n t first change);
        stop = λ _ next change. let here = stops_in unit n (suc t) change in later (omega arith) (omega arith);
      };
    })

start-allowed : (periods n : ℕ) (unit : Thermal) → IsLawfulThermal unit → unit.on0 ≡ false
    → (unit.must_run ≡ true → n ≡ 0) → ((t : ℕ) → t < periods → t < unit.dt - unit.dt0 → t < n)
    → (n < periods → unit.pmin ≤ℤ unit.su)
    → IsTrue (is_allowed periods unit (on_during n periods))
start-allowed periods n unit lawful first must held fits =
    allowed-from periods unit (on_during n periods) lawful.range (record {
      initial = λ initial. absurd (true≢false (sym initial ∙ first));
      cells = λ t within. record {
        must_run = λ m. during-from n periods t (let now = must m in omega arith) within;
        up = λ initial _. absurd (true≢false (sym initial ∙ first));
        down = λ _ early. during-off_before n periods t (held t within early);
        minimum_up =
            keeps-one _ (starts unit (on_during n periods)) (on_during n periods) n t (λ k _ change. starts_in unit n periods k change)
            (λ later. during-from n periods t later within);
        minimum_down =
            keeps-none _ (stops unit (on_during n periods)) (λ k. not (on_during n periods k)) t
            (λ k h change. never_stops unit n periods k first (omega arith) change);
        start = λ _ change. let here = starts_in unit n periods t change in fits (omega arith);
        stop = λ _ next change. absurd (never_stops unit n periods (suc t) first next change);
      };
    })

-- ---- what every allowed pattern keeps
-- a unit that may not stop at once is on in the first period
on_first : (periods : ℕ) (unit : Thermal) (on : Commitment) → 1 ≤ periods → IsTrue (is_allowed periods unit on) → unit.on0 ≡ true
    → (0 < unit.ut - unit.ut0) ⊎ (unit.sd <ℤ unit.p0) → on 0 ≡ true
on_first periods unit on some allowed first bar =
    let parts = allowed-parts periods unit on allowed in
    ⊎_elim
    (λ (held : 0 < unit.ut - unit.ut0). (parts.cells 0 some).up first held)
    (λ (high : unit.sd <ℤ unit.p0).
    true_from_ne_false _ (λ off. let low = (parts.initial first).1 off in omega (arith, linear)))
    bar

-- and one that never may is on throughout
on_throughout : (periods : ℕ) (unit : Thermal) (on : Commitment) → IsTrue (is_allowed periods unit on) → unit.on0 ≡ true
    → (0 < unit.ut - unit.ut0) ⊎ (unit.sd <ℤ unit.p0) → unit.sd <ℤ unit.pmin → (t : ℕ) → t < periods → on t ≡ true
on_throughout periods unit on allowed first bar weak zero within = on_first periods unit on within allowed first bar
on_throughout periods unit on allowed first bar weak (suc t) within =
    let before = on_throughout periods unit on allowed first bar weak t (omega arith) in
    true_from_ne_false _ (λ off.
    let fits = ((allowed-parts periods unit on allowed).cells t (omega arith)).stop before within (and_from _ _ before (not_from_false _ off)) in
    omega (arith, linear))

-- a unit that may not start is off throughout
off_throughout : (periods : ℕ) (unit : Thermal) (on : Commitment) → IsTrue (is_allowed periods unit on) → unit.on0 ≡ false
    → unit.su <ℤ unit.pmin → (t : ℕ) → t < periods → on t ≡ false
off_throughout periods unit on allowed first weak zero within =
    false_from_ne_true _ (λ now.
    let fits = ((allowed-parts periods unit on allowed).cells zero within).start now (and_from _ _ (not_from_false _ first) now) in
    omega (arith, linear))
off_throughout periods unit on allowed first weak (suc t) within =
    let before = off_throughout periods unit on allowed first weak t (omega arith) in
    false_from_ne_true _ (λ now.
    let fits = ((allowed-parts periods unit on allowed).cells (suc t) within).start now (and_from _ _ (not_from_false _ before) now) in
    omega (arith, linear))

-- ---- units without an allowed pattern
pub none-too_high : (periods : ℕ) (unit : Thermal) → unit.on0 ≡ true → unit.pmax <ℤ unit.p0 → HasNoAllowedPattern periods unit
none-too_high periods unit first high on allowed =
    let low = ((allowed-parts periods unit on allowed).initial first).0 in omega (arith, linear)

pub none-held_off : (periods : ℕ) (unit : Thermal) → 1 ≤ periods → unit.on0 ≡ false → unit.must_run ≡ true → 0 < unit.dt - unit.dt0
    → HasNoAllowedPattern periods unit
none-held_off periods unit some first must held on allowed =
    let cell = (allowed-parts periods unit on allowed).cells 0 some in
    true≢false (sym (cell.must_run must) ∙ cell.down first held)

pub none-too_weak : (periods : ℕ) (unit : Thermal) → 1 ≤ periods → unit.on0 ≡ false → unit.must_run ≡ true → unit.su <ℤ unit.pmin
    → HasNoAllowedPattern periods unit
none-too_weak periods unit some first must weak on allowed =
    true≢false
    (sym (((allowed-parts periods unit on allowed).cells 0 some).must_run must) ∙ off_throughout periods unit on allowed first weak 0 some)

-- ---- the highest and the lowest pattern
-- every allowed pattern is on only where this one is
pub record IsHighest (periods : ℕ) (unit : Thermal) (on : Commitment) : Type 0 where
  pub allowed : IsTrue (is_allowed periods unit on)
  pub above : (other : Commitment) → IsTrue (is_allowed periods unit other) → (t : ℕ) → t < periods → other t ≡ true → on t ≡ true

-- every allowed pattern is on wherever this one is
pub record IsLowest (periods : ℕ) (unit : Thermal) (on : Commitment) : Type 0 where
  pub allowed : IsTrue (is_allowed periods unit on)
  pub below : (other : Commitment) → IsTrue (is_allowed periods unit other) → (t : ℕ) → t < periods → on t ≡ true → other t ≡ true

pub highest-kept_on : (periods : ℕ) (unit : Thermal) → IsLawfulThermal unit → 1 ≤ periods → unit.on0 ≡ true → unit.p0 ≤ℤ unit.pmax
    → IsHighest periods unit (on_during 0 periods)
highest-kept_on periods unit lawful some first low = grind (arith, linear, stop-allowed, during-from, lawful, some, first, low)

pub highest-started : (periods : ℕ) (unit : Thermal) → IsLawfulThermal unit → unit.on0 ≡ false
    → (unit.must_run ≡ true → unit.dt - unit.dt0 ≡ 0) → unit.pmin ≤ℤ unit.su
    → IsHighest periods unit (on_during (min (unit.dt - unit.dt0) periods) periods)
highest-started periods unit lawful first must fits = record {
  allowed = start-allowed periods (min (unit.dt - unit.dt0) periods) unit lawful first (λ m. let now = must m in omega arith)
      (λ t within early. omega arith) (λ _. fits);
  above = λ other allowed t within now. ⊎_elim
      (λ (early : t < unit.dt - unit.dt0).
      absurd (true≢false (sym now ∙ ((allowed-parts periods unit other allowed).cells t within).down first early)))
      (λ (late : unit.dt - unit.dt0 ≤ t). during-from (min (unit.dt - unit.dt0) periods) periods t (omega arith) within)
      (cases_lt t (unit.dt - unit.dt0));
}

pub highest-kept_off : (periods : ℕ) (unit : Thermal) → IsLawfulThermal unit → unit.on0 ≡ false → unit.must_run ≡ false
    → unit.su <ℤ unit.pmin → IsHighest periods unit (on_during periods periods)
highest-kept_off periods unit lawful first free weak = record {
  allowed = start-allowed periods periods unit lawful first (λ m. absurd (true≢false (sym m ∙ free))) (λ t within _. within) (λ more. absurd (omega arith));
  above = λ other allowed t within now.
      absurd (true≢false (sym now ∙ off_throughout periods unit other allowed first weak t within));
}

pub lowest-kept_off : (periods : ℕ) (unit : Thermal) → IsLawfulThermal unit → unit.on0 ≡ false → unit.must_run ≡ false
    → IsLowest periods unit (on_during periods periods)
lowest-kept_off periods unit lawful first free = grind (arith, linear, start-allowed, true≢false, during-at, lawful, first, free)

-- a must-run unit's one pattern
pub lowest-must_run : (periods : ℕ) (unit : Thermal) (on : Commitment) → unit.must_run ≡ true → IsTrue (is_allowed periods unit on)
    → IsLowest periods unit on
lowest-must_run periods unit on must allowed = record {
  allowed = allowed;
  below = λ other also t within _. ((allowed-parts periods unit other also).cells t within).must_run must;
}

pub lowest-stopped_at_once : (periods : ℕ) (unit : Thermal) → IsLawfulThermal unit → unit.on0 ≡ true → unit.p0 ≤ℤ unit.pmax
    → unit.must_run ≡ false → unit.ut - unit.ut0 ≡ 0 → unit.p0 ≤ℤ unit.sd → IsLowest periods unit (on_during 0 0)
lowest-stopped_at_once periods unit lawful first low free past fits = grind (arith, linear, stop-allowed, true≢false, during-at, lawful, first, low, free, past, fits)

pub lowest-stopped : (periods : ℕ) (unit : Thermal) → IsLawfulThermal unit → 1 ≤ periods → unit.on0 ≡ true → unit.p0 ≤ℤ unit.pmax
    → unit.must_run ≡ false → (0 < unit.ut - unit.ut0) ⊎ (unit.sd <ℤ unit.p0) → unit.pmin ≤ℤ unit.sd
    → IsLowest periods unit (on_during 0 (min (max (unit.ut - unit.ut0) 1) periods))
lowest-stopped periods unit lawful some first low free bar fits = record {
  allowed = stop-allowed periods (min (max (unit.ut - unit.ut0) 1) periods) unit lawful first low (λ m. absurd (true≢false (sym m ∙ free)))
      (λ t within early. omega arith) (λ none. absurd (omega arith)) (λ _ _. fits);
  below = λ other allowed t within now. ⊎_elim
      (λ (early : t < unit.ut - unit.ut0). ((allowed-parts periods unit other allowed).cells t within).up first early)
      (λ (late : unit.ut - unit.ut0 ≤ t).
      let inside = during-at 0 (min (max (unit.ut - unit.ut0) 1) periods) t now in
      let start : t ≡ 0 = omega (arith, inside.1) in
      ap other start ∙ on_first periods unit other some allowed first bar)
      (cases_lt t (unit.ut - unit.ut0));
}

pub lowest-kept_on : (periods : ℕ) (unit : Thermal) → IsLawfulThermal unit → 1 ≤ periods → unit.on0 ≡ true → unit.p0 ≤ℤ unit.pmax
    → (0 < unit.ut - unit.ut0) ⊎ (unit.sd <ℤ unit.p0) → unit.sd <ℤ unit.pmin → IsLowest periods unit (on_during 0 periods)
lowest-kept_on periods unit lawful some first low bar weak = record {
  allowed = (highest-kept_on periods unit lawful some first low).allowed;
  below = λ other allowed t within _. on_throughout periods unit other allowed first bar weak t within;
}

-- ---- a unit with an allowed pattern has both
highest_of : (periods : ℕ) (unit : Thermal) (on : Commitment) → 1 ≤ periods → IsLawfulThermal unit → IsTrue (is_allowed periods unit on)
    → (highest : Commitment) × IsHighest periods unit highest
highest_of periods unit on some lawful allowed = ⊎_elim
    (λ (first : unit.on0 ≡ true).
    (on_during 0 periods, highest-kept_on periods unit lawful some first ((allowed-parts periods unit on allowed).initial first).0))
    (λ (first : unit.on0 ≡ false). ⊎_elim
    (λ (fits : unit.pmin ≤ℤ unit.su). (on_during (min (unit.dt - unit.dt0) periods) periods, highest-started periods unit lawful first (at_once first) fits))
    (λ (weak : unit.su <ℤ unit.pmin). (
      on_during periods periods,
      highest-kept_off periods unit lawful first
          (false_from_ne_true _ (λ must. none-too_weak periods unit some first must weak on allowed)) weak,
    ))
    (le_or_lt unit.pmin unit.su))
    (cases_Bool unit.on0)
  where
    at_once : unit.on0 ≡ false → unit.must_run ≡ true → unit.dt - unit.dt0 ≡ 0
    at_once first must = ⊎_elim
        (λ (held : 0 < unit.dt - unit.dt0). absurd (none-held_off periods unit some first must held on allowed))
        (λ (past : unit.dt - unit.dt0 ≤ 0). omega arith)
        (cases_lt 0 (unit.dt - unit.dt0))

-- whether a stop is barred in the first period
bar_or_not : (unit : Thermal) → ((0 < unit.ut - unit.ut0) ⊎ (unit.sd <ℤ unit.p0)) ⊎ ((unit.ut - unit.ut0 ≡ 0) × (unit.p0 ≤ℤ unit.sd))
bar_or_not unit = grind (arith, linear)

lowest_of : (periods : ℕ) (unit : Thermal) (on : Commitment) → 1 ≤ periods → IsLawfulThermal unit → IsTrue (is_allowed periods unit on)
    → (lowest : Commitment) × IsLowest periods unit lowest
lowest_of periods unit on some lawful allowed = ⊎_elim
    (λ (must : unit.must_run ≡ true). (on, lowest-must_run periods unit on must allowed))
    (λ (free : unit.must_run ≡ false). ⊎_elim
    (λ (first : unit.on0 ≡ true). stopped free first ((allowed-parts periods unit on allowed).initial first).0)
    (λ (first : unit.on0 ≡ false). (on_during periods periods, lowest-kept_off periods unit lawful first free))
    (cases_Bool unit.on0))
    (cases_Bool unit.must_run)
  where
    stopped : unit.must_run ≡ false → unit.on0 ≡ true → unit.p0 ≤ℤ unit.pmax → (lowest : Commitment) × IsLowest periods unit lowest
    stopped free first low = ⊎_elim
        (λ (bar : (0 < unit.ut - unit.ut0) ⊎ (unit.sd <ℤ unit.p0)). ⊎_elim
        (λ (fits : unit.pmin ≤ℤ unit.sd).
        (on_during 0 (min (max (unit.ut - unit.ut0) 1) periods), lowest-stopped periods unit lawful some first low free bar fits))
        (λ (weak : unit.sd <ℤ unit.pmin). (on_during 0 periods, lowest-kept_on periods unit lawful some first low bar weak))
        (le_or_lt unit.pmin unit.sd))
        (λ (now : (unit.ut - unit.ut0 ≡ 0) × (unit.p0 ≤ℤ unit.sd)).
        (on_during 0 0, lowest-stopped_at_once periods unit lawful first low free now.0 now.1))
        (bar_or_not unit)

-- ---- counts
bit-le-bit : (a b : Bool) → (a ≡ true → b ≡ true) → bit a ≤ℤ bit b
bit-le-bit true b h = let on = ap bit (h refl) in omega (arith, linear)
bit-le-bit false b h = bit_nonneg b

bits_same : (a b : Bool) → (a ≡ true → b ≡ true) → bit b ≤ℤ bit a → a ≡ b
bits_same true b h le = sym (h refl)
bits_same false true h le = absurd (omega (arith, linear))
bits_same false false h le = refl

-- a commitment that is on only where another is has at most its on periods; with as many it is the same
contained-le : (n : ℕ) (a b : Commitment) → ((t : ℕ) → t < n → a t ≡ true → b t ≡ true) → on_periods n a ≤ℤ on_periods n b
contained-le n a b h = sum_below-le n (λ t. bit (a t)) (λ t. bit (b t)) (λ t within. bit-le-bit (a t) (b t) (h t within))

contained_same : (n : ℕ) (a b : Commitment) → ((t : ℕ) → t < n → a t ≡ true → b t ≡ true) → on_periods n b ≤ℤ on_periods n a
    → (t : ℕ) → t < n → a t ≡ b t
contained_same zero a b h le t within = absurd (omega arith)
contained_same (suc n) a b h le t within =
    let rest = contained-le n a b (λ k less. h k (omega arith)) in
    let last = bit-le-bit (a n) (b n) (h n (omega arith)) in
    ⊎_elim
    (λ (less : t < n). contained_same n a b (λ k l. h k (omega arith)) (omega (arith, linear)) t less)
    (λ (here : n ≤ t).
    let same : t ≡ n = omega arith in
    ap a same ∙ bits_same (a n) (b n) (h n (omega arith)) (omega (arith, linear)) ∙ sym (ap b same))
    (cases_lt t n)

pub most-from_highest : (periods : ℕ) (unit : Thermal) (on : Commitment) → IsHighest periods unit on → IsMostOn periods unit on
most-from_highest periods unit on high = grind (arith, linear, contained-le, high)

pub fewest-from_lowest : (periods : ℕ) (unit : Thermal) (on : Commitment) → IsLowest periods unit on → IsFewestOn periods unit on
fewest-from_lowest periods unit on low = grind (arith, linear, contained-le, low)

-- ---- exactly one of each
pub one_most_on : (periods : ℕ) (unit : Thermal) (on : Commitment) → 1 ≤ periods → IsLawfulThermal unit → IsTrue (is_allowed periods unit on)
    → HasExactlyOne periods (IsMostOn periods unit)
one_most_on periods unit on some lawful allowed =
    record { some = (top.0, most-from_highest periods unit top.0 top.1); same = λ a b h k t within. is_top a h t within ∙ sym (is_top b k t within) }
  where
    top : (highest : Commitment) × IsHighest periods unit highest
    top = highest_of periods unit on some lawful allowed

    is_top : (a : Commitment) → IsMostOn periods unit a → (t : ℕ) → t < periods → a t ≡ top.0 t
    is_top a h = contained_same periods a top.0 (top.1.above a h.allowed) (h.most top.0 top.1.allowed)

pub one_fewest_on : (periods : ℕ) (unit : Thermal) (on : Commitment) → 1 ≤ periods → IsLawfulThermal unit → IsTrue (is_allowed periods unit on)
    → HasExactlyOne periods (IsFewestOn periods unit)
one_fewest_on periods unit on some lawful allowed =
    record {
      some = (bottom.0, fewest-from_lowest periods unit bottom.0 bottom.1);
      same = λ a b h k t within. sym (is_bottom a h t within) ∙ is_bottom b k t within;
    }
  where
    bottom : (lowest : Commitment) × IsLowest periods unit lowest
    bottom = lowest_of periods unit on some lawful allowed

    is_bottom : (a : Commitment) → IsFewestOn periods unit a → (t : ℕ) → t < periods → bottom.0 t ≡ a t
    is_bottom a h = contained_same periods bottom.0 a (bottom.1.below a h.allowed) (h.fewest bottom.0 bottom.1.allowed)
