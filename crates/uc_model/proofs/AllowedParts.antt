-- What an allowed pattern keeps, in parts: M1 to M5 in each period, and M7 and the caps by the limits in watts.
-- Cite from a crate above by `use Rattle.uc_model.proofs.AllowedParts.{allowed-parts}`.
use Rattle.std.proofs.Common.{◌≡◌, ℕ, suc, ◌-◌, ◌<◌, ⊎_elim, Bool, true, false, not, ◌&&◌, ◌||◌, refl, sym, subst, arith, ℤ, pos, ◌-ℤ◌, ◌*ℤ◌, ◌≤ℤ◌, IsTrue, nat_lt}
use Rattle.std.specs.Int.{int_min, int_max}
use Rattle.std.proofs.lemmas.Int.{ints, clamps}
use Rattle.std.proofs.lemmas.Bool.{and_parts, and_from, cases_Bool, true≢false, not-true, not_from_false, ltb-true, lt-ltb, cond-true, cond-false, cond_both}
use Rattle.uc_model.specs.Prelude.{bit, all_below, Thermal, Commitment, starts, stops, minimum_up_at, minimum_down_at, initial_stop_holds, start_cap, stop_cap, cap, is_allowed_at, is_allowed}
use Rattle.uc_model.proofs.Ring.{linear, le_trans, mul-one, mul-zero, one-mul}
use Rattle.uc_model.proofs.Tests.{int_le-true, le-int_le, all_below-at, all_below-from, int_min_left, int_min_right}
use Rattle.uc_model.proofs.Obeyed.{min_nonneg}

-- ---- caps, over plain numbers
room_from : (low high limit : ℤ) (now change : Bool) → low ≤ℤ high → now ≡ true → (change ≡ true → low ≤ℤ limit)
    → pos 0 ≤ℤ ((high -ℤ low) *ℤ bit now -ℤ int_max (high -ℤ limit) (pos 0) *ℤ bit change)
room_from low high limit true true range now fits =
    let fit = fits refl in
    let a = mul-one (high -ℤ low) in
    let b = mul-one (int_max (high -ℤ limit) (pos 0)) in
    let room : pos 0 ≤ℤ ((high -ℤ low) -ℤ int_max (high -ℤ limit) (pos 0)) = omega (arith, ints, clamps) in
    omega (arith, linear)
room_from low high limit true false range now fits = grind (arith, ints, mul-one, mul-zero, range, fits)
room_from low high limit false change range now fits = cc

room_to : (low high limit : ℤ) (now change : Bool) → now ≡ true → change ≡ true
    → pos 0 ≤ℤ ((high -ℤ low) *ℤ bit now -ℤ int_max (high -ℤ limit) (pos 0) *ℤ bit change) → low ≤ℤ limit
room_to low high limit true true now changed room =
    let a = mul-one (high -ℤ low) in
    let b = mul-one (int_max (high -ℤ limit) (pos 0)) in
    let sum : pos 0 ≤ℤ ((high -ℤ low) -ℤ int_max (high -ℤ limit) (pos 0)) = omega (arith, linear) in
    omega (arith, ints, clamps)
room_to low high limit true false now changed room = cc
room_to low high limit false change now changed room = cc

-- the cap of an on cell is at least 0 where a start there and a stop behind it fit their limits
cap-from : (periods : ℕ) (unit : Thermal) (on : Commitment) (t : ℕ) → unit.pmin ≤ℤ unit.pmax → on t ≡ true
    → (IsTrue (starts unit on t) → unit.pmin ≤ℤ unit.su) → (suc t < periods → IsTrue (stops unit on (suc t)) → unit.pmin ≤ℤ unit.sd)
    → pos 0 ≤ℤ cap periods unit on t
cap-from periods unit on t range now started stopped =
    let start = room_from unit.pmin unit.pmax unit.su (on t) (starts unit on t) range now started in
    cond_both (nat_lt (suc t) periods) _ _ (λ c. pos 0 ≤ℤ c)
    (λ within.
    min_nonneg _ _ start
    (room_from unit.pmin unit.pmax unit.sd (on t) (stops unit on (suc t)) range now (stopped (ltb-true (suc t) periods within))))
    (λ last. start)

-- and where it is, they do
cap-start : (periods : ℕ) (unit : Thermal) (on : Commitment) (t : ℕ) → pos 0 ≤ℤ cap periods unit on t → pos 0 ≤ℤ start_cap unit on t
cap-start periods unit on t room = ⊎_elim
    (λ (within : nat_lt (suc t) periods ≡ true).
    let least : cap periods unit on t ≡ int_min (start_cap unit on t) (stop_cap unit on t) = cond-true _ _ _ within in
    let below = int_min_left (start_cap unit on t) (stop_cap unit on t) in
    le_trans _ _ _ (subst (λ c. pos 0 ≤ℤ c) least room) below)
    (λ (last : nat_lt (suc t) periods ≡ false). subst (λ c. pos 0 ≤ℤ c) (cond-false _ _ _ last) room)
    (cases_Bool (nat_lt (suc t) periods))

cap-stop : (periods : ℕ) (unit : Thermal) (on : Commitment) (t : ℕ) → pos 0 ≤ℤ cap periods unit on t → suc t < periods
    → pos 0 ≤ℤ stop_cap unit on t
cap-stop periods unit on t room within =
    let least : cap periods unit on t ≡ int_min (start_cap unit on t) (stop_cap unit on t) =
    cond-true _ _ _ (lt-ltb (suc t) periods within) in
    let below = int_min_right (start_cap unit on t) (stop_cap unit on t) in
    le_trans _ _ _ (subst (λ c. pos 0 ≤ℤ c) least room) below

-- ---- M7, over plain numbers
stop_to : (p0 low high limit : ℤ) (first now : Bool) → (first ≡ true → p0 ≤ℤ high) → (first ≡ true → now ≡ false → p0 ≤ℤ limit)
    → (bit first *ℤ (p0 -ℤ low)) ≤ℤ (bit first *ℤ (high -ℤ low) -ℤ int_max (high -ℤ limit) (pos 0) *ℤ bit (first && not now))
stop_to p0 low high limit true true below fits = grind (arith, ints, one-mul, mul-zero, below, fits)
stop_to p0 low high limit true false below fits = grind (arith, ints, one-mul, mul-one, clamps, below, fits)
stop_to p0 low high limit false now below fits = grind (arith, ints, below, fits)

stop_from : (p0 low high limit : ℤ) (first now : Bool) → first ≡ true
    → (bit first *ℤ (p0 -ℤ low)) ≤ℤ (bit first *ℤ (high -ℤ low) -ℤ int_max (high -ℤ limit) (pos 0) *ℤ bit (first && not now))
    → (p0 ≤ℤ high) × (now ≡ false → p0 ≤ℤ limit)
stop_from p0 low high limit true true first holds = grind (arith, ints, one-mul, mul-zero, true≢false, holds)
stop_from p0 low high limit true false first holds = grind (arith, ints, one-mul, mul-one, clamps, holds)
stop_from p0 low high limit false now first holds = absurd (true≢false (sym first))

-- ---- what is allowed, in parts
pub record AllowedAt (periods : ℕ) (unit : Thermal) (on : Commitment) (t : ℕ) : Type 0 where
  pub must_run : unit.must_run ≡ true → on t ≡ true
  pub up : unit.on0 ≡ true → t < unit.ut - unit.ut0 → on t ≡ true
  pub down : unit.on0 ≡ false → t < unit.dt - unit.dt0 → on t ≡ false
  pub minimum_up : IsTrue (minimum_up_at periods unit on t)
  pub minimum_down : IsTrue (minimum_down_at periods unit on t)
  pub start : on t ≡ true → IsTrue (starts unit on t) → unit.pmin ≤ℤ unit.su
  pub stop : on t ≡ true → suc t < periods → IsTrue (stops unit on (suc t)) → unit.pmin ≤ℤ unit.sd

pub record IsAllowed (periods : ℕ) (unit : Thermal) (on : Commitment) : Type 0 where
  -- M7
  pub initial : unit.on0 ≡ true → (unit.p0 ≤ℤ unit.pmax) × (on 0 ≡ false → unit.p0 ≤ℤ unit.sd)
  pub cells : (t : ℕ) → t < periods → AllowedAt periods unit on t

implied_at : (b x : Bool) → IsTrue (not b || x) → b ≡ true → x ≡ true
implied_at true x h e = h
implied_at false x h e = absurd (true≢false (sym e))

implied_from : (b x : Bool) → (b ≡ true → x ≡ true) → IsTrue (not b || x)
implied_from true x h = h refl
implied_from false x h = refl

pub allowed-parts : (periods : ℕ) (unit : Thermal) (on : Commitment) → IsTrue (is_allowed periods unit on) → IsAllowed periods unit on
allowed-parts periods unit on allowed =
    record {
      initial = λ first. stop_from unit.p0 unit.pmin unit.pmax unit.sd unit.on0 (on 0) first (int_le-true _ _ whole.0);
      cells = λ t h. cell t (all_below-at periods (is_allowed_at periods unit on) whole.1 t h);
    }
  where
    whole : IsTrue (initial_stop_holds unit on) × IsTrue (all_below periods (is_allowed_at periods unit on))
    whole = and_parts _ _ allowed

    cell : (t : ℕ) → IsTrue (is_allowed_at periods unit on t) → AllowedAt periods unit on t
    cell t h =
        let p5 = and_parts _ _ h in
        let p4 = and_parts _ _ p5.0 in
        let p3 = and_parts _ _ p4.0 in
        let p2 = and_parts _ _ p3.0 in
        let p1 = and_parts _ _ p2.0 in
        let room : on t ≡ true → pos 0 ≤ℤ cap periods unit on t = λ now. int_le-true _ _ (implied_at (on t) _ p5.1 now) in
        record {
          must_run = implied_at unit.must_run (on t) p1.0;
          up = λ first early. implied_at _ (on t) p1.1 (and_from _ _ first (lt-ltb _ _ early));
          down = λ first early. not-true (on t) (implied_at _ (not (on t)) p2.1 (and_from _ _ (not_from_false _ first) (lt-ltb _ _ early)));
          minimum_up = p3.1;
          minimum_down = p4.1;
          start = λ now change. room_to unit.pmin unit.pmax unit.su (on t) (starts unit on t) now change (cap-start periods unit on t (room now));
          stop = λ now within change.
              room_to unit.pmin unit.pmax unit.sd (on t) (stops unit on (suc t)) now change (cap-stop periods unit on t (room now) within);
        }

pub allowed-from : (periods : ℕ) (unit : Thermal) (on : Commitment) → unit.pmin ≤ℤ unit.pmax → IsAllowed periods unit on
    → IsTrue (is_allowed periods unit on)
allowed-from periods unit on range h =
    and_from _ _
    (le-int_le _ _ (stop_to unit.p0 unit.pmin unit.pmax unit.sd unit.on0 (on 0) (λ first. (h.initial first).0) (λ first off. (h.initial first).1 off)))
    (all_below-from periods (is_allowed_at periods unit on) (λ t within. cell t (h.cells t within)))
  where
    cell : (t : ℕ) → AllowedAt periods unit on t → IsTrue (is_allowed_at periods unit on t)
    cell t at_t =
        and_from _ _
        (and_from _ _
        (and_from _ _
        (and_from _ _
        (and_from _ _
        (implied_from unit.must_run (on t) at_t.must_run)
        (implied_from _ (on t) (λ both. let parts = and_parts _ _ both in at_t.up parts.0 (ltb-true _ _ parts.1))))
        (implied_from _ (not (on t))
        (λ both. let parts = and_parts _ _ both in not_from_false _ (at_t.down (not-true _ parts.0) (ltb-true _ _ parts.1)))))
        at_t.minimum_up)
        at_t.minimum_down)
        (implied_from (on t) _ (λ now. le-int_le _ _ (cap-from periods unit on t range now (at_t.start now) (at_t.stop now))))
