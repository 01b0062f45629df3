-- Commitments of one thermal unit, and the rules that speak of commitments alone: M1 to M5 and M7,
-- and the caps of M9 and M10. Source: the reference model by Knueven, Ostrowski and Watson published
-- with the pglib-uc format (its constraints on must-run units, initial up and down times, minimum up
-- and down times, and start-up and shut-down limits), in whole watts.
--
-- Periods count from 0 here: the index t is period t + 1 of the model.
use Rattle.std.specs.Prelude.{◌≡◌, ℕ, zero, suc, ◌+◌, ◌-◌, ◌<◌, min, IsTrue, Bool, not, ◌&&◌, ◌||◌, ◌==◌, nat_lt, ℤ, pos, ◌-ℤ◌, ◌*ℤ◌, int_le, if◌then◌else◌}
use Rattle.std.specs.Int.{int_min, int_max}
use Rattle.uc_model.specs.Sums.{sum_below, all_below, bit}
pub use Rattle.uc_model.specs.declared.instance.Thermal.{Thermal}

-- whether the unit is on in each period; only the periods of the instance count
abbrev pub Commitment : Type 0
Commitment = ℕ → Bool

-- the state in the period before t, which is the initial one before the first
abbrev pub state_before : Bool → Commitment → ℕ → Bool
state_before initial on zero = initial
state_before initial on (suc t) = on t

-- u(t-1)
abbrev pub was_on : Thermal → Commitment → ℕ → Bool
was_on unit = state_before unit.on0

-- a start in period t, v(t)
abbrev pub starts : Thermal → Commitment → ℕ → Bool
starts unit on t = not (was_on unit on t) && on t

-- a stop in period t, w(t)
abbrev pub stops : Thermal → Commitment → ℕ → Bool
stops unit on t = was_on unit on t && not (on t)

-- M1: a must-run unit is on
abbrev pub must_run_at : Thermal → Commitment → ℕ → Bool
must_run_at unit on t = not unit.must_run || on t

-- M2: a unit that is on initially stays on through its first UT - UT0 periods
abbrev pub initial_up_at : Thermal → Commitment → ℕ → Bool
initial_up_at unit on t = not (unit.on0 && nat_lt t (unit.ut - unit.ut0)) || on t

-- M3: a unit that is off initially stays off through its first DT - DT0 periods
abbrev pub initial_down_at : Thermal → Commitment → ℕ → Bool
initial_down_at unit on t = not (not unit.on0 && nat_lt t (unit.dt - unit.dt0)) || not (on t)

-- in the period t and the `window - 1` before it there are at most as many changes as `state` says at t;
-- nothing is said of the first periods, which have no whole window behind them
abbrev pub keeps_minimum_at : ℕ → Commitment → Commitment → ℕ → Bool
keeps_minimum_at window changes state t =
    nat_lt (suc t) window || int_le (sum_below window (λ i. bit (changes (suc t - window + i)))) (bit (state t))

-- M4: with a = min(UT, T), the starts in the a periods up to t are at most u(t)
abbrev pub minimum_up_at : ℕ → Thermal → Commitment → ℕ → Bool
minimum_up_at periods unit on = keeps_minimum_at (min unit.ut periods) (starts unit on) on

-- M5: with b = min(DT, T), the stops in the b periods up to t are at most 1 - u(t)
abbrev pub minimum_down_at : ℕ → Thermal → Commitment → ℕ → Bool
minimum_down_at periods unit on = keeps_minimum_at (min unit.dt periods) (stops unit on) (λ t. not (on t))

-- initial output above the minimum, p(0) = u(0) * (P0 - Pmin)
abbrev pub initial_p : Thermal → ℤ
initial_p unit = bit unit.on0 *ℤ (unit.p0 -ℤ unit.pmin)

-- how far the start-up limit lies below the maximum, max(Pmax - SU, 0), and the same of the shut-down limit
abbrev pub start_reduction : Thermal → ℤ
start_reduction unit = int_max (unit.pmax -ℤ unit.su) (pos 0)

abbrev pub stop_reduction : Thermal → ℤ
stop_reduction unit = int_max (unit.pmax -ℤ unit.sd) (pos 0)

-- M7: a unit that stops in the first period was low enough initially,
-- p(0) <= u(0)*(Pmax-Pmin) - max(Pmax-SD,0)*w(1)
abbrev pub initial_stop_holds : Thermal → Commitment → Bool
initial_stop_holds unit on =
    int_le (initial_p unit) (bit unit.on0 *ℤ (unit.pmax -ℤ unit.pmin) -ℤ stop_reduction unit *ℤ bit (stops unit on 0))

-- the right side of M9, (Pmax-Pmin)*u(t) - max(Pmax-SU,0)*v(t)
abbrev pub start_cap : Thermal → Commitment → ℕ → ℤ
start_cap unit on t = (unit.pmax -ℤ unit.pmin) *ℤ bit (on t) -ℤ start_reduction unit *ℤ bit (starts unit on t)

-- the right side of M10, (Pmax-Pmin)*u(t) - max(Pmax-SD,0)*w(t+1), which is there before the last period
abbrev pub stop_cap : Thermal → Commitment → ℕ → ℤ
stop_cap unit on t = (unit.pmax -ℤ unit.pmin) *ℤ bit (on t) -ℤ stop_reduction unit *ℤ bit (stops unit on (suc t))

-- the cap of a cell: the least of the right sides of M9 and M10
abbrev pub cap : ℕ → Thermal → Commitment → ℕ → ℤ
cap periods unit on t = if nat_lt (suc t) periods then int_min (start_cap unit on t) (stop_cap unit on t) else start_cap unit on t

-- the cap of a cell, by whether it is a start and whether a stop follows: a unit that is on initially has no start in the first
-- period, and after the last period there is no stop
abbrev pub cell_cap : ℕ → Thermal → ℕ → Bool → Bool → ℤ
cell_cap periods unit t start stop =
    let full = unit.pmax -ℤ unit.pmin in
    let started = start && not (unit.on0 && (t == 0)) in
    let followed = stop && nat_lt (suc t) periods in
    int_min (full -ℤ start_reduction unit *ℤ bit started) (full -ℤ stop_reduction unit *ℤ bit followed)

-- what an allowed pattern keeps in period t: M1 to M5, and a cap of at least 0 where it is on
abbrev pub is_allowed_at : ℕ → Thermal → Commitment → ℕ → Bool
is_allowed_at periods unit on t =
    must_run_at unit on t && initial_up_at unit on t && initial_down_at unit on t
    && minimum_up_at periods unit on t && minimum_down_at periods unit on t
    && (not (on t) || int_le (pos 0) (cap periods unit on t))

-- an allowed pattern: M1 to M5 and M7 hold, and the cap of each on cell is at least 0
abbrev pub is_allowed : ℕ → Thermal → Commitment → Bool
is_allowed periods unit on = initial_stop_holds unit on && all_below periods (is_allowed_at periods unit on)

-- starts and stops as variables of their own, as in the reference model: tied to the state by
-- u(t) - u(t-1) = v(t) - w(t), with M4 and M5 over them
pub record KeepsMinimumTimes (initial : Bool) (on up down : Commitment) (periods time_up time_down : ℕ) : Type 0 where
  pub state : (t : ℕ) → t < periods → bit (on t) -ℤ bit (state_before initial on t) ≡ bit (up t) -ℤ bit (down t)
  pub minimum_up : (t : ℕ) → t < periods → IsTrue (keeps_minimum_at (min time_up periods) up on t)
  pub minimum_down : (t : ℕ) → t < periods → IsTrue (keeps_minimum_at (min time_down periods) down (λ k. not (on k)) t)
