-- The least value of a run by the output of its last hour, hour by hour. Source: the dynamic program of A. Frangioni and C.
-- Gentile, "Solving Nonlinear Single-Unit Commitment Problems with Ramping Constraints" (Operations Research 54, 2006),
-- with the reserve taken out: beside the outputs q and p of an hour and the one after it, the most reserve is the lesser
-- of cap - p and q + RU - p, and it is worth having where its price is above 0.
--
-- Outputs are watts above the minimum, and costs 1/K micro-dollars; None is what may not be.
use Rattle.std.specs.Prelude.{ℕ, zero, suc, ◌+◌, Bool, ◌&&◌, nat_lt, ℤ, pos, ◌+ℤ◌, ◌-ℤ◌, ◌*ℤ◌, neg_ℤ, int_le, unsigned_abs, Option, Some, None, if◌then◌else◌}
use Rattle.std.specs.Int.{int_min, int_max}
use Rattle.std.specs.Ordering.{int_eq}
use Rattle.dual_model.specs.Prelude.{pi_at, mu_at, greatest_output, total_of, lesser_of}
use Rattle.dual_model.specs.ExactValue.{floored_cost}
use Rattle.unit_runs.specs.Runs.{Thermal, Table, entry_output, hour_cap}

-- the least of f over the n whole numbers from low on
abbrev pub least_from : ℤ → ℕ → (ℤ → Option ℤ) → Option ℤ
least_from low zero f = None
least_from low (suc n) f = lesser_of (least_from low n f) (f (low +ℤ pos n))

-- the least over both ends and what lies between
abbrev pub least_between : ℤ → ℤ → (ℤ → Option ℤ) → Option ℤ
least_between low high f = if int_le low high then least_from low (suc (unsigned_abs (high -ℤ low))) f else None

-- what reserve earns in period t, per watt
abbrev pub reserve_worth : Table → ℕ → ℤ
reserve_worth table t = int_max (mu_at table t) (pos 0)

-- what an output costs in period t, without what the most reserve earns beside it: L(p) + (mu - pi)*p - pi*Pmin
abbrev pub output_cost : Table → Thermal → ℕ → ℤ → ℤ
output_cost table unit t p =
    floored_cost unit.points table.k 1 (unsigned_abs p) +ℤ (reserve_worth table t -ℤ pi_at table t) *ℤ p -ℤ pi_at table t *ℤ unit.pmin

-- and that, by the output before: -mu*min(cap, q + RU)
abbrev pub reserve_cost : Table → Thermal → ℕ → ℤ → ℤ → ℤ
reserve_cost table unit t cap before = neg_ℤ (reserve_worth table t *ℤ int_min cap (before +ℤ unit.ru))

-- an output that an hour of this cap may have
abbrev pub is_output : Thermal → ℤ → ℤ → Bool
is_output unit cap p = int_le (pos 0) p && int_le p (int_min cap (greatest_output unit.points))

-- one more hour, in period t and of this cap, behind hours that cost `before` by their last output
abbrev pub hour_after : Table → Thermal → ℕ → ℤ → (ℤ → Option ℤ) → ℤ → Option ℤ
hour_after table unit t cap before p =
    if is_output unit cap p
    then total_of (Some (output_cost table unit t p))
    (least_between (p -ℤ unit.ru) (p +ℤ unit.rd) (λ q. total_of (before q) (Some (reserve_cost table unit t cap q))))
    else None

-- the cost of the first n hours of the run whose last output, or the one before the run, is p
abbrev pub cost_through : ℕ → Table → Thermal → ℕ → ℕ → ℕ → ℤ → Option ℤ
cost_through periods table unit from hours zero p = if int_eq p (entry_output unit from) then Some (pos 0) else None
cost_through periods table unit from hours (suc n) p =
    hour_after table unit (from + n) (hour_cap periods unit from hours n) (cost_through periods table unit from hours n) p

-- the least cost of all its hours: before a stop in the horizon the last output can fall to nothing
abbrev pub run_cost : ℕ → Table → Thermal → ℕ → ℕ → Option ℤ
run_cost periods table unit from hours =
    if nat_lt (from + hours) periods
    then least_between (neg_ℤ unit.ru) unit.rd (cost_through periods table unit from hours hours)
    else least_between (pos 0) (greatest_output unit.points) (cost_through periods table unit from hours hours)
