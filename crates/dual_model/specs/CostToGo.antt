-- The least cost of going on from a state to the end of the horizon, where an hour is paid for at the move behind it, and the cost
-- of a commitment's way there.
use Rattle.std.specs.Prelude.{ℕ, ◌*◌, ◌^◌, ◌≤◌, Bool, true, false, ◌==◌, ℤ, pos, unsigned_abs, Option, Some, IfSome}
use Rattle.uc_model.specs.Prelude.{Commitment}
use Rattle.dual_model.specs.Bellman.{least_cost, way_cost}
pub use Rattle.dual_model.specs.Bellman.{total_of, lesser_of, since_after}
use Rattle.dual_model.specs.Moves.{Terms, Thermal, Fix, hour_before, move}

-- after the last period, t, the cost of its hour
abbrev pub end_cost : Terms → Thermal → ℕ → Bool → ℕ → Option ℤ
end_cost terms unit t true since = hour_before terms unit t (since == t) false
end_cost terms unit t false since = Some (pos 0)

-- the least cost from a state before period t on, with n periods left
abbrev pub cost_to_go : Terms → Thermal → Fix → ℕ → ℕ → Bool → ℕ → Option ℤ
cost_to_go terms unit fix n t was since = least_cost (move terms unit fix) (end_cost terms unit) n t was since

-- the cost of the way that a commitment takes from there
abbrev pub way : Terms → Thermal → Fix → Commitment → ℕ → ℕ → Bool → ℕ → Option ℤ
way terms unit fix on n t was since = way_cost (move terms unit fix) (end_cost terms unit) on n t was since

-- the size of a cost
abbrev pub IsWithin : ℕ → Option ℤ → Type 0
IsWithin most cost = IfSome cost (λ v. unsigned_abs v ≤ most)

-- a move costs at most this in size, and a way to the end this
abbrev pub MAX_MOVE : ℕ
MAX_MOVE = 2 * 10 ^ 29

abbrev pub MAX_COST_TO_GO : ℕ
MAX_COST_TO_GO = 10 ^ 32
