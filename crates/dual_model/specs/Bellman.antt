-- The least cost of going on from a state of a unit to the end of the horizon, over the number of periods that are left, and what
-- a commitment's way costs, for any costs of moves. A state is whether the unit is on, and since when: 0 stands for a time before
-- the first period, and suc s for the period s in which it was switched. Source: Bellman's principle of optimality (Dynamic
-- Programming, 1957).
--
-- Periods count from 0 here. None is what may not be.
use Rattle.std.specs.Prelude.{ℕ, zero, suc, Bool, true, false, ℤ, ◌+ℤ◌, Option, Some, None}
use Rattle.std.specs.Int.{int_min}
use Rattle.uc_model.specs.Prelude.{Commitment}

-- what it costs to go on from a state before a period, the unit being on in the period or not: by the period, whether the unit was
-- on and since when, and whether it is on
abbrev pub MoveCosts : Type 0
MoveCosts = ℕ → Bool → ℕ → Bool → Option ℤ

-- what is left to pay at the end of the horizon: by the number of periods, whether the unit was on and since when
abbrev pub EndCosts : Type 0
EndCosts = ℕ → Bool → ℕ → Option ℤ

-- the total of two costs, and the lesser of them
abbrev pub total_of : Option ℤ → Option ℤ → Option ℤ
total_of None b = None
total_of (Some a) None = None
total_of (Some a) (Some b) = Some (a +ℤ b)

abbrev pub lesser_of : Option ℤ → Option ℤ → Option ℤ
lesser_of None b = b
lesser_of (Some a) None = Some a
lesser_of (Some a) (Some b) = Some (int_min a b)

-- since when the state lasts after period t
abbrev pub since_after : Bool → ℕ → Bool → ℕ → ℕ
since_after true since true t = since
since_after true since false t = suc t
since_after false since true t = suc t
since_after false since false t = since

-- the least cost from a state before period t on, with n periods left
abbrev pub least_cost : MoveCosts → EndCosts → ℕ → ℕ → Bool → ℕ → Option ℤ
least_cost move end zero t was since = end t was since
least_cost move end (suc n) t was since =
    lesser_of
    (total_of (move t was since true) (least_cost move end n (suc t) true (since_after was since true t)))
    (total_of (move t was since false) (least_cost move end n (suc t) false (since_after was since false t)))

-- the cost of the way that a commitment takes from there
abbrev pub way_cost : MoveCosts → EndCosts → Commitment → ℕ → ℕ → Bool → ℕ → Option ℤ
way_cost move end on zero t was since = end t was since
way_cost move end on (suc n) t was since =
    total_of (move t was since (on t)) (way_cost move end on n (suc t) (on t) (since_after was since (on t) t))
