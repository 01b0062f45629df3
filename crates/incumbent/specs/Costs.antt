-- Costs that may be missing. Source: the order of whole numbers, with nothing above every cost; this project's own form.
use Rattle.std.specs.Prelude.{◌≤◌, ℤ, ◌≤ℤ◌, ◌<ℤ◌, unsigned_abs, Option, Some, None}
use Rattle.std.specs.Int.{int_min}
use Rattle.uc_model.specs.declared.limits.TheConstants.{COST_MAX}

-- the lesser of two costs, where there are two
abbrev pub least : Option ℤ → Option ℤ → Option ℤ
least None b = b
least (Some a) None = Some a
least (Some a) (Some b) = Some (int_min a b)

-- the first is no greater than the second, and nothing is above every cost
abbrev pub AtMost : Option ℤ → Option ℤ → Type 0
AtMost a None = Unit {0}
AtMost None (Some b) = ⊥
AtMost (Some a) (Some b) = a ≤ℤ b

-- the cost is below the second
abbrev pub IsBelow : ℤ → Option ℤ → Type 0
IsBelow a None = Unit {0}
IsBelow a (Some b) = a <ℤ b

-- a schedule can cost that much
abbrev pub IsScheduleCost : ℤ → Type 0
IsScheduleCost cost = unsigned_abs cost ≤ COST_MAX
