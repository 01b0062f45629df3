-- The cheapest schedule so far. This project's own form.
use Rattle.std.specs.Prelude.{◌≡◌, ◌⊎◌, ℤ, ◌≤ℤ◌, Option, Some, None}
use Rattle.uc_model.specs.declared.schedule.Printed.{Printed}
use Rattle.incumbent.specs.Costs.{AtMost}

-- the cost of a schedule that may be missing
abbrev pub cost_of : Option (Printed × ℤ) → Option ℤ
cost_of None = None
cost_of (Some priced) = Some priced.1

-- it costs no more than another, where there is that one
abbrev pub IsNoWorse : Option (Printed × ℤ) → Option (Printed × ℤ) → Type 0
IsNoWorse former best = AtMost (cost_of best) (cost_of former)

-- the cheaper of two, the first where both cost the same
abbrev pub IsLower : (Printed × ℤ) → (Printed × ℤ) → (Printed × ℤ) → Type 0
IsLower first second lower = ((lower ≡ first) × (first.1 ≤ℤ second.1)) ⊎ ((lower ≡ second) × (second.1 ≤ℤ first.1))
