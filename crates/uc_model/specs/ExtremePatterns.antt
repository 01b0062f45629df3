-- The patterns of a unit with the most and with the fewest on periods. What is allowed is that of the reference
-- model by Knueven, Ostrowski and Watson published with the pglib-uc format (Commitment.antt); to begin a schedule
-- from these two patterns is this project's own choice.
--
-- Periods count from 0 here.
use Rattle.std.specs.Prelude.{◌≡◌, ℕ, ◌<◌, ◌&&◌, nat_lt, nat_le, IsTrue, ℤ, ◌≤ℤ◌}
use Rattle.uc_model.specs.Sums.{sum_below, bit}
use Rattle.uc_model.specs.Commitment.{Thermal, Commitment, is_allowed}

-- in how many of the periods the unit is on
abbrev pub on_periods : ℕ → Commitment → ℤ
on_periods periods on = sum_below periods (λ t. bit (on t))

-- an allowed pattern, and no allowed one has more on periods
pub record IsMostOn (periods : ℕ) (unit : Thermal) (on : Commitment) : Type 0 where
  pub allowed : IsTrue (is_allowed periods unit on)
  pub most : (other : Commitment) → IsTrue (is_allowed periods unit other) → on_periods periods other ≤ℤ on_periods periods on

-- an allowed pattern, and no allowed one has fewer on periods
pub record IsFewestOn (periods : ℕ) (unit : Thermal) (on : Commitment) : Type 0 where
  pub allowed : IsTrue (is_allowed periods unit on)
  pub fewest : (other : Commitment) → IsTrue (is_allowed periods unit other) → on_periods periods on ≤ℤ on_periods periods other

-- the unit has no allowed pattern
abbrev pub HasNoAllowedPattern : ℕ → Thermal → Type 0
HasNoAllowedPattern periods unit = (on : Commitment) → ¬ IsTrue (is_allowed periods unit on)

-- there is exactly one such commitment over the periods
pub record HasExactlyOne (periods : ℕ) (IsSuch : Commitment → Type 0) : Type 0 where
  pub some : (on : Commitment) × IsSuch on
  pub same : (on other : Commitment) → IsSuch on → IsSuch other → (t : ℕ) → t < periods → on t ≡ other t

-- on from the period `first` to the one before `end`, and off in every other
abbrev pub on_during : ℕ → ℕ → Commitment
on_during first end t = nat_le first t && nat_lt t end
