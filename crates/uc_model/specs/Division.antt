-- Quotients rounded to a whole number, as properties of the number: floor and ceiling as Graham, Knuth and Patashnik define
-- them (Concrete Mathematics, chapter 3).
use Rattle.std.specs.Prelude.{ℤ, neg_ℤ, ◌+ℤ◌, ◌-ℤ◌, ◌*ℤ◌, ◌≤ℤ◌, ◌<ℤ◌}
use Rattle.std.specs.Int.{int_div_euclid}

-- n is the greatest whole number at most a / b, for a positive b
pub record IsFloor (a b n : ℤ) : Type 0 where
  pub below : (n *ℤ b) ≤ℤ a
  pub next : a <ℤ (n *ℤ b +ℤ b)

-- n is the least whole number at least a / b, for a positive b
pub record IsCeiling (a b n : ℤ) : Type 0 where
  pub above : a ≤ℤ (n *ℤ b)
  pub before : (n *ℤ b -ℤ b) <ℤ a

-- a / b rounded up to a whole number, for a positive b: its ceiling, as a number
abbrev pub quotient_up : ℤ → ℤ → ℤ
quotient_up a b = neg_ℤ (int_div_euclid (neg_ℤ a) b)
