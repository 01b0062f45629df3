-- A slope as a fraction in lowest terms: its rise and its run divided by their greatest common divisor.
-- Source: Euclid, Elements, book VII, proposition 21: numbers that are prime to one another are the least of those that
-- have the same ratio with them.
use Rattle.std.specs.Prelude.{◌≡◌, ℕ, ◌<◌, ℤ, pos, ◌*ℤ◌, unsigned_abs}
use Rattle.std.specs.Int.{◌∣◌}
pub use Rattle.cost_curves.specs.declared.slope.Slope.{Slope}

pub record IsInLowestTerms (slope : Slope) (numerator : ℤ) (denominator : ℕ) : Type 0 where
  -- the numerator over the denominator is the rise over the run
  pub same : (numerator *ℤ slope.run) ≡ (slope.rise *ℤ pos denominator)
  pub positive : 0 < denominator
  -- no number but 1 divides both
  pub coprime : (c : ℕ) → c ∣ unsigned_abs numerator → c ∣ denominator → c ≡ 1
