-- The hour before a period, of a term that is there.
use Rattle.std.proofs.Common.{◌≡◌, ℕ, zero, suc, ◌-◌, ◌<◌, Bool, arith, ℤ, ◌-ℤ◌, ◌*ℤ◌, Some}
use Rattle.uc_model.specs.Prelude.{term_at, price_at}
use Rattle.dual_model.specs.Prelude.{Terms, Thermal, hour_before}

pub hour-of_term : (terms : Terms) (unit : Thermal) (t : ℕ) (start stop : Bool) (m : ℤ) → 0 < t → term_at terms (t - 1) start stop ≡ Some m
    → Some (m -ℤ price_at terms (t - 1) *ℤ unit.pmin) ≡ hour_before terms unit t start stop
hour-of_term terms unit zero start stop m h e = absurd (omega arith)
hour-of_term terms unit (suc t) start stop m h e = grind (arith, h, e)
