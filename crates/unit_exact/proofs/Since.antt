-- The last stop of a unit that is off since then, by whether that is in the horizon.
use Rattle.std.proofs.Common.{◌≡◌, ℕ, zero, suc, ◌-◌, ◌<◌, ap, arith, Some, None}
use Rattle.dual_model.specs.Prelude.{stop_since}

pub since-none : (n : ℕ) → n ≡ 0 → stop_since n ≡ None
since-none n e = ap stop_since e

pub since-some : (n : ℕ) → 0 < n → stop_since n ≡ Some (n - 1)
since-some zero h = absurd (omega arith)
since-some (suc s) h = let e : s ≡ suc s - 1 = omega arith in ap Some e
