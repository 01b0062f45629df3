-- M7 by the greatest initial output.
use Rattle.std.proofs.Common.{◌≡◌, Bool, true, false, not, ◌&&◌, refl, arith, ℤ, pos, ◌-ℤ◌, ◌*ℤ◌, ◌≤ℤ◌, IsTrue, int_le, if◌then◌else◌}
use Rattle.std.specs.Int.{int_min, int_max}
use Rattle.std.proofs.lemmas.Int.{ints, clamps}
use Rattle.uc_model.specs.Prelude.{bit, Commitment, initial_stop_holds}
use Rattle.uc_model.proofs.Common.{linear, mul-one, mul-zero, one-mul, int_le-true, le-int_le}
use Rattle.dual_model.specs.Prelude.{Thermal, initial_limit}

limit_at : (pmin pmax sd : ℤ) (now : Bool) → (bit true *ℤ (pmax -ℤ pmin) -ℤ int_max (pmax -ℤ sd) (pos 0) *ℤ bit (not now))
    ≡ (if now then pmax else int_min pmax sd) -ℤ pmin
limit_at pmin pmax sd true = grind (arith, ints, one-mul, mul-zero)
limit_at pmin pmax sd false =
    let whole = one-mul (pmax -ℤ pmin) in
    let all = mul-one (int_max (pmax -ℤ sd) (pos 0)) in
    omega (arith, ints, clamps)

limit_from : (p0 pmin pmax sd : ℤ) (first now : Bool) → first ≡ true
    → (bit first *ℤ (p0 -ℤ pmin)) ≤ℤ (bit first *ℤ (pmax -ℤ pmin) -ℤ int_max (pmax -ℤ sd) (pos 0) *ℤ bit (first && not now))
    → p0 ≤ℤ (if now then pmax else int_min pmax sd)
limit_from p0 pmin pmax sd true now e h = omega (arith, linear, one-mul (p0 -ℤ pmin), limit_at pmin pmax sd now)
limit_from p0 pmin pmax sd false now e h = cc

limit_to : (p0 pmin pmax sd : ℤ) (first now : Bool) → (first ≡ true → p0 ≤ℤ (if now then pmax else int_min pmax sd))
    → (bit first *ℤ (p0 -ℤ pmin)) ≤ℤ (bit first *ℤ (pmax -ℤ pmin) -ℤ int_max (pmax -ℤ sd) (pos 0) *ℤ bit (first && not now))
limit_to p0 pmin pmax sd true now h = omega (arith, linear, h refl, one-mul (p0 -ℤ pmin), limit_at pmin pmax sd now)
limit_to p0 pmin pmax sd false now h = grind (arith, ints, h)

limit_is : (unit : Thermal) (now : Bool) → (if now then unit.pmax else int_min unit.pmax unit.sd) ≡ initial_limit unit (not now)
limit_is unit true = refl
limit_is unit false = refl

pub initial_stop-limit : (unit : Thermal) (on : Commitment) → IsTrue (initial_stop_holds unit on) → unit.on0 ≡ true
    → IsTrue (int_le unit.p0 (initial_limit unit (not (on 0))))
initial_stop-limit unit on h e = grind (arith, ints, le-int_le, limit_is, limit_from, int_le-true, h, e)

pub initial_stop-from : (unit : Thermal) (on : Commitment) → (unit.on0 ≡ true → IsTrue (int_le unit.p0 (initial_limit unit (not (on 0)))))
    → IsTrue (initial_stop_holds unit on)
initial_stop-from unit on h = grind (arith, ints, le-int_le, limit_to, limit_is, int_le-true, h)
