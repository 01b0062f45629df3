-- Both tests are the ramps.
use Rattle.std.proofs.Common.{◌≡◌, ◌*◌, ◌≤◌, true, arith, ℤ, pos, ◌+ℤ◌, ◌-ℤ◌, ◌≤ℤ◌, to_z, of_z, unsigned_abs}
use Rattle.std.specs.Int.{w64}
use Rattle.std.specs.Int.Signed.{le_z}
use Rattle.std.proofs.lemmas.Int.{ints}
use Rattle.hull_function.specs.Problems.{MAX_POWER}
use Rattle.unit_exact.proofs.hourly.follows.Goals as goal

-- a difference of small numbers that is at most a limit by its bits
rise_is : (p r before limit : ℤ) → (pos 0 ≤ℤ p) × (p ≤ℤ pos (2 * MAX_POWER)) → (pos 0 ≤ℤ r) × (r ≤ℤ pos (2 * MAX_POWER)) → unsigned_abs before ≤ 2 * MAX_POWER
    → unsigned_abs limit ≤ MAX_POWER
    → le_z (to_z w64 (of_z w64 (to_z w64 (of_z w64 (to_z w64 (of_z w64 p) +ℤ to_z w64 (of_z w64 r))) -ℤ to_z w64 (of_z w64 before)))) (to_z w64 (of_z w64 limit)) ≡ true
    → (p +ℤ r -ℤ before) ≤ℤ limit
rise_is p r before limit h k l m e =
    let a : to_z w64 (of_z w64 (to_z w64 (of_z w64 (to_z w64 (of_z w64 p) +ℤ to_z w64 (of_z w64 r))) -ℤ to_z w64 (of_z w64 before))) ≡ p +ℤ r -ℤ before = omega (arith, ints) in
    let b : to_z w64 (of_z w64 limit) ≡ limit = omega (arith, ints) in
    grind (arith, ints)

fall_is : (p before limit : ℤ) → (pos 0 ≤ℤ p) × (p ≤ℤ pos (2 * MAX_POWER)) → unsigned_abs before ≤ 2 * MAX_POWER → unsigned_abs limit ≤ MAX_POWER
    → le_z (to_z w64 (of_z w64 (to_z w64 (of_z w64 before) -ℤ to_z w64 (of_z w64 p)))) (to_z w64 (of_z w64 limit)) ≡ true
    → (before -ℤ p) ≤ℤ limit
fall_is p before limit h l m e = grind (arith, ints, h, l, m, e)

pub returns-then-rise-unit : goal.returns-then-rise-unit
returns-then-rise-unit c = grind (arith, ints, rise_is, fall_is, c)
