-- The lesser of both caps, which is as small as both.
use Rattle.std.proofs.Common.{◌≡◌, ◌≤◌, ◌∙◌, ap, arith, ℤ, ◌-ℤ◌, ◌*ℤ◌, to_z, of_z, unsigned_abs}
use Rattle.std.specs.Int.{w64, int_min}
use Rattle.uc_model.specs.Prelude.{start_reduction, stop_reduction, MAX_POWER, bit}
use Rattle.uc_model.proofs.Ring.{mul-one}
use Rattle.uc_model.proofs.Sizes.{abs_narrow}
use Rattle.uc_model.proofs.instance.Thermal.cell_cap.Goals as goal

least_is_short : (z a b : ℤ) → z ≡ int_min (to_z w64 (of_z w64 a)) (to_z w64 (of_z w64 b)) → unsigned_abs a ≤ MAX_POWER
    → unsigned_abs b ≤ MAX_POWER → unsigned_abs z ≤ MAX_POWER
least_is_short z a b is h k = grind (arith, is, h, k)

least_is : (z a b first second : ℤ) → z ≡ int_min (to_z w64 (of_z w64 a)) (to_z w64 (of_z w64 b)) → unsigned_abs a ≤ MAX_POWER
    → unsigned_abs b ≤ MAX_POWER → a ≡ first → b ≡ second → to_z w64 (of_z w64 z) ≡ int_min first second
least_is z a b first second is h k a_is b_is = grind (arith, is, h, k, a_is, b_is)

pub returns-clause-value : goal.returns-clause-value
returns-clause-value c lawful =
    let unit = c.args.self.now in
    let full = unit.pmax -ℤ unit.pmin in
    least_is c.min.result c.start_cap-started.result c.stop_cap-followed.result _ _ c.min.ensures.value
    (c.start_cap-started.ensures.size lawful) (c.stop_cap-followed.ensures.size lawful)
    (c.start_cap-started.ensures.value lawful
    ∙ (ap (λ z. z -ℤ start_reduction unit *ℤ bit c.is_start.result) (mul-one full) ∙ ap (λ b. full -ℤ start_reduction unit *ℤ bit b) c.is_start.ensures))
    (c.stop_cap-followed.ensures.value lawful
    ∙ (ap (λ z. z -ℤ stop_reduction unit *ℤ bit c.is_followed.result) (mul-one full) ∙ ap (λ b. full -ℤ stop_reduction unit *ℤ bit b) c.is_followed.ensures))

pub returns-clause-size : goal.returns-clause-size
returns-clause-size c lawful =
    let short = least_is_short c.min.result c.start_cap-started.result c.stop_cap-followed.result c.min.ensures.value
    (c.start_cap-started.ensures.size lawful) (c.stop_cap-followed.ensures.size lawful) in
    omega (arith, abs_narrow c.min.result, short)
