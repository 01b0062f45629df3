-- The difference has little more than 15 digits.
use Rattle.std.proofs.Common.{◌+◌, arith, ◌-ℤ◌, to_z, of_z}
use Rattle.std.specs.Int.{w64}
use Rattle.uc_model.proofs.Common.{abs_narrow, abs_sub, scaled-size, wide-size}
use Rattle.uplift.specs.Sizes.{MAX_POWER, MAX_PRICE, MAX_PRICED, MAX_WATTS}
use Rattle.uplift.proofs.renewable.gained.Goals as goal

pub returns-clause-size : goal.returns-clause-size
returns-clause-size c =
    let best = to_z w64 (of_z w64 c.args.best) in
    let output = to_z w64 (of_z w64 c.args.output) in
    let more = abs_sub best output MAX_POWER MAX_WATTS (omega (arith, c.requires.best, abs_narrow c.args.best))
    (omega (arith, c.requires.output, abs_narrow c.args.output)) in
    let size = scaled-size c.args.price (best -ℤ output) c.scaled.result MAX_PRICE (MAX_POWER + MAX_WATTS) c.scaled.ensures c.requires.price more in
    wide-size c.scaled.result MAX_PRICED (omega (arith, size))
