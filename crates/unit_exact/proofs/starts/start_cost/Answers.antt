-- A scale times a cost.
use Rattle.std.proofs.Common.{◌^◌, ◌≤◌, sym, subst, arith, unsigned_abs}
use Rattle.std.proofs.lemmas.Int.{ints}
use Rattle.uc_model.specs.declared.limits.TheConstants.{MAX_COST}
use Rattle.uc_model.proofs.Common.{abs_wide, scaled-size, sigma-size}
use Rattle.unit_exact.proofs.starts.start_cost.Goals as goal

pub returns-clause-size : goal.returns-clause-size
returns-clause-size c =
    let unit = c.args.problem.now.unit.now in
    let low = c.requires.lawful.scale.low in
    let high = c.requires.lawful.scale.high in
    let is = c.k.ensures in
    let scale : unsigned_abs c.k.result ≤ 10 ^ 9 = omega (arith, ints, low, high, is) in
    let start : unsigned_abs c.sigma.result ≤ MAX_COST =
    subst (λ z. unsigned_abs z ≤ MAX_COST) (sym c.sigma.ensures) (sigma-size unit c.requires.lawful.unit_is c.last_stop.result c.args.t) in
    let size = scaled-size c.k.result c.sigma.result c.scaled.result (10 ^ 9) MAX_COST c.scaled.ensures scale start in
    let cast = abs_wide c.scaled.result in
    omega (arith, size, cast)
