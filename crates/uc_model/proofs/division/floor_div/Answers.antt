-- `div_euclid` is the floor at a positive divisor.
use Rattle.std.proofs.Common.{rules, FitsSigned, to_z-of_z}
use Rattle.std.specs.Int.{w128}
use Rattle.uc_model.proofs.Quotients.{IsFloor-int_div_euclid}
use Rattle.uc_model.proofs.division.floor_div.Goals as goal

pub returns : goal.returns
returns c =
    let a_fits = c.ranges.a in
    let b_fits = c.ranges.b in
    let fits : FitsSigned w128 c.div_euclid.result = search rules in
    let quotient = simp to_z-of_z at c.div_euclid.ensures in
    simp to_z-of_z (rw quotient (IsFloor-int_div_euclid c.args.a c.args.b c.requires))
