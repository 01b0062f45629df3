-- The unit is the instance's, and has an allowed pattern.
use Rattle.std.proofs.Common.{arith, subst}
use Rattle.uc_model.specs.Prelude.{HasNoAllowedPattern, thermal_unit}
use Rattle.dispatch_repair.proofs.Places.{unit_read}
use Rattle.decommitment.proofs.patterns.fewest.Goals as goal

pub fewest_of-requires-clause-lawful : goal.fewest_of-requires-clause-lawful
fewest_of-requires-clause-lawful c = grind (arith, unit_read, c)

pub unreachable-requires : goal.unreachable-requires
unreachable-requires c =
    let none : HasNoAllowedPattern c.args.instance.now.periods (thermal_unit c.args.instance.now c.args.g) =
    subst (HasNoAllowedPattern c.args.instance.now.periods)
    (unit_read c.args.instance.now c.as_slice.result.now c.args.g c.index-as_slice-g.result c.as_slice.ensures c.requires.unit c.index-as_slice-g.is)
    c.in-None.ensures.pattern in
    c.requires.each c.args.g c.requires.unit (λ on pattern. none on pattern.allowed)
