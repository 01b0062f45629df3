-- The unit is the instance's, and the bits keep the numbers.
use Rattle.std.proofs.Common.{arith, sym, subst}
use Rattle.std.proofs.lemmas.Int.{to_z-of_z}
use Rattle.uc_model.specs.Prelude.{IsLawfulThermal}
use Rattle.dispatch_repair.proofs.Places.{unit_read}
use Rattle.decommitment.proofs.entry.unit_part.Goals as goal

pub minimum-requires : goal.minimum-requires
minimum-requires c =
    subst IsLawfulThermal (sym (unit_read c.args.instance.now c.as_slice.result.now c.args.g c.index-as_slice-g.result c.as_slice.ensures c.requires.unit c.index-as_slice-g.is))
    (c.requires.lawful.thermal c.args.g c.requires.unit)

pub unit_reach-requires-clause-lawful : goal.unit_reach-requires-clause-lawful
unit_reach-requires-clause-lawful c =
    subst IsLawfulThermal (sym (unit_read c.args.instance.now c.as_slice.result.now c.args.g c.index-as_slice-g.result c.as_slice.ensures c.requires.unit c.index-as_slice-g.is))
    (c.requires.lawful.thermal c.args.g c.requires.unit)

pub returns-clause-is : goal.returns-clause-is
returns-clause-is c = grind (arith, unit_read, to_z-of_z, c)
