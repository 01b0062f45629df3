-- The unit is the instance's.
use Rattle.std.proofs.Common.{sym, subst}
use Rattle.uc_model.specs.Prelude.{IsLawfulThermal}
use Rattle.dispatch_repair.proofs.Places.{unit_read}
use Rattle.dispatch_repair.proofs.totals.unit_minimum.Goals as goal

pub minimum-requires : goal.minimum-requires
minimum-requires c =
    let unit = unit_read c.args.instance.now c.as_slice.result.now c.args.g c.index-as_slice-g.result c.as_slice.ensures c.requires.unit c.index-as_slice-g.is in
    subst IsLawfulThermal (sym unit) (c.requires.lawful.thermal c.args.g c.requires.unit)
