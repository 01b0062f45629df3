-- One unit more.
use Rattle.std.proofs.Common.{◌≡◌, arith, ap, subst, length, slice_index_or}
use Rattle.std.proofs.lemmas.List.{get_or_read}
use Rattle.uc_model.specs.Prelude.{IsLawfulThermal, thermal_unit}
use Rattle.opening_tables.proofs.RayTables.{rows-more}
use Rattle.opening_tables.proofs.rays.ramp_rows.Goals as goal

unit_is : (c : goal.After-index-units-g) → thermal_unit c.args.instance.now c.loop-g.g ≡ c.index-units-g.result
unit_is c = grind (arith, slice_index_or, get_or_read)

pub push_row-requires : goal.push_row-requires
push_row-requires c =
    subst IsLawfulThermal (unit_is c) (c.requires.thermal c.loop-g.g (omega (arith, c.loop-g-test.true, ap length c.as_slice-units.ensures)))

pub loop-g-preserved : goal.loop-g-preserved
loop-g-preserved c = grind (arith, slice_index_or, get_or_read, rows-more, c)
