-- One unit more.
use Rattle.std.proofs.Common.{◌+◌, ◌<◌, arith, length, sym, ap, subst, ◌≤ℤ◌, IsTrue}
use Rattle.uc_model.specs.Prelude.{cell_at, thermal_count, thermal_unit}
use Rattle.cost_curves.specs.LowerHull.{width_of}
use Rattle.cost_curves.proofs.HullValues.{whole_width}
use Rattle.opening_tables.specs.inside.Slopes.{Cell, IsGreatestOf}
use Rattle.opening_tables.proofs.GreatestSlopes.{greatest-more, own_hull, own_slope}
use Rattle.opening_tables.proofs.marginal_prices.greatest_slope.Goals as goal

pub cell_slope-own-requires : goal.cell_slope-own-requires
cell_slope-own-requires c = λ on.
    let g = c.loop-g.g in
    let within : g < thermal_count c.args.instance.now = omega (arith, c.loop-g-test.true, ap length c.as_slice-g-end.ensures) in
    let hull = own_hull c.args.instance.now c.args.curves.now g c.index-curves-g.result c.requires.curves within c.index-curves-g.is in
    let output : (cell_at c.args.printed.now g c.args.t).p ≤ℤ width_of (thermal_unit c.args.instance.now g).points =
    c.requires.outputs g c.args.t within c.requires.period (subst (λ (cell : Cell). IsTrue cell.on) c.cell.ensures on) in
    subst (λ z. c.cell.result.p ≤ℤ z) (sym (whole_width (thermal_unit c.args.instance.now g).points c.index-curves-g.result hull))
    (subst (λ (cell : Cell). cell.p ≤ℤ width_of (thermal_unit c.args.instance.now g).points) (sym c.cell.ensures) output)

pub loop-g-preserved : goal.loop-g-preserved
loop-g-preserved c =
    let g = c.loop-g.g in
    let within : g < thermal_count c.args.instance.now = omega (arith, c.loop-g-test.true, ap length c.as_slice-g-end.ensures) in
    let hull = own_hull c.args.instance.now c.args.curves.now g c.index-curves-g.result c.requires.curves within c.index-curves-g.is in
    subst (IsGreatestOf c.args.instance.now c.args.printed.now c.args.t (g + 1)) (sym c.steeper-greatest.ensures)
    (greatest-more c.args.instance.now c.args.printed.now c.args.t g c.loop-g.greatest c.cell_slope-own.result c.loop-g.invariant
    (own_slope c.args.instance.now c.args.printed.now g c.args.t c.index-curves-g.result c.cell.result c.cell_slope-own.result c.cell.ensures hull c.cell_slope-own.ensures))
