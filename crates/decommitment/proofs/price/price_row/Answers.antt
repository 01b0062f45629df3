-- The unit is the instance's, and its cells have prices.
use Rattle.std.proofs.Common.{◌<◌, arith, ap, length, subst, sym}
use Rattle.uc_model.specs.declared.instance.Thermal.{Thermal}
use Rattle.uc_model.proofs.Sizes.{wide}
use Rattle.schedule_check.specs.WholeWatts.{HasPrice, cell}
use Rattle.dispatch_repair.proofs.Places.{unit_read}
use Rattle.decommitment.specs.inside.Runs.{IsCellOf}
use Rattle.decommitment.proofs.RunCosts.{has_price, row_total}
use Rattle.decommitment.proofs.price.price_row.Goals as goal

pub row_cost-requires-clause-unit : goal.row_cost-requires-clause-unit
row_cost-requires-clause-unit c = grind (arith, unit_read, c)

pub row_cost-requires-clause-prices : goal.row_cost-requires-clause-prices
row_cost-requires-clause-prices c =
    let changed = c.args.changed.now in
    let instance = changed.instance.now in
    let unit = unit_read instance c.as_slice.result.now c.args.g c.index-as_slice-g.result c.as_slice.ensures c.requires.unit c.index-as_slice-g.is in
    let row = c.deref.ensures.value in
    λ t h.
    let ht : t < length changed.fills.now = omega (arith, h, ap length row, c.in_ok-row.ensures.count) in
    subst (λ (u : Thermal). HasPrice u (cell c.deref.result.now t)) (sym unit)
    (has_price instance changed.patterns.now changed.fills.now c.requires.changed.dispatched c.args.g t (cell c.deref.result.now t) c.requires.changed.lawful c.requires.unit
    (omega (arith, ht, c.requires.changed.dispatched.all))
    (subst (λ xs. IsCellOf instance changed.patterns.now changed.fills.now c.args.g t (cell xs t)) (sym row) (c.in_ok-row.ensures.cells t ht)))

pub returns : goal.returns
returns c = grind (arith, unit_read, wide, row_total, c)
