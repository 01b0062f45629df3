-- The scale, the multipliers and the needs as their bits say them, and two numbers of known sizes.
use Rattle.std.proofs.Common.{◌∙◌, lit<, ◌*◌, pos, ◌+ℤ◌}
use Rattle.std.specs.Int.{int_max}
use Rattle.uc_model.proofs.Common.{sum-fits, sum-is, sum-size, wide-size}
use Rattle.uc_model.proofs.Sizes.{wide}
use Rattle.dual_model.specs.Prelude.{shortage_value}
use Rattle.system_value.specs.Sizes.{MAX_CELL, MAX_POWER, MAX_PRICE}
use Rattle.system_value.proofs.Elements.{element-is, element-size, scale-is, scale-within}
use Rattle.system_value.proofs.demand.shortages.Goals as goal

pub shortage-unserved-requires-clause-scale : goal.shortage-unserved-requires-clause-scale
shortage-unserved-requires-clause-scale c =
    scale-within c.args.table.now.k c.k.result c.k.ensures c.requires.size.form.scale c.requires.limits.scale

pub shortage-unserved-requires-clause-multiplier : goal.shortage-unserved-requires-clause-multiplier
shortage-unserved-requires-clause-multiplier c =
    element-size c.pi.result.now c.args.table.now.pi c.args.t c.args.instance.now.periods MAX_PRICE c.pi.ensures c.requires.size.periods c.requires.period c.requires.limits.pi

pub shortage-unserved-requires-clause-need : goal.shortage-unserved-requires-clause-need
shortage-unserved-requires-clause-need c =
    element-size c.as_slice.result.now c.args.instance.now.demand c.args.t c.args.instance.now.periods MAX_POWER c.as_slice.ensures c.requires.lawful.demand_length
    c.requires.period c.requires.lawful.demand

pub shortage-missing-requires-clause-scale : goal.shortage-missing-requires-clause-scale
shortage-missing-requires-clause-scale c =
    scale-within c.args.table.now.k c.k-2.result c.k-2.ensures c.requires.size.form.scale c.requires.limits.scale

pub shortage-missing-requires-clause-multiplier : goal.shortage-missing-requires-clause-multiplier
shortage-missing-requires-clause-multiplier c =
    element-size c.mu.result.now c.args.table.now.mu c.args.t c.args.instance.now.periods MAX_PRICE c.mu.ensures
    (c.requires.size.form.lengths ∙ c.requires.size.periods) c.requires.period c.requires.limits.mu

pub shortage-missing-requires-clause-need : goal.shortage-missing-requires-clause-need
shortage-missing-requires-clause-need c =
    element-size c.as_slice-2.result.now c.args.instance.now.reserves c.args.t c.args.instance.now.periods MAX_POWER c.as_slice-2.ensures
    c.requires.lawful.reserves_length c.requires.period c.requires.lawful.reserves

pub sum-requires : goal.sum-requires
sum-requires c =
    sum-fits c.shortage-unserved.result c.shortage-missing.result MAX_CELL MAX_CELL c.shortage-unserved.ensures.size c.shortage-missing.ensures.size (lit< tt)

pub returns-clause-value : goal.returns-clause-value
returns-clause-value c =
    let instance = c.args.instance.now in
    let table = c.args.table.now in
    let t = c.args.t in
    let k = scale-is table.k c.k.result c.k.ensures c.requires.size.form.scale c.requires.limits.scale in
    let again = scale-is table.k c.k-2.result c.k-2.ensures c.requires.size.form.scale c.requires.limits.scale in
    let pi = element-is c.pi.result.now table.pi t instance.periods MAX_PRICE c.pi.ensures c.requires.size.periods c.requires.period c.requires.limits.pi (lit< tt) in
    let mu = element-is c.mu.result.now table.mu t instance.periods MAX_PRICE c.mu.ensures (c.requires.size.form.lengths ∙ c.requires.size.periods) c.requires.period
    c.requires.limits.mu (lit< tt) in
    let demand = element-is c.as_slice.result.now instance.demand t instance.periods MAX_POWER c.as_slice.ensures c.requires.lawful.demand_length c.requires.period
    c.requires.lawful.demand (lit< tt) in
    let reserve = element-is c.as_slice-2.result.now instance.reserves t instance.periods MAX_POWER c.as_slice-2.ensures c.requires.lawful.reserves_length
    c.requires.period c.requires.lawful.reserves (lit< tt) in
    let unserved = c.shortage-unserved.ensures.value ∙ (λ i. shortage_value (k i) instance.a (pi i) (int_max (demand i) (pos 0))) in
    let missing = c.shortage-missing.ensures.value ∙ (λ i. shortage_value (again i) instance.b (mu i) (int_max (reserve i) (pos 0))) in
    wide c.sum.result (2 * MAX_CELL)
    (sum-size c.shortage-unserved.result c.shortage-missing.result c.sum.result MAX_CELL MAX_CELL c.sum.ensures c.shortage-unserved.ensures.size
    c.shortage-missing.ensures.size) (lit< tt)
    ∙ sum-is c.shortage-unserved.result c.shortage-missing.result c.sum.result MAX_CELL MAX_CELL c.sum.ensures c.shortage-unserved.ensures.size
    c.shortage-missing.ensures.size (lit< tt)
    ∙ (λ i. unserved i +ℤ missing i)

pub returns-clause-size : goal.returns-clause-size
returns-clause-size c =
    wide-size c.sum.result (2 * MAX_CELL)
    (sum-size c.shortage-unserved.result c.shortage-missing.result c.sum.result MAX_CELL MAX_CELL c.sum.ensures c.shortage-unserved.ensures.size
    c.shortage-missing.ensures.size)
