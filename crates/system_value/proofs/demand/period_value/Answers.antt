-- The multipliers and the needs as their bits say them, and three numbers of known sizes.
use Rattle.std.proofs.Common.{◌∙◌, ◌*◌, lit<, ◌+ℤ◌, ◌*ℤ◌}
use Rattle.uc_model.proofs.Common.{sum-fits, sum-is, sum-size, wide-size}
use Rattle.uc_model.proofs.Sizes.{wide}
use Rattle.system_value.specs.Sizes.{MAX_CELL, MAX_HOUR, MAX_POWER, MAX_PRICE}
use Rattle.system_value.proofs.Elements.{element-is, element-size}
use Rattle.system_value.proofs.demand.period_value.Goals as goal

pub priced-demand-requires-clause-price : goal.priced-demand-requires-clause-price
priced-demand-requires-clause-price c =
    element-size c.pi.result.now c.args.table.now.pi c.args.t c.args.instance.now.periods MAX_PRICE c.pi.ensures c.requires.size.periods c.requires.period c.requires.limits.pi

pub priced-demand-requires-clause-power : goal.priced-demand-requires-clause-power
priced-demand-requires-clause-power c =
    element-size c.as_slice.result.now c.args.instance.now.demand c.args.t c.args.instance.now.periods MAX_POWER c.as_slice.ensures c.requires.lawful.demand_length
    c.requires.period c.requires.lawful.demand

pub priced-reserve-requires-clause-price : goal.priced-reserve-requires-clause-price
priced-reserve-requires-clause-price c =
    element-size c.mu.result.now c.args.table.now.mu c.args.t c.args.instance.now.periods MAX_PRICE c.mu.ensures
    (c.requires.size.form.lengths ∙ c.requires.size.periods) c.requires.period c.requires.limits.mu

pub priced-reserve-requires-clause-power : goal.priced-reserve-requires-clause-power
priced-reserve-requires-clause-power c =
    element-size c.as_slice-2.result.now c.args.instance.now.reserves c.args.t c.args.instance.now.periods MAX_POWER c.as_slice-2.ensures
    c.requires.lawful.reserves_length c.requires.period c.requires.lawful.reserves

pub sum-requires : goal.sum-requires
sum-requires c =
    sum-fits c.priced-demand.result c.priced-reserve.result MAX_CELL MAX_CELL c.priced-demand.ensures.size c.priced-reserve.ensures.size (lit< tt)

pub sum-requires-2 : goal.sum-requires-2
sum-requires-2 c =
    sum-fits c.sum.result c.shortages.result (2 * MAX_CELL) (2 * MAX_CELL) (sum-size c.priced-demand.result c.priced-reserve.result c.sum.result MAX_CELL MAX_CELL c.sum.ensures c.priced-demand.ensures.size c.priced-reserve.ensures.size)
    c.shortages.ensures.size (lit< tt)

pub returns-clause-value : goal.returns-clause-value
returns-clause-value c =
    let instance = c.args.instance.now in
    let table = c.args.table.now in
    let t = c.args.t in
    let pi = element-is c.pi.result.now table.pi t instance.periods MAX_PRICE c.pi.ensures c.requires.size.periods c.requires.period c.requires.limits.pi (lit< tt) in
    let mu = element-is c.mu.result.now table.mu t instance.periods MAX_PRICE c.mu.ensures (c.requires.size.form.lengths ∙ c.requires.size.periods) c.requires.period
    c.requires.limits.mu (lit< tt) in
    let demand = element-is c.as_slice.result.now instance.demand t instance.periods MAX_POWER c.as_slice.ensures c.requires.lawful.demand_length c.requires.period
    c.requires.lawful.demand (lit< tt) in
    let reserve = element-is c.as_slice-2.result.now instance.reserves t instance.periods MAX_POWER c.as_slice-2.ensures c.requires.lawful.reserves_length
    c.requires.period c.requires.lawful.reserves (lit< tt) in
    let energy = c.priced-demand.ensures.value ∙ (λ i. pi i *ℤ demand i) in
    let held = c.priced-reserve.ensures.value ∙ (λ i. mu i *ℤ reserve i) in
    let needs = sum-size c.priced-demand.result c.priced-reserve.result c.sum.result MAX_CELL MAX_CELL c.sum.ensures c.priced-demand.ensures.size
    c.priced-reserve.ensures.size in
    let both = sum-is c.priced-demand.result c.priced-reserve.result c.sum.result MAX_CELL MAX_CELL c.sum.ensures c.priced-demand.ensures.size
    c.priced-reserve.ensures.size (lit< tt) ∙ (λ i. energy i +ℤ held i) in
    wide c.sum-2.result MAX_HOUR (sum-size c.sum.result c.shortages.result c.sum-2.result (2 * MAX_CELL) (2 * MAX_CELL) c.sum-2.ensures needs c.shortages.ensures.size) (lit< tt)
    ∙ sum-is c.sum.result c.shortages.result c.sum-2.result (2 * MAX_CELL) (2 * MAX_CELL) c.sum-2.ensures needs c.shortages.ensures.size (lit< tt)
    ∙ (λ i. both i +ℤ c.shortages.ensures.value i)

pub returns-clause-size : goal.returns-clause-size
returns-clause-size c =
    let needs = sum-size c.priced-demand.result c.priced-reserve.result c.sum.result MAX_CELL MAX_CELL c.sum.ensures c.priced-demand.ensures.size
    c.priced-reserve.ensures.size in
    wide-size c.sum-2.result MAX_HOUR
    (sum-size c.sum.result c.shortages.result c.sum-2.result (2 * MAX_CELL) (2 * MAX_CELL) c.sum-2.ensures needs c.shortages.ensures.size)
