-- The unit, and its limits and the multiplier of energy as their bits say them.
use Rattle.std.proofs.Common.{◌≡◌, ℕ, ◌∙◌, ◌<◌, List, [], ap, sym, subst, lit<, length, slice_index_or, pos, ◌*ℤ◌, neg_ℤ}
use Rattle.std.specs.Prelude.{int_lt, if◌then◌else◌}
use Rattle.std.specs.Int.{int_max}
use Rattle.std.proofs.lemmas.List.{get_or_read}
use Rattle.uc_model.proofs.Common.{wide-size}
use Rattle.uc_model.proofs.Sizes.{wide}
use Rattle.uc_model.specs.declared.instance.Renewable.{Renewable}
use Rattle.uc_model.specs.Prelude.{renewable_count, renewable_unit}
use Rattle.uc_model.specs.declared.instance.Instance.{Instance}
use Rattle.system_value.specs.Sizes.{MAX_CELL, MAX_POWER, MAX_PRICE}
use Rattle.system_value.proofs.Elements.{element-is, element-size, read-is, read-size}
use Rattle.system_value.proofs.renewable.period_value.Goals as goal

-- the unit that is read
unit-is : (instance : Instance) (xs : List Renewable) (w : ℕ) (unit : Renewable) → xs ≡ instance.renewable → w < renewable_count instance → unit ≡ slice_index_or xs w unit
    → unit ≡ renewable_unit instance w
unit-is instance xs w unit same within read =
    let none : Renewable = record { name = []; minimum = []; maximum = [] } in
    get_or_read xs w unit (subst (λ ys. w < length ys) (sym same) within) read none ∙ (λ i. slice_index_or (same i) w none)

pub cost-requires-clause-price : goal.cost-requires-clause-price
cost-requires-clause-price c =
    element-size c.pi.result.now c.args.table.now.pi c.args.t c.args.instance.now.periods MAX_PRICE c.pi.ensures c.requires.size.periods c.requires.period c.requires.limits.pi

pub cost-requires-clause-least : goal.cost-requires-clause-least
cost-requires-clause-least c =
    let unit = unit-is c.args.instance.now c.as_slice.result.now c.args.w c.index-as_slice-w.result c.as_slice.ensures c.requires.unit c.index-as_slice-w.is in
    read-size c.as_slice-2.result.now (renewable_unit c.args.instance.now c.args.w).minimum c.args.t MAX_POWER (c.as_slice-2.ensures ∙ ap (λ (unit : Renewable). unit.minimum) unit)
    ((c.requires.lawful.renewable c.args.w c.requires.unit).minimum c.args.t c.requires.period)

pub cost-requires-clause-most : goal.cost-requires-clause-most
cost-requires-clause-most c =
    let unit = unit-is c.args.instance.now c.as_slice.result.now c.args.w c.index-as_slice-w.result c.as_slice.ensures c.requires.unit c.index-as_slice-w.is in
    read-size c.as_slice-3.result.now (renewable_unit c.args.instance.now c.args.w).maximum c.args.t MAX_POWER (c.as_slice-3.ensures ∙ ap (λ (unit : Renewable). unit.maximum) unit)
    ((c.requires.lawful.renewable c.args.w c.requires.unit).maximum c.args.t c.requires.period)

pub returns-clause-value : goal.returns-clause-value
returns-clause-value c =
    let instance = c.args.instance.now in
    let own = renewable_unit instance c.args.w in
    let lawful = c.requires.lawful.renewable c.args.w c.requires.unit in
    let unit = unit-is instance c.as_slice.result.now c.args.w c.index-as_slice-w.result c.as_slice.ensures c.requires.unit c.index-as_slice-w.is in
    let price = element-is c.pi.result.now c.args.table.now.pi c.args.t instance.periods MAX_PRICE c.pi.ensures c.requires.size.periods c.requires.period c.requires.limits.pi
    (lit< tt) in
    let least = read-is c.as_slice-2.result.now own.minimum c.args.t MAX_POWER (c.as_slice-2.ensures ∙ ap (λ (unit : Renewable). unit.minimum) unit)
    (lawful.minimum c.args.t c.requires.period) (lit< tt) in
    let most = read-is c.as_slice-3.result.now own.maximum c.args.t MAX_POWER (c.as_slice-3.ensures ∙ ap (λ (unit : Renewable). unit.maximum) unit)
    (lawful.maximum c.args.t c.requires.period) (lit< tt) in
    wide c.cost.result MAX_CELL c.cost.ensures.size (lit< tt)
    ∙ c.cost.ensures.value
    ∙ (λ i. if int_lt (pos 0) (price i) then neg_ℤ (price i *ℤ most i) else neg_ℤ (price i *ℤ int_max (least i) (pos 0)))

pub returns-clause-size : goal.returns-clause-size
returns-clause-size c = wide-size c.cost.result MAX_CELL c.cost.ensures.size
