-- The outputs lie on the curves, and the table is lawful.
use Rattle.std.proofs.Common.{◌≡◌, length, sym, ap, subst, ◌∙◌}
use Rattle.std.proofs.lemmas.Result.{IfOk-weaker}
use Rattle.dual_model.specs.Prelude.{IsLawfulTable}
use Rattle.opening_tables.specs.inside.Slopes.{ArePriced}
use Rattle.opening_tables.proofs.OnCells.{outputs_within}
use Rattle.opening_tables.proofs.PricedPeriods.{priced_lawful, priced_table}
use Rattle.opening_tables.proofs.marginal_prices.marginal_in.Goals as goal

pub period_prices-requires-clause-outputs : goal.period_prices-requires-clause-outputs
period_prices-requires-clause-outputs c = outputs_within c.args.instance.now c.args.printed.now c.requires.lawful c.requires.whole c.requires.obeys

pub returns-clause-lawful : goal.returns-clause-lawful
returns-clause-lawful c =
    let table = priced_table (length c.as_slice.result.now) c.deref.result.now c.deref-2.result.now in
    let lawful : IsLawfulTable c.args.instance.now table =
    priced_lawful c.args.instance.now c.args.printed.now (length c.as_slice.result.now) c.deref.result.now c.deref-2.result.now
    (ap length c.as_slice.ensures) (ap length c.deref.ensures.value ∙ c.in_ok-prices.ensures.count)
    (c.deref-2.ensures.value ∙ c.in_ok-zeros.ensures)
    (subst (ArePriced c.args.instance.now c.args.printed.now c.args.instance.now.periods) (sym c.deref.ensures.value) c.in_ok-prices.ensures.prices) in
    IfOk-weaker c.new.result (λ made. made ≡ table) (IsLawfulTable c.args.instance.now)
    (λ made same. subst (IsLawfulTable c.args.instance.now) (sym same) lawful) c.new.ensures
