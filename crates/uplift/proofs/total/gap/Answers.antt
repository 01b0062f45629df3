-- The scale, the cost and the value are within their limits.
use Rattle.std.proofs.Common.{◌≤◌, ◌*◌, ◌^◌, sym, subst, arith, unsigned_abs}
use Rattle.std.proofs.lemmas.Int.{ints}
use Rattle.uc_model.specs.Prelude.{printed_denominator}
use Rattle.uc_model.specs.declared.limits.TheConstants.{COST_MAX}
use Rattle.uc_model.proofs.Common.{printed_cost-fits, watts-factor, difference-size, scaled-size, wide-size}
use Rattle.dual_model.specs.Prelude.{MAX_VALUE}
use Rattle.uplift.specs.Sizes.{MAX_GAP}
use Rattle.uplift.proofs.total.gap.Goals as goal

pub returns-clause-size : goal.returns-clause-size
returns-clause-size c =
    let instance = c.args.instance.now in
    let printed = c.args.printed.now in
    let factor = watts-factor instance printed in
    let cost : unsigned_abs c.cost.result ≤ COST_MAX =
    subst (λ z. unsigned_abs z ≤ COST_MAX) (sym c.cost.ensures)
    (printed_cost-fits instance printed (printed_denominator instance printed) factor.0 c.requires.lawful factor.1 c.requires.obeys) in
    let table = c.requires.table in
    let scale : unsigned_abs c.args.table.now.k ≤ 10 ^ 9 = omega (arith, ints, table.size.form.scale, table.limits.scale) in
    let k : unsigned_abs c.k.result ≤ 10 ^ 9 = subst (λ z. unsigned_abs z ≤ 10 ^ 9) (sym c.k.ensures) scale in
    let costs = scaled-size c.k.result c.cost.result c.scaled.result (10 ^ 9) COST_MAX c.scaled.ensures k cost in
    let size = difference-size c.scaled.result c.args.value c.difference.result (10 ^ 9 * COST_MAX) MAX_VALUE c.difference.ensures costs c.requires.value in
    wide-size c.difference.result MAX_GAP (omega (arith, size))
