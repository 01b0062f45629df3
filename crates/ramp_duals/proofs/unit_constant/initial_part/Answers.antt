-- The difference has 65 bits, and the initial output fewer than 46.
use Rattle.std.proofs.Common.{◌*◌, ◌^◌, ◌≤◌, lit<, arith, rules, unsigned_abs}
use Rattle.uc_model.specs.declared.limits.TheConstants.{MAX_POWER}
use Rattle.uc_model.proofs.Common.{from-size, product-fits, product-size, wide-size}
use Rattle.ramp_duals.proofs.unit_constant.initial_part.Goals as goal

pub product-requires : goal.product-requires
product-requires c =
    let size : unsigned_abs c.wide.result ≤ 2 * MAX_POWER =
    from-size c.initial_output.result c.wide.result (2 * MAX_POWER) c.wide.ensures.value (c.initial_output.ensures.size c.requires) in
    product-fits c.gap.result c.wide.result (2 ^ 64) (2 * MAX_POWER) c.gap.ensures.size size (lit< tt)

pub returns-clause-size : goal.returns-clause-size
returns-clause-size c =
    let size : unsigned_abs c.wide.result ≤ 2 * MAX_POWER =
    from-size c.initial_output.result c.wide.result (2 * MAX_POWER) c.wide.ensures.value (c.initial_output.ensures.size c.requires) in
    let whole = product-size c.gap.result c.wide.result c.product.result (2 ^ 64) (2 * MAX_POWER) c.product.ensures c.gap.ensures.size size in
    wide-size c.product.result (2 ^ 110) (omega (arith, whole))

pub returns-clause-value : goal.returns-clause-value
returns-clause-value c =
    let output = c.initial_output.ensures.value c.requires in
    search (rules, output)
