-- The prices of the period, within their limits.
use Rattle.std.proofs.Common.{arith, refl, pos, ◌*ℤ◌, to_z, of_z, slice_index_or}
use Rattle.std.specs.Int.{w64}
use Rattle.uc_model.proofs.Common.{abs_narrow, narrow}
use Rattle.hull_function.proofs.HourPrices.{IsPricedAt, priced-at}
use Rattle.hull_function.proofs.hour.Hour.at.Goals as goal
use Rattle.hull_function.proofs.hour.Hour.at.Goals.{After-scaled}

priced : (c : After-scaled)
    → IsPricedAt c.args.problem.now.table.now c.args.problem.now.unit.now.pmin c.args.t (slice_index_or c.pi.result.now c.args.t (pos 0)) c.max-worth.result c.scaled.result
priced c =
    let p = c.args.problem.now in
    priced-at p.periods p.table.now p.unit.now c.args.t c.requires.lawful c.requires.period c.pi.result.now c.mu.result.now c.max-worth.result c.scaled.result c.pi.ensures
    c.mu.ensures c.max-worth.ensures.value c.scaled.ensures

pub overflow_sub-result : goal.overflow_sub-result
overflow_sub-result c =
    let p = c.args.problem.now in
    (priced-at p.periods p.table.now p.unit.now c.args.t c.requires.lawful c.requires.period c.pi.result.now c.mu.result.now c.max-worth.result
    (to_z w64 (of_z w64 (slice_index_or c.pi.result.now c.args.t (pos 0))) *ℤ to_z w64 (of_z w64 p.unit.now.pmin)) c.pi.ensures
    c.mu.ensures c.max-worth.ensures.value refl).difference

pub overflow_sub-result-2 : goal.overflow_sub-result-2
overflow_sub-result-2 c = (priced (goal.at.overflow_sub-result-2 c).After-scaled).turned

pub returns-clause-at : goal.returns-clause-at
returns-clause-at c =
    let is = priced (goal.at.returns-clause-at c).After-scaled in
    record { worth = is.worth_is; price = is.price_is; fixed = is.fixed_is }

pub returns-clause-cap : goal.returns-clause-cap
returns-clause-cap c = grind (arith, narrow, c)

pub returns-clause-sized : goal.returns-clause-sized
returns-clause-sized c =
    let is = priced (goal.at.returns-clause-sized c).After-scaled in
    let cap = (c.cell_cap.ensures.size c.requires.lawful.unit_is) in
    record { cap = omega (arith, abs_narrow c.cell_cap.result, cap); worth = is.worth_size; price = is.price_size; fixed = is.fixed_size }
