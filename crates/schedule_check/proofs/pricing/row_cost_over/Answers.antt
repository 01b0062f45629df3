-- The cell's cost is the next term.
use Rattle.std.proofs.Common.{arith}
use Rattle.uc_model.specs.Prelude.{printed_cell_cost}
use Rattle.schedule_check.specs.WholeWatts.{cell}
use Rattle.schedule_check.specs.declared.pricing.TheConstants.{MOST_CELL_COST}
use Rattle.schedule_check.proofs.AddedSums.{added}
use Rattle.schedule_check.proofs.pricing.row_cost_over.Goals as goal

pub loop-t-preserved : goal.loop-t-preserved
loop-t-preserved c =
    let next = added c.loop-t.t (λ t. printed_cell_cost c.args.unit.now c.args.denominator (cell c.args.row.now t)) _ c.cell_cost.result c.sum-total.result MOST_CELL_COST
    c.loop-t.invariant.value c.cell_cost.ensures.value c.sum-total.ensures c.loop-t.invariant.size c.cell_cost.ensures.size (omega arith) in
    record { known = c.cell_cost.ensures.known; value = next.value; size = next.size }
