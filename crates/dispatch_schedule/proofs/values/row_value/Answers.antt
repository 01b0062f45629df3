-- The value is the quotient.
use Rattle.std.proofs.Common.{ap, ◌∙◌}
use Rattle.fractions.specs.Fractions.{lowest}
use Rattle.pivot_run.specs.Prelude.{number}
use Rattle.dispatch_schedule.specs.ColumnValues.{row_value as value_of_row}
use Rattle.dispatch_schedule.proofs.values.row_value.Goals as goal

pub returns : goal.returns
unfolding value_of_row
returns c =
    c.quotient.ensures
    ∙ (λ i. lowest (c.right_side.ensures i) ((c.number.ensures ∙ ap (number c.args.table.now c.args.k) c.basic.ensures) i))
