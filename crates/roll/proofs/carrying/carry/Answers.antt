-- The rows are those of a schedule that obeys.
use Rattle.std.proofs.Common.{◌-◌, sym, subst, arith}
use Rattle.roll.specs.inside.Rows.{HasRows}
use Rattle.roll.proofs.CarriedRows.{rows_behind}
use Rattle.roll.proofs.carrying.carry.Goals as goal

pub states_behind-requires-clause-rows : goal.states_behind-requires-clause-rows
states_behind-requires-clause-rows c =
    let rows = rows_behind c.args.instance.now (c.args.a - 1) c.args.kept.now c.requires.lawful (omega arith) (omega arith) (c.requires.kept (omega arith)) in
    subst (λ units. HasRows units c.as_slice.result.now (c.args.a - 1)) (sym c.as_slice-units.ensures)
    (subst (λ cells. HasRows c.args.instance.now.thermal cells (c.args.a - 1)) (sym c.as_slice.ensures) rows)
