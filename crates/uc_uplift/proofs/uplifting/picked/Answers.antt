-- What lacks of the schedule comes before what lacks of the table.
use Rattle.report.specs.declared.fault.Fault.TheVariants.{NoUplift}
use Rattle.uc_uplift.specs.inside.Picks.{IsUnpicked}
use Rattle.command_runs.proofs.HandedUp.{handed_up}
use Rattle.uc_uplift.proofs.uplifting.picked.Goals as goal

pub returns-in_err-printed-clause-refused : goal.returns-in_err-printed-clause-refused
returns-in_err-printed-clause-refused c =
    handed_up c.from_residual.result (NoUplift c.in_err-printed.field-0.0) (IsUnpicked c.args.cert.now c.args.number)
    c.from_residual.ensures.1 (c.in_err-printed.ensures.refused c.args.cert.now.tables c.args.number)

pub returns-in_err-table-clause-refused : goal.returns-in_err-table-clause-refused
returns-in_err-table-clause-refused c =
    handed_up c.from_residual-in_err-table.result c.in_err-table.field-0.0 (IsUnpicked c.args.cert.now c.args.number)
    c.from_residual-in_err-table.ensures.1
    (c.in_err-table.ensures.refused c.in_ok-printed.printed.now c.in_ok-printed.ensures.whole)
