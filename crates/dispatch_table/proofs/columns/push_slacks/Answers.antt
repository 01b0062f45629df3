-- A column more, where the rule has one.
use Rattle.std.proofs.Common.{map}
use Rattle.dispatch_program.specs.Prelude.{Slack, is_limit}
use Rattle.dispatch_table.specs.Numbers.{column_of, program_of}
use Rattle.dispatch_table.proofs.Pushed.{push_picked}
use Rattle.dispatch_table.proofs.columns.push_slacks.Goals as goal

pub loop-i-preserved : goal.loop-i-preserved
loop-i-preserved c =
    push_picked (is_limit (program_of c.args.numbers.now)) Slack (map column_of c.args.columns.now.items) (map column_of c.loop-i.columns.items)
    (map column_of c.push_where.new.columns.items) c.loop-i.i c.is_limit.result c.loop-i.invariant c.in_ok-push_where.ensures c.is_limit.ensures
