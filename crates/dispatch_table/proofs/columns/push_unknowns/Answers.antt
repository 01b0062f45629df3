-- A column more.
use Rattle.std.proofs.Common.{map, refl, true}
use Rattle.dispatch_program.specs.Prelude.{Unknown, all}
use Rattle.dispatch_table.specs.Numbers.{column_of}
use Rattle.dispatch_table.proofs.Pushed.{map_push, push_picked}
use Rattle.dispatch_table.proofs.columns.push_unknowns.Goals as goal

pub loop-c-preserved : goal.loop-c-preserved
loop-c-preserved c =
    push_picked all Unknown (map column_of c.args.columns.now.items) (map column_of c.loop-c.columns.items) (map column_of c.push.new.self.items) c.loop-c.c true
    c.loop-c.invariant (map_push column_of c.loop-c.columns.items c.push.new.self.items _ c.in_ok-push.ensures.items) refl
