-- The kind of value is that of the room.
use Rattle.std.proofs.Common.{arith, IfOk, sym, subst}
use Rattle.dual_value.specs.NodeAnswer.{IsValuedOf}
use Rattle.dual_value.specs.Rooms.{IsRoomFor}
use Rattle.dual_value.proofs.node_value.value_in.Goals as goal

pub valued-requires-clause-room : goal.valued-requires-clause-room
valued-requires-clause-room c = subst (λ b. IsRoomFor b c.args.instance.now c.args.room.now) (sym c.requires.room.kind) c.requires.room

pub returns-clause-value : goal.returns-clause-value
returns-clause-value c =
    subst (λ b. IfOk c.valued.result (IsValuedOf b c.args.instance.now c.args.node.now c.args.table.now)) c.requires.room.kind c.valued.ensures.value

pub returns-clause-fault : goal.returns-clause-fault
returns-clause-fault c = grind (arith, c)
