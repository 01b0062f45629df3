-- The periods so far are filled.
use Rattle.std.proofs.Common.{◌≡◌, None, length}
use Rattle.dispatch_repair.specs.Prelude.{IsRoomOf}
use Rattle.decommitment.specs.inside.Runs.{AreFills, instance_of, order_of}
use Rattle.decommitment.proofs.run.fill_periods.Given as goal

abbrev pub invariant-loop-t : goal.invariant-loop-t
invariant-loop-t l = record {
  costs : l.run.costs ≡ l.initial.run.costs;
  edge : l.run.edge ≡ None;
  room : IsRoomOf (instance_of l.setting) l.run.room;
  count : length l.run.fills.items ≡ l.t;
  fills : AreFills (instance_of l.setting) (order_of l.setting) l.patterns l.setting.start.now l.run.fills.items;
}
