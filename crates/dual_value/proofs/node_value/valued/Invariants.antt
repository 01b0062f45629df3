-- The units before g have their parts and patterns, and the memory is as it was.
use Rattle.std.proofs.Common.{◌≡◌}
use Rattle.dual_value.specs.Rooms.{keeps_ramps}
use Rattle.dual_value.proofs.ValuedUnits.{IsValuedTo}
use Rattle.dual_value.proofs.node_value.valued.Given as goal

abbrev pub invariant-loop-g : goal.invariant-loop-g
invariant-loop-g l = record {
  valued : IsValuedTo (keeps_ramps l.initial.room) l.instance l.node l.table l.g l.total l.parts.items l.patterns.items;
  scratch : l.scratch ≡ l.initial.scratch;
  room : l.room ≡ l.initial.room;
}
