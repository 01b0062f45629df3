-- What the units so far gain, whatever the node that the entries are for, and its size.
use Rattle.std.proofs.Common.{◌≡◌, ◌+◌, ◌*◌, ◌≤◌, unsigned_abs}
use Rattle.leaf_values.specs.Entries.{AreEntriesOf, MAX_NODE_VALUE}
use Rattle.leaf_values.specs.ExactRooms.{IsRoomOf}
use Rattle.leaf_values.specs.Paths.{Node}
use Rattle.leaf_values.specs.inside.ExactTotals.{AreDecided, IsGained, MAX_PART}
use Rattle.leaf_values.proofs.exact.reaches_from.Given as goal

abbrev pub invariant-loop-g : goal.invariant-loop-g
invariant-loop-g l = record {
  room : IsRoomOf l.instance l.room;
  entries : AreEntriesOf l.instance l.table l.entries;
  units : l.entries.units ≡ l.initial.entries.units;
  sum : (node : Node) → AreDecided l.instance node l.initial.entries.units.items → IsGained l.instance l.table node l.plain l.g l.total;
  size : unsigned_abs l.total ≤ MAX_NODE_VALUE + l.g * (2 * MAX_PART);
}
