-- The units so far are reckoned for their fixes; the others are as before.
use Rattle.std.proofs.Common.{◌≡◌}
use Rattle.leaf_values.specs.inside.Totals.{AreReckonedFor}
use Rattle.leaf_values.proofs.Reckoned.{AreKept}
use Rattle.leaf_values.proofs.node_value.reckon_each.Given as goal

abbrev pub invariant-loop-g : goal.invariant-loop-g
invariant-loop-g l = record {
  units : AreReckonedFor l.instance l.fixes l.g l.initial.units l.units;
  others : AreKept l.g l.initial.units l.units;
  room : l.walk ≡ l.instance.periods;
}
