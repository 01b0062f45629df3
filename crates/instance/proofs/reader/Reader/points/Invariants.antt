use Rattle.std.proofs.Common.{◌≡◌}
use Rattle.decimal_json.specs.View.{view}
use Rattle.instance.specs.FirstFault.{point_row, last_output, rounded_point}
use Rattle.instance.proofs.Loops.{HasRead}
use Rattle.instance.proofs.reader.Reader.points.Given as goal

abbrev pub invariant-loop-index : goal.invariant-loop-index
invariant-loop-index l = record {
  so_far : HasRead view (point_row l.initial.self.exact) rounded_point 2 l.initial.self l.self l.points.items l.rows l.index;
  least : last_output l.points.items ≡ l.least;
}
