use Rattle.std.proofs.Common.{ap, sym, ◌∙◌, rules}
use Rattle.std.specs.Int.{w64}
use Rattle.std.proofs.lemmas.Int.{to_z-of_z}
use Rattle.decimal_json.specs.View.{view}
use Rattle.instance.specs.FirstFault.{point_row, last_output, rounded_point}
use Rattle.instance.proofs.Loops.{read_more, last_of}
use Rattle.instance.proofs.reader.Reader.points.Goals as goal

pub loop-index-preserved : goal.loop-index-preserved
loop-index-preserved c = record {
  so_far = read_more view point_row rounded_point 2 c.args.self.now c.loop-index.self c.point.new.self c.loop-index.points.items c.push.new.self.items c.in_ok-rows.rows.now c.loop-index.index _ _
      c.loop-index.invariant.so_far c.loop-index-test.true c.index-rows-index.is
      (c.in_ok-point.ensures.read c.loop-index.points.items c.loop-index.invariant.so_far.count c.loop-index.invariant.least) c.in_ok-point.ensures.counted c.in_ok-push.ensures.items;
  least = ap last_output c.in_ok-push.ensures.items ∙ last_of c.loop-index.points.items _ ∙ sym (to_z-of_z w64 c.in_ok-point.point.mw (search rules));
}
