use Rattle.decimal_json.specs.View.{view}
use Rattle.instance.specs.FirstFault.{start_row, rounded_start_row}
use Rattle.instance.proofs.Loops.{read_more}
use Rattle.instance.proofs.reader.Reader.startup.Goals as goal

pub loop-index-preserved : goal.loop-index-preserved
loop-index-preserved c =
    read_more view start_row rounded_start_row 2 c.args.self.now c.loop-index.self c.start_row.new.self c.loop-index.start_rows.items c.push.new.self.items c.in_ok-rows.rows.now c.loop-index.index _ _
    c.loop-index.invariant c.loop-index-test.true c.index-rows-index.is (c.in_ok-start_row.ensures.read c.loop-index.start_rows.items c.loop-index.invariant.count) c.in_ok-start_row.ensures.counted c.in_ok-push.ensures.items
