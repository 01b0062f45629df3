use Rattle.std.proofs.Common.{arith}
use Rattle.std.proofs.lemmas.Grind.{common_steps}
use Rattle.decimal_json.specs.View.{view}
use Rattle.instance.specs.FirstFault.{maximum_entry, rounded_value}
use Rattle.instance.proofs.Loops.{read_more}
use Rattle.instance.proofs.reader.Reader.maxima.Goals as goal

pub loop-index-preserved : goal.loop-index-preserved
loop-index-preserved c =
    read_more view (λ exact. maximum_entry exact c.args.minimum.now) rounded_value 1 c.args.self.now c.loop-index.self c.power_from.new.self c.loop-index.powers.items c.push.new.self.items c.in_ok-entries.entries.now c.loop-index.index _ _
    c.loop-index.invariant c.loop-index-test.true c.index-entries-index.is (grind (arith, common_steps)) c.in_ok-power_from.ensures.counted c.in_ok-push.ensures.items
