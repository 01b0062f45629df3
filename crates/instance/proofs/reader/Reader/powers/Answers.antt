use Rattle.std.proofs.Common.{arith}
use Rattle.std.proofs.lemmas.Grind.{common_steps}
use Rattle.decimal_json.specs.View.{view}
use Rattle.instance.specs.FirstFault.{power_entry, rounded_value}
use Rattle.instance.proofs.Loops.{read_more}
use Rattle.instance.proofs.reader.Reader.powers.Goals as goal

pub loop-index-preserved : goal.loop-index-preserved
loop-index-preserved c =
    read_more view (λ exact. power_entry exact c.args.field) rounded_value 1 c.args.self.now c.loop-index.self c.amount.new.self c.loop-index.powers.items c.push.new.self.items c.in_ok-entries.entries.now c.loop-index.index _ _
    c.loop-index.invariant c.loop-index-test.true c.index-entries-index.is (grind (arith, common_steps)) c.in_ok-amount.ensures.counted c.in_ok-push.ensures.items
