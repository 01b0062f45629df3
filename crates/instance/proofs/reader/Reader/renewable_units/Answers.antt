use Rattle.std.proofs.Common.{ℕ, List}
use Rattle.decimal_json.specs.Value.{Value}
use Rattle.decimal_json.specs.View.{pair_view}
use Rattle.instance.specs.FirstFault.{renewable_member, rounded_renewable}
use Rattle.instance.specs.inside.Parts.{RENEWABLE_NUMBERS}
use Rattle.instance.proofs.Loops.{read_more}
use Rattle.instance.proofs.reader.Reader.renewable_units.Goals as goal

pub loop-record-preserved : goal.loop-record-preserved
loop-record-preserved c =
    read_more pair_view (λ exact. renewable_member exact c.args.periods) (λ (m : List ℕ × Value). rounded_renewable c.args.periods m.1) RENEWABLE_NUMBERS c.args.self.now c.loop-record.self c.renewable_unit.new.self c.loop-record.units.items c.push.new.self.items c.in-Ok.records.now c.loop-record.record-index _ _
    c.loop-record.invariant c.loop-record-test.true c.record-item.is c.in_ok-renewable_unit.ensures.read c.in_ok-renewable_unit.ensures.counted c.in_ok-push.ensures.items
