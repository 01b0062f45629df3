use Rattle.std.proofs.Common.{ℕ, List}
use Rattle.decimal_json.specs.Value.{Value}
use Rattle.decimal_json.specs.View.{pair_view}
use Rattle.instance.specs.FirstFault.{thermal_member, rounded_thermal}
use Rattle.instance.specs.inside.Parts.{THERMAL_NUMBERS}
use Rattle.instance.proofs.Loops.{read_more}
use Rattle.instance.proofs.reader.Reader.thermal_units.Goals as goal

pub loop-record-preserved : goal.loop-record-preserved
loop-record-preserved c =
    read_more pair_view thermal_member (λ (m : List ℕ × Value). rounded_thermal m.1) THERMAL_NUMBERS c.args.self.now c.loop-record.self c.thermal_unit.new.self c.loop-record.units.items c.push.new.self.items c.in-Ok.records.now c.loop-record.record-index _ _
    c.loop-record.invariant c.loop-record-test.true c.record-item.is c.in_ok-thermal_unit.ensures.read c.in_ok-thermal_unit.ensures.counted c.in_ok-push.ensures.items
