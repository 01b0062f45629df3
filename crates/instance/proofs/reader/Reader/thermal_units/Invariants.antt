use Rattle.std.proofs.Common.{ℕ, List}
use Rattle.decimal_json.specs.Value.{Value}
use Rattle.decimal_json.specs.View.{pair_view}
use Rattle.instance.specs.FirstFault.{thermal_member, rounded_thermal}
use Rattle.instance.specs.inside.Parts.{THERMAL_NUMBERS}
use Rattle.instance.proofs.Loops.{HasRead}
use Rattle.instance.proofs.reader.Reader.thermal_units.Given as goal

abbrev pub invariant-loop-record : goal.invariant-loop-record
invariant-loop-record l = HasRead pair_view (thermal_member l.initial.self.exact) (λ (m : List ℕ × Value). rounded_thermal m.1) THERMAL_NUMBERS l.initial.self l.self l.units.items l.records l.record-index
