use Rattle.std.proofs.Common.{ℕ, List}
use Rattle.decimal_json.specs.Value.{Value}
use Rattle.decimal_json.specs.View.{pair_view}
use Rattle.instance.specs.FirstFault.{renewable_member, rounded_renewable}
use Rattle.instance.specs.inside.Parts.{RENEWABLE_NUMBERS}
use Rattle.instance.proofs.Loops.{HasRead}
use Rattle.instance.proofs.reader.Reader.renewable_units.Given as goal

abbrev pub invariant-loop-record : goal.invariant-loop-record
invariant-loop-record l = HasRead pair_view (renewable_member l.initial.self.exact l.periods) (λ (m : List ℕ × Value). rounded_renewable l.periods m.1) RENEWABLE_NUMBERS l.initial.self l.self l.units.items l.records l.record-index
