use Rattle.decimal_json.specs.View.{view}
use Rattle.instance.specs.FirstFault.{power_entry, rounded_value}
use Rattle.instance.proofs.Loops.{HasRead}
use Rattle.instance.proofs.reader.Reader.powers.Given as goal

abbrev pub invariant-loop-index : goal.invariant-loop-index
invariant-loop-index l = HasRead view (power_entry l.initial.self.exact l.field) rounded_value 1 l.initial.self l.self l.powers.items l.entries l.index
