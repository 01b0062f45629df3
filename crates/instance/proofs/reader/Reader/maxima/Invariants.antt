use Rattle.decimal_json.specs.View.{view}
use Rattle.instance.specs.FirstFault.{maximum_entry, rounded_value}
use Rattle.instance.proofs.Loops.{HasRead}
use Rattle.instance.proofs.reader.Reader.maxima.Given as goal

abbrev pub invariant-loop-index : goal.invariant-loop-index
invariant-loop-index l = HasRead view (maximum_entry l.initial.self.exact l.minimum) rounded_value 1 l.initial.self l.self l.powers.items l.entries l.index
