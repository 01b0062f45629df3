use Rattle.decimal_json.specs.View.{view}
use Rattle.instance.specs.FirstFault.{start_row, rounded_start_row}
use Rattle.instance.proofs.Loops.{HasRead}
use Rattle.instance.proofs.reader.Reader.startup.Given as goal

abbrev pub invariant-loop-index : goal.invariant-loop-index
invariant-loop-index l = HasRead view (start_row l.initial.self.exact) rounded_start_row 2 l.initial.self l.self l.start_rows.items l.rows l.index
