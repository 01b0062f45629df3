-- The rows so far, and behind them those that are still read.
use Rattle.std.proofs.Common.{◌≡◌, ◌-◌}
use Rattle.cert_text.specs.inside.Parts.{rows_of}
use Rattle.cert_text.proofs.Loops.{behind_parts}
use Rattle.cert_text.proofs.reader.words.take_rows.Given as goal

abbrev pub invariant-loop : goal.invariant-loop
invariant-loop g l = behind_parts l.rows.items (rows_of l.first (l.count - l.counter) l.periods (g.W.Word.form l.word) l.rest) ≡ rows_of l.first l.count l.periods (g.W.Word.form l.word) l.bytes
