-- The rows so far, and behind them those that are still read.
use Rattle.std.proofs.Common.{◌≡◌, ◌-◌, None}
use Rattle.cert_text.specs.inside.Parts.{ramp_rows_part, sizes}
use Rattle.cert_text.proofs.Loops.{behind_parts}
use Rattle.cert_text.proofs.reader.table.take_ramp_rows.Given as goal

abbrev pub invariant-loop : goal.invariant-loop
invariant-loop l = behind_parts l.rows.items (ramp_rows_part (sizes l.size) (l.count - l.counter) l.before l.rest) ≡ ramp_rows_part (sizes l.size) l.count None l.bytes
