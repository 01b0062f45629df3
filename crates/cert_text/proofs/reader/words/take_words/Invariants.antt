-- The words so far, and behind them those that are still read.
use Rattle.std.proofs.Common.{◌≡◌, ◌-◌}
use Rattle.cert_text.specs.inside.Forms.{words_at}
use Rattle.cert_text.proofs.Loops.{behind_words}
use Rattle.cert_text.proofs.reader.words.take_words.Given as goal

abbrev pub invariant-loop : goal.invariant-loop
invariant-loop g l = behind_words l.words.items (words_at (l.count - l.counter) (g.W.Word.form l.word) l.rest) ≡ words_at l.count (g.W.Word.form l.word) l.bytes
