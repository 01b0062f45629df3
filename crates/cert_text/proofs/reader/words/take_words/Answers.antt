-- A word more goes behind those that were read; where one is missing, the words don't stand there.
use Rattle.std.proofs.Common.{arith, ◌∷◌, []}
use Rattle.cert_text.specs.inside.Forms.{after}
use Rattle.cert_text.proofs.Loops.{after_text, no_text, word_more, no_word, words_done}
use Rattle.cert_text.proofs.reader.words.take_words.Goals as goal

pub returns-in_default : goal.returns-in_default
returns-in_default g c = grind (arith, no_word, no_text, g, c)

pub returns-in_default-take : goal.returns-in_default-take
returns-in_default-take g c = grind (arith, no_word, after_text, g, c)

pub loop-preserved : goal.loop-preserved
loop-preserved g c =
    word_more (after (32 ∷ []) (g.W.Word.form c.args.word.now)) c.loop.words.items _ c.args.count c.loop.counter c.loop.rest.now _ _ _ c.loop-test.true
    (after_text (32 ∷ []) (g.W.Word.form c.args.word.now) c.loop.rest.now c.in-Some.behind.now _ c.in-Some.ensures c.in-Some-take.ensures) c.in_ok-push.ensures.items c.loop.invariant

pub returns : goal.returns
returns g c = words_done (after (32 ∷ []) (g.W.Word.form c.args.word.now)) c.loop.words.items c.args.count c.loop.counter c.loop.rest.now _ c.loop-test.false c.loop.invariant
