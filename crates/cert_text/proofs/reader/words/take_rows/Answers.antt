-- A row more goes behind those that were read; where one stops, so do the rows.
use Rattle.std.proofs.Common.{◌∷◌, [], ◌++◌, ap, ◌∙◌}
use Rattle.std.proofs.lemmas.Result.{err_from_is_err_and}
use Rattle.cert_text.specs.inside.Forms.{row_at}
use Rattle.cert_text.specs.inside.Parts.{line_of, rows_of}
use Rattle.cert_text.proofs.Loops.{part_more, part_stops_as, parts_done}
use Rattle.cert_text.proofs.reader.words.take_rows.Goals as goal

pub returns-in_err-behind : goal.returns-in_err-behind
returns-in_err-behind g c =
    let p = err_from_is_err_and c.from_residual.result c.from_residual.ensures.1 in
    rw (p.1, p.2) (part_stops_as (line_of (row_at c.args.first.now c.args.periods (g.W.Word.form c.args.word.now))) c.loop.rows.items c.args.count c.loop.counter c.loop.rest.now
    c.in_err-behind.field-0.0 (rows_of c.args.first.now c.args.count c.args.periods (g.W.Word.form c.args.word.now) c.args.bytes.now) c.loop-test.true c.in_err-behind.ensures c.loop.invariant)

pub loop-preserved : goal.loop-preserved
loop-preserved g c =
    part_more (line_of (row_at c.args.first.now c.args.periods (g.W.Word.form c.args.word.now))) c.loop.rows.items _ c.args.count c.loop.counter c.loop.rest.now _ _ _ c.loop-test.true
    c.in_ok-behind.ensures (c.in_ok-push.ensures.items ∙ ap (λ row. c.loop.rows.items ++ row ∷ []) c.from_vec.ensures) c.loop.invariant

pub returns : goal.returns
returns g c = parts_done (line_of (row_at c.args.first.now c.args.periods (g.W.Word.form c.args.word.now))) c.loop.rows.items c.args.count c.loop.counter c.loop.rest.now _ c.loop-test.false c.loop.invariant
