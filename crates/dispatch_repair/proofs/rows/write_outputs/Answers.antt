-- One more row is written.
use Rattle.std.proofs.Common.{◌≡◌, ◌<◌, ◌+◌, [], arith, length, slice_set, subst, sym, ◌∙◌}
use Rattle.std.proofs.lemmas.List.{length-map}
use Rattle.dispatch_repair.specs.Amounts.{amount_at}
use Rattle.dispatch_repair.specs.Prelude.{rows_of}
use Rattle.dispatch_repair.specs.inside.Rows.{list_of, outputs_with}
use Rattle.dispatch_repair.proofs.Listed.{IsListedTo, listed_all, listed_more}
use Rattle.dispatch_repair.proofs.rows.write_outputs.Goals as goal

pub loop-w-preserved : goal.loop-w-preserved
loop-w-preserved c =
    let old = rows_of c.args.rows.now.items in
    let rows = rows_of c.loop-w.rows.items in
    let row = outputs_with (amount_at c.args.amounts.now) c.args.t old in
    let before = c.loop-w.invariant in
    let w = c.loop-w.w in
    let inside : w < length rows = subst (λ k. w < k) (c.requires.units ∙ sym (before.count ∙ length-map c.args.rows.now.items _)) c.loop-w-test.true in
    subst (IsListedTo [] row (w + 1) old) (sym (c.set_at.ensures ∙ (λ i. slice_set rows w (slice_set (before.rest w (omega arith) i) c.args.t (amount_at c.args.amounts.now w)))))
    (listed_more [] row w old rows inside before)

pub returns : goal.returns
returns c =
    let old = rows_of c.args.rows.now.items in
    let row = outputs_with (amount_at c.args.amounts.now) c.args.t old in
    let count : length c.args.rows.now.items ≡ length old = sym (length-map c.args.rows.now.items _) in
    let whole : c.loop-w.w ≡ length c.args.rows.now.items = omega (arith, c.loop-w-test.false, c.loop-w.auto.w-end, c.requires.units) in
    subst (λ n. rows_of c.loop-w.rows.items ≡ list_of n row) whole (listed_all [] row c.loop-w.w old (rows_of c.loop-w.rows.items) (whole ∙ count) c.loop-w.invariant)
