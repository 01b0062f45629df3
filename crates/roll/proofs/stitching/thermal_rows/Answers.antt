-- The next row.
use Rattle.std.proofs.Common.{List, ◌≡◌, ◌+◌, [], sym, subst, ◌∙◌, arith}
use Rattle.std.proofs.lemmas.List.{get_or_read}
use Rattle.uc_model.specs.Prelude.{no_unit}
use Rattle.roll.specs.Prelude.{Cell}
use Rattle.roll.specs.inside.Joined.{AreStitchedRows, IsStitchedRow}
use Rattle.roll.specs.inside.Rows.{row_at, unit_at}
use Rattle.roll.proofs.StitchedParts.{rows_more}
use Rattle.roll.proofs.stitching.thermal_rows.Goals as goal

pub stitched_row-requires-clause-lawful : goal.stitched_row-requires-clause-lawful
stitched_row-requires-clause-lawful c = grind (arith, get_or_read, c)

pub loop-g-preserved : goal.loop-g-preserved
loop-g-preserved c =
    let keep = c.args.keep in
    let unit : c.index-units-g.result ≡ unit_at c.args.units.now c.loop-g.g =
    get_or_read c.args.units.now c.loop-g.g c.index-units-g.result c.loop-g-test.true c.index-units-g.is no_unit in
    let old : c.as_slice-old.result.now ≡ row_at c.args.kept.now c.loop-g.g = c.as_slice-old.ensures
    ∙ get_or_read c.args.kept.now c.loop-g.g c.index-kept-g.result (omega (arith, c.requires.rows.kept_count, c.loop-g-test.true)) c.index-kept-g.is [] in
    let more : c.as_slice-more.result.now ≡ row_at c.args.new.now c.loop-g.g = c.as_slice-more.ensures
    ∙ get_or_read c.args.new.now c.loop-g.g c.index-new-g.result (omega (arith, c.requires.rows.new_count, c.loop-g-test.true)) c.index-new-g.is [] in
    let row = c.in_ok-stitched_row.field-0 in
    let here : IsStitchedRow (unit_at c.args.units.now c.loop-g.g) (row_at c.args.kept.now c.loop-g.g) (row_at c.args.new.now c.loop-g.g) keep row =
    subst (λ u. IsStitchedRow u (row_at c.args.kept.now c.loop-g.g) (row_at c.args.new.now c.loop-g.g) keep row) unit
    (subst (λ o. IsStitchedRow c.index-units-g.result o (row_at c.args.new.now c.loop-g.g) keep row) old
    (subst (λ m. IsStitchedRow c.index-units-g.result c.as_slice-old.result.now m keep row) more c.in_ok-stitched_row.ensures)) in
    subst (AreStitchedRows c.args.units.now c.args.kept.now c.args.new.now keep (c.loop-g.g + 1)) (sym {A = List (List Cell)} c.in_ok-push.ensures.items)
    (rows_more c.args.units.now c.args.kept.now c.args.new.now keep c.loop-g.g c.loop-g.rows.items row c.loop-g.invariant here)
