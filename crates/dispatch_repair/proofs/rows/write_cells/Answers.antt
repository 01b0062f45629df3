-- One more row is written.
use Rattle.std.proofs.Common.{[], ◌+◌, ◌*◌, ◌<◌, ◌≡◌, ◌-ℤ◌, length, arith, sym, subst, ◌∙◌, slice_set, w64, to_z, of_z}
use Rattle.std.proofs.lemmas.List.{length-map}
use Rattle.uc_model.proofs.Common.{narrow}
use Rattle.dispatch_repair.specs.Prelude.{MAX_POWER, rows_of}
use Rattle.dispatch_repair.specs.Amounts.{amount_at}
use Rattle.dispatch_repair.specs.inside.Rows.{cell_of, cells_with, list_of, reserve_of, row_at, with_power}
use Rattle.dispatch_repair.proofs.Listed.{listed_all}
use Rattle.dispatch_repair.proofs.RowsWritten.{IsWrittenSoFar, written_more, left_kept}
use Rattle.dispatch_repair.proofs.rows.write_cells.Goals as goal

pub write_cell-requires-clause-period : goal.write_cell-requires-clause-period
write_cell-requires-clause-period c = grind (arith, c)

pub loop-g-preserved : goal.loop-g-preserved
loop-g-preserved c =
    let amounts = c.args.amounts.now in
    let heads = c.args.heads.now in
    let need = to_z w64 (of_z w64 c.args.need) in
    let t = c.args.t in
    let g = c.loop-g.g in
    let old = rows_of c.args.rows.now.items in
    let rows = rows_of c.loop-g.rows.items in
    let written = rows_of c.write_cell.new.rows.items in
    let left = c.write_cell.new.left in
    let before = c.loop-g.invariant in
    let unit : g < length c.args.rows.now.items = subst (λ k. g < k) c.requires.units c.loop-g-test.true in
    let inside : g < length rows = subst (λ k. g < k) (sym (before.rows.count ∙ length-map c.args.rows.now.items _)) unit in
    let amount = narrow (amount_at amounts g) (2 * MAX_POWER) (c.requires.outputs g unit) (omega arith) in
    let head = narrow (amount_at heads g) (3 * MAX_POWER) (c.requires.ends g unit) (omega arith) in
    let was = to_z w64 c.loop-g.left-bits in
    let cell : written ≡ slice_set rows g (slice_set (row_at rows g) t (with_power (cell_of (row_at rows g) t) (amount_at amounts g)
    (reserve_of (amount_at amounts g) (amount_at heads g) was))) =
    c.write_cell.ensures.cell
    ∙ (λ i. slice_set rows g (slice_set (row_at rows g) t (with_power (cell_of (row_at rows g) t) (amount i) (reserve_of (amount i) (head i) was)))) in
    let rest : left ≡ was -ℤ reserve_of (amount_at amounts g) (amount_at heads g) was =
    c.write_cell.ensures.left ∙ (λ i. was -ℤ reserve_of (amount i) (head i) was) in
    let more : IsWrittenSoFar amounts heads need t (g + 1) old written left =
    written_more amounts heads need t g old rows written _ left inside (c.requires.outputs g unit) (c.requires.ends g unit) before cell rest in
    subst (IsWrittenSoFar amounts heads need t (g + 1) old written) (sym (left_kept (g + 1) left (omega (arith, unit, c.requires.few)) more.size)) more

pub returns : goal.returns
returns c =
    let old = rows_of c.args.rows.now.items in
    let row = cells_with (amount_at c.args.amounts.now) (amount_at c.args.heads.now) (to_z w64 (of_z w64 c.args.need)) c.args.t old in
    let count : length c.args.rows.now.items ≡ length old = sym (length-map c.args.rows.now.items _) in
    let whole : c.loop-g.g ≡ length c.args.rows.now.items = omega (arith, c.loop-g-test.false, c.loop-g.auto.g-end, c.requires.units) in
    let need = narrow c.args.need MAX_POWER c.requires.need (omega arith) in
    subst (λ n. rows_of c.loop-g.rows.items ≡ list_of n row) whole (listed_all [] row c.loop-g.g old (rows_of c.loop-g.rows.items) (whole ∙ count) c.loop-g.invariant.rows)
    ∙ (λ i. list_of (length c.args.rows.now.items) (cells_with (amount_at c.args.amounts.now) (amount_at c.args.heads.now) (need i) c.args.t old))
