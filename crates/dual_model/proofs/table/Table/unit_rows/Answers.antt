-- The part between two units' places is the unit's rows.
use Rattle.std.proofs.Common.{◌≡◌, ℕ, ◌+◌, ◌-◌, ◌≤◌, List, take, drop, sym, ap, subst, ◌∙◌, add-one, arith}
use Rattle.dual_model.specs.Prelude.{PriceTable, RampRow, AreRising, row_of, rows_before}
use Rattle.dual_model.specs.Prices.{unit_rows as rows_of}
use Rattle.dual_model.proofs.UnitRows.{before-next, look_up, rising-part}
use Rattle.dual_model.proofs.table.Table.unit_rows.Goals as goal

-- the next unit's place is no earlier
in_order : (rows : List RampRow) (g start end : ℕ) → start ≡ rows_before rows g → end ≡ rows_before rows (g + 1) → start ≤ end
in_order rows g start end first next = omega (arith, before-next rows g, first, next ∙ ap (λ g. rows_before rows g) (add-one g))

part : (rows from : List RampRow) (g start end : ℕ) → start ≡ rows_before rows g → end ≡ rows_before rows (g + 1) → from ≡ rows
    → take (end - start) (drop start from) ≡ rows_of rows g
part rows from g start end first next same = grind (arith, first, next, same)

pub slice_bounds-result-count : goal.slice_bounds-result-count
slice_bounds-result-count c = in_order c.args.self.now.ramps c.args.g _ _ c.place-start.ensures.value c.place-end.ensures.value

pub slice_bounds-result-start : goal.slice_bounds-result-start
slice_bounds-result-start c = grind (arith, in_order, c)

pub returns-clause-look_up : goal.returns-clause-look_up
returns-clause-look_up c t =
    let rows = c.args.self.now.ramps in
    let view = ap (λ (table : PriceTable). table.ramps) c.self.view_is in
    let same = part rows _ c.args.g _ _ c.place-start.ensures.value c.place-end.ensures.value (c.as_slice.ensures ∙ view) in
    subst (λ found. row_of found c.args.g t ≡ row_of rows c.args.g t) (sym same)
    (look_up rows (subst AreRising view c.self.invariant.0.rising) c.args.g t)

pub returns-clause-rising : goal.returns-clause-rising
returns-clause-rising c = grind (arith, part, rising-part, c)
