-- The row at the cell's place is the cell's, or no row is.
use Rattle.std.proofs.Common.{◌≡◌, sym, ap, ◌∙◌, add-one, arith, to_z, of_z, w64, IsTrue}
use Rattle.std.proofs.lemmas.Int.{to_z-of_z}
use Rattle.dual_model.specs.Prelude.{row_of}
use Rattle.ramp_duals.specs.RampRows.{RampRow, row_in}
use Rattle.ramp_duals.proofs.RowOrder.{IsOf, earlier_none, next_place, none_at, row_of-first, row_of-none, same_place}
use Rattle.ramp_duals.proofs.multipliers.from_place.Goals as goal
use Rattle.ramp_duals.proofs.multipliers.from_place.Goals.{else-place-rows-via-then-place-rows+else-is_of, else-place-rows-via-else-place-rows}

pub returns-then-is_of : goal.returns-then-is_of
returns-then-is_of c =
    let rows = c.args.rows.now in
    let place = c.args.place in
    let here : IsTrue (IsOf (row_in rows place) c.args.g c.args.t) = sym c.is_of.ensures ∙ c.if-is_of.true in
    let found : row_of rows c.args.g c.args.t ≡ row_in rows place =
    row_of-first rows c.args.g c.args.t place c.if-place-rows.true (earlier_none rows c.args.g c.args.t place c.requires.place) here in
    let up : to_z w64 (of_z w64 (row_in rows place).up) ≡ (row_in rows place).up = grind (arith, to_z-of_z) in
    let down : to_z w64 (of_z w64 (row_in rows place).down) ≡ (row_in rows place).down = grind (arith, to_z-of_z) in
    record {
      up = up ∙ ap (λ (row : RampRow). row.up) (sym found);
      down = down ∙ ap (λ (row : RampRow). row.down) (sym found);
      next = next_place rows c.requires.rising c.args.g c.args.t place _ (add-one place) c.requires.place c.if-place-rows.true here;
    }

pub returns-else-place-rows : goal.returns-else-place-rows
returns-else-place-rows c =
    grind (arith, row_of-none, none_at, same_place, else-place-rows-via-then-place-rows+else-is_of, else-place-rows-via-else-place-rows, c)
