-- One period more.
use Rattle.std.proofs.Common.{◌≡◌, ℕ, ◌+◌, ◌<◌, ◌≢◌, ⊎_elim, List, length, add-one, arith, sym, subst, ℤ, get_or-set_other, get_or-set_same, slice_set, length-set}
use Rattle.dual_model.specs.Prelude.{row_at}
use Rattle.ramp_duals.specs.RampRows.{Table, AreOf, IsRowOf}
use Rattle.ramp_duals.proofs.PriceSizes.{row-size}
use Rattle.ramp_duals.proofs.prices.fill.Goals as goal

more_rows : (table : Table) (g t : ℕ) (rows : List (ℤ × ℤ × ℤ)) (row : ℤ × ℤ × ℤ) → t < length rows → IsRowOf table g t row
    → ((k : ℕ) → k < t → IsRowOf table g k (row_at rows k))
    → (k : ℕ) → k < t + 1 → IsRowOf table g k (row_at (slice_set rows t row) k)
more_rows table g t rows row inside is before k h =
    ⊎_elim
    (λ (earlier : k < t). let other : k ≢ t = omega arith in rw get_or-set_other (before k earlier))
    (λ (here : k ≡ t).
    subst (λ j. IsRowOf table g j (row_at (slice_set rows t row) j)) (sym here) (rw get_or-set_same is))
    (grind arith)

pub loop-t-preserved : goal.loop-t-preserved
loop-t-preserved c =
    let so_far = c.loop-t.invariant in
    let next = subst (λ k. AreOf c.unit_rows-ramps.result.now c.args.g k c.following-next.result) (sym (add-one c.loop-t.t)) c.following-next.ensures in (
      next,
      rw length-set so_far.1,
      more_rows c.args.table.now c.args.g c.loop-t.t c.loop-t.rows c.row.result (omega (arith, c.loop-t-test.true, so_far.1)) c.row.ensures so_far.2,
    )

pub returns-clause-size : goal.returns-clause-size
returns-clause-size c limits t h =
    row-size c.args.table.now limits c.args.g t _ (c.loop-t.invariant.2 t (omega (arith, c.loop-t-test.false, c.loop-t.invariant.1)))
