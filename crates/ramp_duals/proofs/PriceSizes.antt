-- How large the prices of a unit are where the table's numbers are within the limits.
use Rattle.std.proofs.Common.{ℕ, suc, ◌≤◌, sym, subst, arith, ℤ, pos, unsigned_abs}
use Rattle.std.proofs.lemmas.Int.{ints}
use Rattle.dual_model.specs.Prelude.{row_of, IsPrice, IsRowPriced, IsWithinLimits, IsLawfulRow, output_price, reserve_price}
use Rattle.dual_model.specs.declared.limits.TheConstants.{MAX_UNIT_PRICE}
use Rattle.dual_model.proofs.Multipliers.{look_up, row_of_each}
use Rattle.ramp_duals.specs.RampRows.{Table, IsRowOf}

pub priced_at : (table : Table) → IsWithinLimits table → (g t : ℕ) → IsRowPriced (row_of table.ramps g t)
priced_at table limits g t = row_of_each IsRowPriced table.ramps g t limits.ramps (record { up = omega arith; down = omega arith })

pub output-size : (table : Table) → IsWithinLimits table → (g t : ℕ) → unsigned_abs (output_price table g t) ≤ MAX_UNIT_PRICE
output-size table limits g t =
    let now = priced_at table limits g t in
    let next = priced_at table limits g (suc t) in
    omega (arith, ints, now.up, look_up IsPrice table.pi (pos 0) t limits.pi (omega arith), next.up, now.down, next.down)

pub reserve-size : (table : Table) → IsWithinLimits table → (g t : ℕ) → unsigned_abs (reserve_price table g t) ≤ MAX_UNIT_PRICE
reserve-size table limits g t =
    omega (arith, ints, (priced_at table limits g t).up, look_up IsPrice table.mu (pos 0) t limits.mu (omega arith))

pub row-size : (table : Table) → IsWithinLimits table → (g t : ℕ) (row : ℤ × ℤ × ℤ) → IsRowOf table g t row → IsLawfulRow row
row-size table limits g t row is = record {
  output = subst (λ x. unsigned_abs x ≤ MAX_UNIT_PRICE) (sym is.output) (output-size table limits g t);
  reserve = subst (λ x. unsigned_abs x ≤ MAX_UNIT_PRICE) (sym is.reserve) (reserve-size table limits g t);
  demand = subst (λ x. unsigned_abs x ≤ MAX_UNIT_PRICE) (sym is.demand) (omega (arith, ints, look_up IsPrice table.pi (pos 0) t limits.pi (omega arith)));
}
