-- A sum over the indexes so far with the next term.
use Rattle.std.proofs.Common.{◌≡◌, ℕ, ◌+◌, ◌*◌, ◌<◌, ◌≤◌, ◌^◌, arith, ℤ, ◌+ℤ◌, to_z, of_z, unsigned_abs}
use Rattle.std.specs.Int.{w128}
use Rattle.uc_model.specs.Prelude.{sum_below}

-- the sum with the next term, and its size
pub record Added (n : ℕ) (f : ℕ → ℤ) (m : ℕ) (result : ℤ) : Type 0 where
  pub value : to_z w128 (of_z w128 result) ≡ sum_below (n + 1) f
  pub size : unsigned_abs (to_z w128 (of_z w128 result)) ≤ (n + 1) * m

pub added : (n : ℕ) (f : ℕ → ℤ) (total term result : ℤ) (m : ℕ) → total ≡ sum_below n f → term ≡ f n
    → result ≡ total +ℤ to_z w128 (of_z w128 term) → unsigned_abs total ≤ n * m → unsigned_abs term ≤ m → n * m + m < 2 ^ 127 → Added n f m result
added n f total term result m before now e most small fits = grind (arith, before, now, e, most, small, fits)
