-- The rows of cells, as a period is written into them.
use Rattle.std.proofs.Common.{◌≡◌, ℕ, suc, ◌+◌, ◌*◌, ◌<◌, ◌≤◌, length, sym, ap, subst, ◌∙◌, arith, List, [], ℤ, pos, ◌+ℤ◌, ◌-ℤ◌, ◌≤ℤ◌, slice_set}
use Rattle.std.specs.Int.{int_min, int_max}
use Rattle.std.proofs.lemmas.Int.{ints, clamps, to_z-of_z}
use mir.Syntax.{w64}
use mir.Val.{SFits, to_z, of_z}
use Rattle.uc_model.specs.declared.limits.TheConstants.{MAX_POWER, MAX_UNITS}
use Rattle.uc_model.proofs.Common.{linear, within_of_abs, abs_of_within, narrow}
use Rattle.dispatch_repair.specs.Prelude.{IsSizedOutput, IsSizedEnd}
use Rattle.dispatch_repair.specs.Amounts.{amount_at}
use Rattle.dispatch_repair.specs.inside.Rows.{Cell, IsLeft, cell_of, cells_with, given, reserve_of, row_at, with_power}
use Rattle.dispatch_repair.proofs.Listed.{IsListedTo, listed_more}

-- ---- numbers that fit
-- the most that is ever left to give
abbrev most_left : ℕ
most_left = MAX_POWER + MAX_UNITS * (5 * MAX_POWER)

fits : (z : ℤ) → pos 0 ≤ℤ (z +ℤ pos most_left) → z ≤ℤ pos most_left → SFits w64 z
fits z low high = grind (arith, ints, low, high)

left_fits : (left : ℤ) → IsLeft MAX_UNITS left → SFits w64 left
left_fits left is = fits left (omega (arith, linear, is.low)) is.high

-- a reserve, as the code computes it
pub reserve_is : (output end left most least : ℤ) → IsSizedOutput output → IsSizedEnd end → IsLeft MAX_UNITS left
    → most ≡ int_max (to_z w64 (of_z w64 left)) (pos 0)
    → least ≡ int_min (to_z w64 (of_z w64 (to_z w64 (of_z w64 end) -ℤ to_z w64 (of_z w64 output)))) (to_z w64 (of_z w64 most))
    → to_z w64 (of_z w64 least) ≡ reserve_of output end left
reserve_is output end left most least sized_output sized_end is_left is_most is_least =
    let o = within_of_abs output (2 * MAX_POWER) sized_output in
    let e = within_of_abs end (3 * MAX_POWER) sized_end in
    let most_is : most ≡ int_max left (pos 0) = rw (to_z-of_z w64 left (left_fits left is_left)) at is_most in
    let most_fits : SFits w64 most =
    fits most (omega (arith, ints, clamps, is_left.low, is_left.high)) (omega (arith, ints, clamps, is_left.low, is_left.high)) in
    let least_is : least ≡ int_min (end -ℤ output) most =
    rw (
      to_z-of_z w64 end (fits end (omega (arith, linear)) (omega (arith, linear))),
      to_z-of_z w64 output (fits output (omega (arith, linear)) (omega (arith, linear))),
      to_z-of_z w64 (end -ℤ output) (fits (end -ℤ output) (omega (arith, linear)) (omega (arith, linear))),
      to_z-of_z w64 most most_fits,
    ) at is_least in
    to_z-of_z w64 least (fits least (omega (arith, ints, clamps, is_left.low, is_left.high)) (omega (arith, ints, clamps, is_left.low, is_left.high)))
    ∙ least_is ∙ ap (int_min (end -ℤ output)) most_is

-- ---- what is left to give
left_within : (n : ℕ) (left : ℤ) → n ≤ MAX_UNITS → IsLeft n left → IsLeft MAX_UNITS left
left_within n left h before = record { low = before.low; high = omega (arith, linear, before.high) }

-- what is left, as the code keeps it
pub left_kept : (n : ℕ) (left : ℤ) → n ≤ MAX_UNITS → IsLeft n left → to_z w64 (of_z w64 left) ≡ left
left_kept n left h is = to_z-of_z w64 left (left_fits left (left_within n left h is))

left_more : (n : ℕ) (left output end : ℤ) → IsLeft n left → IsSizedOutput output → IsSizedEnd end
    → IsLeft (suc n) (left -ℤ reserve_of output end left)
left_more n left output end before sized_output sized_end =
    let o = within_of_abs output (2 * MAX_POWER) sized_output in
    let e = within_of_abs end (3 * MAX_POWER) sized_end in
    record { low = omega (arith, ints, clamps, before.low); high = omega (arith, ints, clamps, before.high, o.low, o.high, e.low, e.high) }

-- what is left where a reserve is taken of it
pub left_taken : (left output end : ℤ) → IsLeft MAX_UNITS left → IsSizedOutput output → IsSizedEnd end
    → to_z w64 (of_z w64 (left -ℤ reserve_of output end left)) ≡ left -ℤ reserve_of output end left
left_taken left output end is sized_output sized_end = grind (arith, ints, left_more, abs_of_within, narrow, is, sized_output, sized_end)

-- ---- the rows so far
-- the first n rows are written, and what is left is the need without their reserves
pub record IsWrittenSoFar (amounts heads : List ℤ) (need : ℤ) (t n : ℕ) (old now : List (List Cell)) (left : ℤ) : Type 0 where
  pub rows : IsListedTo [] (cells_with (amount_at amounts) (amount_at heads) need t old) n old now
  pub size : IsLeft n left
  pub unmet : left ≡ need -ℤ given (amount_at amounts) (amount_at heads) need n

-- one more row is written
pub written_more : (amounts heads : List ℤ) (need : ℤ) (t n : ℕ) (old rows now : List (List Cell)) (left remaining : ℤ) → n < length rows
    → IsSizedOutput (amount_at amounts n) → IsSizedEnd (amount_at heads n) → IsWrittenSoFar amounts heads need t n old rows left
    → now ≡ slice_set rows n (slice_set (row_at rows n) t (with_power (cell_of (row_at rows n) t) (amount_at amounts n) (reserve_of (amount_at amounts n) (amount_at heads n) left)))
    → remaining ≡ left -ℤ reserve_of (amount_at amounts n) (amount_at heads n) left → IsWrittenSoFar amounts heads need t (n + 1) old now remaining
written_more amounts heads need t n old rows now left remaining inside sized_output sized_end was is is_remaining =
    let row = was.rows.rest n (omega arith) in
    let same = is ∙ (λ i. slice_set rows n (slice_set (row i) t (with_power (cell_of (row i) t) (amount_at amounts n)
    (reserve_of (amount_at amounts n) (amount_at heads n) (was.unmet i))))) in
    record {
      rows = subst (IsListedTo [] (cells_with (amount_at amounts) (amount_at heads) need t old) (n + 1) old) (sym same)
          (listed_more [] (cells_with (amount_at amounts) (amount_at heads) need t old) n old rows inside was.rows);
      size = subst (λ k. IsLeft k remaining) (suc_is n)
          (subst (IsLeft (suc n)) (sym is_remaining) (left_more n left (amount_at amounts n) (amount_at heads n) was.size sized_output sized_end));
      unmet = subst (λ k. remaining ≡ need -ℤ given (amount_at amounts) (amount_at heads) need k) (suc_is n)
          (is_remaining ∙ (λ i. was.unmet i -ℤ reserve_of (amount_at amounts n) (amount_at heads n) (was.unmet i))
          ∙ taken need (given (amount_at amounts) (amount_at heads) need n) _);
    }
  where
    suc_is : (m : ℕ) → suc m ≡ m + 1
    suc_is m = omega arith

    taken : (whole first more : ℤ) → (whole -ℤ first) -ℤ more ≡ whole -ℤ (first +ℤ more)
    taken whole first more = omega (arith, linear)
