-- One unit more, and how large the drawn numbers and their sums are.
use Rattle.std.proofs.Common.{◌≡◌, ℕ, zero, suc, ◌+◌, ◌*◌, ◌<◌, ◌≤◌, [], ◌∷◌, ◌++◌, length, refl, ap, ◌∙◌, arith, slice_index_or}
use Rattle.std.proofs.lemmas.List.FromFn.{get_or-map-range_with_len, length-map-range_with_len, map-range_with_len_more, sum_by-map-range_with_len_more}
use Rattle.uc_model.specs.Prelude.{no_unit}
use Rattle.demo_gen.specs.Demo.{first_units, minimum_sum, numbers_from, range_sum, state_after, unit_numbers, unit_of}
use Rattle.demo_gen.specs.inside.Bounds.{IsSmall}

-- ---- no unit, and one more
seven : (g : ℕ) → 7 * (g + 1) ≡ suc (suc (suc (suc (suc (suc (suc (7 * g)))))))
seven g = omega arith

pub units-none : (seed : ℕ) → [] ≡ first_units seed 0
unfolding first_units
units-none seed = refl

pub minimum-none : (seed : ℕ) → 0 ≡ minimum_sum seed 0
unfolding minimum_sum
minimum-none seed = refl

pub range-none : (seed : ℕ) → 0 ≡ range_sum seed 0
unfolding range_sum
range-none seed = refl

pub state-more : (seed g : ℕ) → state_after seed (7 * (g + 1)) ≡ state_after (state_after seed (7 * g)) 7
state-more seed g = ap (state_after seed) (seven g)

pub units-more : (seed g : ℕ) → first_units seed (g + 1) ≡ first_units seed g ++ unit_of g (unit_numbers seed g) ∷ []
unfolding first_units
units-more seed g = map-range_with_len_more (λ i. unit_of i (unit_numbers seed i)) 0 g g (omega arith)

pub minimum-more : (seed g : ℕ) → minimum_sum seed (g + 1) ≡ minimum_sum seed g + (unit_numbers seed g).minimum
unfolding minimum_sum
minimum-more seed g = sum_by-map-range_with_len_more (λ x. x) (λ i. (unit_numbers seed i).minimum) 0 g g (omega arith)

pub range-more : (seed g : ℕ) → range_sum seed (g + 1) ≡ range_sum seed g + (unit_numbers seed g).range
unfolding range_sum
range-more seed g = sum_by-map-range_with_len_more (λ x. x) (λ i. (unit_numbers seed i).range) 0 g g (omega arith)

-- ---- the units by their places
pub units-count : (seed n : ℕ) → length (first_units seed n) ≡ n
unfolding first_units
units-count seed n = length-map-range_with_len (λ i. unit_of i (unit_numbers seed i)) 0 n

pub units-at : (seed n g : ℕ) → g < n → slice_index_or (first_units seed n) g no_unit ≡ unit_of g (unit_numbers seed g)
unfolding first_units
units-at seed n g h = get_or-map-range_with_len (λ i. unit_of i (unit_numbers seed i)) 0 n g g no_unit h (omega arith)

-- ---- sizes
pub numbers_small : (x : ℕ) → IsSmall (numbers_from x)
numbers_small x = record {
  minimum = omega arith;
  range = omega arith;
  time_up = (omega arith, omega arith);
  time_down = (omega arith, omega arith);
  low_cost = omega arith;
  high_cost = omega arith;
  start_cost = omega arith;
}

next : (n : ℕ) → suc n ≡ n + 1
next n = omega arith

pub minimum-size : (seed n : ℕ) → minimum_sum seed n ≤ 50 * n
minimum-size seed zero = omega (arith, minimum-none seed)
minimum-size seed (suc n) =
    let more : minimum_sum seed (suc n) ≡ minimum_sum seed n + (unit_numbers seed n).minimum =
    ap (minimum_sum seed) (next n) ∙ minimum-more seed n in
    omega (arith, more, minimum-size seed n, (numbers_small (state_after seed (7 * n))).minimum)

pub range-size : (seed n : ℕ) → range_sum seed n ≤ 200 * n
range-size seed zero = omega (arith, range-none seed)
range-size seed (suc n) =
    let more : range_sum seed (suc n) ≡ range_sum seed n + (unit_numbers seed n).range =
    ap (range_sum seed) (next n) ∙ range-more seed n in
    omega (arith, more, range-size seed n, (numbers_small (state_after seed (7 * n))).range)
