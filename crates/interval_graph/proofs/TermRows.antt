-- Rows of terms of which each is 0, and what a read of a row gives.
use Rattle.std.proofs.Common.{◌≡◌, ℕ, ◌<◌, ◌≤◌, Bool, true, false, List, length, sym, subst, arith, ℤ, pos, Option, Some, IfSome, unsigned_abs, slice_index_or, replicate}
use Rattle.std.proofs.lemmas.List.{get_or-replicate, length-replicate}
use Rattle.uc_model.specs.Prelude.{place}
use Rattle.interval_graph.specs.Intervals.{MAX_PERIODS, MAX_TERM, term_in, AreTermRows}

place-below : (start stop : Bool) → place start stop < 4
place-below false false = omega arith
place-below true false = omega arith
place-below false true = omega arith
place-below true true = omega arith

abbrev pub zero_row : List (Option ℤ)
zero_row = replicate 4 (Some (pos 0))

pub zero-term : (n t : ℕ) (start stop : Bool) → t < n → term_in (replicate n zero_row) t start stop ≡ Some (pos 0)
zero-term n t start stop h = grind (arith, slice_index_or, get_or-replicate, place-below, h)

pub zero-rows : (n : ℕ) → n ≤ MAX_PERIODS → AreTermRows (replicate n zero_row)
zero-rows n h =
    let count : length (replicate n zero_row) ≡ n = length-replicate n zero_row in
    record {
      periods = omega arith;
      size = λ t start stop within.
          subst (λ o. IfSome o (λ m. unsigned_abs m ≤ MAX_TERM)) (sym (zero-term n t start stop (omega arith))) (omega arith);
      full = λ t within. (pos 0, zero-term n t false false (omega arith));
    }
