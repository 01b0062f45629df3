-- Running sums, written period by period.
use Rattle.std.proofs.Common.{◌≡◌, ℕ, suc, ◌*◌, ◌<◌, ◌≤◌, ⊎_elim, false, List, length, sym, ap, subst, ◌∙◌, lit<, arith, ℤ, pos, ◌+ℤ◌, to_z, of_z, Option, Some, unsigned_abs, unwrap_or, slice_index_or, slice_set, get_or-set_other, get_or-set_same, length-set, replicate}
use Rattle.std.specs.Int.{w128}
use Rattle.std.proofs.lemmas.Bool.{cases_lt}
use Rattle.std.proofs.lemmas.List.{get_or-replicate, length-replicate}
use Rattle.uc_model.specs.Prelude.{sum_below}
use Rattle.uc_model.proofs.Common.{abs_add, sum_below-zero}
use Rattle.uc_model.proofs.Sizes.{wide}
use Rattle.interval_graph.specs.Intervals.{MAX_PERIODS, MAX_TERM, term_in}
use Rattle.interval_graph.specs.RunningSums.{full_value, AreRunningSums}
use Rattle.interval_graph.proofs.TermRows.{zero-term, zero_row}

-- the sums of the periods before t are written, and the total is the sum before t
pub record IsAddedTo (rows : List (List (Option ℤ))) (t : ℕ) (total : ℤ) (sums : List ℤ) : Type 0 where
  pub count : length sums ≡ length rows
  pub before : (k : ℕ) → k < t → slice_index_or sums k (pos 0) ≡ sum_below k (full_value rows)
  pub is : total ≡ sum_below t (full_value rows)
  pub size : unsigned_abs total ≤ t * MAX_TERM

pub added-more : (rows : List (List (Option ℤ))) (t : ℕ) (total term : ℤ) (sums : List ℤ) → t < length rows → t < MAX_PERIODS
    → Some term ≡ term_in rows t false false → unsigned_abs term ≤ MAX_TERM → IsAddedTo rows t total sums
    → IsAddedTo rows (suc t) (to_z w128 (of_z w128 (total +ℤ to_z w128 (of_z w128 term)))) (slice_set sums t total)
added-more rows t total term sums h few found more so_far =
    let kept = wide term MAX_TERM more (lit< tt) in
    let size : unsigned_abs (total +ℤ term) ≤ suc t * MAX_TERM = omega (arith, abs_add total term (t * MAX_TERM) MAX_TERM so_far.size more) in
    let same : to_z w128 (of_z w128 (total +ℤ to_z w128 (of_z w128 term))) ≡ total +ℤ term =
    ap (λ x. to_z w128 (of_z w128 (total +ℤ x))) kept ∙ wide (total +ℤ term) (MAX_PERIODS * MAX_TERM) (omega arith) (lit< tt) in
    let count = so_far.count in
    let here : term ≡ full_value rows t = ap (λ o. unwrap_or o (pos 0)) found in
    subst (λ x. IsAddedTo rows (suc t) x (slice_set sums t total)) (sym same)
    (record {
      count = length-set sums t total ∙ count;
      before = λ k l. ⊎_elim
          (λ (earlier : k < t). get_or-set_other sums t k total (pos 0) (λ e. omega arith) ∙ so_far.before k earlier)
          (λ (last : t ≤ k).
          let e : t ≡ k = omega arith in
          subst (λ n. slice_index_or (slice_set sums t total) n (pos 0) ≡ sum_below n (full_value rows)) e
          (get_or-set_same sums t total (pos 0) (omega arith) ∙ so_far.is))
          (cases_lt k t);
      is = λ i. so_far.is i +ℤ here i;
      size = size;
    })

-- all of them
pub added-all : (rows : List (List (Option ℤ))) (t : ℕ) (total : ℤ) (sums : List ℤ) → length rows ≤ t → IsAddedTo rows t total sums → AreRunningSums rows sums
added-all rows t total sums h added = grind (arith, h, added)

-- where each term is 0, so is each sum
pub zero-sums : (n : ℕ) → AreRunningSums (replicate n zero_row) (replicate n (pos 0))
zero-sums n = grind (arith, zero_row, length-replicate, get_or-replicate, sum_below-zero, zero-term)
