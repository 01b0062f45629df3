-- The cost of an interval whose terms are all there: the plain sum, and how large it is.
use Rattle.std.proofs.Common.{◌≡◌, ℕ, zero, suc, ◌+◌, ◌-◌, ◌*◌, ◌<◌, ◌≤◌, ⊎_elim, Bool, true, false, ◌==◌, List, sym, ap, subst, ◌∙◌, arith, ℤ, pos, ◌+ℤ◌, Option, Some, None, IfSome, unsigned_abs, unwrap_or, length}
use Rattle.std.proofs.lemmas.Bool.{cases_lt, eq-eqb, ne_eqb}
use Rattle.uc_model.specs.Prelude.{sum_below}
use Rattle.uc_model.proofs.Common.{abs_add}
use Rattle.interval_graph.specs.Intervals.{interval_cost, interval_term, term_in, AreTermRows, IsThere, MAX_INTERVAL, MAX_TERM}
use Rattle.interval_graph.specs.RunningSums.{full_value, term_value}
use Rattle.interval_graph.proofs.PlainSums.{cell, in_parts}

-- the clauses of `cost`, where there is one
pub record IsCost (rows : List (List (Option ℤ))) (a b : ℕ) (cost : ℤ) : Type 0 where
  pub is : cost ≡ interval_cost rows a b
  pub terms : (t : ℕ) → a ≤ t → t ≤ b → IsThere (interval_term rows a b t)
  pub size : unsigned_abs cost ≤ MAX_INTERVAL

-- ---- sizes
-- a sum of as many numbers of this size
pub sum_below-size : (n m : ℕ) (f : ℕ → ℤ) → ((k : ℕ) → k < n → unsigned_abs (f k) ≤ m) → unsigned_abs (sum_below n f) ≤ n * m
sum_below-size zero m f h = omega arith
sum_below-size (suc n) m f h =
    let before = sum_below-size n m f (λ k l. h k (omega arith)) in
    omega (arith, abs_add (sum_below n f) (f n) (n * m) m before (h n (omega arith)))

value-size : (term : Option ℤ) → IfSome term (λ m. unsigned_abs m ≤ MAX_TERM) → unsigned_abs (unwrap_or term (pos 0)) ≤ MAX_TERM
value-size None h = omega arith
value-size (Some m) h = h

pub full-size : (rows : List (List (Option ℤ))) (n : ℕ) → n ≤ length rows → AreTermRows rows → unsigned_abs (sum_below n (full_value rows)) ≤ n * MAX_TERM
full-size rows n h are = sum_below-size n MAX_TERM (full_value rows) (λ k l. value-size (term_in rows k false false) (are.size k false false (omega arith)))

cost-size : (rows : List (List (Option ℤ))) (a b : ℕ) → b < length rows → AreTermRows rows → unsigned_abs (interval_cost rows a b) ≤ MAX_INTERVAL
cost-size rows a b h are =
    let few = are.periods in
    omega (
      arith,
      sum_below-size (suc b - a) MAX_TERM (cell rows a b)
          (λ k l. value-size (interval_term rows a b (a + k)) (are.size (a + k) (a + k == a) (a + k == b) (omega arith))),
    )

-- ---- the cells
there : (rows : List (List (Option ℤ))) (a b t : ℕ) (start stop : Bool) (m : ℤ) → (t == a) ≡ start → (t == b) ≡ stop → Some m ≡ term_in rows t start stop
    → IsThere (interval_term rows a b t)
there rows a b t start stop m first last is = (m, (λ i. term_in rows t (first i) (last i)) ∙ sym is)

-- ---- the answers
-- an interval of one period
pub one-there : (rows : List (List (Option ℤ))) (a b : ℕ) (cost : Option ℤ) → a ≡ b → cost ≡ term_in rows a true true
    → IfSome cost (λ cost. (t : ℕ) → a ≤ t → t ≤ b → IsThere (interval_term rows a b t))
one-there rows a b None same is = tt
one-there rows a b (Some cost) same is = λ t low high.
    there rows a b t true true cost (eq-eqb t a (omega arith)) (eq-eqb t b (omega arith))
    (is ∙ ap (λ k. term_in rows k true true) (let e : a ≡ t = omega arith in e))

-- and of several
pub several : (rows : List (List (Option ℤ))) (a b : ℕ) (first middle last cost : ℤ) → a < b → b < length rows → AreTermRows rows
    → Some first ≡ term_in rows a true false → Some last ≡ term_in rows b false true
    → middle ≡ sum_below (b - suc a) (λ k. full_value rows (suc a + k)) → cost ≡ (first +ℤ middle) +ℤ last
    → IsCost rows a b cost
several rows a b first middle last cost h within are first-is last-is middle-is is =
    let front : first ≡ term_value rows a true false = ap (λ o. unwrap_or o (pos 0)) first-is in
    let back : last ≡ term_value rows b false true = ap (λ o. unwrap_or o (pos 0)) last-is in
    let whole : cost ≡ interval_cost rows a b = is ∙ (λ i. (front i +ℤ middle-is i) +ℤ back i) ∙ sym (in_parts rows a b h) in
    record {
      is = whole;
      terms = cell-there;
      size = subst (λ x. unsigned_abs x ≤ MAX_INTERVAL) (sym whole) (cost-size rows a b within are);
    }
  where
    between : (t : ℕ) → a < t → t < b → IsThere (interval_term rows a b t)
    between t low high =
        let full = are.full t (omega arith) in
        there rows a b t false false full.0 (ne_eqb t a (λ e. omega arith)) (ne_eqb t b (λ e. omega arith)) (sym full.1)

    cell-there : (t : ℕ) → a ≤ t → t ≤ b → IsThere (interval_term rows a b t)
    cell-there t low high =
        ⊎_elim
        (λ (later : a < t).
        ⊎_elim
        (λ (earlier : t < b). between t later earlier)
        (λ (back : b ≤ t).
        there rows a b t false true last (ne_eqb t a (λ e. omega arith)) (eq-eqb t b (omega arith))
        (last-is ∙ ap (λ k. term_in rows k false true) (let e : b ≡ t = omega arith in e)))
        (cases_lt t b))
        (λ (front : t ≤ a).
        there rows a b t true false first (eq-eqb t a (omega arith)) (ne_eqb t b (λ e. omega arith))
        (first-is ∙ ap (λ k. term_in rows k true false) (let e : a ≡ t = omega arith in e)))
        (cases_lt a t)
