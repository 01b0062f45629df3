-- Wherever a column enters by the sum's row, a row leaves: else the column gives a ray, in which the artificial columns add up to less than 0.
-- Cite by `use Rattle.dispatch_program.proofs.Entering.{entering_gives_rays}`.
use Rattle.std.proofs.Common.{◌≡◌, ℕ, ◌<◌, Option, None, Some, IsSome, refl, sym, ap, subst, ◌∙◌, arith, length, ℤ, pos, ◌*ℤ◌, neg_ℤ, ◌≤ℤ◌, ◌<ℤ◌, if◌then◌else◌}
use Rattle.std.proofs.lemmas.Bool.{cond_both}
use Rattle.uc_model.proofs.Common.{linear, zero-mul, neg-mul, mul-zero, mul_comm, mul_nonneg, mul-lt-mul_left, sum_below-zero, sum_below_nonneg}
use Rattle.pivot_run.specs.Prelude.{Solves, Table, basic, leaving, number, at_column, values_of}
use Rattle.pivot_run.proofs.Ratios.{IsLeaving, leaving_is}
use Rattle.pivot_run.proofs.Solutions.{no_factor}
use Rattle.pivot_run.proofs.Values.{at_column-nonneg, values_solve}
use Rattle.dispatch_program.specs.Prelude.{Program, Artificial, SumValue, RightSide, Slack, HasColumn, is_limit, has_artificial, place, start_rows, free_columns, IsRay, artificial_sum, IsReached, AreShares, SumsGoOn, HasZeros, IsRayOf, EnteringGivesRays}
use Rattle.dispatch_program.proofs.Starts.{counted-le}
use Rattle.dispatch_program.proofs.Lines.{sum_is}
use Rattle.dispatch_program.proofs.BasicValues.{at_own, at_other, value_none, value_basic, value_low, share_positive, shares_exist}
use Rattle.dispatch_program.proofs.LastTables.{count, sum_column, early_rule, right_apart, artificial_early}

abbrev NoneLeaves : Program → Table → ℕ → Type 0
NoneLeaves p t j = (k : ℕ) → k < p.rules → number t k j ≤ℤ pos 0

module _ (p : Program) (t : Table) (is : IsReached p t) (j : ℕ) (early : j < place p SumValue) (w : ℤ) (share : ℕ → ℤ) (are : AreShares t w share) where
  abbrev values : ℕ → ℤ
  values = values_of t j w share (length t.rows)

  abbrev worth : ℕ → ℤ
  worth k = neg_ℤ (number t k j *ℤ share k)

  positive : (k : ℕ) → k < length t.rows → pos 0 <ℤ share k
  positive k h = share_positive t w share is.keeps.basis are k h

  solves : Solves (start_rows p) values
  solves = (is.keeps.solutions values).1 (λ l h. values_solve t j w share l (length t.rows) h (omega arith) h is.keeps.basis are.whole)

  -- the value of the sum, which is minus that of the artificial columns
  sum_value : values (place p SumValue) ≡ worth p.rules
  sum_value =
      let size = count p t is in
      let value = value_basic t is.keeps.basis j w share p.rules (omega arith) in
      let apart = at_other j w (basic t p.rules) (λ e. let at = sum_column p t is in absurd (omega arith)) in
      ap values (sym (sum_column p t is)) ∙ omega (arith, linear)

  -- an artificial column's, where the rows in which it is basic have 0 in the column
  none_of : j < free_columns p → HasZeros p t j → (i : ℕ) → HasColumn p (Artificial i) → values (place p (Artificial i)) ≡ pos 0
  none_of free zeros i h =
      value_none t is.keeps.basis j w share (place p (Artificial i)) (λ k l same.
      ap neg_ℤ (ap (λ z. z *ℤ share k) (zeros k i (early_rule p t is k (place p (Artificial i)) l (artificial_early p t is i h) same) h same) ∙ zero-mul (share k)))
      ∙ at_other j w (place p (Artificial i)) (λ e. absurd (omega arith))

  -- then the sum's row has 0 there, too
  pub sum_is_zero : j < free_columns p → HasZeros p t j → number t p.rules j ≡ pos 0
  sum_is_zero free zeros =
      let size = count p t is in
      let within : p.rules < length t.rows = omega arith in
      let artificial = sum_is p values solves in
      let none : artificial_sum p values ≡ pos 0 = sum_below-zero p.rules (λ i. if has_artificial p i then values (place p (Artificial i)) else pos 0)
      (λ i h. cond_both (has_artificial p i) (values (place p (Artificial i))) (pos 0) (λ z. z ≡ pos 0) (λ e. none_of free zeros i (h, e)) (λ e. refl)) in
      let value = sum_value in
      let order = mul_comm (share p.rules) (number t p.rules j) in
      no_factor (share p.rules) (number t p.rules j) (positive p.rules within) (omega (arith, linear))

  module _ (none : NoneLeaves p t j) where
    worth_nonneg : (k : ℕ) → k < length t.rows → k < p.rules → pos 0 ≤ℤ worth k
    worth_nonneg k l h =
        let low = none k h in
        let own = positive k l in
        let product = mul_nonneg (neg_ℤ (number t k j)) (share k) (omega (arith, linear)) (omega (arith, linear)) in
        let opposite = neg-mul (number t k j) (share k) in
        omega (arith, linear)

    low_value : (c : ℕ) → c < place p SumValue → at_column j w c ≤ℤ values c
    low_value c h = value_low t is.keeps.basis j w share c (λ k l same. worth_nonneg k l (early_rule p t is k c l h same))

    early_nonneg : (c : ℕ) → c < place p SumValue → pos 0 ≤ℤ values c
    early_nonneg c h =
        let low = low_value c h in
        let above = are.denominator in
        let own = at_column-nonneg j w c (omega (arith, linear)) in
        omega (arith, linear)

    own_value : pos 0 <ℤ values j
    own_value = let low = low_value j early in let own = at_own j w in let above = are.denominator in omega (arith, linear)

    ray : IsRay p values
    ray = record {
      solves = solves;
      right = value_none t is.keeps.basis j w share (place p RightSide) (λ k l same. absurd (right_apart p t is k l same))
          ∙ at_other j w (place p RightSide) (λ e. absurd (omega arith));
      unknown = λ c h. early_nonneg c (omega arith);
      slack = λ i h limit. early_nonneg (place p (Slack i)) (let less = counted-le (is_limit p) i p.rules h limit in omega arith);
      artificial = λ i h has. early_nonneg (place p (Artificial i)) (artificial_early p t is i (h, has));
    }

    pub sum_goes_on : number t p.rules j <ℤ pos 0 → ⊥
    sum_goes_on below =
        let size = count p t is in
        let within : p.rules < length t.rows = omega arith in
        let value = sum_value in
        let artificial = sum_is p values solves in
        let low = sum_below_nonneg p.rules (λ i. if has_artificial p i then values (place p (Artificial i)) else pos 0)
        (λ i h. cond_both (has_artificial p i) (values (place p (Artificial i))) (pos 0) (λ z. pos 0 ≤ℤ z) (λ e. ray.artificial i h e) (λ e. omega (arith, linear))) in
        let up = mul-lt-mul_left (share p.rules) (number t p.rules j) (pos 0) (positive p.rules within) below in
        let nothing = mul-zero (share p.rules) in
        let order = mul_comm (share p.rules) (number t p.rules j) in
        omega (arith, linear)

    pub ray_of : j < free_columns p → HasZeros p t j → IsRayOf p j values
    ray_of free zeros = record {
      ray = ray;
      value = own_value;
      none = none_of free zeros;
    }

-- ---- a row that leaves
leaves_or : (t : Table) (j n : ℕ) (found : Option ℕ) → IsLeaving t j n found → (found ≡ None → ((k : ℕ) → k < n → number t k j ≤ℤ pos 0) → ⊥) → IsSome found
leaves_or t j n None is none = absurd (none refl is)
leaves_or t j n (Some i) is none = refl

none_above : (t : Table) (j n : ℕ) (found : Option ℕ) → IsLeaving t j n found → found ≡ None → (k : ℕ) → k < n → number t k j ≤ℤ pos 0
none_above t j n None is e = is
none_above t j n (Some i) is e = absurd (cc)

pub sums_go_on : SumsGoOn
sums_go_on p t j is early below =
    let found = shares_exist t is.keeps.basis in
    leaves_or t j t.constraints (leaving t j t.constraints) (leaving_is t j t.constraints)
    (λ e none. sum_goes_on p t is j early found.0 found.1 found.2 (λ k h. none k (subst (λ m. k < m) (sym is.keeps.count) h)) below)

pub entering_gives_rays : EnteringGivesRays
entering_gives_rays p t j is free zeros e =
    let found = shares_exist t is.keeps.basis in
    let none = none_above t j t.constraints (leaving t j t.constraints) (leaving_is t j t.constraints) e in (
      values_of t j found.0 found.1 (length t.rows),
      ray_of p t is j (omega arith) found.0 found.1 found.2 (λ k h. none k (subst (λ m. k < m) (sym is.keeps.count) h)) free zeros,
    )
