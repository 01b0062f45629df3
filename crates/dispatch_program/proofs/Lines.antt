-- The lines of the start at any values: a rule's line, and the sum's, which is minus that of the artificial columns.
-- Cite by `use Rattle.dispatch_program.proofs.Lines.{rule_line}`.
use Rattle.std.proofs.Common.{◌≡◌, ℕ, ◌<◌, Bool, true, false, refl, sym, ap, ◌∙◌, arith, map, ℤ, pos, ◌+ℤ◌, ◌*ℤ◌, neg_ℤ, if◌then◌else◌}
use Rattle.std.proofs.lemmas.Bool.{cond_both}
use Rattle.std.proofs.lemmas.List.{length-map}
use Rattle.uc_model.specs.Prelude.{sum_below}
use Rattle.uc_model.proofs.Common.{linear, one-mul, neg-mul, mul-zero, zero-mul, sum_below-same, sum_below-zero, sum_below-single, sum_below-add, sum_below-neg, sum_below-mul_right, sum_below-swap}
use Rattle.pivot_run.specs.Prelude.{dot, Solves}
use Rattle.dispatch_program.specs.Prelude.{Program, Unknown, Slack, Artificial, SumValue, CostValue, RightSide, RuleLine, one_at, is_limit, has_artificial, rule_number, sum_number, rules_off, line_number, columns_of, lines_of, start_rows, place, artificial_sum, SumIsArtificial}
use Rattle.dispatch_program.proofs.Combined.{one_at-same, one_at-other}
use Rattle.dispatch_program.proofs.Starts.{row_is, sum_row_is, lines_long}
use Rattle.dispatch_program.proofs.LineSums.{line_dot}

-- a factor of what stands where the test holds
inside : (b : Bool) (x y : ℤ) → (if b then x else pos 0) *ℤ y ≡ (if b then x *ℤ y else pos 0)
inside true x y = refl
inside false x y = zero-mul y

-- the sum of a picked sum
picked_sum : (b : Bool) (n : ℕ) (f w : ℕ → ℤ) → sum_below n (λ c. (if b then f c else pos 0) *ℤ w c) ≡ (if b then sum_below n (λ c. f c *ℤ w c) else pos 0)
picked_sum true n f w = refl
picked_sum false n f w = sum_below-zero n (λ c. pos 0 *ℤ w c) (λ c l. zero-mul (w c))

-- minus the sum over some rows, column by column
pulled : (m n : ℕ) (b : ℕ → Bool) (f : ℕ → ℕ → ℤ) (w : ℕ → ℤ)
    → sum_below n (λ c. neg_ℤ (sum_below m (λ i. if b i then f i c else pos 0)) *ℤ w c) ≡ neg_ℤ (sum_below m (λ i. if b i then sum_below n (λ c. f i c *ℤ w c) else pos 0))
pulled m n b f w =
    sum_below-same n (λ c. neg_ℤ (sum_below m (λ i. if b i then f i c else pos 0)) *ℤ w c) (λ c. neg_ℤ (sum_below m (λ i. (if b i then f i c else pos 0) *ℤ w c)))
    (λ c l. neg-mul (sum_below m (λ i. if b i then f i c else pos 0)) (w c) ∙ ap neg_ℤ (sym (sum_below-mul_right m (λ i. if b i then f i c else pos 0) (w c))))
    ∙ sum_below-neg n (λ c. sum_below m (λ i. (if b i then f i c else pos 0) *ℤ w c))
    ∙ ap neg_ℤ (sum_below-swap n m (λ c i. (if b i then f i c else pos 0) *ℤ w c)
    ∙ sum_below-same m (λ i. sum_below n (λ c. (if b i then f i c else pos 0) *ℤ w c)) (λ i. if b i then sum_below n (λ c. f i c *ℤ w c) else pos 0) (λ i l. picked_sum (b i) n (f i) w))

module _ (p : Program) (v : ℕ → ℤ) (solves : Solves (start_rows p) v) where
  -- values of slack columns, 0 where there is none
  abbrev pub slack_at : ℕ → ℤ
  slack_at j = if is_limit p j then v (place p (Slack j)) else pos 0

  abbrev pub own_sum : ℕ → ℤ
  own_sum i = sum_below p.unknowns (λ c. rule_number p i (Unknown c) *ℤ v c)

  abbrev pub slack_sum : ℕ → ℤ
  slack_sum i = sum_below p.rules (λ j. rule_number p i (Slack j) *ℤ slack_at j)

  abbrev rest_of : ℕ → ℤ
  rest_of i = own_sum i +ℤ slack_sum i +ℤ rule_number p i RightSide *ℤ v (place p RightSide)

  where_limit : (b : Bool) (x y : ℤ) → (if b then x *ℤ y else pos 0) ≡ x *ℤ (if b then y else pos 0)
  where_limit true x y = refl
  where_limit false x y = sym (mul-zero x)

  -- a rule's line
  pub rule_line : (i : ℕ) → i < p.rules → rest_of i +ℤ (if has_artificial p i then v (place p (Artificial i)) else pos 0) ≡ pos 0
  rule_line i h =
      let f = rule_number p i in
      let solved = solves i (omega (arith, lines_long p, length-map (lines_of p) (λ line. map (line_number p line) (columns_of p)))) in
      let row = ap (λ r. dot r v) (row_is p i (RuleLine i) h refl) in
      let whole = line_dot p v (rule_number p i) in
      let slack = sum_below-same p.rules (λ j. if is_limit p j then f (Slack j) *ℤ v (place p (Slack j)) else pos 0) (λ j. f (Slack j) *ℤ slack_at j)
      (λ j l. where_limit (is_limit p j) (rule_number p i (Slack j)) (v (place p (Slack j)))) in
      let art : sum_below p.rules (λ j. if has_artificial p j then one_at i j (pos 1) *ℤ v (place p (Artificial j)) else pos 0) ≡ (if has_artificial p i then v (place p (Artificial i)) else pos 0) =
      sum_below-single p.rules (λ j. if has_artificial p j then one_at i j (pos 1) *ℤ v (place p (Artificial j)) else pos 0) i h
      (λ j l other. cond_both (has_artificial p j) _ _ (λ z. z ≡ pos 0)
      (λ e. ap (λ z. z *ℤ v (place p (Artificial j))) (one_at-other i j (pos 1) (λ e'. other (sym e'))) ∙ zero-mul (v (place p (Artificial j)))) (λ e. refl))
      ∙ ap (λ z. if has_artificial p i then z else pos 0) (ap (λ z. z *ℤ v (place p (Artificial i))) (one_at-same i i (pos 1) refl) ∙ one-mul (v (place p (Artificial i)))) in
      let none = zero-mul (v (place p SumValue)) in
      let free = zero-mul (v (place p CostValue)) in
      omega (arith, linear)

  -- the sum's line
  pub sum_is : v (place p SumValue) ≡ neg_ℤ (artificial_sum p v)
  sum_is =
      let solved = solves p.rules (omega (arith, lines_long p, length-map (lines_of p) (λ line. map (line_number p line) (columns_of p)))) in
      let row = ap (λ r. dot r v) (sum_row_is p) in
      let whole = line_dot p v (sum_number p) in
      let has = has_artificial p in
      let own = pulled p.rules p.unknowns (has_artificial p) (λ i c. rule_number p i (Unknown c)) v in
      let slack : sum_below p.rules (λ j. if is_limit p j then sum_number p (Slack j) *ℤ v (place p (Slack j)) else pos 0)
      ≡ neg_ℤ (sum_below p.rules (λ i. if has_artificial p i then slack_sum i else pos 0)) =
      sum_below-same p.rules (λ j. if is_limit p j then sum_number p (Slack j) *ℤ v (place p (Slack j)) else pos 0) (λ j. sum_number p (Slack j) *ℤ slack_at j)
      (λ j l. where_limit (is_limit p j) (sum_number p (Slack j)) (v (place p (Slack j))))
      ∙ pulled p.rules p.rules (has_artificial p) (λ i j. rule_number p i (Slack j)) slack_at in
      let right : sum_number p RightSide *ℤ v (place p RightSide) ≡ neg_ℤ (sum_below p.rules (λ i. if has_artificial p i then rule_number p i RightSide *ℤ v (place p RightSide) else pos 0)) =
      neg-mul (rules_off p RightSide) (v (place p RightSide))
      ∙ ap neg_ℤ (sym (sum_below-mul_right p.rules (λ i. if has_artificial p i then rule_number p i RightSide else pos 0) (v (place p RightSide)))
      ∙ sum_below-same p.rules _ _ (λ i l. inside (has_artificial p i) (rule_number p i RightSide) (v (place p RightSide)))) in
      let art : sum_below p.rules (λ j. if has_artificial p j then pos 0 *ℤ v (place p (Artificial j)) else pos 0) ≡ pos 0 =
      sum_below-zero p.rules _ (λ j l. cond_both (has_artificial p j) _ _ (λ z. z ≡ pos 0) (λ e. zero-mul (v (place p (Artificial j)))) (λ e. refl)) in
      let one = one-mul (v (place p SumValue)) in
      let free = zero-mul (v (place p CostValue)) in
      let first = sum_below-add p.rules (λ i. if has_artificial p i then own_sum i else pos 0) (λ i. if has_artificial p i then slack_sum i else pos 0) in
      let second = sum_below-add p.rules (λ i. (if has_artificial p i then own_sum i else pos 0) +ℤ (if has_artificial p i then slack_sum i else pos 0)) (λ i. if has_artificial p i then rule_number p i RightSide *ℤ v (place p RightSide) else pos 0) in
      let third = sum_below-add p.rules (λ i. ((if has_artificial p i then own_sum i else pos 0) +ℤ (if has_artificial p i then slack_sum i else pos 0)) +ℤ (if has_artificial p i then rule_number p i RightSide *ℤ v (place p RightSide) else pos 0)) (λ i. if has_artificial p i then v (place p (Artificial i)) else pos 0) in
      let all : sum_below p.rules (λ i. (((if has_artificial p i then own_sum i else pos 0) +ℤ (if has_artificial p i then slack_sum i else pos 0)) +ℤ (if has_artificial p i then rule_number p i RightSide *ℤ v (place p RightSide) else pos 0)) +ℤ (if has_artificial p i then v (place p (Artificial i)) else pos 0)) ≡ pos 0 =
      sum_below-zero p.rules _ (λ i l. each (has_artificial p i) (own_sum i) (slack_sum i) (rule_number p i RightSide *ℤ v (place p RightSide)) (v (place p (Artificial i))) (rule_line i l)) in
      omega (arith, linear)
    where
      each : (b : Bool) (x y z w : ℤ) → ((x +ℤ y) +ℤ z) +ℤ (if b then w else pos 0) ≡ pos 0
          → (((if b then x else pos 0) +ℤ (if b then y else pos 0)) +ℤ (if b then z else pos 0)) +ℤ (if b then w else pos 0) ≡ pos 0
      each true x y z w h = h
      each false x y z w h = refl

pub sum_is_artificial : SumIsArtificial
sum_is_artificial p v solves = sum_is p v solves
