-- What the rows of a program's table at the start combine to: values that are 1 in a column, and make up for it in each row's own column, solve
-- the start, so a row that all solutions solve has there what the rules add.
-- Cite by `use Rattle.dispatch_program.proofs.Combined.{unknown_is}`.
use Rattle.std.proofs.Common.{◌≡◌, ◌≢◌, ℕ, zero, suc, ◌+◌, ◌<◌, ◌≤◌, ◌==◌, Bool, true, false, not, ◌||◌, ⊎_elim, refl, sym, ap, subst, ◌∙◌, arith, List, length, ℤ, pos, ◌+ℤ◌, ◌-ℤ◌, ◌*ℤ◌, neg_ℤ, ◌≤ℤ◌, IsTrue, if◌then◌else◌}
use Rattle.std.proofs.lemmas.Bool.{cases_Bool, cond-true, cond-false, cond_both, eqb-true, eq-eqb, cases_eq, cases_lt, true≢false}
use Rattle.uc_model.specs.Prelude.{sum_below}
use Rattle.uc_model.proofs.Common.{linear, mul-one, one-mul, mul-zero, zero-mul, mul-neg, mul_assoc, sub-mul, mul-sub, mul_left_comm, sum_below-same, sum_below-sub, sum_below-zero, sum_below-single, sum_below-mul_left}
use Rattle.pivot_run.specs.Prelude.{entry, row_at, dot, Solves, at_column}
use Rattle.pivot_run.proofs.Values.{dot-add, dot-at_column}
use Rattle.dispatch_program.specs.Prelude.{Program, Column, Unknown, Slack, Artificial, SumValue, CostValue, RightSide, sign, one_at, is_limit, is_negated, has_artificial, rule_number, rules_off, sum_number, cost_number, place, HasColumn, own_column, multiplier}

-- what the rows of the start hold, column by column
pub record AreStart (p : Program) (rows : List (List ℤ)) : Type 0 where
  pub count : length rows ≡ p.rules + 2
  pub rule : (i : ℕ) (column : Column) → i < p.rules → HasColumn p column → entry (row_at rows i) (place p column) ≡ rule_number p i column
  pub sum : (column : Column) → HasColumn p column → entry (row_at rows p.rules) (place p column) ≡ sum_number p column
  pub cost : (column : Column) → HasColumn p column → entry (row_at rows (p.rules + 1)) (place p column) ≡ cost_number p column

-- ---- one at a place
pub one_at-same : (i j : ℕ) (z : ℤ) → i ≡ j → one_at i j z ≡ z
one_at-same i j z same = cond-true (i == j) z (pos 0) (eq-eqb i j same)

pub one_at-other : (i j : ℕ) (z : ℤ) → i ≢ j → one_at i j z ≡ pos 0
one_at-other i j z other =
    cond_both (i == j) z (pos 0) (λ x. x ≡ pos 0) (λ e. absurd (other (eqb-true i j e))) (λ e. refl)

-- ---- values that solve the start: 1 in a column, and in the own column of each row what makes up for it
abbrev made_up : Program → Column → ℕ → ℕ → ℤ
made_up p column zero = at_column (place p column) (pos 1)
made_up p column (suc n) = λ c. made_up p column n c +ℤ at_column (place p (own_column p n)) (neg_ℤ (rule_number p n column)) c

abbrev values : Program → Column → ℕ → ℤ
values p column = λ c.
    (made_up p column p.rules c +ℤ at_column (place p SumValue) (neg_ℤ (sum_number p column)) c)
    +ℤ at_column (place p CostValue) (neg_ℤ (cost_number p column)) c

-- how often the rules stand in a row, by their own columns
abbrev own_sum : Program → List ℤ → Column → ℕ → ℤ
own_sum p row column n = sum_below n (λ i. entry row (place p (own_column p i)) *ℤ rule_number p i column)

dot-made_up : (p : Program) (row : List ℤ) (column : Column) (n : ℕ) → dot row (made_up p column n) ≡ entry row (place p column) -ℤ own_sum p row column n
dot-made_up p row column zero = let one = dot-at_column row (place p column) (pos 1) in let same = mul-one (entry row (place p column)) in omega (arith, linear)
dot-made_up p row column (suc n) =
    let before = dot-made_up p row column n in
    let more = dot-add row (made_up p column n) (at_column (place p (own_column p n)) (neg_ℤ (rule_number p n column))) in
    let last = dot-at_column row (place p (own_column p n)) (neg_ℤ (rule_number p n column)) in
    let turned = mul-neg (entry row (place p (own_column p n))) (rule_number p n column) in
    omega (arith, linear)

-- the rest of a row once the rules, the sum and the cost are taken off as often as they stand in it
abbrev rest : Program → List ℤ → Column → ℤ
rest p row column =
    entry row (place p column) -ℤ own_sum p row column p.rules -ℤ entry row (place p SumValue) *ℤ sum_number p column
    -ℤ entry row (place p CostValue) *ℤ cost_number p column

dot-values : (p : Program) (row : List ℤ) (column : Column) → dot row (values p column) ≡ rest p row column
dot-values p row column =
    let rules = dot-made_up p row column p.rules in
    let sum = dot-at_column row (place p SumValue) (neg_ℤ (sum_number p column)) in
    let cost = dot-at_column row (place p CostValue) (neg_ℤ (cost_number p column)) in
    let first = dot-add row (made_up p column p.rules) (at_column (place p SumValue) (neg_ℤ (sum_number p column))) in
    let second = dot-add row (λ c. made_up p column p.rules c +ℤ at_column (place p SumValue) (neg_ℤ (sum_number p column)) c) (at_column (place p CostValue) (neg_ℤ (cost_number p column))) in
    let sum_turned = mul-neg (entry row (place p SumValue)) (sum_number p column) in
    let cost_turned = mul-neg (entry row (place p CostValue)) (cost_number p column) in
    omega (arith, linear)

-- ---- the own columns
plain : (e n : Bool) → (e || n) ≡ false → not e ≡ true
plain true n h = sym h
plain false n h = refl

upright : (e n : Bool) → (e || n) ≡ false → (if n then neg_ℤ (pos 1) else pos 1) ≡ pos 1
upright true n h = absurd (true≢false h)
upright false n h = ap (λ b. if b then neg_ℤ (pos 1) else pos 1) h

-- either it is an artificial column, or the rule is a limit that isn't negated
own_cases : (p : Program) (i : ℕ) (P : Column → Type 0) → (has_artificial p i ≡ true → P (Artificial i))
    → (has_artificial p i ≡ false → is_limit p i ≡ true → sign p i ≡ pos 1 → P (Slack i)) → P (own_column p i)
own_cases p i P there here = cond_both (has_artificial p i) (Artificial i) (Slack i) P there
    (λ none. here none (plain (p.is_equality i) (is_negated p i) none) (upright (p.is_equality i) (is_negated p i) none))

pub own_there : (p : Program) (i : ℕ) → i < p.rules → HasColumn p (own_column p i)
own_there p i h = own_cases p i (HasColumn p) (λ e. (h, e)) (λ none e s. (h, e))

pub own_in_rule : (p : Program) (k i : ℕ) → rule_number p k (own_column p i) ≡ one_at k i (pos 1)
own_in_rule p k i = own_cases p i (λ c. rule_number p k c ≡ one_at k i (pos 1)) (λ e. refl)
    (λ none e upright_sign. ⊎_elim
    (λ (same : k ≡ i). one_at-same k i (sign p k) same ∙ ap (sign p) same ∙ upright_sign ∙ sym (one_at-same k i (pos 1) same))
    (λ (other : k ≢ i). one_at-other k i (sign p k) other ∙ sym (one_at-other k i (pos 1) other))
    (cases_eq k i))

pub own_in_sum : (p : Program) (i : ℕ) → sum_number p (own_column p i) ≡ pos 0
own_in_sum p i = own_cases p i (λ c. sum_number p c ≡ pos 0) (λ e. refl)
    (λ none e upright_sign. ap neg_ℤ (sum_below-zero p.rules (λ k. if has_artificial p k then rule_number p k (Slack i) else pos 0)
    (λ k h. ⊎_elim
    (λ (same : k ≡ i). cond-false (has_artificial p k) _ _ (ap (has_artificial p) same ∙ none))
    (λ (other : k ≢ i). cond_both (has_artificial p k) _ _ (λ z. z ≡ pos 0) (λ a. one_at-other k i (sign p k) other) (λ a. refl))
    (cases_eq k i))))

pub own_in_cost : (p : Program) (i : ℕ) → cost_number p (own_column p i) ≡ pos 0
own_in_cost p i = own_cases p i (λ c. cost_number p c ≡ pos 0) (λ e. refl) (λ none e s. refl)

module _ (p : Program) (rows : List (List ℤ)) (start : AreStart p rows) where
  -- the values solve the start
  own_sum-rule : (column : Column) (k : ℕ) → k < p.rules → own_sum p (row_at rows k) column p.rules ≡ rule_number p k column
  own_sum-rule column k h =
      sum_below-single p.rules (λ i. entry (row_at rows k) (place p (own_column p i)) *ℤ rule_number p i column) k h
      (λ i l other. ap (λ z. z *ℤ rule_number p i column)
      (start.rule k (own_column p i) h (own_there p i l) ∙ own_in_rule p k i ∙ one_at-other k i (pos 1) (λ e. other (sym e)))
      ∙ zero-mul (rule_number p i column))
      ∙ ap (λ z. z *ℤ rule_number p k column)
      (start.rule k (own_column p k) h (own_there p k h) ∙ own_in_rule p k k ∙ one_at-same k k (pos 1) refl)
      ∙ one-mul (rule_number p k column)

  none_owned : (row : List ℤ) (column : Column) → ((i : ℕ) → i < p.rules → entry row (place p (own_column p i)) ≡ pos 0) → own_sum p row column p.rules ≡ pos 0
  none_owned row column each =
      sum_below-zero p.rules (λ i. entry row (place p (own_column p i)) *ℤ rule_number p i column)
      (λ i l. ap (λ z. z *ℤ rule_number p i column) (each i l) ∙ zero-mul (rule_number p i column))

  -- a row in which the sum stands so often, and the cost so often
  rest-is : (row : List ℤ) (column : Column) (own x sum cost : ℤ) → entry row (place p column) ≡ x → own_sum p row column p.rules ≡ own
      → entry row (place p SumValue) ≡ sum → entry row (place p CostValue) ≡ cost
      → rest p row column ≡ x -ℤ own -ℤ sum *ℤ sum_number p column -ℤ cost *ℤ cost_number p column
  rest-is row column own x sum cost a b c d =
      λ i. a i -ℤ b i -ℤ c i *ℤ sum_number p column -ℤ d i *ℤ cost_number p column

  solved : (column : Column) → HasColumn p column → Solves rows (values p column)
  solved column there k l = ⊎_elim
      (λ (rule : k < p.rules).
      let all = dot-values p (row_at rows k) column in
      let whole = rest-is (row_at rows k) column _ _ _ _ (start.rule k column rule there) (own_sum-rule column k rule) (start.rule k SumValue rule tt) (start.rule k CostValue rule tt) in
      let no_sum = zero-mul (sum_number p column) in
      let no_cost = zero-mul (cost_number p column) in
      omega (arith, linear))
      (λ (past : p.rules ≤ k). ⊎_elim
      (λ (at_sum : k ≡ p.rules). subst (λ m. dot (row_at rows m) (values p column) ≡ pos 0) (sym at_sum)
      (let all = dot-values p (row_at rows p.rules) column in
      let whole = rest-is (row_at rows p.rules) column _ _ _ _ (start.sum column there)
      (none_owned (row_at rows p.rules) column (λ i h. start.sum (own_column p i) (own_there p i h) ∙ own_in_sum p i)) (start.sum SumValue tt) (start.sum CostValue tt) in
      let one = one-mul (sum_number p column) in
      let no_cost = zero-mul (cost_number p column) in
      omega (arith, linear)))
      (λ (apart : k ≢ p.rules).
      let size = start.count in
      let at_cost : k ≡ p.rules + 1 = omega arith in
      subst (λ m. dot (row_at rows m) (values p column) ≡ pos 0) (sym at_cost)
      (let all = dot-values p (row_at rows (p.rules + 1)) column in
      let whole = rest-is (row_at rows (p.rules + 1)) column _ _ _ _ (start.cost column there)
      (none_owned (row_at rows (p.rules + 1)) column (λ i h. start.cost (own_column p i) (own_there p i h) ∙ own_in_cost p i)) (start.cost SumValue tt) (start.cost CostValue tt) in
      let one = one-mul (cost_number p column) in
      let no_sum = zero-mul (sum_number p column) in
      omega (arith, linear)))
      (cases_eq k p.rules))
      (cases_lt k p.rules)

  -- ---- a row that each solution of the start solves
  module _ (row : List ℤ) (kept : (v : ℕ → ℤ) → Solves rows v → dot row v ≡ pos 0) where
    abbrev at : Column → ℤ
    at column = entry row (place p column)

    combined : (column : Column) → HasColumn p column
        → at column ≡ own_sum p row column p.rules +ℤ at SumValue *ℤ sum_number p column +ℤ at CostValue *ℤ cost_number p column
    combined column there =
        let none = kept (values p column) (solved column there) in
        let all = dot-values p row column in
        omega (arith, linear)

    -- a rule's slack column
    slack_is : (i : ℕ) → i < p.rules → is_limit p i ≡ true
        → at (Slack i) ≡ at (own_column p i) *ℤ sign p i -ℤ at SumValue *ℤ (if has_artificial p i then sign p i else pos 0)
    slack_is i h limit =
        let all = combined (Slack i) (h, limit) in
        let own : own_sum p row (Slack i) p.rules ≡ at (own_column p i) *ℤ sign p i =
        sum_below-single p.rules (λ k. at (own_column p k) *ℤ one_at k i (sign p k)) i h
        (λ k l other. ap (λ z. at (own_column p k) *ℤ z) (one_at-other k i (sign p k) other) ∙ mul-zero (at (own_column p k)))
        ∙ ap (λ z. at (own_column p i) *ℤ z) (one_at-same i i (sign p i) refl) in
        let off : rules_off p (Slack i) ≡ (if has_artificial p i then sign p i else pos 0) =
        sum_below-single p.rules (λ k. if has_artificial p k then one_at k i (sign p k) else pos 0) i h
        (λ k l other. cond_both (has_artificial p k) _ _ (λ z. z ≡ pos 0) (λ a. one_at-other k i (sign p k) other) (λ a. refl))
        ∙ ap (λ z. if has_artificial p i then z else pos 0) (one_at-same i i (sign p i) refl) in
        let turned = mul-neg (at SumValue) (rules_off p (Slack i)) in
        let same = ap (λ z. at SumValue *ℤ z) off in
        let no_cost = mul-zero (at CostValue) in
        omega (arith, linear)

    -- what a rule adds to a number of the row, x being what it has in the column
    share : (n s v x : ℤ) → (s *ℤ (n -ℤ v)) *ℤ x ≡ n *ℤ (s *ℤ x) -ℤ v *ℤ (s *ℤ x)
    share n s v x =
        mul_assoc s (n -ℤ v) x ∙ ap (λ z. s *ℤ z) (sub-mul n v x) ∙ mul-sub s (n *ℤ x) (v *ℤ x)
        ∙ (λ i. mul_left_comm s n x i -ℤ mul_left_comm s v x i)

    rule_share : (i : ℕ) (x : ℤ) → i < p.rules
        → multiplier p row i *ℤ x ≡ at (own_column p i) *ℤ (sign p i *ℤ x) -ℤ at SumValue *ℤ (if has_artificial p i then sign p i *ℤ x else pos 0)
    rule_share i x h = ⊎_elim
        (λ (equality : IsTrue (p.is_equality i)).
        let art : has_artificial p i ≡ true = ap (λ b. b || is_negated p i) equality in
        let own : own_column p i ≡ Artificial i = cond-true (has_artificial p i) _ _ art in
        ap (λ z. z *ℤ x) (cond-true (p.is_equality i) _ _ equality)
        ∙ share (at (Artificial i)) (sign p i) (at SumValue) x
        ∙ (λ j. at (sym own j) *ℤ (sign p i *ℤ x) -ℤ at SumValue *ℤ sym (cond-true (has_artificial p i) (sign p i *ℤ x) (pos 0) art) j))
        (λ (limit : p.is_equality i ≡ false).
        let slack = slack_is i h (ap not limit) in
        ap (λ z. z *ℤ x) (cond-false (p.is_equality i) _ _ limit ∙ slack)
        ∙ cond_both (has_artificial p i) (sign p i) (pos 0)
        (λ z. (at (own_column p i) *ℤ sign p i -ℤ at SumValue *ℤ z) *ℤ x
        ≡ at (own_column p i) *ℤ (sign p i *ℤ x) -ℤ at SumValue *ℤ (z *ℤ x))
        (λ a. spread_out (at (own_column p i)) (sign p i) (at SumValue) (sign p i) x)
        (λ a. spread_out (at (own_column p i)) (sign p i) (at SumValue) (pos 0) x)
        ∙ ap (λ z. at (own_column p i) *ℤ (sign p i *ℤ x) -ℤ at SumValue *ℤ z) (inside (has_artificial p i) (sign p i) x))
        (cases_Bool (p.is_equality i))
      where
        spread_out : (n s v z x : ℤ) → (n *ℤ s -ℤ v *ℤ z) *ℤ x ≡ n *ℤ (s *ℤ x) -ℤ v *ℤ (z *ℤ x)
        spread_out n s v z x = sub-mul (n *ℤ s) (v *ℤ z) x ∙ (λ i. mul_assoc n s x i -ℤ mul_assoc v z x i)

        inside : (b : Bool) (s x : ℤ) → (if b then s else pos 0) *ℤ x ≡ (if b then s *ℤ x else pos 0)
        inside true s x = refl
        inside false s x = zero-mul x

    -- the rules, as often as they stand in the row, and the cost make up a column of numbers that the rules have
    shares : (column : Column) (x : ℕ → ℤ) → HasColumn p column → ((i : ℕ) → i < p.rules → rule_number p i column ≡ sign p i *ℤ x i)
        → sum_number p column ≡ neg_ℤ (rules_off p column)
        → at column ≡ sum_below p.rules (λ i. multiplier p row i *ℤ x i) +ℤ at CostValue *ℤ cost_number p column
    shares column x there numbers off =
        let whole = combined column there in
        let own_terms = λ (i : ℕ). at (own_column p i) *ℤ (sign p i *ℤ x i) in
        let off_terms = λ (i : ℕ). if has_artificial p i then sign p i *ℤ x i else pos 0 in
        let each : sum_below p.rules (λ i. multiplier p row i *ℤ x i) ≡ sum_below p.rules (λ i. own_terms i -ℤ at SumValue *ℤ off_terms i) =
        sum_below-same p.rules _ _ (λ i h. rule_share i (x i) h) in
        let parts = sum_below-sub p.rules own_terms (λ i. at SumValue *ℤ off_terms i) in
        let factor = sum_below-mul_left p.rules (at SumValue) off_terms in
        let own : own_sum p row column p.rules ≡ sum_below p.rules own_terms =
        sum_below-same p.rules _ _ (λ i h. ap (λ z. at (own_column p i) *ℤ z) (numbers i h)) in
        let taken : rules_off p column ≡ sum_below p.rules off_terms =
        sum_below-same p.rules _ _ (λ i h. ap (λ z. if has_artificial p i then z else pos 0) (numbers i h)) in
        let turned : at SumValue *ℤ sum_number p column ≡ neg_ℤ (at SumValue *ℤ sum_below p.rules off_terms) =
        ap (λ z. at SumValue *ℤ z) (off ∙ ap neg_ℤ taken) ∙ mul-neg (at SumValue) (sum_below p.rules off_terms) in
        omega (arith, linear)

    -- a number in the column of an unknown, and the right side
    pub unknown_is : (c : ℕ) → c < p.unknowns → at (Unknown c) ≡ sum_below p.rules (λ i. multiplier p row i *ℤ p.factor i c) +ℤ at CostValue *ℤ p.cost c
    unknown_is c h = shares (Unknown c) (λ i. p.factor i c) h (λ i l. refl) refl

    pub right_is : at RightSide ≡ sum_below p.rules (λ i. multiplier p row i *ℤ p.right i)
    right_is = let all = shares RightSide p.right tt (λ i l. refl) refl in let none = mul-zero (at CostValue) in omega (arith, linear)

    -- a limit doesn't stand less than 0 times in the row, where its slack column isn't below 0
    pub multiplier_nonneg : (i : ℕ) → p.is_equality i ≡ false → pos 0 ≤ℤ at (Slack i) → pos 0 ≤ℤ multiplier p row i
    multiplier_nonneg i limit h = subst (λ z. pos 0 ≤ℤ z) (sym (cond-false (p.is_equality i) _ _ limit)) h
