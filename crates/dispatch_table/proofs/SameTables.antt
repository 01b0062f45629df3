-- Programs that differ past their rules and unknowns alone have one table.
-- Cite by `use Rattle.dispatch_table.proofs.SameTables.{same_table}`.
use Rattle.std.proofs.Common.{◌≡◌, ℕ, zero, suc, ◌+◌, ◌<◌, refl, ap, ◌∙◌, arith, Bool, List, [], ◌∷◌, ◌++◌, map, ℤ, pos, ◌*ℤ◌, neg_ℤ, int_lt, ◌||◌, if◌then◌else◌}
use Rattle.std.proofs.lemmas.Bool.{cond_both}
use Rattle.uc_model.proofs.Common.{sum_below-same}
use Rattle.dispatch_program.specs.Prelude.{Program, Column, Unknown, Slack, Artificial, SumValue, CostValue, RightSide, HasColumn, Line, RuleLine, SumLine, CostLine, all, basic_column, bump, columns_of, cost_number, counted, has_artificial, is_limit, line_number, lines_of, one_at, picked, place, rule_number, rules_off, slacks, start_rows, start_table, sum_number}
use Rattle.dispatch_rules.proofs.Listed.{Each, each_one, each_append}
use Rattle.dispatch_table.specs.Numbers.{HasLine}
use Rattle.dispatch_table.proofs.ColumnLists.{columns_are, each_picked}

-- ---- lists of what is the same
map_same : {A B : Type 0} (P : A → Type 0) (f g : A → B) (xs : List A) → Each P xs → ((x : A) → P x → f x ≡ g x) → map f xs ≡ map g xs
map_same P f g [] each same = refl
map_same P f g (x ∷ xs) each same =
    λ j. same x (each 0 x (omega arith)) j ∷ map_same P f g xs (λ i d h. each (suc i) d (omega arith)) same j

picked_same : {A : Type 0} (test other : ℕ → Bool) (f : ℕ → A) (n : ℕ) → ((i : ℕ) → i < n → test i ≡ other i) → picked test f n ≡ picked other f n
picked_same test other f zero same = refl
picked_same test other f (suc n) same =
    λ j. picked_same test other f n (λ i h. same i (omega arith)) j ++ (if same n (omega arith) j then f n ∷ [] else [])

counted_same : (test other : ℕ → Bool) (n : ℕ) → ((i : ℕ) → i < n → test i ≡ other i) → counted test n ≡ counted other n
counted_same test other zero same = refl
counted_same test other (suc n) same = λ j. counted_same test other n (λ i h. same i (omega arith)) j + bump (same n (omega arith) j)

lines_are : (p : Program) → Each (HasLine p) (lines_of p)
lines_are p =
    each_append (HasLine p) _ _ (each_picked (HasLine p) all RuleLine p.rules (λ i h e. h))
    (each_append (HasLine p) (SumLine ∷ []) (CostLine ∷ []) (each_one (HasLine p) SumLine tt) (each_one (HasLine p) CostLine tt))

module _ (p : Program) (right cost : ℕ → ℤ) (rights : (i : ℕ) → i < p.rules → right i ≡ p.right i) (costs : (c : ℕ) → c < p.unknowns → cost c ≡ p.cost c) where
  abbrev other : Program
  other = record p { right = right; cost = cost }

  artificial : (i : ℕ) → i < p.rules → has_artificial other i ≡ has_artificial p i
  artificial i h = ap (λ x. p.is_equality i || int_lt x (pos 0)) (rights i h)

  columns : columns_of other ≡ columns_of p
  columns = ap (λ cs. picked all Unknown p.unknowns ++ (picked (is_limit p) Slack p.rules ++ (cs ++ (SumValue ∷ CostValue ∷ RightSide ∷ []))))
      (picked_same (has_artificial other) (has_artificial p) Artificial p.rules artificial)

  -- ---- the numbers
  rule_same : (i : ℕ) → i < p.rules → (column : Column) → rule_number other i column ≡ rule_number p i column
  rule_same i h (Unknown c) = ap (λ x. (if int_lt x (pos 0) then neg_ℤ (pos 1) else pos 1) *ℤ p.factor i c) (rights i h)
  rule_same i h (Slack j) = ap (λ x. one_at i j (if int_lt x (pos 0) then neg_ℤ (pos 1) else pos 1)) (rights i h)
  rule_same i h (Artificial j) = refl
  rule_same i h SumValue = refl
  rule_same i h CostValue = refl
  rule_same i h RightSide = ap (λ x. (if int_lt x (pos 0) then neg_ℤ (pos 1) else pos 1) *ℤ x) (rights i h)

  off_same : (column : Column) → rules_off other column ≡ rules_off p column
  off_same column =
      sum_below-same p.rules (λ i. if has_artificial other i then rule_number other i column else pos 0)
      (λ i. if has_artificial p i then rule_number p i column else pos 0)
      (λ i h j. if artificial i h j then rule_same i h column j else pos 0)

  sum_same : (column : Column) → sum_number other column ≡ sum_number p column
  sum_same (Unknown c) = ap neg_ℤ (off_same (Unknown c))
  sum_same (Slack j) = ap neg_ℤ (off_same (Slack j))
  sum_same (Artificial j) = refl
  sum_same SumValue = refl
  sum_same CostValue = refl
  sum_same RightSide = ap neg_ℤ (off_same RightSide)

  cost_same : (column : Column) → HasColumn p column → cost_number other column ≡ cost_number p column
  cost_same (Unknown c) h = costs c h
  cost_same (Slack j) h = refl
  cost_same (Artificial j) h = refl
  cost_same SumValue h = refl
  cost_same CostValue h = refl
  cost_same RightSide h = refl

  line_same : (line : Line) → HasLine p line → (column : Column) → HasColumn p column → line_number other line column ≡ line_number p line column
  line_same (RuleLine i) h column there = rule_same i h column
  line_same SumLine h column there = sum_same column
  line_same CostLine h column there = cost_same column there

  row_same : (line : Line) → HasLine p line → map (line_number other line) (columns_of other) ≡ map (line_number p line) (columns_of p)
  row_same line h =
      ap (map (line_number other line)) columns
      ∙ map_same (HasColumn p) (line_number other line) (line_number p line) (columns_of p) (columns_are p) (line_same line h)

  rows : start_rows other ≡ start_rows p
  rows = map_same (HasLine p) (λ line. map (line_number other line) (columns_of other)) (λ line. map (line_number p line) (columns_of p)) (lines_of p) (lines_are p) row_same

  -- ---- the basic columns
  before : (i : ℕ) → i < p.rules → counted (has_artificial other) i ≡ counted (has_artificial p) i
  before i h = counted_same (has_artificial other) (has_artificial p) i (λ k l. artificial k (omega arith))

  whole : counted (has_artificial other) p.rules ≡ counted (has_artificial p) p.rules
  whole = counted_same (has_artificial other) (has_artificial p) p.rules artificial

  basic_same : (line : Line) → HasLine p line → place other (basic_column other line) ≡ place p (basic_column p line)
  basic_same (RuleLine i) h =
      ap (λ b. place other (if b then Artificial i else Slack i)) (artificial i h)
      ∙ cond_both (has_artificial p i) (Artificial i) (Slack i) (λ x. place other x ≡ place p x)
      (λ e. ap (λ n. p.unknowns + (slacks p + n)) (before i h)) (λ e. refl)
  basic_same SumLine h = ap (λ n. p.unknowns + (slacks p + (n + 0))) whole
  basic_same CostLine h = ap (λ n. p.unknowns + (slacks p + (n + 1))) whole

  basis : map (λ line. place other (basic_column other line)) (lines_of p) ≡ map (λ line. place p (basic_column p line)) (lines_of p)
  basis = map_same (HasLine p) (λ line. place other (basic_column other line)) (λ line. place p (basic_column p line)) (lines_of p) (lines_are p) basic_same

  pub same_table : start_table other ≡ start_table p
  same_table = λ j. record {
    columns = p.unknowns + (slacks p + (whole j + 2)) + 1;
    rows = rows j;
    constraints = p.rules;
    basis = basis j;
  }
