-- The table of a linear program of whole numbers at its start: so many rules over so many unknowns of at least 0, each an upper limit on a
-- sum of multiples of the unknowns or an equality. A limit has a slack column. A rule with a right side below 0 is negated; it has an
-- artificial column then, and so has each equality. Source: the simplex method in two phases, with slack and artificial columns
-- (G. B. Dantzig, "Linear Programming and Extensions", 1963).
use Rattle.std.specs.Prelude.{ℕ, zero, suc, ◌+◌, ◌<◌, ◌==◌, Bool, true, false, not, ◌||◌, List, [], ◌∷◌, ◌++◌, map, ℤ, pos, ◌-ℤ◌, ◌*ℤ◌, neg_ℤ, int_lt, IsTrue, if◌then◌else◌}
use Rattle.uc_model.specs.Prelude.{sum_below}
use Rattle.pivot_run.specs.Prelude.{entry, Table}

pub record Program : Type 0 where
  -- how many unknowns and rules there are
  pub unknowns : ℕ
  pub rules : ℕ
  -- how often a rule has an unknown, its right side, and whether it is an equality
  pub factor : ℕ → ℕ → ℤ
  pub right : ℕ → ℤ
  pub is_equality : ℕ → Bool
  -- what an unknown costs
  pub cost : ℕ → ℤ

-- a column of the table: an unknown, a rule's slack or artificial column, the values of the sum and of the cost, and the right side
pub data Column : Type 0 where
  Unknown : ℕ → Column
  Slack : ℕ → Column
  Artificial : ℕ → Column
  SumValue : Column
  CostValue : Column
  RightSide : Column

-- a row of it: a rule, the sum of the artificial columns, and the cost
pub data Line : Type 0 where
  RuleLine : ℕ → Line
  SumLine : Line
  CostLine : Line

abbrev pub is_limit : Program → ℕ → Bool
is_limit p i = not (p.is_equality i)

abbrev pub is_negated : Program → ℕ → Bool
is_negated p i = int_lt (p.right i) (pos 0)

abbrev pub has_artificial : Program → ℕ → Bool
has_artificial p i = p.is_equality i || is_negated p i

-- 1, and -1 for a rule that is negated
abbrev pub sign : Program → ℕ → ℤ
sign p i = if is_negated p i then neg_ℤ (pos 1) else pos 1

abbrev pub one_at : ℕ → ℕ → ℤ → ℤ
one_at i j z = if i == j then z else pos 0

abbrev pub rule_number : Program → ℕ → Column → ℤ
rule_number p i (Unknown c) = sign p i *ℤ p.factor i c
rule_number p i (Slack j) = one_at i j (sign p i)
rule_number p i (Artificial j) = one_at i j (pos 1)
rule_number p i SumValue = pos 0
rule_number p i CostValue = pos 0
rule_number p i RightSide = sign p i *ℤ p.right i

-- the rules with an artificial column together
abbrev pub rules_off : Program → Column → ℤ
rules_off p column = sum_below p.rules (λ i. if has_artificial p i then rule_number p i column else pos 0)

-- the sum of the artificial columns, these rules taken off
abbrev pub sum_number : Program → Column → ℤ
sum_number p (Unknown c) = neg_ℤ (rules_off p (Unknown c))
sum_number p (Slack j) = neg_ℤ (rules_off p (Slack j))
sum_number p (Artificial j) = pos 0
sum_number p SumValue = pos 1
sum_number p CostValue = pos 0
sum_number p RightSide = neg_ℤ (rules_off p RightSide)

abbrev pub cost_number : Program → Column → ℤ
cost_number p (Unknown c) = p.cost c
cost_number p (Slack j) = pos 0
cost_number p (Artificial j) = pos 0
cost_number p SumValue = pos 0
cost_number p CostValue = pos 1
cost_number p RightSide = pos 0

abbrev pub line_number : Program → Line → Column → ℤ
line_number p (RuleLine i) column = rule_number p i column
line_number p SumLine column = sum_number p column
line_number p CostLine column = cost_number p column

-- f i for each i below n that passes the test, in order, and how many these are
abbrev pub picked : {A : Type 0} → (ℕ → Bool) → (ℕ → A) → ℕ → List A
picked test f zero = []
picked test f (suc n) = picked test f n ++ (if test n then f n ∷ [] else [])

abbrev pub bump : Bool → ℕ
bump true = 1
bump false = 0

abbrev pub counted : (ℕ → Bool) → ℕ → ℕ
counted test zero = 0
counted test (suc n) = counted test n + bump (test n)

abbrev pub all : ℕ → Bool
all i = true

-- the columns and rows of the table, in order
abbrev pub columns_of : Program → List Column
columns_of p =
    picked all Unknown p.unknowns
    ++ (picked (is_limit p) Slack p.rules
    ++ (picked (has_artificial p) Artificial p.rules
    ++ (SumValue ∷ CostValue ∷ RightSide ∷ [])))

abbrev pub lines_of : Program → List Line
lines_of p = picked all RuleLine p.rules ++ (SumLine ∷ CostLine ∷ [])

-- the table's rows at the start
abbrev pub start_rows : Program → List (List ℤ)
start_rows p = map (λ line. map (line_number p line) (columns_of p)) (lines_of p)

-- the place of a column in its row, and of a line in the table
abbrev pub slacks : Program → ℕ
slacks p = counted (is_limit p) p.rules

abbrev pub artificials : Program → ℕ
artificials p = counted (has_artificial p) p.rules

abbrev pub place : Program → Column → ℕ
place p (Unknown c) = c
place p (Slack i) = p.unknowns + counted (is_limit p) i
place p (Artificial i) = p.unknowns + (slacks p + counted (has_artificial p) i)
place p SumValue = p.unknowns + (slacks p + (artificials p + 0))
place p CostValue = p.unknowns + (slacks p + (artificials p + 1))
place p RightSide = p.unknowns + (slacks p + (artificials p + 2))

-- the table has the column
abbrev pub HasColumn : Program → Column → Type 0
HasColumn p (Unknown c) = c < p.unknowns
HasColumn p (Slack i) = (i < p.rules) × IsTrue (is_limit p i)
HasColumn p (Artificial i) = (i < p.rules) × IsTrue (has_artificial p i)
HasColumn p SumValue = Unit {0}
HasColumn p CostValue = Unit {0}
HasColumn p RightSide = Unit {0}

-- the column that is basic in a rule's row at the start, and in each row
abbrev pub own_column : Program → ℕ → Column
own_column p i = if has_artificial p i then Artificial i else Slack i

abbrev pub basic_column : Program → Line → Column
basic_column p (RuleLine i) = own_column p i
basic_column p SumLine = SumValue
basic_column p CostLine = CostValue

-- the table at the start, of which the rules may leave
abbrev pub start_table : Program → Table
start_table p = record {
  columns = place p RightSide + 1;
  rows = start_rows p;
  constraints = p.rules;
  basis = map (λ line. place p (basic_column p line)) (lines_of p);
}

-- how many columns come before the artificial ones, which may enter
abbrev pub free_columns : Program → ℕ
free_columns p = p.unknowns + slacks p

-- how often a rule stands in a row that the start's rows combine to: by its slack column, and of an equality by its artificial column, less the
-- sum of the artificial columns that stands in the row
abbrev pub multiplier : Program → List ℤ → ℕ → ℤ
multiplier p row i =
    if p.is_equality i then sign p i *ℤ (entry row (place p (Artificial i)) -ℤ entry row (place p SumValue)) else entry row (place p (Slack i))
