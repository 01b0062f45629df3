-- A row that the rows of the start combine to: how often each rule stands in it makes up its numbers.
-- Source: the simplex multipliers (G. B. Dantzig, "Linear Programming and Extensions", 1963), in whole numbers.
use Rattle.std.specs.Prelude.{◌≡◌, ℕ, ◌<◌, List, ℤ, pos, ◌+ℤ◌, ◌*ℤ◌, ◌≤ℤ◌, IsTrue}
use Rattle.uc_model.specs.Prelude.{sum_below}
use Rattle.pivot_run.specs.Prelude.{entry, Solves, dot}
use Rattle.dispatch_program.specs.Programs.{Program, Unknown, Slack, CostValue, RightSide, is_limit, start_rows, place, multiplier}

-- a row that each solution of the start solves
abbrev pub IsKept : Program → List ℤ → Type 0
IsKept p row = (v : ℕ → ℤ) → Solves (start_rows p) v → dot row v ≡ pos 0

-- its number in the column of an unknown, and its right side
abbrev pub UnknownsAdd : Type 0
UnknownsAdd =
    (p : Program) (row : List ℤ) (c : ℕ) → IsKept p row → c < p.unknowns
    → entry row (place p (Unknown c)) ≡ sum_below p.rules (λ i. multiplier p row i *ℤ p.factor i c) +ℤ entry row (place p CostValue) *ℤ p.cost c

abbrev pub RightSidesAdd : Type 0
RightSidesAdd =
    (p : Program) (row : List ℤ) → IsKept p row
    → entry row (place p RightSide) ≡ sum_below p.rules (λ i. multiplier p row i *ℤ p.right i)

-- such a row with no number below 0 in a column that isn't artificial
pub record IsLastRow (p : Program) (row : List ℤ) : Type 0 where
  pub kept : IsKept p row
  pub unknown : (c : ℕ) → c < p.unknowns → pos 0 ≤ℤ entry row (place p (Unknown c))
  pub slack : (i : ℕ) → i < p.rules → IsTrue (is_limit p i) → pos 0 ≤ℤ entry row (place p (Slack i))
  pub value : pos 0 ≤ℤ entry row (place p CostValue)
