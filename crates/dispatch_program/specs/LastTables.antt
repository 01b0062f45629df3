-- What a run of pivots from the start of a program's table comes to: its last rows, and the values that its basis gives.
-- Source: the simplex method in two phases (G. B. Dantzig, "Linear Programming and Extensions", 1963).
use Rattle.std.specs.Prelude.{◌≡◌, ◌≢◌, ℕ, ◌+◌, ◌<◌, ◌≤◌, None, IsSome, length, ℤ, pos, ◌*ℤ◌, neg_ℤ, ◌≤ℤ◌, ◌<ℤ◌, IsTrue}
use Rattle.pivot_run.specs.Prelude.{row_at, IsBasic, IsTable, Table, basic, leaving, number, right_side, Keeps, values_of}
use Rattle.dispatch_program.specs.Programs.{Program, Unknown, Slack, Artificial, SumValue, CostValue, RightSide, HasColumn, is_limit, place, start_table, free_columns}
use Rattle.dispatch_program.specs.LastRows.{IsLastRow}
use Rattle.dispatch_program.specs.ProgramValues.{AreValues, IsRay}

-- the start is a table with a basis and right sides of 0 or above
pub record IsStart (t : Table) : Type 0 where
  pub table : IsTable t
  pub basis : IsBasic t
  pub sides : (k : ℕ) → k < t.constraints → pos 0 ≤ℤ right_side t k

abbrev pub StartsAreTables : Type 0
StartsAreTables = (p : Program) → IsStart (start_table p)

-- a table that a run from the start reaches: it has what runs keep, and the right side is no rule's basic column
pub record IsReached (p : Program) (t : Table) : Type 0 where
  pub keeps : Keeps (start_table p) t
  pub apart : (k : ℕ) → k < p.rules → basic t k ≢ place p RightSide

-- no column that isn't artificial enters by row o
pub record NoneEnters (p : Program) (t : Table) (o : ℕ) : Type 0 where
  pub unknown : (c : ℕ) → c < p.unknowns → pos 0 ≤ℤ number t o (place p (Unknown c))
  pub slack : (i : ℕ) → i < p.rules → IsTrue (is_limit p i) → pos 0 ≤ℤ number t o (place p (Slack i))

-- the row of the sum and the row of the cost are last rows, where none enters by them
abbrev pub EndsAreLast : Type 0
EndsAreLast =
    (p : Program) (t : Table) (o : ℕ) → IsReached p t → p.rules ≤ o → o < p.rules + 2 → NoneEnters p t o → IsLastRow p (row_at t.rows o)

-- ---- no sum is left
-- the sum's right side isn't above 0; where it is 0, a rule's row whose basic column is artificial has the right side 0
abbrev pub SumsAreLow : Type 0
SumsAreLow = (p : Program) (t : Table) → IsReached p t → number t p.rules (place p RightSide) ≤ℤ pos 0

abbrev pub HasNoArtificial : Program → Table → Type 0
HasNoArtificial p t =
    (k i : ℕ) → k < p.rules → HasColumn p (Artificial i) → basic t k ≡ place p (Artificial i) → number t k (place p RightSide) ≡ pos 0

abbrev pub NoSumIsLeft : Program → Table → Type 0
NoSumIsLeft p t = number t p.rules (place p RightSide) ≡ pos 0

abbrev pub NoSumNoArtificial : Type 0
NoSumNoArtificial = (p : Program) (t : Table) → IsReached p t → NoSumIsLeft p t → HasNoArtificial p t

-- ---- the values of a basis
-- shares of d: the number in a row's basic column and its share make up d
pub record AreShares (t : Table) (d : ℤ) (share : ℕ → ℤ) : Type 0 where
  pub denominator : pos 0 <ℤ d
  pub whole : (k : ℕ) → k < length t.rows → number t k (basic t k) *ℤ share k ≡ d

abbrev pub SharesExist : Type 0
SharesExist = (t : Table) → IsBasic t → (d : ℤ) × (share : ℕ → ℤ) × AreShares t d share

-- the values that the basis gives over d
abbrev pub basis_values : Program → Table → ℤ → (ℕ → ℤ) → ℕ → ℤ
basis_values p t d share = values_of t (place p RightSide) (neg_ℤ d) (λ k. neg_ℤ (share k)) (length t.rows)

-- they solve the start, and balance the row of the cost, where no sum is left
abbrev pub BasesGiveValues : Type 0
BasesGiveValues =
    (p : Program) (t : Table) (d : ℤ) (share : ℕ → ℤ) → IsReached p t → NoSumIsLeft p t → AreShares t d share
    → AreValues p d (basis_values p t d share)
    × (d *ℤ number t (p.rules + 1) (place p RightSide) ≡ number t (p.rules + 1) (place p CostValue) *ℤ basis_values p t d share (place p CostValue))

-- ---- a column that enters
-- where a column before the values has a number below 0 in the sum's row, a row leaves
abbrev pub SumsGoOn : Type 0
SumsGoOn =
    (p : Program) (t : Table) (j : ℕ) → IsReached p t → j < place p SumValue → number t p.rules j <ℤ pos 0 → IsSome (leaving t j t.constraints)

-- where none leaves column j, which isn't artificial, and each row whose basic column is artificial has 0 there, the table has a ray with a
-- value above 0 in column j, and 0 in the artificial columns
abbrev pub HasZeros : Program → Table → ℕ → Type 0
HasZeros p t j = (k i : ℕ) → k < p.rules → HasColumn p (Artificial i) → basic t k ≡ place p (Artificial i) → number t k j ≡ pos 0

pub record IsRayOf (p : Program) (j : ℕ) (v : ℕ → ℤ) : Type 0 where
  pub ray : IsRay p v
  pub value : pos 0 <ℤ v j
  pub none : (i : ℕ) → HasColumn p (Artificial i) → v (place p (Artificial i)) ≡ pos 0

abbrev pub EnteringGivesRays : Type 0
EnteringGivesRays =
    (p : Program) (t : Table) (j : ℕ) → IsReached p t → j < free_columns p → HasZeros p t j → leaving t j t.constraints ≡ None
    → (v : ℕ → ℤ) × IsRayOf p j v
