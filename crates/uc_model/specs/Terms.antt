-- What `Terms` say of the cells of a unit. Source: the single-unit problems of the Lagrangian relaxation of the reference model by Knueven,
-- Ostrowski and Watson, whose caps (M9, M10) depend on the starts and stops beside a cell.
--
-- Periods count from 0 here.
use Rattle.std.specs.Prelude.{ℕ, Bool, true, false, [], ℤ, pos, length, slice_index_or, Option, None}
use Rattle.uc_model.specs.declared.terms.Terms.{Terms}

-- the number of periods
abbrev pub period_count : Terms → ℕ
period_count terms = length terms.terms

-- the place of a cell's term in its period's row, by whether the cell is a start and whether a stop follows
abbrev pub place : Bool → Bool → ℕ
place false false = 0
place true false = 1
place false true = 2
place true true = 3

-- the term of such a cell in period t
abbrev pub term_at : Terms → ℕ → Bool → Bool → Option ℤ
term_at terms t start stop = slice_index_or (slice_index_or terms.terms t []) (place start stop) None

-- the price of demand in period t
abbrev pub price_at : Terms → ℕ → ℤ
price_at terms t = slice_index_or terms.pi t (pos 0)
