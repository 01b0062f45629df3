-- The terms of one unit of an instance at a price table, and the unit's value there. Source: the single-unit
-- problems of the Lagrangian relaxation of the reference model by Knueven, Ostrowski and Watson.
use Rattle.std.specs.Prelude.{◌≡◌, ℕ, ◌<◌, ◌≤◌, Bool, List, [], ℤ, pos, ◌≤ℤ◌, ◌<ℤ◌, unsigned_abs, length, slice_index_or, Option, None, IfSome, MatchOption}
use Rattle.uc_model.specs.Prelude.{thermal_unit, period_count, term_at, price_at, place, cell_cap}
use Rattle.dual_model.specs.Prices.{Instance, Table, MAX_SCALE, pi_at}
use Rattle.dual_model.specs.Fixings.{Node, HasNoPattern}
use Rattle.dual_model.specs.Term.{Point, IsTerm, output_price, reserve_price}
use Rattle.dual_model.specs.UnitValue.{Thermal, IsUnitValue}
use Rattle.dual_model.specs.UnitTerms.{MAX_TERM, MAX_UNIT_PRICE, Terms}

-- the term of a cell of this cap, or nothing where the cap is below 0
abbrev pub IsCellTerm : List Point → ℤ → ℤ → ℤ → ℤ → Option ℤ → Type 0
IsCellTerm points k a b cap term = MatchOption term (cap <ℤ pos 0) (IsTerm points k a b cap)

-- the terms are those of unit g of the instance at the table
pub record AreTermsOf (instance : Instance) (table : Table) (g : ℕ) (terms : Terms) : Type 0 where
  pub scale : terms.k ≡ table.k
  pub periods : period_count terms ≡ instance.periods
  pub price : (t : ℕ) → t < instance.periods → price_at terms t ≡ pi_at table t
  pub term : (t : ℕ) (start stop : Bool) → t < instance.periods →
      IsCellTerm (thermal_unit instance g).points table.k (output_price table g t) (reserve_price table g t)
      (cell_cap instance.periods (thermal_unit instance g) t start stop) (term_at terms t start stop)

-- v is the value of unit g at the node and the table, or nothing where the unit has no pattern there
abbrev pub IsUnitValueOf : Instance → Node → Table → ℕ → Option ℤ → Type 0
IsUnitValueOf instance node table g v = MatchOption v (HasNoPattern instance node g) (IsUnitValue instance node table g)

-- ---- terms from rows of prices
-- the row of a period: A, B and the price of demand
abbrev pub row_at : List (ℤ × ℤ × ℤ) → ℕ → ℤ × ℤ × ℤ
row_at rows t = slice_index_or rows t (pos 0, pos 0, pos 0)

-- prices within the limits
pub record IsLawfulRow (row : ℤ × ℤ × ℤ) : Type 0 where
  pub output : unsigned_abs row.0 ≤ MAX_UNIT_PRICE
  pub reserve : unsigned_abs row.1 ≤ MAX_UNIT_PRICE
  pub demand : unsigned_abs row.2 ≤ MAX_UNIT_PRICE

-- a scale within the limits
pub record IsLawfulScale (k : ℤ) : Type 0 where
  pub low : pos 0 ≤ℤ k
  pub high : k ≤ℤ MAX_SCALE

-- the term of a cell of the unit at a row, and its size
pub record IsTermOfRow (periods : ℕ) (unit : Thermal) (k : ℤ) (row : ℤ × ℤ × ℤ) (t : ℕ) (start stop : Bool) (term : Option ℤ) : Type 0 where
  pub is : IsCellTerm unit.points k row.0 row.1 (cell_cap periods unit t start stop) term
  pub size : IfSome term (λ m. unsigned_abs m ≤ MAX_TERM)

-- the prices of demand in the first n rows, and the terms of the unit at them
abbrev pub ArePricesOf : List (ℤ × ℤ × ℤ) → ℕ → List ℤ → Type 0
ArePricesOf rows n prices = (t : ℕ) → t < n → slice_index_or prices t (pos 0) ≡ (row_at rows t).2

abbrev pub AreTermsOfRows : Thermal → ℤ → List (ℤ × ℤ × ℤ) → ℕ → List (List (Option ℤ)) → Type 0
AreTermsOfRows unit k rows n terms =
    (t : ℕ) (start stop : Bool) → t < n →
    IsTermOfRow (length rows) unit k (row_at rows t) t start stop (slice_index_or (slice_index_or terms t []) (place start stop) None)

-- the terms are those of the unit at these rows
pub record AreTermsFor (unit : Thermal) (k : ℤ) (rows : List (ℤ × ℤ × ℤ)) (terms : Terms) : Type 0 where
  pub scale : terms.k ≡ k
  pub periods : period_count terms ≡ length rows
  pub prices : length terms.pi ≡ length rows
  pub price : (t : ℕ) → t < length rows → price_at terms t ≡ (row_at rows t).2
  pub term : (t : ℕ) (start stop : Bool) → t < length rows →
      IsCellTerm unit.points k (row_at rows t).0 (row_at rows t).1 (cell_cap (length rows) unit t start stop) (term_at terms t start stop)

-- the rows are the prices of unit g of the instance at the table
pub record AreRowsOf (instance : Instance) (table : Table) (g : ℕ) (rows : List (ℤ × ℤ × ℤ)) : Type 0 where
  pub periods : length rows ≡ instance.periods
  pub output : (t : ℕ) → t < instance.periods → (row_at rows t).0 ≡ output_price table g t
  pub reserve : (t : ℕ) → t < instance.periods → (row_at rows t).1 ≡ reserve_price table g t
  pub demand : (t : ℕ) → t < instance.periods → (row_at rows t).2 ≡ pi_at table t
