-- Lists of prices and terms make terms of a unit, in shape and size, and those of a table where the rows are the table's.
use Rattle.std.proofs.Common.{arith, ◌≡◌, ℕ, ◌<◌, ◌≤◌, List, length, ℤ, Option}
use Rattle.uc_model.specs.Prelude.{thermal_unit}
use Rattle.dual_model.specs.Prelude.{Instance, MAX_PERIODS, Terms, Thermal, AreSizedTerms, row_at, ArePricesOf, AreTermsOfRows, AreTermsFor, AreRowsOf, AreTermsOf, IsLawfulRow, IsLawfulScale}
use Rattle.dual_model.specs.declared.table.Table.{Table}

abbrev pub made : ℤ → List ℤ → List (List (Option ℤ)) → Terms
made k pi terms = record { k = k; pi = pi; terms = terms }

pub terms_for : (unit : Thermal) (k : ℤ) (rows : List (ℤ × ℤ × ℤ)) (pi : List ℤ) (terms : List (List (Option ℤ)))
    → length pi ≡ length rows → length terms ≡ length rows → ArePricesOf rows (length rows) pi → AreTermsOfRows unit k rows (length rows) terms
    → AreTermsFor unit k rows (made k pi terms)
terms_for unit k rows pi terms price_count term_count prices are = grind (arith, price_count, term_count, prices, are)

pub sized_for : (unit : Thermal) (k : ℤ) (rows : List (ℤ × ℤ × ℤ)) (pi : List ℤ) (terms : List (List (Option ℤ)))
    → IsLawfulScale k → (1 ≤ length rows) × (length rows ≤ MAX_PERIODS) → ((t : ℕ) → t < length rows → IsLawfulRow (row_at rows t))
    → length pi ≡ length rows → length terms ≡ length rows → ArePricesOf rows (length rows) pi → AreTermsOfRows unit k rows (length rows) terms
    → AreSizedTerms unit (made k pi terms)
sized_for unit k rows pi terms scale periods lawful price_count term_count prices are = grind (arith, scale, periods, lawful, price_count, term_count, prices, are)

pub terms_of : (instance : Instance) (table : Table) (g : ℕ) (unit : Thermal) (k : ℤ) (rows : List (ℤ × ℤ × ℤ)) (terms : Terms)
    → thermal_unit instance g ≡ unit → k ≡ table.k → AreRowsOf instance table g rows → AreTermsFor unit k rows terms
    → AreTermsOf instance table g terms
terms_of instance table g unit k rows terms same scale rows_of are = grind (arith, same, scale, rows_of, are)
