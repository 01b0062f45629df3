-- Rows that rise by unit and then by period: what stands before a cell, and which row is the cell's.
use Rattle.std.proofs.Common.{◌≡◌, ℕ, zero, suc, ◌<◌, ◌≤◌, ⊎_elim, Bool, true, false, ◌&&◌, List, [], ◌∷◌, length, refl, sym, subst, ◌∙◌, arith, pos, IsTrue, ◌==◌}
use Rattle.std.proofs.lemmas.Bool.{and_parts, and_from, eqb-true, eq-eqb, cond-true, cond-false}
use Rattle.dual_model.specs.Prelude.{row_of, IsRowBefore}
use Rattle.ramp_duals.specs.RampRows.{RampRow, Table, AreRising, row_in, IsBefore, IsPlace, AreOf, AreOfTable}
use Rattle.ramp_duals.specs.declared.multipliers.Multipliers.{Multipliers}
use Rattle.uc_model.proofs.Common.{below_or_last}

-- a row before another one that stands before a cell stands before it too
before-before : (first second : RampRow) (g t : ℕ) → IsRowBefore first second → IsBefore second g t → IsBefore first g t
before-before first second g t h k = let order = h.before in grind arith

-- rows before a row that stands before a cell do too
pub before-earlier : (rows : List RampRow) → AreRising rows → (g t i j : ℕ) → i ≤ j → j < length rows
    → IsBefore (row_in rows j) g t → IsBefore (row_in rows i) g t
before-earlier rows rising g t i zero h k l = grind (arith, rising, h, k, l)
before-earlier rows rising g t i (suc j) h k l =
    ⊎_elim
    (λ (same : i ≡ suc j). subst (λ n. IsBefore (row_in rows n) g t) (sym same) l)
    (λ (earlier : i ≤ j).
    before-earlier rows rising g t i j earlier (omega arith)
    (before-before (row_in rows j) (row_in rows (suc j)) g t
    (rising j (record { g = 0; t = 0; up = pos 0; down = pos 0 }) k) l))
    (grind arith)

-- ---- the row of a cell among all
not_true : (b : Bool) → (IsTrue b → ⊥) → b ≡ false
not_true true h = absurd (h refl)
not_true false h = refl

-- the first row of the cell is the one that is looked up
pub row_of-first : (rows : List RampRow) (g t p : ℕ) → p < length rows
    → ((i : ℕ) → i < p → IsTrue ((row_in rows i).g == g && (row_in rows i).t == t) → ⊥)
    → IsTrue ((row_in rows p).g == g && (row_in rows p).t == t)
    → row_of rows g t ≡ row_in rows p
row_of-first [] g t p h earlier here = absurd (omega arith)
row_of-first (row ∷ rows) g t zero h earlier here = cond-true _ _ _ here
row_of-first (row ∷ rows) g t (suc p) h earlier here =
    cond-false _ _ _ (not_true _ (earlier 0 (omega arith)))
    ∙ row_of-first rows g t p (omega arith) (λ i l. earlier (suc i) (omega arith)) here

-- where no row is the cell's, one of nothing is
pub row_of-none : (rows : List RampRow) (g t : ℕ)
    → ((i : ℕ) → i < length rows → IsTrue ((row_in rows i).g == g && (row_in rows i).t == t) → ⊥)
    → row_of rows g t ≡ record { g = g; t = t; up = pos 0; down = pos 0 }
row_of-none [] g t none = refl
row_of-none (row ∷ rows) g t none =
    cond-false _ _ _ (not_true _ (none 0 (omega arith)))
    ∙ row_of-none rows g t (λ i l. none (suc i) (omega arith))

-- ---- places
abbrev pub IsOf : RampRow → ℕ → ℕ → Bool
IsOf row g t = (row.g == g) && (row.t == t)

of_both : (row : RampRow) (g t : ℕ) → IsTrue (IsOf row g t) → (row.g ≡ g) × (row.t ≡ t)
of_both row g t h = let parts = and_parts (row.g == g) (row.t == t) h in (eqb-true _ _ parts.0, eqb-true _ _ parts.1)

from_both : (row : RampRow) (g t : ℕ) → row.g ≡ g → row.t ≡ t → IsTrue (IsOf row g t)
from_both row g t h k = and_from (row.g == g) (row.t == t) (eq-eqb _ _ h) (eq-eqb _ _ k)

-- a row before the cell isn't the cell's, and stands before the next cell of the unit too
before-not_of : (row : RampRow) (g t : ℕ) → IsBefore row g t → IsTrue (IsOf row g t) → ⊥
before-not_of row g t h k = let both = of_both row g t k in grind arith

-- a row that isn't before the cell, nor the cell's, isn't before the next one
not_before-next : (row : RampRow) (g t : ℕ) → (IsBefore row g t → ⊥) → (row.g ≡ g → row.t ≡ t → ⊥) → IsBefore row g (suc t) → ⊥
not_before-next row g t h k l = grind (arith, h, k, l)

-- a row before that of the cell stands before the cell
row_before-cell : (first second : RampRow) (g t : ℕ) → IsRowBefore first second → second.g ≡ g → second.t ≡ t → IsBefore first g t
row_before-cell first second g t h unit period = let order = h.before in grind arith

-- a row behind one that isn't before the cell isn't the cell's
later-not_of : (rows : List RampRow) → AreRising rows → (g t i j : ℕ) → i < j → j < length rows
    → (IsBefore (row_in rows i) g t → ⊥) → (row_in rows j).g ≡ g → (row_in rows j).t ≡ t → ⊥
later-not_of rows rising g t i zero h l first unit period = absurd (omega arith)
later-not_of rows rising g t i (suc j) h l first unit period =
    first
    (before-earlier rows rising g t i j (omega arith) (omega arith)
    (row_before-cell (row_in rows j) (row_in rows (suc j)) g t
    (rising j (record { g = 0; t = 0; up = pos 0; down = pos 0 }) l) unit period))

-- where the row at the cell's place isn't the cell's, no row is
pub none_at : (rows : List RampRow) → AreRising rows → (g t place : ℕ) → IsPlace rows g t place
    → (place < length rows → IsTrue (IsOf (row_in rows place) g t) → ⊥)
    → (i : ℕ) → i < length rows → IsTrue (IsOf (row_in rows i) g t) → ⊥
none_at rows rising g t place is here i l h = grind (arith, before-not_of, of_both, later-not_of, rising, is, here, l, h)

-- it is then the next cell's place too
pub same_place : (rows : List RampRow) → AreRising rows → (g t place : ℕ) → IsPlace rows g t place
    → (place < length rows → IsTrue (IsOf (row_in rows place) g t) → ⊥) → IsPlace rows g (suc t) place
same_place rows rising g t place is here = record {
  within = is.within;
  before = λ i l. grind (arith, is.before i l);
  later = λ i low l. not_before-next (row_in rows i) g t (is.later i low l)
      (λ unit period. none_at rows rising g t place is here i l (from_both (row_in rows i) g t unit period));
}

-- and else the next cell's place is the next one
pub next_place : (rows : List RampRow) → AreRising rows → (g t place next : ℕ) → next ≡ suc place → IsPlace rows g t place
    → place < length rows → IsTrue (IsOf (row_in rows place) g t) → IsPlace rows g (suc t) next
next_place rows rising g t place next e is below here =
    grind (arith, of_both, below_or_last, not_before-next, later-not_of, rising, e, is, below, here)

-- the rows before the cell's place aren't the cell's
pub earlier_none : (rows : List RampRow) (g t place : ℕ) → IsPlace rows g t place
    → (i : ℕ) → i < place → IsTrue (IsOf (row_in rows i) g t) → ⊥
earlier_none rows g t place is i l = before-not_of (row_in rows i) g t (is.before i l)

-- ---- the rows of a unit
-- what is found among rows by which look-ups are the table's is what the table has
pub in_table : (table : Table) (rows : List RampRow) (g t : ℕ) (found : Multipliers)
    → ((k : ℕ) → row_of rows g k ≡ row_of table.ramps g k) → AreOf rows g t found → AreOfTable table g t found
in_table table rows g t found same is = grind (arith, same, is)
