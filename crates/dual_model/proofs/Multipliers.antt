-- The look-ups of a table: its multipliers keep the signs of its lists, and are 0 past the last period.
use Rattle.std.proofs.Common.{◌≡◌, ℕ, suc, ◌<◌, ◌≤◌, List, [], ◌∷◌, length, refl, ap, arith, ℤ, pos, ◌≤ℤ◌, ◌&&◌, ◌==◌, All, slice_index_or}
use Rattle.std.proofs.lemmas.Bool.{and_parts, cond_both, eqb-true}
use Rattle.std.proofs.lemmas.List.{get_or_past}
use Rattle.uc_model.proofs.Common.{le_refl}
use Rattle.dual_model.specs.Prelude.{RampRow, Table, mu_at, up_at, down_at, row_of, IsRowSigned, IsRowWithin, HasLawfulSigns}

-- what holds of each element and of the default holds of each look-up
pub look_up : (P : ℤ → Type 0) (xs : List ℤ) (d : ℤ) (k : ℕ) → All P xs → P d → P (slice_index_or xs k d)
look_up P xs d k each other = grind (arith, get_or_past, each, other)

pub mu_at_nonneg : (table : Table) → HasLawfulSigns table → (t : ℕ) → pos 0 ≤ℤ mu_at table t
mu_at_nonneg table signs t = look_up (λ n. pos 0 ≤ℤ n) table.mu (pos 0) t signs.mu (le_refl (pos 0))

-- what holds of each row, and of one that is all 0, holds of the row that is looked up
pub row_of_each : (P : RampRow → Type 0) (rows : List RampRow) (g t : ℕ)
    → ((k : ℕ) (d : RampRow) → k < length rows → P (slice_index_or rows k d))
    → P (record { g = g; t = t; up = pos 0; down = pos 0 }) → P (row_of rows g t)
row_of_each P [] g t each other = other
row_of_each P (row ∷ rows) g t each other =
    cond_both ((row.g == g) && (row.t == t)) row (row_of rows g t) P
    (λ here. each 0 row (omega arith))
    (λ later. row_of_each P rows g t (λ k d l. each (suc k) d (omega arith)) other)

pub signed_at : (table : Table) → HasLawfulSigns table → (g t : ℕ) → IsRowSigned (row_of table.ramps g t)
signed_at table signs g t = row_of_each IsRowSigned table.ramps g t signs.ramps (record { up = le_refl (pos 0); down = le_refl (pos 0) })

-- there is no row past the last period
absent : (units periods : ℕ) (rows : List RampRow) (g t : ℕ)
    → ((k : ℕ) (d : RampRow) → k < length rows → IsRowWithin units periods (slice_index_or rows k d))
    → periods ≤ t → row_of rows g t ≡ record { g = g; t = t; up = pos 0; down = pos 0 }
absent units periods [] g t each past = refl
absent units periods (row ∷ rows) g t each past =
    let none : RampRow = record { g = g; t = t; up = pos 0; down = pos 0 } in
    cond_both ((row.g == g) && (row.t == t)) row (row_of rows g t) (λ r. r ≡ none)
    (λ here.
    absurd (omega (arith, (each 0 row (omega arith)).period, eqb-true row.t t (and_parts _ _ here).1)))
    (λ later. absent units periods rows g t (λ k d l. each (suc k) d (omega arith)) past)

pub up_at_past : (table : Table) (units periods g t : ℕ) → All (IsRowWithin units periods) table.ramps
    → periods ≤ t → up_at table g t ≡ pos 0
up_at_past table units periods g t each past = ap (λ (row : RampRow). row.up)
    (absent units periods table.ramps g t each past)

pub down_at_past : (table : Table) (units periods g t : ℕ) → All (IsRowWithin units periods) table.ramps
    → periods ≤ t → down_at table g t ≡ pos 0
down_at_past table units periods g t each past = ap (λ (row : RampRow). row.down)
    (absent units periods table.ramps g t each past)
