-- What contracts see of a table that is read, and of the changes that make it of the one before it.
use Rattle.std.specs.Prelude.{◌≡◌, ℕ, ◌<◌, Bool, true, false, not, ◌&&◌, ◌||◌, List, [], ◌∷◌, ◌++◌, Option, Some, Ok, length, pos}
use Rattle.std.specs.Ordering.{int_eq}
use Rattle.dual_model.specs.Prelude.{row_of, AreRising}
use Rattle.table_list.specs.Changes.{Table, RampRow, Change, OfDemand, OfReserve, OfRamps, is_before, with_row, changed}
use Rattle.table_list.specs.TableChanges.{last_table}
use Rattle.cert_text.specs.CertificateText.{told_from}
use Rattle.cert_text.specs.Grammar.{Sizes}
use Rattle.cert_text.specs.TextConditions.{IsTableText}
use Rattle.cert_text.specs.inside.Forms.{comes_behind, is_other}
use Rattle.cert_text.specs.inside.Parts.{told_part}
use Rattle.cert_text.specs.declared.reader.draft.Draft.{Draft}

-- ---- tables
-- the table of a draft's numbers, with these ramp rows
abbrev pub drafted : Draft → List RampRow → Table
drafted draft rows = record { units = draft.units; k = pos draft.k; pi = draft.pi.items; mu = draft.mu.items; ramps = rows }

-- the table so far, while it is changed: behind the rows that are done come those that are left of the table before it
abbrev pub so_far : Draft → List RampRow → Table
so_far draft left = drafted draft (draft.ramps.items ++ left)

-- a table of that size that has a text, and whose numbers are the draft's
pub record IsDrafted (size : Sizes) (draft : Draft) (table : Table) : Type 0 where
  pub numbers : table ≡ drafted draft draft.ramps.items
  pub text : IsTableText size.periods size.thermal table

-- a table that is told at the front of bytes went behind the others, and its numbers are the draft's
pub record IsToldBehind (size : Sizes) (tables : List Table) (bytes : List ℕ) (draft : Draft) (grown : List Table) (rest : List ℕ) : Type 0 where
  pub table : Table
  pub told : told_part size (told_from size.version (last_table tables)) bytes ≡ Ok (table, rest)
  pub all : grown ≡ tables ++ table ∷ []
  pub drafted : IsDrafted size draft table

-- ---- ramp rows
-- each of the rows comes before that one
abbrev pub LieBefore : List RampRow → RampRow → Type 0
LieBefore [] row = Unit {0}
LieBefore (first ∷ rows) row = (is_before first row ≡ true) × LieBefore rows row

-- the first of the rows comes before that one
abbrev pub starts_before : RampRow → List RampRow → Bool
starts_before row [] = false
starts_before row (first ∷ rows) = is_before first row

-- the row has other numbers
abbrev pub differs : RampRow → RampRow → Bool
differs old row = not (int_eq old.up row.up) || not (int_eq old.down row.down)

-- of rising rows that are left, those before a row went behind those that are done
pub record IsPassed (done left : List RampRow) (row : RampRow) (now rest : List RampRow) : Type 0 where
  pub same : now ++ rest ≡ done ++ left
  pub before : LieBefore now row
  pub front : starts_before row rest ≡ false
  pub rising : AreRising rest

-- the row, which is another one than that of its unit and period, went in its place
pub record IsRowSet (done left : List RampRow) (row : RampRow) (now rest : List RampRow) : Type 0 where
  pub other : differs (row_of (done ++ left) row.g row.t) row ≡ true
  pub rows : now ++ rest ≡ with_row (done ++ left) row
  pub before : (later : RampRow) → is_before row later ≡ true → LieBefore now later
  pub rising : AreRising rest

-- ---- changes
-- a price that changes is there
abbrev pub HasPrice : Table → Change → Type 0
HasPrice table (OfDemand t price) = t < length table.pi
HasPrice table (OfReserve t price) = t < length table.mu
HasPrice table (OfRamps row) = Unit {0}

-- a price for each period
pub record ArePriced (periods : ℕ) (draft : Draft) : Type 0 where
  pub demand : length draft.pi.items ≡ periods
  pub reserve : length draft.mu.items ≡ periods

-- the rows that are done come before each row that may change behind the last change, and those that are left rise
pub record IsUnderway (draft : Draft) (left : List RampRow) (last : Option Change) : Type 0 where
  pub done : (row : RampRow) → comes_behind last (OfRamps row) ≡ true → LieBefore draft.ramps.items row
  pub rising : AreRising left

-- the change comes behind the last one, and says another number than the table so far; it was made
pub record IsMade (draft : Draft) (left : List RampRow) (last : Option Change) (change : Change) (now : Draft) (rest : List RampRow) : Type 0 where
  pub other : (comes_behind last change && is_other (so_far draft left) change) ≡ true
  pub table : so_far now rest ≡ changed (so_far draft left) change
  pub underway : IsUnderway now rest (Some change)
