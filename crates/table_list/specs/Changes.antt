-- How a table is told by its difference to the one before it: the numbers that are others, in their order. This project's own format.
--
-- Units and periods count from 0 here, and from 1 in the text.
use Rattle.std.specs.Prelude.{ℕ, suc, ◌==◌, ◌&&◌, ◌||◌, nat_lt, Bool, List, [], ◌∷◌, ◌++◌, ℤ, pos, map, slice_set, if◌then◌else◌}
use Rattle.std.specs.Ordering.{int_eq}
pub use Rattle.dual_model.specs.declared.table.Table.{Table}
pub use Rattle.dual_model.specs.declared.table.RampRow.{RampRow}

-- a number that is another one than in the table before: the price of demand or of reserve in a period; or the row of a unit's ramps
-- in a period, which is all 0 where the table has none
pub data Change : Type 0 where
  OfDemand : ℕ → ℤ → Change
  OfReserve : ℕ → ℤ → Change
  OfRamps : RampRow → Change

-- ---- the table with the change
-- a row comes before another: by unit, and then by period
abbrev pub is_before : RampRow → RampRow → Bool
is_before first second = nat_lt first.g second.g || ((first.g == second.g) && nat_lt first.t second.t)

-- a row before others, where it isn't all 0
abbrev pub is_none : RampRow → Bool
is_none row = int_eq row.up (pos 0) && int_eq row.down (pos 0)

abbrev pub placed : RampRow → List RampRow → List RampRow
placed row rows = if is_none row then rows else row ∷ rows

-- rising rows, with this one in place of that of its unit and period
abbrev pub with_row : List RampRow → RampRow → List RampRow
with_row [] row = placed row []
with_row (first ∷ rows) row =
    if is_before first row then first ∷ with_row rows row else if is_before row first then placed row (first ∷ rows) else placed row rows

abbrev pub changed : Table → Change → Table
changed table (OfDemand t price) = record table { pi = slice_set table.pi t price }
changed table (OfReserve t price) = record table { mu = slice_set table.mu t price }
changed table (OfRamps row) = record table { ramps = with_row table.ramps row }

-- with all these changes
abbrev pub all_changed : Table → List Change → Table
all_changed table [] = table
all_changed table (change ∷ changes) = all_changed (changed table change) changes

-- ---- the changes that make one table of another
-- of prices, from period t on
abbrev pub price_changes : (ℕ → ℤ → Change) → ℕ → List ℤ → List ℤ → List Change
price_changes change t [] news = []
price_changes change t (old ∷ olds) [] = []
price_changes change t (old ∷ olds) (new ∷ news) =
    if int_eq old new then price_changes change (suc t) olds news else change t new ∷ price_changes change (suc t) olds news

-- a row of that unit and period that is all 0
abbrev pub no_row : RampRow → RampRow
no_row row = record { g = row.g; t = row.t; up = pos 0; down = pos 0 }

-- the row of a unit and a period in place of the former one of them, where it is another
abbrev pub new_row : RampRow → RampRow → List RampRow
new_row old new = if int_eq old.up new.up && int_eq old.down new.down then [] else new ∷ []

-- of rising rows: those before the first old one are new; the old one has another in its place, or none; and then those behind it,
-- by what is said of the old ones behind it
abbrev pub rows_from : RampRow → (List RampRow → List RampRow) → List RampRow → List RampRow
rows_from old behind [] = no_row old ∷ behind []
rows_from old behind (new ∷ news) =
    if is_before new old then new ∷ rows_from old behind news
    else if is_before old new then no_row old ∷ behind (new ∷ news)
    else new_row old new ++ behind news

abbrev pub row_changes : List RampRow → List RampRow → List RampRow
row_changes [] news = news
row_changes (old ∷ olds) news = rows_from old (row_changes olds) news

abbrev pub table_changes : Table → Table → List Change
table_changes before after =
    price_changes OfDemand 0 before.pi after.pi ++ (price_changes OfReserve 0 before.mu after.mu ++ map OfRamps (row_changes before.ramps after.ramps))
