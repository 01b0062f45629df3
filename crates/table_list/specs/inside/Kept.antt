-- How a list keeps its tables: some whole, the changes of each one against the one before it, and for each table of which whole one and
-- by which changes it is rebuilt.
use Rattle.std.specs.Prelude.{◌≡◌, ℕ, suc, ◌-◌, ◌<◌, ◌≤◌, List, [], ◌∷◌, ◌++◌, Option, MatchOption, length, map, take, drop, slice_get, slice_index_or, ℤ, pos, All}
use Rattle.dual_model.specs.Prelude.{IsWellFormed}
use Rattle.table_list.specs.Changes.{Table, Change, all_changed, table_changes}
use Rattle.table_list.specs.TableChanges.{changes_of}
pub use Rattle.table_list.specs.declared.kept.Entry.{Entry}
pub use Rattle.table_list.specs.declared.kept.Kept.{Kept}

abbrev pub no_table : Table
no_table = record { units = 0; k = pos 0; pi = []; mu = []; ramps = [] }

abbrev pub with_scale : Table → ℤ → Table
with_scale table k = record table { k = k }

-- the changes from one place up to another
abbrev pub stretch : List Change → ℕ → ℕ → List Change
stretch told from end = take (end - from) (drop from told)

-- the table of an entry
abbrev pub rebuilt : List Table → List Change → Entry → Table
rebuilt wholes told entry =
    with_scale (all_changed (slice_index_or wholes entry.whole no_table) (stretch told entry.from entry.end)) entry.k

-- its changes against the table before it
abbrev pub own_changes : List Change → Entry → List Change
own_changes told entry = stretch told entry.start entry.end

abbrev pub tables_of : List Table → List Change → List Entry → List Table
tables_of wholes told entries = map (rebuilt wholes told) entries

-- an entry names a table that is kept whole, and changes that are there
pub record IsWithin (wholes told : ℕ) (entry : Entry) : Type 0 where
  pub whole : entry.whole < wholes
  pub from : entry.from ≤ entry.end
  pub start : entry.start ≤ entry.end
  pub end : entry.end ≤ told

-- each table behind the first one is told by its changes
abbrev pub AreSteps : List Table → List (List Change) → Type 0
AreSteps tables steps =
    (i : ℕ) → suc i < length tables → slice_index_or steps (suc i) [] ≡ table_changes (slice_index_or tables i no_table) (slice_index_or tables (suc i) no_table)

pub record AreKept (wholes : List Table) (told : List Change) (entries : List Entry) : Type 0 where
  pub within : All (IsWithin (length wholes) (length told)) entries
  pub formed : All IsWellFormed (tables_of wholes told entries)
  pub steps : AreSteps (tables_of wholes told entries) (map (own_changes told) entries)
  pub first : slice_get wholes 0 ≡ slice_get (tables_of wholes told entries) 0

-- this table is the last one, and is rebuilt of the last one that is kept whole by the changes from that place on
pub record IsLastOf (wholes : List Table) (told : List Change) (entries : List Entry) (from : ℕ) (last : Table) : Type 0 where
  pub some : 0 < length entries
  pub is : slice_index_or (tables_of wholes told entries) (length entries - 1) no_table ≡ last
  pub whole : 0 < length wholes
  pub place : from ≤ length told
  pub made : last ≡ with_scale (all_changed (slice_index_or wholes (length wholes - 1) no_table) (drop from told)) last.k

abbrev pub told_in : Kept → List Change
told_in kept = changes_of kept.changes.items

abbrev pub tables_in : Kept → List Table
tables_in kept = tables_of kept.wholes.items (told_in kept) kept.entries.items

-- with the last table, where there is one
pub record IsListed (kept : Kept) (last : Option Table) : Type 0 where
  pub all : AreKept kept.wholes.items (told_in kept) kept.entries.items
  pub end : MatchOption last (kept.entries.items ≡ []) (IsLastOf kept.wholes.items (told_in kept) kept.entries.items kept.from)

-- ---- what a push adds
-- a table that is kept whole, whose own changes begin there
pub record IsWholeAdded (old new : Kept) (table : Table) (start : ℕ) : Type 0 where
  pub wholes : new.wholes.items ≡ old.wholes.items ++ table ∷ []
  pub from : new.from ≡ length old.changes.items
  pub changes : new.changes.items ≡ old.changes.items
  pub entries : new.entries.items ≡ old.entries.items
      ++ record { k = table.k; whole = length old.wholes.items; from = length old.changes.items; start = start; end = length old.changes.items } ∷ []

-- one that is rebuilt of the last one that is kept whole
pub record IsToldAdded (old new : Kept) (k : ℤ) (start : ℕ) : Type 0 where
  pub wholes : new.wholes.items ≡ old.wholes.items
  pub from : new.from ≡ old.from
  pub changes : new.changes.items ≡ old.changes.items
  pub entries : new.entries.items ≡ old.entries.items
      ++ record { k = k; whole = length old.wholes.items - 1; from = old.from; start = start; end = length old.changes.items } ∷ []
