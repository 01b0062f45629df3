-- What is told next of tables, and what is still to be told behind it, are what was to be told before.
use Rattle.std.proofs.Common.{◌≡◌, ℕ, ℤ, pos, ◌+◌, ◌<◌, ◌≤◌, Bool, true, false, cond, List, [], ◌∷◌, ◌++◌, length, drop, get_or, Option, Some, None, slice_get, ◌-◌, refl, ap, sym, ◌∙◌, add-one, drop-cons, length-append, arith}
use Rattle.std.specs.List.{flat_map}
use Rattle.std.specs.Option.{option_map_or}
use Rattle.std.proofs.lemmas.List.Concat.{flat_map-append}
use Rattle.std.proofs.lemmas.List.Folds.{flat_map-map}
use Rattle.std.proofs.lemmas.Option.{slice_get-get_or}
use Rattle.std.proofs.lemmas.List.{drop_more, drop_all, length-map, get_or-map}
use Rattle.table_list.specs.declared.change.Change.{Change as KeptChange}
use Rattle.table_list.specs.TableChanges.{change_of, changes_of}
use Rattle.table_list.specs.Changes.{Change, OfDemand, OfReserve, price_changes, row_changes, table_changes}
use Rattle.cert_text.specs.CertificateText.{Table, change_line}
use Rattle.cert_text.specs.inside.WrittenParts.{price_part, told_count, table_part, next_part, changes_part, told_part, tables_part}

-- ---- prices
-- those of period t, and those behind them
told-or-not : (same : Bool) (change : Change) (rest : List Change)
    → cond same [] (change_line change) ++ flat_map change_line rest ≡ flat_map change_line (cond same rest (change ∷ rest))
told-or-not true change rest = refl
told-or-not false change rest = refl

pub next_price : (change : ℕ → ℤ → Change) (olds news : List ℤ) (t : ℕ) → t < length olds → t < length news
    → price_part change t (get_or olds t (pos 0)) (get_or news t (pos 0)) ++ flat_map change_line (price_changes change (t + 1) (drop (t + 1) olds) (drop (t + 1) news))
    ≡ flat_map change_line (price_changes change t (drop t olds) (drop t news))
next_price change olds news t in_olds in_news = grind (arith, add-one, drop-cons, told-or-not, in_olds, in_news)

counted-or-not : (same : Bool) (change : Change) (rest : List Change) → cond same 0 1 + length rest ≡ length (cond same rest (change ∷ rest))
counted-or-not true change rest = omega arith
counted-or-not false change rest = omega arith

pub next_price_count : (change : ℕ → ℤ → Change) (olds news : List ℤ) (t : ℕ) → t < length olds → t < length news
    → told_count (get_or olds t (pos 0)) (get_or news t (pos 0)) + length (price_changes change (t + 1) (drop (t + 1) olds) (drop (t + 1) news))
    ≡ length (price_changes change t (drop t olds) (drop t news))
next_price_count change olds news t in_olds in_news = grind (arith, add-one, drop-cons, counted-or-not, in_olds, in_news)

-- ---- rows of ramp multipliers
-- ---- tables
-- the changes are those of demand, of reserve and of ramps
pub change_count_is : (before table : Table)
    → length (table_changes before table)
    ≡ length (price_changes OfDemand 0 before.pi table.pi) + length (price_changes OfReserve 0 before.mu table.mu) + length (row_changes before.ramps table.ramps)
change_count_is before table = grind (arith, length-append, length-map)

pub next_table : (before : Option Table) (tables : List Table) (i : ℕ) (table : Table) → i < length tables → table ≡ get_or tables i table
    → told_part before table ++ tables_part (Some table) (drop (i + 1) tables) ≡ tables_part before (drop i tables)
next_table before tables i table within is = grind (arith, drop_more, within, is)

pub last_table : (before : Option Table) (tables : List Table) (i : ℕ) → length tables ≤ i → tables_part before (drop i tables) ≡ []
last_table before tables i past = ap (tables_part before) (drop_all i tables past)

-- ---- tables of which the list tells the changes
-- the first one is whole
pub first_table : (tables : List Table) → option_map_or table_part (slice_get tables 0) [] ++ tables_part (slice_get tables 0) (drop 1 tables) ≡ tables_part None tables
first_table [] = refl
first_table (table ∷ tables) = refl

changes_told : (before table : Table) → changes_part table.k (table_changes before table) ≡ next_part before table
changes_told before table = grind (arith, flat_map-append, flat_map-map)

-- and each behind it is told by its changes
pub next_told : (tables : List Table) (i : ℕ) (d : Table) (k : ℤ) (changes : List Change) → 0 < i → i < length tables → k ≡ (get_or tables i d).k
    → changes ≡ table_changes (get_or tables (i - 1) d) (get_or tables i d)
    → changes_part k changes ++ tables_part (slice_get tables (i + 1 - 1)) (drop (i + 1) tables) ≡ tables_part (slice_get tables (i - 1)) (drop i tables)
next_told tables i d k changes some within scale told = grind (arith, slice_get-get_or, changes_told, drop_more, some, within, scale, told)

-- a change of a list that is kept, before those behind it
pub next_change : (changes : List KeptChange) (i : ℕ) (d : KeptChange) → i < length changes
    → change_line (change_of (get_or changes i d)) ++ flat_map change_line (drop (i + 1) (changes_of changes)) ≡ flat_map change_line (drop i (changes_of changes))
next_change changes i d within =
    let change = change_of (get_or changes i d) in
    sym (ap (flat_map change_line)
    (drop_more (changes_of changes) i change (omega (arith, length-map changes change_of))
    ∙ ap (λ first. first ∷ drop (i + 1) (changes_of changes)) (get_or-map change_of changes i d change within)))
