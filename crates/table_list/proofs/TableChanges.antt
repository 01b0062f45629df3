-- The changes that are told of two tables make the second of the first.
use Rattle.std.proofs.Common.{arith, ◌≡◌, ℕ, List, [], ◌∷◌, ◌++◌, map, ℤ, refl}
use Rattle.std.specs.List.{AllByRecursion as Each}
use Rattle.std.proofs.lemmas.List.Elements.{recursion_from_All}
use Rattle.dual_model.specs.Prelude.{IsWellFormed}
use Rattle.table_list.specs.Changes.{Table, RampRow, Change, OfDemand, OfReserve, OfRamps, changed, all_changed, row_changes, table_changes}
use Rattle.table_list.specs.TableChanges.{AreAlike}
use Rattle.table_list.specs.inside.Kept.{with_scale}
use Rattle.table_list.proofs.RowChanges.{IsPresent, with_rows, each_as, rise_from, rows_made}
use Rattle.table_list.proofs.PriceChanges.{prices_told, with_prices, as_pairs, new_prices}

-- ---- changes of each kind
abbrev pub demand_change : ℕ × ℤ → Change
demand_change p = OfDemand p.0 p.1

abbrev pub reserve_change : ℕ × ℤ → Change
reserve_change p = OfReserve p.0 p.1

-- those of demand before those of reserve, and these before those of ramps
abbrev pub told_changes : List (ℕ × ℤ) → List (ℕ × ℤ) → List RampRow → List Change
told_changes demand reserve rows = map demand_change demand ++ (map reserve_change reserve ++ map OfRamps rows)

-- each kind changes its own part of a table
abbrev pub told_table : Table → List (ℕ × ℤ) → List (ℕ × ℤ) → List RampRow → Table
told_table table demand reserve rows = record {
  units = table.units;
  k = table.k;
  pi = with_prices table.pi demand;
  mu = with_prices table.mu reserve;
  ramps = with_rows table.ramps rows;
}

rows_change : (table : Table) (rows : List RampRow) → all_changed table (map OfRamps rows) ≡ told_table table [] [] rows
rows_change table [] = refl
rows_change table (row ∷ rows) = rows_change (changed table (OfRamps row)) rows

reserve_changes : (table : Table) (reserve : List (ℕ × ℤ)) (rows : List RampRow) → all_changed table (map reserve_change reserve ++ map OfRamps rows) ≡ told_table table [] reserve rows
reserve_changes table [] rows = rows_change table rows
reserve_changes table (p ∷ reserve) rows = reserve_changes (changed table (reserve_change p)) reserve rows

pub told_change : (table : Table) (demand reserve : List (ℕ × ℤ)) (rows : List RampRow) → all_changed table (told_changes demand reserve rows) ≡ told_table table demand reserve rows
told_change table [] reserve rows = reserve_changes table reserve rows
told_change table (p ∷ demand) reserve rows = told_change (changed table (demand_change p)) demand reserve rows

-- those that are told of two tables are such ones
pub told_whole : (before after : Table)
    → table_changes before after ≡ told_changes (prices_told 0 before.pi after.pi) (prices_told 0 before.mu after.mu) (row_changes before.ramps after.ramps)
told_whole before after i = as_pairs OfDemand 0 before.pi after.pi i ++ (as_pairs OfReserve 0 before.mu after.mu i ++ map OfRamps (row_changes before.ramps after.ramps))

-- ---- They make the table behind.
present_rows : (table : Table) → IsWellFormed table → Each IsPresent table.ramps
present_rows table form = grind (arith, each_as, recursion_from_All, form)

pub changes_make_table : (before after : Table) → IsWellFormed before → IsWellFormed after → AreAlike before after
    → with_scale (all_changed before (table_changes before after)) after.k ≡ after
changes_make_table before after b a alike =
    grind (arith, rows_made, rise_from, present_rows, new_prices, told_whole, told_change, prices_told, b, a, alike)
