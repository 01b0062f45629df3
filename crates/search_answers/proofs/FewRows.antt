-- A lawful table has at most a row for each cell, since its rows rise by unit and period.
use Rattle.std.proofs.Common.{◌≡◌, ℕ, zero, suc, ◌+◌, ◌*◌, ◌<◌, ◌≤◌, List, All, get_or, length, refl, arith, pos}
use Rattle.uc_model.specs.Prelude.{IsLawfulInstance}
use Rattle.dual_model.specs.Prelude.{IsLawfulTable, IsRowBefore, IsRowWithin}
use Rattle.dual_model.specs.declared.table.RampRow.{RampRow}
use Rattle.uc_model.specs.declared.instance.Instance.{Instance}
use Rattle.uc_model.specs.declared.limits.TheConstants.{MAX_PERIODS, MAX_UNITS}
use Rattle.dual_model.specs.declared.table.Table.{Table}
use Rattle.search_answers.specs.Writable.{HasFewRows}

-- the place of a row among the cells, unit by unit
abbrev place : RampRow → ℕ
place row = row.g * MAX_PERIODS + row.t

-- row i is at place i or later
place_reaches : (units periods : ℕ) (rows : List RampRow) (d : RampRow) → periods ≤ MAX_PERIODS → All (IsRowWithin units periods) rows
    → ((i : ℕ) (e : RampRow) → suc i < length rows → IsRowBefore (get_or rows i e) (get_or rows (suc i) e))
    → (i : ℕ) → i < length rows → i ≤ place (get_or rows i d)
place_reaches units periods rows d few within rising zero inside = omega arith
place_reaches units periods rows d few within rising (suc i) inside =
    grind (arith, few, within, rising, inside, (place_reaches units periods rows d few within rising i (omega arith)))

no_row : RampRow
no_row = record { g = 0; t = 0; up = pos 0; down = pos 0 }

last_row : (units periods : ℕ) (rows : List RampRow) → units ≤ MAX_UNITS → periods ≤ MAX_PERIODS → All (IsRowWithin units periods) rows
    → ((i : ℕ) (e : RampRow) → suc i < length rows → IsRowBefore (get_or rows i e) (get_or rows (suc i) e))
    → (n : ℕ) → length rows ≡ suc n → length rows ≤ MAX_UNITS * MAX_PERIODS
last_row units periods rows few_units few within rising n count =
    let inside : n < length rows = omega (arith, count) in
    let last = within n no_row inside in
    omega (arith, count, place_reaches units periods rows no_row few within rising n inside, last.unit, last.period)

pub few_rows : (instance : Instance) (table : Table) → IsLawfulInstance instance → IsLawfulTable instance table → HasFewRows table
few_rows instance table lawful h = by_count (length table.ramps) refl
  where
    by_count : (n : ℕ) → length table.ramps ≡ n → HasFewRows table
    by_count zero count = omega (arith, count)
    by_count (suc n) count = last_row table.units (length table.pi) table.ramps
        (omega (arith, h.size.units, lawful.thermal_units)) (omega (arith, h.size.periods, lawful.periods.1))
        h.size.form.rows h.size.form.rising n count
