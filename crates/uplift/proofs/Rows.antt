-- A unit and its row, as they are read of an instance and a schedule.
use Rattle.std.proofs.Common.{◌≡◌, ℕ, ◌<◌, List, length, sym, ap, ◌∙◌, arith, get_or, ◌+ℤ◌, ◌*ℤ◌}
use Rattle.std.proofs.lemmas.List.{get_or_read}
use Rattle.uc_model.specs.Prelude.{HasShapeOf, cell_at, printed_cell_cost, thermal_unit, thermal_count, sum_below}
use Rattle.schedule_check.specs.WholeWatts.{cell, row_of}
use Rattle.uplift.specs.Uplift.{Cell, Instance, Printed, Table, Thermal, cell_charge, charge, printed_unit_cost}
use Rattle.uplift.specs.inside.Lists.{reduced_cost}

-- an element that was read of a list is the one that stands there
pub read_is : {X : Type 0} (xs ys : List X) (k : ℕ) (x other : X) → ys ≡ xs → k < length xs → x ≡ get_or ys k x → get_or xs k other ≡ x
read_is xs ys k x other same within is = grind (arith, get_or_read, same, within, is)

pub periods_are : (instance : Instance) (printed : Printed) (g : ℕ) → HasShapeOf instance printed → g < thermal_count instance
    → length (row_of printed g) ≡ instance.periods
periods_are instance printed g shape within = grind (arith, shape, within)

-- what unit g costs by its row, and is charged, in whole watts
pub reduced_is : (instance : Instance) (printed : Printed) (table : Table) (g : ℕ) (unit : Thermal) (row : List Cell)
    → thermal_unit instance g ≡ unit → row_of printed g ≡ row → length (row_of printed g) ≡ instance.periods → printed.denominator ≡ 1
    → reduced_cost unit table g row
    ≡ table.k *ℤ printed_unit_cost instance printed g +ℤ sum_below instance.periods (cell_charge instance printed table g)
reduced_is instance printed table g unit row unit_is row_is count one =
    (λ i. reduced_cost (sym unit_is i) table g (sym row_is i))
    ∙ ap (λ n. table.k *ℤ sum_below n (λ t. printed_cell_cost (thermal_unit instance g) 1 (cell (row_of printed g) t))
    +ℤ sum_below n (λ t. charge (thermal_unit instance g) table g t (cell (row_of printed g) t))) count
    ∙ ap (λ d. table.k *ℤ sum_below instance.periods (λ t. printed_cell_cost (thermal_unit instance g) d (cell_at printed g t))
    +ℤ sum_below instance.periods (cell_charge instance printed table g)) (sym one)
