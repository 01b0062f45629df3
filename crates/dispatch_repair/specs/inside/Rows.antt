-- The rows of a commitment as they are made, and what the writing of a period does to them. This project's own.
use Rattle.std.specs.Prelude.{◌≡◌, ◌≢◌, ℕ, zero, suc, ◌+◌, ◌*◌, ◌<◌, false, List, [], ℤ, pos, ◌+ℤ◌, ◌-ℤ◌, ◌≤ℤ◌, length, map, slice_index_or, slice_set}
use Rattle.std.specs.List.{range_with_len}
use Rattle.std.specs.Int.{int_min, int_max}
use Rattle.uc_model.specs.Prelude.{sum_below, thermal_count, renewable_count, reserve_at, cell_at, shed_at, short_at}
pub use Rattle.uc_model.specs.declared.schedule.Cell.{Cell}
use Rattle.schedule_check.specs.SizedNumbers.{output_at}
use Rattle.dispatch_repair.specs.Dispatch.{Instance, Pattern, Printed}
use Rattle.dispatch_repair.specs.Rooms.{IsNewCell}
use Rattle.dispatch_repair.specs.Amounts.{MAX_POWER, amount_at, thermal_amount}
use Rattle.dispatch_repair.specs.Filled.{Shortage}

-- a unit's row; past the last one a row of nothing
abbrev pub row_at : {X : Type 0} → List (List X) → ℕ → List X
row_at rows g = slice_index_or rows g []

-- a row's cell in a period; past the last one an off cell
abbrev pub cell_of : List Cell → ℕ → Cell
cell_of row t = slice_index_or row t (record { on = false; p = pos 0; r = pos 0; category = 0 })

-- the first periods of unit g's row are the commitment's, without any power
pub record IsCommittedRow (instance : Instance) (patterns : List Pattern) (g periods : ℕ) (row : List Cell) : Type 0 where
  pub length : length row ≡ periods
  pub cells : (t : ℕ) → t < periods → IsNewCell instance patterns g t (cell_of row t)

-- the rows of the first units are the commitment's
pub record AreCommittedRows (instance : Instance) (patterns : List Pattern) (n : ℕ) (rows : List (List Cell)) : Type 0 where
  pub count : length rows ≡ n
  pub each : (g : ℕ) → g < n → IsCommittedRow instance patterns g instance.periods (row_at rows g)

-- two schedules are the same but in period t
pub record AreSameBut (t : ℕ) (old new : Printed) : Type 0 where
  pub cells : (g k : ℕ) → k ≢ t → cell_at new g k ≡ cell_at old g k
  pub outputs : (w k : ℕ) → k ≢ t → output_at new w k ≡ output_at old w k
  pub shed : (k : ℕ) → k ≢ t → shed_at new k ≡ shed_at old k
  pub short : (k : ℕ) → k ≢ t → short_at new k ≡ short_at old k

-- a cell keeps its state and category, and gives this output and reserve
pub record HasPower (old new : Cell) (output spare : ℤ) : Type 0 where
  pub on : new.on ≡ old.on
  pub category : new.category ≡ old.category
  pub p : new.p ≡ output
  pub r : new.r ≡ spare

-- a unit's reserve, by its output and head: up to the head, and to what is left to give
abbrev pub reserve_of : ℤ → ℤ → ℤ → ℤ
reserve_of output head left = int_min (head -ℤ output) (int_max left (pos 0))

-- the cell with this output and reserve
abbrev pub with_power : Cell → ℤ → ℤ → Cell
with_power cell output spare = record cell { p = output; r = spare }

-- the size of what is left of a need after n units: each gave at most what was left, and its head may lie below its output
pub record IsLeft (n : ℕ) (left : ℤ) : Type 0 where
  pub low : pos 0 ≤ℤ (left +ℤ pos MAX_POWER)
  pub high : left ≤ℤ pos (MAX_POWER + n * (5 * MAX_POWER))

-- a list by what stands at each place
abbrev pub list_of : {X : Type 0} → ℕ → (ℕ → X) → List X
list_of n f = map f (range_with_len 0 n)

-- the reserve that the first n units give of a need, in their order, each up to its head
abbrev pub given : (ℕ → ℤ) → (ℕ → ℤ) → ℤ → ℕ → ℤ
given output head need zero = pos 0
given output head need (suc n) = given output head need n +ℤ reserve_of (output n) (head n) (need -ℤ given output head need n)

-- unit g's row with its output and reserve in period t, and renewable unit w's with its output
abbrev pub cells_with : (ℕ → ℤ) → (ℕ → ℤ) → ℤ → ℕ → List (List Cell) → ℕ → List Cell
cells_with output head need t rows g =
    slice_set (row_at rows g) t (with_power (cell_of (row_at rows g) t) (output g) (reserve_of (output g) (head g) (need -ℤ given output head need g)))

abbrev pub outputs_with : (ℕ → ℤ) → ℕ → List (List ℤ) → ℕ → List ℤ
outputs_with output t rows w = slice_set (row_at rows w) t (output w)

-- the schedule with period t: these amounts, reserve in the order of the file up to what is to be kept, and what is missing
abbrev pub written : Instance → List ℤ → List ℤ → Shortage → ℕ → Printed → Printed
written instance amounts heads shortage t old = record {
  thermal = list_of (thermal_count instance)
      (cells_with (thermal_amount instance amounts) (amount_at heads) (reserve_at instance t -ℤ shortage.short) t old.thermal);
  renewable = list_of (renewable_count instance) (outputs_with (amount_at amounts) t old.renewable);
  shed = slice_set old.shed t shortage.shed;
  short = slice_set old.short t shortage.short;
  denominator = 1;
}

-- what is so of a schedule with period t
pub record IsWritten (instance : Instance) (amounts heads : List ℤ) (shortage : Shortage) (t : ℕ) (old new : Printed) : Type 0 where
  pub others : AreSameBut t old new
  pub outputs : (w : ℕ) → w < renewable_count instance → output_at new w t ≡ amount_at amounts w
  pub cells : (g : ℕ) → g < thermal_count instance → HasPower (cell_at old g t) (cell_at new g t) (thermal_amount instance amounts g)
      (reserve_of (thermal_amount instance amounts g) (amount_at heads g) ((reserve_at instance t -ℤ shortage.short) -ℤ sum_below g (λ h. (cell_at new h t).r)))
  pub shed : shed_at new t ≡ shortage.shed
  pub short : short_at new t ≡ shortage.short
