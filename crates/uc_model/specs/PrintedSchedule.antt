-- What a printed schedule stands for: the schedule whose weights lie on the ends of the hull segments
-- that hold its outputs. It is in whole numerators over a denominator, so each cell's weights are whole over this
-- denominator times the width of its segment, and all of them over that times the product of the widths.
use Rattle.std.specs.Prelude.{◌≡◌, ℕ, zero, suc, ◌*◌, ◌/◌, ◌≤◌, ◌==◌, false, List, [], ℤ, pos, ◌+ℤ◌, ◌*ℤ◌, unsigned_abs, length, All, slice_index_or, replicate, Option, Some, None, if◌then◌else◌}
use Rattle.std.specs.Ordering.{int_eq}
use Rattle.uc_model.specs.Sums.{sum_below}
use Rattle.uc_model.specs.Division.{quotient_up}
use Rattle.uc_model.specs.StartCategory.{Thermal, category_cost}
use Rattle.uc_model.specs.Schedule.{Instance, Schedule, thermal_unit, thermal_count, renewable_count}
use Rattle.uc_model.specs.Hull.{Segment, segment_at, segment_width, from_left, to_right, hull_cost}
pub use Rattle.uc_model.specs.declared.instance.Point.{Point}
pub use Rattle.uc_model.specs.declared.schedule.Cell.{Cell}
pub use Rattle.uc_model.specs.declared.schedule.Printed.{Printed}
use Rattle.uc_model.specs.declared.limits.TheConstants.{MAX_DENOMINATOR}

-- the denominator of the printed watts
abbrev pub watt_denominator : Printed → ℕ
watt_denominator printed = printed.denominator

-- the schedule has a row for each unit, with a cell for each period, what is missing in each period, and a denominator
-- from 1 to 99
pub record HasShapeOf (instance : Instance) (printed : Printed) : Type 0 where
  pub thermal : length printed.thermal ≡ thermal_count instance
  pub cells : All (λ row. length row ≡ instance.periods) printed.thermal
  pub renewable : length printed.renewable ≡ renewable_count instance
  pub outputs : All (λ row. length row ≡ instance.periods) printed.renewable
  pub shed : length printed.shed ≡ instance.periods
  pub short : length printed.short ≡ instance.periods
  pub denominator : (1 ≤ printed.denominator) × (printed.denominator ≤ MAX_DENOMINATOR)

-- nothing is missing in any of so many periods, and the watts are whole
pub record LacksNothing (periods : ℕ) (printed : Printed) : Type 0 where
  pub shed : printed.shed ≡ replicate periods (pos 0)
  pub short : printed.short ≡ replicate periods (pos 0)
  pub denominator : printed.denominator ≡ 1

-- the cell of thermal unit g in period t; where the schedule has none, an off cell
abbrev pub cell_at : Printed → ℕ → ℕ → Cell
cell_at printed g t =
    slice_index_or (slice_index_or printed.thermal g []) t
    (record { on = false; p = pos 0; r = pos 0; category = 0 })

-- the demand that stays unserved in period t, and the reserve that is missing
abbrev pub shed_at : Printed → ℕ → ℤ
shed_at printed t = slice_index_or printed.shed t (pos 0)

abbrev pub short_at : Printed → ℕ → ℤ
short_at printed t = slice_index_or printed.short t (pos 0)

-- f 0 * .. * f (n - 1)
abbrev pub product_below : ℕ → (ℕ → ℕ) → ℕ
product_below zero f = 1
product_below (suc n) f = product_below n f * f n

-- the width of the segment that an on cell lies on; an off cell's counts as 1
abbrev pub width_on : List Point → Option Segment → ℕ
width_on points None = 1
width_on points (Some s) = segment_width points s

abbrev pub cell_width : List Point → ℕ → Cell → ℕ
cell_width points d cell = if cell.on then width_on points (segment_at points d cell.p) else 1

-- the denominator: that of the watts times the product of the widths of all cells' segments
abbrev pub printed_denominator : Instance → Printed → ℕ
printed_denominator instance printed =
    let d = watt_denominator printed in
    d * product_below (thermal_count instance) (λ g.
    product_below instance.periods (λ t. cell_width (thermal_unit instance g).points d (cell_at printed g t)))

-- weights past their range, which M8 refuses: those of an output that no weights give
abbrev pub refused_weight : ℕ → ℕ → ℕ
refused_weight q l = if l == 0 then suc q else 0

-- the weights over q at p over d on a segment: on its left end the part of its width that is right of p,
-- on its right end the part that is left of p; all on the one point where the width is 0
abbrev pub segment_weight : ℕ → List Point → ℕ → ℤ → Option Segment → ℕ → ℕ
segment_weight q points d p None l = refused_weight q l
segment_weight q points d p (Some s) l =
    let share = q / (d * segment_width points s) in
    if s.left == s.right then (if l == s.left then q else 0)
    else (if l == s.left then unsigned_abs (to_right points d p s) * share
    else (if l == s.right then unsigned_abs (from_left points d p s) * share else 0))

-- the weights that a cell stands for; an off cell with an output other than 0 has none
abbrev pub cell_weight : ℕ → List Point → ℕ → Cell → ℕ → ℕ
cell_weight q points d cell l =
    if cell.on then segment_weight q points d cell.p (segment_at points d cell.p) l
    else (if int_eq cell.p (pos 0) then 0 else refused_weight q l)

-- the schedule over q that the printed one stands for
abbrev pub printed_schedule : Instance → Printed → ℕ → Schedule
printed_schedule instance printed q =
    let d = watt_denominator printed in
    record {
      thermal = λ g. record {
        on = λ t. (cell_at printed g t).on;
        category = λ t. (cell_at printed g t).category;
        weight = λ t. cell_weight q (thermal_unit instance g).points d (cell_at printed g t);
        reserve = λ t. pos (q / d) *ℤ (cell_at printed g t).r;
      };
      output = λ w t. pos (q / d) *ℤ slice_index_or (slice_index_or printed.renewable w []) t (pos 0);
      shed = λ t. pos (q / d) *ℤ shed_at printed t;
      short = λ t. pos (q / d) *ℤ short_at printed t;
    }

-- what a cell is printed to cost: the hull's value rounded up where it is on, and its category's cost
abbrev pub printed_cell_cost : Thermal → ℕ → Cell → ℤ
printed_cell_cost unit d cell = (if cell.on then hull_cost unit.points d cell.p else pos 0) +ℤ category_cost unit cell.category

-- what the shortages of period t are printed to cost, A*s/d and B*e/d, each rounded up
abbrev pub printed_shortage_cost : Instance → Printed → ℕ → ℤ
printed_shortage_cost instance printed t =
    quotient_up (pos instance.a *ℤ shed_at printed t) (pos (watt_denominator printed))
    +ℤ quotient_up (pos instance.b *ℤ short_at printed t) (pos (watt_denominator printed))

-- the printed cost in micro-dollars
abbrev pub printed_cost : Instance → Printed → ℤ
printed_cost instance printed =
    sum_below (thermal_count instance) (λ g. sum_below instance.periods (λ t.
    printed_cell_cost (thermal_unit instance g) (watt_denominator printed) (cell_at printed g t)))
    +ℤ sum_below instance.periods (printed_shortage_cost instance printed)
