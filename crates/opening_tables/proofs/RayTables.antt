-- The tables of the opening's rays: their rows, and that they are lawful.
use Rattle.std.proofs.Common.{◌≡◌, ◌≢◌, ℕ, zero, suc, ◌+◌, ◌<◌, ◌≤◌, inl, inr, Bool, true, false, List, [], ◌∷◌, ◌++◌, length, refl, sym, subst, ◌∙◌, arith, ℤ, pos, ◌≤ℤ◌, ◌⊎◌, unsigned_abs, slice_index_or, replicate, All}
use Rattle.std.proofs.lemmas.Bool.{cases_lt}
use Rattle.std.proofs.lemmas.Int.{ints}
use Rattle.std.proofs.lemmas.List.{append-nil, get_or_append_left, get_or_push, length-append, length-replicate, length-set}
use Rattle.std.proofs.lemmas.List.Elements.{All-append, All-cons, All-nil, All-replicate, All-set, All-weaker}
use Rattle.uc_model.specs.Prelude.{IsLawfulInstance, thermal_count, thermal_unit}
use Rattle.uc_model.specs.declared.instance.Instance.{Instance}
use Rattle.uc_model.proofs.Common.{linear}
use Rattle.dual_model.specs.Prelude.{OpeningRay, first_row, first_rows, price_in, ray_at, ray_count, ray_period, ray_table, IsLawfulTable, IsPrice, IsRowBefore, IsRowSigned}
use Rattle.dual_model.specs.declared.table.RampRow.{RampRow}
use Rattle.dual_model.specs.declared.table.Table.{Table}
use Rattle.opening_tables.specs.inside.Rays.{Ray, Thermal, down_of, named_by, up_of}

-- ---- the rows
-- one unit more
pub rows-more : (instance : Instance) (up down : Thermal → Bool) (g : ℕ) (unit : Thermal) (rows : List RampRow) → thermal_unit instance g ≡ unit
    → rows ≡ first_rows instance up down g → rows ++ first_row g (up unit) (down unit) ≡ first_rows instance up down (g + 1)
rows-more instance up down g unit rows is before = grind (arith, ints, is, before)

-- a row of a unit below n in the first period, with multipliers of 0 and 1 that aren't both 0
pub record IsFirstRow (n : ℕ) (row : RampRow) : Type 0 where
  pub unit : row.g < n
  period : row.t ≡ 0
  present : (row.up ≢ pos 0) ⊎ (row.down ≢ pos 0)
  up : pos 0 ≤ℤ row.up
  down : pos 0 ≤ℤ row.down
  up_size : unsigned_abs row.up ≤ 1
  down_size : unsigned_abs row.down ≤ 1

first_is : (n g up down : ℕ) → g < n → up ≤ 1 → down ≤ 1 → (pos up ≢ pos 0) ⊎ (pos down ≢ pos 0)
    → IsFirstRow n (record { g = g; t = 0; up = pos up; down = pos down })
first_is n g up down unit small_up small_down present = grind (arith, ints, unit, small_up, small_down, present)

one : pos 1 ≢ pos 0
one e = absurd (omega (arith, linear, e))

row_within : (n g : ℕ) (up down : Bool) → g < n → All (IsFirstRow n) (first_row g up down)
row_within n g true true h = All-cons (IsFirstRow n) _ [] (first_is n g 1 1 h (omega arith) (omega arith) (inl one)) (All-nil (IsFirstRow n))
row_within n g true false h = All-cons (IsFirstRow n) _ [] (first_is n g 1 0 h (omega arith) (omega arith) (inl one)) (All-nil (IsFirstRow n))
row_within n g false true h = All-cons (IsFirstRow n) _ [] (first_is n g 0 1 h (omega arith) (omega arith) (inr one)) (All-nil (IsFirstRow n))
row_within n g false false h = All-nil (IsFirstRow n)

more_units : (n : ℕ) (row : RampRow) → IsFirstRow n row → IsFirstRow (suc n) row
more_units n row is = grind (arith, ints, is)

pub rows_within : (instance : Instance) (up down : Thermal → Bool) (n : ℕ) → All (IsFirstRow n) (first_rows instance up down n)
rows_within instance up down zero = All-nil (IsFirstRow zero)
rows_within instance up down (suc n) =
    All-append (IsFirstRow (suc n)) (first_rows instance up down n) (first_row n (up (thermal_unit instance n)) (down (thermal_unit instance n)))
    (All-weaker (IsFirstRow n) (IsFirstRow (suc n)) (more_units n) (first_rows instance up down n) (rows_within instance up down n))
    (row_within (suc n) n (up (thermal_unit instance n)) (down (thermal_unit instance n)) (omega arith))

-- the rows rise by unit
abbrev Rises : List RampRow → Type 0
Rises rows = (i : ℕ) (d : RampRow) → suc i < length rows → IsRowBefore (slice_index_or rows i d) (slice_index_or rows (suc i) d)

rises_push : (n : ℕ) (rows : List RampRow) (row : RampRow) → All (IsFirstRow n) rows → row.g ≡ n → Rises rows → Rises (rows ++ row ∷ [])
rises_push n rows row within last rises i d h =
    grind (arith, ints, get_or_append_left, length-append, get_or_push, cases_lt, within, last, rises, i, d, h)

rises_row : (n : ℕ) (rows : List RampRow) (up down : Bool) → All (IsFirstRow n) rows → Rises rows → Rises (rows ++ first_row n up down)
rises_row n rows false false within rises = subst Rises (sym (append-nil rows)) rises
rises_row n rows _ _ within rises = rises_push n rows _ within refl rises

rows_rise : (instance : Instance) (up down : Thermal → Bool) (n : ℕ) → Rises (first_rows instance up down n)
rows_rise instance up down zero = λ i d h. absurd (omega arith)
rows_rise instance up down (suc n) = grind (arith, ints, rises_row, rows_within, (rows_rise instance up down n))

-- ---- the prices
-- a price of demand of at most 1 in size, and one of reserve that is 0 or 1
record IsSmallRay (ray : OpeningRay) : Type 0 where
  demand : unsigned_abs ray.demand ≤ 1
  reserve : pos 0 ≤ℤ ray.reserve
  reserve_size : unsigned_abs ray.reserve ≤ 1

ray_small : (periods n : ℕ) → n < ray_count periods → IsSmallRay (ray_at periods n)
ray_small periods n h = grind (arith, ints, h)

prices_count : (periods t : ℕ) (price : ℤ) → length (price_in periods t price) ≡ periods
prices_count periods t price = length-set (replicate periods (pos 0)) t price ∙ length-replicate {A = ℤ} periods (pos 0)

prices_are : (P : ℤ → Type 0) (periods t : ℕ) (price : ℤ) → P price → P (pos 0) → All P (price_in periods t price)
prices_are P periods t price h none = All-set P (replicate periods (pos 0)) t price h (All-replicate P periods (pos 0) none)

small_price : (z : ℤ) → unsigned_abs z ≤ 1 → IsPrice z
small_price z h = omega (arith, h)

-- ---- the table
pub ray_lawful : (instance : Instance) (n : ℕ) → IsLawfulInstance instance → n < ray_count instance.periods → IsLawfulTable instance (ray_table instance n)
ray_lawful instance n lawful h =
    let ray = ray_at instance.periods n in
    let t = ray_period instance.periods n in
    let small = ray_small instance.periods n h in
    let rows = first_rows instance ray.up ray.down (thermal_count instance) in
    let within = rows_within instance ray.up ray.down (thermal_count instance) in
    let count = prices_count instance.periods t ray.demand in
    record {
      size = grind (arith, ints, prices_count, All-weaker, rows_rise, instance, t, ray, count, rows, lawful, within);
      signs = record {
        mu = prices_are (λ z. pos 0 ≤ℤ z) instance.periods t ray.reserve small.reserve (omega (arith, linear));
        ramps = All-weaker (IsFirstRow (thermal_count instance)) IsRowSigned (λ row is. record { up = is.up; down = is.down }) rows within;
      };
      limits = record {
        scale = omega (arith, ints);
        pi = prices_are IsPrice instance.periods t ray.demand (small_price ray.demand small.demand) (omega arith);
        mu = prices_are IsPrice instance.periods t ray.reserve (small_price ray.reserve small.reserve_size) (omega arith);
        ramps = grind (arith, ints, All-weaker, small_price, instance, rows, within);
      };
    }

-- the table that the code makes of a ray's parts
abbrev pub made_of : ℕ → List ℤ → List ℤ → List RampRow → Table
made_of units pi mu ramps = record { units = units; k = pos 0; pi = pi; mu = mu; ramps = ramps }

pub ray_table-made : (instance : Instance) (n : ℕ) (ray : Ray) (units : ℕ) (pi mu : List ℤ) (ramps : List RampRow)
    → named_by ray ≡ ray_at instance.periods n → ray.t ≡ ray_period instance.periods n → units ≡ thermal_count instance
    → pi ≡ price_in instance.periods ray.t ray.demand → mu ≡ price_in instance.periods ray.t ray.reserve
    → ramps ≡ first_rows instance (up_of ray.ramps) (down_of ray.ramps) (thermal_count instance)
    → made_of units pi mu ramps ≡ ray_table instance n
ray_table-made instance n ray units pi mu ramps names period count demand reserve rows = grind (arith, ints, names, period, count, rows)
