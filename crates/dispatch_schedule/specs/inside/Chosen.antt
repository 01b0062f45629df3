-- What a basis chooses of each amount, in whole numerators over a denominator, and the schedule that this is printed as. This project's own.
use Rattle.std.specs.Prelude.{◌≡◌, ℕ, ◌<◌, List, [], length, slice_index_or, ℤ, pos, ◌+ℤ◌, ◌*ℤ◌, ◌≤ℤ◌, ◌<ℤ◌, int_div, false}
use Rattle.std.specs.Int.{int_max}
use Rattle.uc_model.specs.Prelude.{sum_below, thermal_unit, thermal_count, renewable_count, renewable_minimum}
use Rattle.uc_model.specs.declared.instance.Instance.{Instance}
use Rattle.uc_model.specs.declared.pattern.Pattern.{Pattern}
use Rattle.uc_model.specs.declared.schedule.Cell.{Cell}
use Rattle.uc_model.specs.declared.schedule.Printed.{Printed}
use Rattle.start_costs.specs.Cheapest.{HasLeastCategory}
use Rattle.fractions.specs.declared.fraction.Fraction.{Fraction}
use Rattle.dispatch_rules.specs.Prelude.{commitment_at, output_in, held_in, given_in, shed_in, short_in}
use Rattle.dispatch_rules.specs.declared.amount.Amount.{Amount}
use Rattle.dispatch_rules.specs.declared.amount.Amount.TheVariants.{Shed}
use Rattle.dispatch_schedule.specs.inside.Values.{fraction_at}
pub use Rattle.dispatch_schedule.specs.declared.chosen.Chosen.{Chosen}
pub use Rattle.dispatch_schedule.specs.declared.power.Power.{Power}
use Rattle.dispatch_schedule.specs.declared.power.Power.TheVariants.{Output, Reserve, Renewable, Unserved, Missing}

-- how much of a power an amount is: 1 or 0
abbrev pub power_in : Power → Amount → ℤ
power_in (Output g t) x = output_in g t x
power_in (Reserve g t) x = held_in g t x
power_in (Renewable w t) x = given_in w t x
power_in (Unserved t) x = shed_in t x
power_in (Missing t) x = short_in t x

-- the instance has the power
abbrev pub IsPowerOf : Instance → Power → Type 0
IsPowerOf instance (Output g t) = (g < thermal_count instance) × (t < instance.periods)
IsPowerOf instance (Reserve g t) = (g < thermal_count instance) × (t < instance.periods)
IsPowerOf instance (Renewable w t) = (w < renewable_count instance) × (t < instance.periods)
IsPowerOf instance (Unserved t) = t < instance.periods
IsPowerOf instance (Missing t) = t < instance.periods

-- the numerator of a fraction over a denominator that its own divides
abbrev pub numerator_over : ℤ → Fraction → ℤ
numerator_over d f = f.numerator *ℤ int_div d f.denominator

abbrev pub chosen_at : List Chosen → ℕ → Chosen
chosen_at chosen c = slice_index_or chosen c (record { amount = Shed 0; numerator = pos 0 })

abbrev pub amount_of : List Amount → ℕ → Amount
amount_of amounts c = slice_index_or amounts c (Shed 0)

abbrev pub part_of : List Chosen → Power → ℕ → ℤ
part_of chosen power c = power_in power (chosen_at chosen c).amount *ℤ (chosen_at chosen c).numerator

abbrev pub total_of : List Chosen → Power → ℤ
total_of chosen power = sum_below (length chosen) (part_of chosen power)

-- a fraction's numerator over the denominator is a power times at most so much
pub record IsChoice (d : ℤ) (f : Fraction) : Type 0 where
  pub positive : pos 0 <ℤ f.denominator
  pub times : pos 0 <ℤ int_div d f.denominator
  pub low : pos 0 ≤ℤ f.numerator
  pub high : numerator_over d f ≤ℤ pos 1000000000000000

-- each amount of the first n has its value's numerator over the denominator
pub record AreChosen (amounts : List Amount) (values : List Fraction) (d : ℤ) (n : ℕ) (chosen : List Chosen) : Type 0 where
  pub count : length chosen ≡ n
  pub amount : (c : ℕ) → c < n → (chosen_at chosen c).amount ≡ amount_of amounts c
  pub numerator : (c : ℕ) → c < n → (chosen_at chosen c).numerator ≡ numerator_over d (fraction_at values c)

abbrev pub low_of : Instance → ℕ → ℕ → ℤ
low_of instance w t = int_max (renewable_minimum instance w t) (pos 0)

-- the numerators are 0 or above, and each power of the instance is below 10^15
pub record AreSmall (instance : Instance) (chosen : List Chosen) : Type 0 where
  pub low : (c : ℕ) → c < length chosen → pos 0 ≤ℤ (chosen_at chosen c).numerator
  pub high : (power : Power) → IsPowerOf instance power → total_of chosen power <ℤ pos 1000000000000000

-- what a renewable unit gives in all, over the denominator d
abbrev pub renewable_of : Instance → List Chosen → ℕ → ℕ → ℕ → ℤ
renewable_of instance chosen d w t = total_of chosen (Renewable w t) +ℤ pos d *ℤ low_of instance w t

abbrev pub AreSmallOutputs : Instance → List Chosen → ℕ → Type 0
AreSmallOutputs instance chosen d =
    (w t : ℕ) → w < renewable_count instance → t < instance.periods → renewable_of instance chosen d w t <ℤ pos 1000000000000000

-- ---- the printed schedule
pub record IsCellOf (instance : Instance) (patterns : List Pattern) (chosen : List Chosen) (g t : ℕ) (cell : Cell) : Type 0 where
  pub on : cell.on ≡ commitment_at patterns g t
  pub category : HasLeastCategory (thermal_unit instance g) (commitment_at patterns g) t cell.category
  pub output : cell.p ≡ total_of chosen (Output g t)
  pub reserve : cell.r ≡ total_of chosen (Reserve g t)

abbrev pub cell_of : List Cell → ℕ → Cell
cell_of row t = slice_index_or row t (record { on = false; p = pos 0; r = pos 0; category = 0 })

-- the cells of unit g in the first n periods, and those of the first n units
pub record IsCellRow (instance : Instance) (patterns : List Pattern) (chosen : List Chosen) (g n : ℕ) (row : List Cell) : Type 0 where
  pub count : length row ≡ n
  pub each : (t : ℕ) → t < n → IsCellOf instance patterns chosen g t (cell_of row t)

abbrev pub row_of : {X : Type 0} → List (List X) → ℕ → List X
row_of rows g = slice_index_or rows g []

pub record AreCellRows (instance : Instance) (patterns : List Pattern) (chosen : List Chosen) (n : ℕ) (rows : List (List Cell)) : Type 0 where
  pub count : length rows ≡ n
  pub each : (g : ℕ) → g < n → IsCellRow instance patterns chosen g instance.periods (row_of rows g)

-- the first n numbers are those of f
pub record AreNumbers (f : ℕ → ℤ) (n : ℕ) (numbers : List ℤ) : Type 0 where
  pub count : length numbers ≡ n
  pub each : (t : ℕ) → t < n → slice_index_or numbers t (pos 0) ≡ f t

pub record AreRows (f : ℕ → ℕ → ℤ) (periods n : ℕ) (rows : List (List ℤ)) : Type 0 where
  pub count : length rows ≡ n
  pub each : (w : ℕ) → w < n → AreNumbers (f w) periods (row_of rows w)

-- the printed schedule is that of the commitment with the chosen amounts
pub record IsPrintOf (instance : Instance) (patterns : List Pattern) (chosen : List Chosen) (d : ℕ) (printed : Printed) : Type 0 where
  pub thermal : AreCellRows instance patterns chosen (thermal_count instance) printed.thermal
  pub renewable : AreRows (renewable_of instance chosen d) instance.periods (renewable_count instance) printed.renewable
  pub shed : AreNumbers (λ t. total_of chosen (Unserved t)) instance.periods printed.shed
  pub short : AreNumbers (λ t. total_of chosen (Missing t)) instance.periods printed.short
  pub denominator : printed.denominator ≡ d
