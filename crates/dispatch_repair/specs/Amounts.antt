-- Ranges, heads and amounts of a period's sources by their places: renewable units, then thermal ones. This project's own.
use Rattle.std.specs.Prelude.{◌≡◌, ℕ, ◌+◌, ◌*◌, ◌<◌, ◌≤◌, nat_lt, List, ℤ, pos, unsigned_abs, length, slice_index_or, if◌then◌else◌}
use Rattle.uc_model.specs.Prelude.{IsLawfulInstance, thermal_count, renewable_count}
pub use Rattle.uc_model.specs.declared.limits.TheConstants.{MAX_POWER}
use Rattle.dispatch_repair.specs.Dispatch.{Instance, Pattern, period_after}
use Rattle.dispatch_repair.specs.Period.{Period, Source, FromRenewable, FromThermal, low_of, high_of, head_of}
use Rattle.dispatch_repair.specs.Segments.{source_at, source_count}
pub use Rattle.dispatch_repair.specs.declared.range.Range.{Range}

abbrev pub range_at : List Range → ℕ → Range
range_at ranges n = slice_index_or ranges n (record { low = pos 0; high = pos 0 })

abbrev pub amount_at : List ℤ → ℕ → ℤ
amount_at amounts n = slice_index_or amounts n (pos 0)

-- what a source gives; past the last one nothing
abbrev pub amount_of : Instance → List ℤ → Source → ℤ
amount_of instance amounts (FromRenewable w) = if nat_lt w (renewable_count instance) then amount_at amounts w else pos 0
amount_of instance amounts (FromThermal g) = amount_at amounts (renewable_count instance + g)

-- what each thermal unit gives
abbrev pub thermal_amount : Instance → List ℤ → ℕ → ℤ
thermal_amount instance amounts g = amount_at amounts (renewable_count instance + g)

-- the size of an output, of a range's ends and of a head
abbrev pub IsSizedOutput : ℤ → Type 0
IsSizedOutput z = unsigned_abs z ≤ 2 * MAX_POWER

abbrev pub IsSizedEnd : ℤ → Type 0
IsSizedEnd z = unsigned_abs z ≤ 3 * MAX_POWER

-- the ends of a range, of each of a list, and the heads of one are of that size
pub record IsSizedRange (range : Range) : Type 0 where
  pub low : IsSizedEnd range.low
  pub high : IsSizedEnd range.high

abbrev pub AreSizedRanges : List Range → Type 0
AreSizedRanges ranges = (n : ℕ) → n < length ranges → IsSizedRange (range_at ranges n)

abbrev pub AreSizedHeads : List ℤ → Type 0
AreSizedHeads heads = (g : ℕ) → g < length heads → IsSizedEnd (amount_at heads g)

-- the range at a place is the source's
pub record IsRangeOf (period : Period) (n : ℕ) (range : Range) : Type 0 where
  pub low : range.low ≡ low_of period (source_at period.instance n)
  pub high : range.high ≡ high_of period (source_at period.instance n)
  pub low_size : IsSizedEnd range.low
  pub high_size : IsSizedEnd range.high

-- a head is the unit's
pub record IsHeadOf (period : Period) (g : ℕ) (number : ℤ) : Type 0 where
  pub is : number ≡ head_of period g
  pub size : IsSizedEnd number

-- these are the amounts before period t of the commitment
pub record AreBeforePeriod (instance : Instance) (patterns : List Pattern) (t : ℕ) (amounts : List ℤ) : Type 0 where
  pub lawful : IsLawfulInstance instance
  pub pattern_count : length patterns ≡ thermal_count instance
  pub period : t < instance.periods
  pub count : length amounts ≡ source_count instance
  pub sizes : (g : ℕ) → g < thermal_count instance → IsSizedOutput (thermal_amount instance amounts g)

-- the period after them
abbrev pub next_period : Instance → List Pattern → ℕ → List ℤ → Period
next_period instance patterns t amounts = period_after instance patterns t (thermal_amount instance amounts)

-- the ranges of all sources, and the heads of the thermal units
abbrev pub AreRangesOf : Period → List Range → Type 0
AreRangesOf period ranges = (n : ℕ) → n < source_count period.instance → IsRangeOf period n (range_at ranges n)

abbrev pub AreHeadsOf : Period → List ℤ → Type 0
AreHeadsOf period heads = (g : ℕ) → g < thermal_count period.instance → IsHeadOf period g (amount_at heads g)
