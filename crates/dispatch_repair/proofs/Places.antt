-- The range at a source's place, by its kind: a renewable unit's, or a thermal one's after those.
-- Cite by `use Rattle.dispatch_repair.proofs.Places.{thermal_ends}`.
use Rattle.std.proofs.Common.{◌≡◌, ℕ, ◌+◌, ◌-◌, ◌<◌, ◌≤◌, ⊎_elim, subst, arith, List, get_or}
use Rattle.std.proofs.lemmas.Bool.{cases_lt}
use Rattle.std.proofs.lemmas.List.{get_or_read}
use Rattle.uc_model.specs.Prelude.{thermal_count, thermal_unit, renewable_count}
use Rattle.dispatch_repair.specs.Prelude.{Instance, Thermal, Period, Source, FromRenewable, FromThermal, low_of, high_of, Range, IsSizedEnd, IsRangeOf, AreRangesOf, range_at, source_at}
use Rattle.dispatch_repair.proofs.CurveSegments.{renewable_at, thermal_at}

-- a unit that was read is the instance's
pub unit_read : (instance : Instance) (units : List Thermal) (g : ℕ) (unit : Thermal) → units ≡ instance.thermal → g < thermal_count instance
    → unit ≡ get_or units g unit → unit ≡ thermal_unit instance g
unit_read instance units g unit same h is = grind (arith, get_or_read, same, h, is)

-- a range has a source's ends
pub record HasEnds (period : Period) (source : Source) (range : Range) : Type 0 where
  pub low : range.low ≡ low_of period source
  pub high : range.high ≡ high_of period source
  pub low_size : IsSizedEnd range.low
  pub high_size : IsSizedEnd range.high

ends : (period : Period) (n : ℕ) (range : Range) (source : Source) → source_at period.instance n ≡ source → IsRangeOf period n range
    → HasEnds period source range
ends period n range source is its = grind (arith, is, its)

range_of : (period : Period) (n : ℕ) (range : Range) (source : Source) → source_at period.instance n ≡ source → HasEnds period source range
    → IsRangeOf period n range
range_of period n range source is its = grind (arith, is, its)

pub renewable_range : (period : Period) (w : ℕ) (range : Range) → w < renewable_count period.instance → HasEnds period (FromRenewable w) range
    → IsRangeOf period w range
renewable_range period w range h = range_of period w range (FromRenewable w) (renewable_at period.instance w h)

pub thermal_range : (period : Period) (g : ℕ) (range : Range) → HasEnds period (FromThermal g) range
    → IsRangeOf period (renewable_count period.instance + g) range
thermal_range period g range = range_of period (renewable_count period.instance + g) range (FromThermal g) (thermal_at period.instance g)

pub renewable_ends : (period : Period) (ranges : List Range) (w : ℕ) → w < renewable_count period.instance → AreRangesOf period ranges
    → HasEnds period (FromRenewable w) (range_at ranges w)
renewable_ends period ranges w h are = grind (arith, h, are)

pub thermal_ends : (period : Period) (ranges : List Range) (g : ℕ) → g < thermal_count period.instance → AreRangesOf period ranges
    → HasEnds period (FromThermal g) (range_at ranges (renewable_count period.instance + g))
thermal_ends period ranges g h are = grind (arith, ends, thermal_at, h, are)

-- the ranges of both kinds are those of all sources
pub ranges_from : (period : Period) (ranges : List Range)
    → ((w : ℕ) → w < renewable_count period.instance → IsRangeOf period w (range_at ranges w))
    → ((g : ℕ) → g < thermal_count period.instance
    → IsRangeOf period (renewable_count period.instance + g) (range_at ranges (renewable_count period.instance + g)))
    → AreRangesOf period ranges
ranges_from period ranges renewable thermal n hn = ⊎_elim
    (λ (early : n < renewable_count period.instance). renewable n early)
    (λ (late : renewable_count period.instance ≤ n).
    subst (λ k. IsRangeOf period k (range_at ranges k)) (omega arith)
    (thermal (n - renewable_count period.instance) (omega arith)))
    (cases_lt n (renewable_count period.instance))
