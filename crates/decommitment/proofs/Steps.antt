-- A step along the order leaves the amounts at a level, with their sums.
-- Cite by `use Rattle.decommitment.proofs.Steps.{walked_up}`.
use Rattle.std.proofs.Common.{◌≡◌, ℕ, suc, ◌-◌, ◌*◌, ◌<◌, ◌≤◌, min, refl, sym, subst, arith, List, length, ℤ, pos, ◌⊎◌, ◌+ℤ◌, ◌-ℤ◌, ◌≤ℤ◌, ◌<ℤ◌, IsTrue, slice_set, w64, to_z, of_z, if◌then◌else◌}
use Rattle.std.specs.Int.{int_min}
use Rattle.std.proofs.lemmas.Int.{ints}
use Rattle.uc_model.specs.Prelude.{IsLawfulInstance, thermal_count}
use Rattle.uc_model.proofs.Common.{within_of_abs, linear, le_trans, narrow}
use Rattle.dispatch_repair.specs.Prelude.{IsRangeOf, IsSizedEnd, Period, AreInMeritOrder, segment_at, source_count, HaveRanges}
use Rattle.dispatch_repair.specs.Amounts.{MAX_POWER, amount_at}
use Rattle.dispatch_repair.specs.Period.{Instance}
use Rattle.dispatch_repair.specs.declared.segment.Segment.{Segment}
use Rattle.decommitment.specs.inside.Fills.{Fill, AreGiven, IsSizedAmount, IsStanding, IsWalked}
use Rattle.decommitment.specs.inside.Levels.{Range, Step, AreAtLevel, IsAtLevel, IsLeastAt, IsRisen, IsSunk}
use Rattle.decommitment.proofs.Levels.{climbed, descended}

-- ---- sizes
pub between : (z low high : ℤ) → pos 0 ≤ℤ low → low ≤ℤ z → z ≤ℤ high → high ≤ℤ pos (3 * MAX_POWER) → IsSizedAmount z
between z low high bottom first last top = record { low = le_trans (pos 0) low z bottom first; size = grind (arith, ints, bottom, first, last, top) }

pub at_most : (z : ℤ) → IsSizedEnd z → z ≤ℤ pos (3 * MAX_POWER)
at_most z size = (within_of_abs z (3 * MAX_POWER) size).high

-- the bits of an amount are that amount's
pub amount_kept : (z : ℤ) → IsSizedAmount z → to_z w64 (of_z w64 z) ≡ z
amount_kept z sized = narrow z (3 * MAX_POWER) sized.size (omega arith)

-- where a segment ends within a range is no more than that
pub end_size : (end : ℤ) (range : Range) (z : ℤ) → z ≡ int_min end range.high → IsSizedEnd range.high → z ≤ℤ pos (3 * MAX_POWER)
end_size end range z is size = grind (arith, ints, is, size)

pub risen_sized : (amount end : ℤ) (step : Step) → IsSizedAmount amount → end ≤ℤ pos (3 * MAX_POWER) → IsRisen amount end step → IsSizedAmount step.amount
risen_sized amount end step sized top rose = grind (arith, ints, sized, top, rose)

pub sunk_sized : (amount least : ℤ) (step : Step) → IsSizedAmount amount → pos 0 ≤ℤ least → IsSunk amount least step → IsSizedAmount step.amount
sunk_sized amount least step sized bottom sank = grind (arith, ints, sized, bottom, sank)

-- ---- amounts
-- an amount that rises by a part of what is missing, and one that falls by a part of what is given too much
pub risen_by : (amount end missing more : ℤ) (step : Step) → step.amount ≡ amount +ℤ more → pos 0 ≤ℤ more → (pos 0 <ℤ more → (amount +ℤ more) ≤ℤ end)
    → (end ≤ℤ (amount +ℤ more)) ⊎ (more ≡ missing) → (IsTrue step.goes_on → more <ℤ missing) → IsRisen amount end step
risen_by amount end missing more step is up within done part = grind (arith, ints, is, up, within, done, part)

pub sunk_by : (amount least excess less : ℤ) (step : Step) → step.amount ≡ amount -ℤ less → pos 0 ≤ℤ less → (pos 0 <ℤ less → least ≤ℤ (amount -ℤ less))
    → ((amount -ℤ less) ≤ℤ least) ⊎ (less ≡ excess) → (IsTrue step.goes_on → less <ℤ excess) → IsSunk amount least step
sunk_by amount least excess less step is down within done part = grind (arith, ints, is, down, within, done, part)

-- ---- sources
-- the segment at a level has a source
pub source_inside : (instance : Instance) (order items : List Segment) (level : ℕ) → order ≡ items → AreInMeritOrder instance items → level < length order
    → (segment_at order level).source < source_count instance
source_inside instance order items level same merit within = grind (arith, ints, same, merit, within)

-- no source gives less than nothing
pub bottom : (period : Period) (n : ℕ) (range : Range) (least : ℤ) → IsLawfulInstance period.instance → period.t < period.instance.periods
    → HaveRanges period (thermal_count period.instance) → n < source_count period.instance → IsRangeOf period n range → range.low ≤ℤ least → pos 0 ≤ℤ least
bottom period n range least lawful within ranges inside is low = grind (arith, ints, lawful, within, ranges, inside, is)

-- an amount within a source's range
pub sized_in : (period : Period) (n : ℕ) (range : Range) (least : ℤ) → IsLawfulInstance period.instance → period.t < period.instance.periods
    → HaveRanges period (thermal_count period.instance) → n < source_count period.instance → IsRangeOf period n range → range.low ≤ℤ least
    → least ≤ℤ range.high → IsSizedAmount least
sized_in period n range least lawful within ranges inside is low high =
    between least range.low range.high (bottom period n range range.low lawful within ranges inside is (omega (arith, linear))) low high (at_most range.high is.high_size)

-- the last level before a number of segments
pub within_last : (level last count : ℕ) → last ≡ min level (count - 1) → 0 < count → last < count
within_last level last count is some = omega (arith, is, some)

pub below_last : (level last count : ℕ) → last ≡ min level (count - 1) → last ≤ level
below_last level last count is = omega (arith, is)

pub up_to_last : (level last count j : ℕ) → last ≡ min level (count - 1) → j < count → j < suc level → j < suc last
up_to_last level last count j is below early = omega (arith, is, below, early)

-- ---- steps
module _ (period : Period) (order : List Segment) (old set : Fill) (level : ℕ) (range : Range) (step : Step) where
  abbrev s : ℕ
  s = (segment_at order level).source

  module _ (inside : s < source_count period.instance) (given : AreGiven period.instance old.amounts.items old.given)
      (were : AreAtLevel period order level old.amounts.items) (is : IsRangeOf period s range)
      (amounts : set.amounts.items ≡ slice_set old.amounts.items s step.amount)
      (sums : AreGiven period.instance set.amounts.items set.given) (totals : set.totals ≡ old.totals) (shortage : set.shortage ≡ old.shortage) where
    pub walked_up : level < length order → IsRisen (amount_at old.amounts.items s) (int_min (segment_at order level).end range.high) step
        → IsWalked period order old (record set { level = if step.goes_on then suc level else level })
    walked_up within rose = record {
      standing = record {
        given = sums;
        level = subst (AreAtLevel period order (if step.goes_on then suc level else level)) (sym amounts)
            (climbed period order level old.amounts.items step given.count were within inside
            (subst (λ z. IsRisen (amount_at old.amounts.items s) (int_min (segment_at order level).end z) step) is.high rose));
      };
      totals = totals;
      shortage = shortage;
    }

    pub walked_down : (least : ℤ) → IsLeastAt order s level range least → IsSunk (amount_at old.amounts.items s) least step
        → IsWalked period order old (record set { level = if step.goes_on then level - 1 else level })
    walked_down least bottom sank = record {
      standing = record {
        given = sums;
        level = subst (AreAtLevel period order (if step.goes_on then level - 1 else level)) (sym amounts)
            (descended period order level old.amounts.items step given.count were least inside
            (subst (λ z. z) (λ i. IsAtLevel order s level level (is.low i) (is.high i) least) bottom) sank);
      };
      totals = totals;
      shortage = shortage;
    }

-- ---- walks
pub walked_none : (period : Period) (order : List Segment) (fill : Fill) → IsStanding period order fill → IsWalked period order fill fill
walked_none period order fill standing = record { standing = standing; totals = refl; shortage = refl }
