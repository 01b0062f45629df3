-- Periods of a commitment as they are filled, each from the amounts before it: from nothing, or from how the period of a
-- commitment that differs in one unit alone was filled. This project's own.
use Rattle.std.specs.Prelude.{◌≡◌, ◌≢◌, ℕ, suc, ◌+◌, ◌*◌, ◌<◌, ◌≤◌, List, ℤ, pos, ◌+ℤ◌, ◌-ℤ◌, ◌*ℤ◌, ◌≤ℤ◌, IsTrue, length, unsigned_abs, slice_set}
use Rattle.uc_model.specs.Prelude.{Commitment, renewable_count, thermal_count, thermal_unit, bit, sum_below}
use Rattle.dispatch_repair.specs.Prelude.{AreBeforePeriod, AreHeadsOf, IsSizedEnd, next_period, thermal_amount, IsDispatchedFrom, IsStart, Period, FromRenewable, FromThermal, head, highest, lowest, low_of, high_of, renewable_sum, source_count, HaveRanges, IsFirstObstacle, AreTotalsOf, IsSum}
use Rattle.dispatch_repair.specs.Amounts.{amount_at}
use Rattle.dispatch_repair.specs.Period.{Instance, Pattern}
use Rattle.dispatch_repair.specs.Totals.{MAX_POWER, MAX_UNITS}
use Rattle.dispatch_repair.specs.declared.fill.Left.{Left}
use Rattle.dispatch_repair.specs.declared.segment.Segment.{Segment}
use Rattle.dispatch_repair.specs.declared.obstacle.Totals.{Totals}
pub use Rattle.dispatch_repair.specs.declared.range.Range.{Range}
pub use Rattle.dispatch_repair.specs.declared.shortage.Shortage.{Shortage}
pub use Rattle.decommitment.specs.declared.entry.Part.{Part}
pub use Rattle.decommitment.specs.declared.fill.Base.{Base}
pub use Rattle.decommitment.specs.declared.fill.Fill.{Fill}
pub use Rattle.decommitment.specs.declared.fill.Filling.{Filling}
use Rattle.decommitment.specs.declared.fill.Filling.TheVariants as filling
pub use Rattle.decommitment.specs.declared.fill.Given.{Given}
pub use Rattle.decommitment.specs.declared.fill.Hour.{Hour}
pub use Rattle.decommitment.specs.declared.fill.System.{System}
pub use Rattle.decommitment.specs.declared.fill.Target.{Target}
use Rattle.decommitment.specs.inside.Levels.{AreAtLevel, IsAtLevel, IsMeritOf}

-- ---- sums
-- the size of an amount
pub record IsSizedAmount (z : ℤ) : Type 0 where
  pub low : pos 0 ≤ℤ z
  pub size : IsSizedEnd z

-- the size of what all are to give
abbrev pub IsSizedAim : ℤ → Type 0
IsSizedAim z = unsigned_abs z ≤ MAX_UNITS * (60 * MAX_POWER)

-- an amount for each source, and their sums
pub record AreGiven (instance : Instance) (amounts : List ℤ) (given : Given) : Type 0 where
  pub count : length amounts ≡ source_count instance
  pub sizes : (n : ℕ) → n < source_count instance → IsSizedAmount (amount_at amounts n)
  pub thermal : IsSum given.thermal (sum_below (thermal_count instance) (thermal_amount instance amounts))
  pub renewable : IsSum given.renewable (sum_below (renewable_count instance) (amount_at amounts))

-- sums over no source
abbrev pub no_given : Given
no_given = record { thermal = pos 0; renewable = pos 0 }

abbrev pub no_totals : Totals
no_totals = record { minimums = pos 0; thermal_low = pos 0; thermal_high = pos 0; heads = pos 0; renewable_low = pos 0; renewable_high = pos 0 }

abbrev pub no_part : Part
no_part = record { minimum = pos 0; reach = record { head = pos 0; range = record { low = pos 0; high = pos 0 } } }

-- a thermal unit's parts of the sums, with this commitment, after this output
abbrev pub unit_part : Instance → ℕ → Commitment → ℕ → ℤ → Part
unit_part instance g on t before = record {
  minimum = (thermal_unit instance g).pmin *ℤ bit (on t);
  reach = record {
    head = head instance.periods (thermal_unit instance g) on t before;
    range = record { low = lowest (thermal_unit instance g) before; high = highest instance.periods (thermal_unit instance g) on t before };
  };
}

abbrev pub part_at : Period → ℕ → Part
part_at period g = unit_part period.instance g (period.on g) period.t (period.before g)

-- each has the size of a range's end
pub record HasSizes (part : Part) : Type 0 where
  pub minimum : IsSizedEnd part.minimum
  pub head : IsSizedEnd part.reach.head
  pub low : IsSizedEnd part.reach.range.low
  pub high : IsSizedEnd part.reach.range.high

-- the sums with a part in the place of another
abbrev pub exchanged_totals : Totals → Part → Part → Totals
exchanged_totals totals old new = record totals {
  minimums = totals.minimums +ℤ (new.minimum -ℤ old.minimum);
  thermal_low = totals.thermal_low +ℤ (new.reach.range.low -ℤ old.reach.range.low);
  thermal_high = totals.thermal_high +ℤ (new.reach.range.high -ℤ old.reach.range.high);
  heads = totals.heads +ℤ (new.reach.head -ℤ old.reach.head);
}

-- the sums with the parts of the first n units in the place of others
pub record AreExchanged (new old : ℕ → Part) (n : ℕ) (before after : Totals) : Type 0 where
  pub minimums : after.minimums ≡ before.minimums +ℤ sum_below n (λ g. (new g).minimum -ℤ (old g).minimum)
  pub thermal_low : after.thermal_low ≡ before.thermal_low +ℤ sum_below n (λ g. (new g).reach.range.low -ℤ (old g).reach.range.low)
  pub thermal_high : after.thermal_high ≡ before.thermal_high +ℤ sum_below n (λ g. (new g).reach.range.high -ℤ (old g).reach.range.high)
  pub heads : after.heads ≡ before.heads +ℤ sum_below n (λ g. (new g).reach.head -ℤ (old g).reach.head)
  pub renewable_low : after.renewable_low ≡ before.renewable_low
  pub renewable_high : after.renewable_high ≡ before.renewable_high

-- their size after n units
abbrev pub IsWide : ℕ → ℤ → Type 0
IsWide n z = unsigned_abs z ≤ MAX_UNITS * (3 * MAX_POWER) + n * (6 * MAX_POWER)

pub record AreWide (n : ℕ) (totals : Totals) : Type 0 where
  pub minimums : IsWide n totals.minimums
  pub thermal_low : IsWide n totals.thermal_low
  pub thermal_high : IsWide n totals.thermal_high
  pub heads : IsWide n totals.heads

-- ---- periods
-- the period, after the amounts before it
abbrev pub hour_period : System → Hour → Period
hour_period system hour = next_period system.instance.now hour.patterns.now hour.t hour.before.now

-- a period of a lawful instance, whose merit this is
pub record IsHourOf (system : System) (hour : Hour) : Type 0 where
  pub before : AreBeforePeriod system.instance.now hour.patterns.now hour.t hour.before.now
  pub merit : IsMeritOf system.instance.now system.merit.now

-- the amounts stand at the level, with their sums
pub record IsStanding (period : Period) (order : List Segment) (fill : Fill) : Type 0 where
  pub given : AreGiven period.instance fill.amounts.items fill.given
  pub level : AreAtLevel period order fill.level fill.amounts.items

-- a walk along the order left it so, and all else
pub record IsWalked (period : Period) (order : List Segment) (old new : Fill) : Type 0 where
  pub standing : IsStanding period order new
  pub totals : new.totals ≡ old.totals
  pub shortage : new.shortage ≡ old.shortage

-- all units have entered, and no range is empty
pub record IsReady (period : Period) (order : List Segment) (fill : Fill) : Type 0 where
  pub standing : IsStanding period order fill
  pub ranges : HaveRanges period (thermal_count period.instance)
  pub totals : AreTotalsOf period fill.totals

-- the period was filled from the amounts before it; where it is a base, the amounts stand at a level
pub record IsFill (instance : Instance) (order : List Segment) (patterns : List Pattern) (t : ℕ) (before : List ℤ) (fill : Fill) : Type 0 where
  pub was : AreBeforePeriod instance patterns t before
  pub count : length fill.amounts.items ≡ source_count instance
  pub ready : IsTrue fill.is_base → IsReady (next_period instance patterns t before) order fill
  pub dispatched : (numbers : List ℤ) → AreHeadsOf (next_period instance patterns t before) numbers
      → IsDispatchedFrom (next_period instance patterns t before) fill.shortage fill.amounts.items numbers

-- all units entered it, whether it was filled or not
pub record HasEntered (instance : Instance) (order : List Segment) (patterns : List Pattern) (t : ℕ) (before : List ℤ) (fill : Fill) : Type 0 where
  pub was : AreBeforePeriod instance patterns t before
  pub count : length fill.amounts.items ≡ source_count instance
  pub ready : IsReady (next_period instance patterns t before) order fill

-- what became of a period
abbrev pub IsFillingOf : Instance → List Segment → List Pattern → ℕ → List ℤ → Fill → Filling → Type 0
IsFillingOf instance order patterns t before fill filling.Filled = IsFill instance order patterns t before fill
IsFillingOf instance order patterns t before fill (filling.Barred why) = IsFirstObstacle (next_period instance patterns t before) why
IsFillingOf instance order patterns t before fill (filling.Uneven why) =
    IsFirstObstacle (next_period instance patterns t before) why × HasEntered instance order patterns t before fill
IsFillingOf instance order patterns t before fill filling.Bound = Unit {0}

abbrev pub ComesTo : System → Hour → Fill → Filling → Type 0
ComesTo system hour fill result =
    IsFillingOf system.instance.now system.merit.now.order.items hour.patterns.now hour.t hour.before.now fill result

-- ---- from nothing
-- no source gives anything
pub record IsClear (instance : Instance) (fill : Fill) : Type 0 where
  pub given : AreGiven instance fill.amounts.items fill.given
  pub level : fill.level ≡ 0
  pub totals : fill.totals ≡ no_totals

-- the first n renewable units give their least, and these are the sums of their ranges' ends
pub record IsBegunTo (period : Period) (n : ℕ) (sums : Range) (fill : Fill) : Type 0 where
  pub given : AreGiven period.instance fill.amounts.items fill.given
  pub level : fill.level ≡ 0
  pub totals : fill.totals ≡ no_totals
  pub lows : (w : ℕ) → w < n → amount_at fill.amounts.items w ≡ low_of period (FromRenewable w)
  pub low : sums.low ≡ sum_below n (λ w. low_of period (FromRenewable w))
  pub high : sums.high ≡ sum_below n (λ w. high_of period (FromRenewable w))
  pub low_size : unsigned_abs sums.low ≤ n * (3 * MAX_POWER)
  pub high_size : unsigned_abs sums.high ≤ n * (3 * MAX_POWER)

-- all renewable units give their least, and no thermal one has entered
pub record IsBegun (period : Period) (fill : Fill) : Type 0 where
  pub given : AreGiven period.instance fill.amounts.items fill.given
  pub level : fill.level ≡ 0
  pub lows : (w : ℕ) → w < renewable_count period.instance → amount_at fill.amounts.items w ≡ low_of period (FromRenewable w)
  pub minimums : fill.totals.minimums ≡ pos 0
  pub thermal_low : fill.totals.thermal_low ≡ pos 0
  pub thermal_high : fill.totals.thermal_high ≡ pos 0
  pub heads : fill.totals.heads ≡ pos 0
  pub renewable_low : IsSum fill.totals.renewable_low (renewable_sum period (low_of period))
  pub renewable_high : IsSum fill.totals.renewable_high (renewable_sum period (high_of period))

-- ---- units enter
-- unit g has a range, its amount is at the level, and its part stands in the sums in the place of an old one
pub record IsEntered (period : Period) (order : List Segment) (g : ℕ) (old : Part) (before after : Fill) : Type 0 where
  pub range : low_of period (FromThermal g) ≤ℤ high_of period (FromThermal g)
  pub sizes : HasSizes (part_at period g)
  pub amount : IsAtLevel order (renewable_count period.instance + g) before.level (suc before.level) (low_of period (FromThermal g))
      (high_of period (FromThermal g)) (thermal_amount period.instance after.amounts.items g)
  pub others : (n : ℕ) → n ≢ renewable_count period.instance + g → amount_at after.amounts.items n ≡ amount_at before.amounts.items n
  pub given : AreGiven period.instance after.amounts.items after.given
  pub level : after.level ≡ before.level
  pub totals : after.totals ≡ exchanged_totals before.totals old (part_at period g)

-- the first n units have entered, where they had other parts
pub record AreEntered (period : Period) (order : List Segment) (old : ℕ → Part) (n : ℕ) (before after : Fill) : Type 0 where
  pub ranges : HaveRanges period n
  pub amounts : (g : ℕ) → g < n → IsAtLevel order (renewable_count period.instance + g) before.level (suc before.level) (low_of period (FromThermal g))
      (high_of period (FromThermal g)) (thermal_amount period.instance after.amounts.items g)
  pub later : (g : ℕ) → n ≤ g → thermal_amount period.instance after.amounts.items g ≡ thermal_amount period.instance before.amounts.items g
  pub free : (w : ℕ) → w < renewable_count period.instance → amount_at after.amounts.items w ≡ amount_at before.amounts.items w
  pub given : AreGiven period.instance after.amounts.items after.given
  pub level : after.level ≡ before.level
  pub totals : AreExchanged (part_at period) old n before.totals after.totals
  pub sizes : AreWide n after.totals

-- ---- from a commitment that differs in one unit
-- its period
abbrev pub base_period : System → Hour → Base → Period
base_period system hour base = next_period system.instance.now (slice_set hour.patterns.now base.g base.stood) hour.t base.before.now

-- in which all units entered
pub record IsBaseOf (system : System) (hour : Hour) (base : Base) : Type 0 where
  pub unit : base.g < thermal_count system.instance.now
  pub fill : HasEntered system.instance.now system.merit.now.order.items (slice_set hour.patterns.now base.g base.stood) hour.t base.before.now base.fill.now

-- the parts of its units
abbrev pub base_parts : System → Hour → Base → ℕ → Part
base_parts system hour base = part_at (base_period system hour base)

-- unit g at place n is another, and gave as much before
pub record IsAlike (hour : Hour) (base : Base) (g n : ℕ) : Type 0 where
  pub other : g ≢ base.g
  pub before : amount_at hour.before.now n ≡ amount_at base.before.now n

-- filled as another
pub record IsCopy (base fill : Fill) : Type 0 where
  pub amounts : fill.amounts.items ≡ base.amounts.items
  pub level : fill.level ≡ base.level
  pub given : fill.given ≡ base.given
  pub totals : fill.totals ≡ base.totals

-- ---- demand
-- this is missing, and so much is left to give of the rest
abbrev pub IsStarted : Period → Shortage → Left → Type 0
IsStarted period shortage left = IsStart period (record { shortage = shortage; left = left })

-- all give what they are to, and the thermal units no more than they may
pub record IsMet (target : Target) (given : Given) : Type 0 where
  pub all : given.thermal +ℤ given.renewable ≡ target.all
  pub thermal : given.thermal ≤ℤ target.thermal
