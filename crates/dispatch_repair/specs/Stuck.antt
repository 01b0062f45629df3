-- Where a commitment can't be dispatched, and why. Source: the rules of the reference model by Knueven, Ostrowski and Watson; that a
-- period is filled for itself, and in which order the obstacles are looked for, is this project's own.
use Rattle.std.specs.Prelude.{◌≡◌, ℕ, ◌<◌, ◌≤◌, ◌⊎◌, List, ℤ, pos, ⊤, ◌*ℤ◌, ◌≤ℤ◌, ◌<ℤ◌, IsTrue}
use Rattle.uc_model.specs.Prelude.{Schedule, thermal_unit, thermal_count, p_at, p_before, Rule, rule_number, rule_units, holds_at}
pub use Rattle.uc_model.specs.declared.stuck.Stuck.{Stuck}
pub use Rattle.uc_model.specs.declared.stuck.Why.{Why}
use Rattle.uc_model.specs.declared.stuck.Why.TheVariants as why
use Rattle.dispatch_repair.specs.declared.schedule.DispatchFault.{DispatchFault}
use Rattle.dispatch_repair.specs.declared.schedule.DispatchFault.TheVariants as fault
use Rattle.dispatch_repair.specs.Period.{Instance, Pattern, Printed, Period, FromThermal, commitment_at, output_before, low_of, high_of, total_output, demand_of, need_of}
use Rattle.dispatch_repair.specs.Shortage.{greatest_room}
use Rattle.dispatch_repair.specs.Dispatch.{HasPeriods, IsDispatchThrough, period_after}

-- ---- the rules that come before a dispatch
-- the rules on commitments: M1 to M5 and M7
abbrev pub IsCommitmentRule : Rule → Type 0
IsCommitmentRule rule = (rule_number rule < 6) ⊎ (rule_number rule ≡ 7)

-- a schedule of the commitment, of which these rules ask no more
abbrev pub committed : List Pattern → Schedule
committed patterns = record {
  thermal = λ g. record { on = commitment_at patterns g; category = λ t. 0; weight = λ t l. 0; reserve = λ t. pos 0 };
  output = λ w t. pos 0;
  shed = λ t. pos 0;
  short = λ t. pos 0;
}

-- unit g's commitment keeps the rule in each period
abbrev pub KeepsRule : Instance → List Pattern → Rule → ℕ → Type 0
KeepsRule instance patterns rule g = (t : ℕ) → t < instance.periods → IsTrue (holds_at rule instance 1 (committed patterns) g t)

-- the commitment keeps these rules
abbrev pub IsRegular : Instance → List Pattern → Type 0
IsRegular instance patterns =
    (rule : Rule) → IsCommitmentRule rule → (g : ℕ) → g < thermal_count instance → KeepsRule instance patterns rule g

-- the first rule that a unit breaks, and the first unit that breaks it: rules come before units
pub record IsFirstBrokenRule (instance : Instance) (patterns : List Pattern) (number unit : ℕ) : Type 0 where
  pub rule : Rule
  pub kind : IsCommitmentRule rule
  pub is : number ≡ rule_number rule
  pub within : unit < thermal_count instance
  pub breaks : ¬ KeepsRule instance patterns rule unit
  pub rules : (earlier : Rule) → IsCommitmentRule earlier → rule_number earlier < number
      → (g : ℕ) → g < thermal_count instance → KeepsRule instance patterns earlier g
  pub units : (g : ℕ) → g < unit → KeepsRule instance patterns rule g

-- ---- obstacles in a period
-- the range of each of the first n units isn't empty
abbrev pub HaveRanges : Period → ℕ → Type 0
HaveRanges period n = (g : ℕ) → g < n → low_of period (FromThermal g) ≤ℤ high_of period (FromThermal g)

-- each unit has a range, and demand lies between the least and the most that all give; or above, where it has a price
pub record HasBalance (period : Period) : Type 0 where
  pub ranges : HaveRanges period (thermal_count period.instance)
  pub least : total_output period (low_of period) ≤ℤ demand_of period
  pub most : period.instance.a ≡ 0 → demand_of period ≤ℤ total_output period (high_of period)

-- a unit's range is empty, the first one's
pub record IsBox (period : Period) (g : ℕ) (bottom top : ℤ) : Type 0 where
  pub within : g < thermal_count period.instance
  pub low : bottom ≡ low_of period (FromThermal g)
  pub high : top ≡ high_of period (FromThermal g)
  pub empty : top <ℤ bottom
  pub earlier : HaveRanges period g

-- the least output is above demand
pub record IsOver (period : Period) (total wanted : ℤ) : Type 0 where
  pub least : total ≡ total_output period (low_of period)
  pub demand : wanted ≡ demand_of period
  pub above : wanted <ℤ total
  pub ranges : HaveRanges period (thermal_count period.instance)

-- the most output is below demand, which has no price
pub record IsUnder (period : Period) (total wanted : ℤ) : Type 0 where
  pub firm : period.instance.a ≡ 0
  pub most : total ≡ total_output period (high_of period)
  pub demand : wanted ≡ demand_of period
  pub below : total <ℤ wanted
  pub ranges : HaveRanges period (thermal_count period.instance)
  pub least : total_output period (low_of period) ≤ℤ demand_of period

-- the room for reserve is below what is needed, and reserve has no price
pub record IsShort (period : Period) (spare wanted : ℤ) : Type 0 where
  pub firm : period.instance.b ≡ 0
  pub room : spare ≡ greatest_room period
  pub need : wanted ≡ need_of period
  pub below : spare <ℤ wanted
  pub balance : HasBalance period

-- the first of these obstacles, in this order
abbrev pub IsFirstObstacle : Period → Why → Type 0
IsFirstObstacle period (why.Rule number unit) = ⊥
IsFirstObstacle period (why.Box unit low high) = IsBox period unit low high
IsFirstObstacle period (why.Over least demand) = IsOver period least demand
IsFirstObstacle period (why.Under most demand) = IsUnder period most demand
IsFirstObstacle period (why.Reserve room need) = IsShort period room need

-- there is none
pub record IsFree (period : Period) : Type 0 where
  pub balance : HasBalance period
  pub reserve : period.instance.b ≡ 0 → need_of period ≤ℤ greatest_room period

-- ---- what an obstacle means
-- a schedule over q that has the commitment, goes on from the period before, and has its outputs inside the ranges
pub record GoesOn (period : Period) (q : ℕ) (x : Schedule) : Type 0 where
  pub on : (g t : ℕ) → g < thermal_count period.instance → t < period.instance.periods → (x.thermal g).on t ≡ period.on g t
  pub before : (g : ℕ) → g < thermal_count period.instance
      → p_before q (thermal_unit period.instance g) (x.thermal g) period.t ≡ pos q *ℤ period.before g
  pub low : (g : ℕ) → g < thermal_count period.instance
      → (pos q *ℤ low_of period (FromThermal g)) ≤ℤ p_at (thermal_unit period.instance g) (x.thermal g) period.t
  pub high : (g : ℕ) → g < thermal_count period.instance
      → p_at (thermal_unit period.instance g) (x.thermal g) period.t ≤ℤ (pos q *ℤ high_of period (FromThermal g))

-- it keeps the rules on dispatch, M8 to M17, in the period
abbrev pub KeepsDispatchRules : Period → ℕ → Schedule → Type 0
KeepsDispatchRules period q x =
    (rule : Rule) → 7 < rule_number rule → (g : ℕ) → g < rule_units rule period.instance
    → IsTrue (holds_at rule period.instance q x g period.t)

-- no dispatch of the period inside its ranges obeys, whole or rational
abbrev pub HasNoDispatch : Period → Type 0
HasNoDispatch period = (q : ℕ) (x : Schedule) → 1 ≤ q → GoesOn period q x → ¬ KeepsDispatchRules period q x

-- ---- the answer
-- stuck in a period, after those before it were filled; no dispatch of it obeys
pub record IsStuckInPeriod (instance : Instance) (patterns : List Pattern) (stuck : Stuck) (period : Period) : Type 0 where
  pub regular : IsRegular instance patterns
  pub within : stuck.period < instance.periods
  pub prefix : IsDispatchThrough instance patterns stuck.period stuck.prefix
  pub obstacle : IsFirstObstacle period stuck.why
  pub impossible : HasNoDispatch period

-- stuck before any period is filled
pub record IsStuckByRule (instance : Instance) (patterns : List Pattern) (stuck : Stuck) (number unit : ℕ) : Type 0 where
  pub period : stuck.period ≡ 0
  pub prefix : HasPeriods instance 0 stuck.prefix
  pub broken : IsFirstBrokenRule instance patterns number unit

-- the period in which a dispatch is stuck, after its prefix
abbrev pub stuck_period : Instance → List Pattern → Stuck → Period
stuck_period instance patterns stuck =
    period_after instance patterns stuck.period (λ g. output_before instance stuck.prefix g stuck.period)

-- where and why the commitment is stuck
abbrev pub IsStuckBy : Instance → List Pattern → Stuck → Why → Type 0
IsStuckBy instance patterns stuck (why.Rule number unit) = IsStuckByRule instance patterns stuck number unit
IsStuckBy instance patterns stuck (why.Box unit low high) = IsStuckInPeriod instance patterns stuck (stuck_period instance patterns stuck)
IsStuckBy instance patterns stuck (why.Over least demand) = IsStuckInPeriod instance patterns stuck (stuck_period instance patterns stuck)
IsStuckBy instance patterns stuck (why.Under most demand) = IsStuckInPeriod instance patterns stuck (stuck_period instance patterns stuck)
IsStuckBy instance patterns stuck (why.Reserve room need) = IsStuckInPeriod instance patterns stuck (stuck_period instance patterns stuck)

abbrev pub IsStuckOf : Instance → List Pattern → Stuck → Type 0
IsStuckOf instance patterns stuck = IsStuckBy instance patterns stuck stuck.why

-- why there is no dispatch
abbrev pub IsDispatchFault : Instance → List Pattern → DispatchFault → Type 0
IsDispatchFault instance patterns (fault.Stuck stuck) = IsStuckOf instance patterns stuck
IsDispatchFault instance patterns fault.NoMemory = ⊤

-- the dispatch of a commitment that keeps the rules on commitments
pub record IsDispatchOf (instance : Instance) (patterns : List Pattern) (printed : Printed) : Type 0 where
  pub regular : IsRegular instance patterns
  pub periods : IsDispatchThrough instance patterns instance.periods printed
