-- What it is for a JSON value to stand for an instance, without any order of reading. Source: the fields of
-- the pglib-uc format, with this project's limits. With `exact` no number that an instance is made of is
-- rounded.
use Rattle.std.specs.Prelude.{◌≡◌, ℕ, ◌*◌, ◌≤◌, max, Bool, IsTrue, false, List, [], ◌∷◌, length, take, ℤ, pos, ◌≤ℤ◌, if◌then◌else◌}
use Rattle.std.specs.Int.{int_max}
use Rattle.std.specs.List.{AllZip}
use Rattle.std.specs.Option.{IsSomeAnd}
use Rattle.uc_model.specs.Prelude.{IsPower, IsCost}
pub use Rattle.uc_model.specs.declared.limits.TheConstants.{MAX_PERIODS, MAX_UNITS, MAX_POINTS, MAX_START_ROWS, MAX_TIME}
use Rattle.uc_model.specs.declared.instance.Point.{Point}
use Rattle.uc_model.specs.declared.instance.StartRow.{StartRow}
pub use Rattle.uc_model.specs.declared.instance.Thermal.{Thermal}
pub use Rattle.uc_model.specs.declared.instance.Renewable.{Renewable}
pub use Rattle.uc_model.specs.declared.instance.Instance.{Instance}
use Rattle.decimal_json.specs.Value.{Decimal, Value}
use Rattle.instance.specs.Fields.{Demand, Field, MustRun, PiecewiseProduction, PiecewiseProductionCost, PiecewiseProductionMw, PowerOutputMaximum, PowerOutputMinimum, PowerOutputT0, RampDownLimit, RampShutdownLimit, RampStartupLimit, RampUpLimit, RenewableGenerators, Reserves, Startup, StartupCost, StartupLag, ThermalGenerators, TimeDownMinimum, TimeDownT0, TimePeriods, TimeUpMinimum, TimeUpT0, UnitOnT0, key_of, number_in, entries_in, pairs_in, field_of}
use Rattle.instance.specs.Scaled.{MILLION, scaled, is_rounded}

-- the members of an object
abbrev pub Pairs : Type 0
Pairs = List (List ℕ × Value)

-- A field is there, and its value is as said.
abbrev pub Has : Field → Pairs → (Value → Type 0) → Type 0
Has field ms P = IsSomeAnd (field_of (key_of field) ms) P

abbrev pub IsObject : Value → (Pairs → Type 0) → Type 0
IsObject v P = IsSomeAnd (pairs_in v) P

abbrev pub IsArray : Value → (List Value → Type 0) → Type 0
IsArray v P = IsSomeAnd (entries_in v) P

abbrev pub IsNumber : Bool → Value → (Decimal → Type 0) → Type 0
IsNumber exact v P = IsSomeAnd (number_in v) (λ d. (IsTrue exact → is_rounded d ≡ false) × P d)

-- ---- what a value is

-- watts
abbrev pub IsPowerOf : Bool → ℤ → Value → Type 0
IsPowerOf exact z v = IsNumber exact v (λ d. (scaled d ≡ z) × IsPower z)

-- micro-dollars
abbrev pub IsCostOf : Bool → ℤ → Value → Type 0
IsCostOf exact z v = IsNumber exact v (λ d. (scaled d ≡ z) × IsCost z)

-- hours: a whole number
abbrev pub IsTimeOf : Bool → ℕ → Value → Type 0
IsTimeOf exact h v = IsNumber exact v (λ d. (scaled d ≡ pos (h * MILLION)) × (h ≤ MAX_TIME))

-- 1 or 0
abbrev pub IsFlagOf : Bool → Bool → Value → Type 0
IsFlagOf exact b v = IsNumber exact v (λ d. scaled d ≡ pos ((if b then 1 else 0) * MILLION))

abbrev pub IsPeriodsOf : Bool → ℕ → Value → Type 0
IsPeriodsOf exact t v = IsNumber exact v (λ d. (scaled d ≡ pos (t * MILLION)) × (1 ≤ t) × (t ≤ MAX_PERIODS))

-- a power for each period; entries past the last one are not looked at
abbrev pub IsPowersOf : Bool → ℕ → List ℤ → Value → Type 0
IsPowersOf exact periods zs v = IsArray v (λ vs. (periods ≤ length vs) × AllZip (λ w z. IsPowerOf exact z w) (take periods vs) zs)

-- at least one row and at most so many
abbrev pub AreRowsOf : {A : Type 0} → ℕ → (A → Value → Type 0) → List A → Value → Type 0
AreRowsOf most IsRow rows v = IsArray v (λ vs. (1 ≤ length vs) × (length vs ≤ most) × AllZip (λ w row. IsRow row w) vs rows)

abbrev pub IsStartRowOf : Bool → StartRow → Value → Type 0
IsStartRowOf exact row v = IsObject v (λ ms. Has StartupLag ms (IsTimeOf exact row.lag) × Has StartupCost ms (IsCostOf exact row.cost))

abbrev pub IsPointOf : Bool → Point → Value → Type 0
IsPointOf exact point v = IsObject v (λ ms. Has PiecewiseProductionMw ms (IsPowerOf exact point.mw) × Has PiecewiseProductionCost ms (IsCostOf exact point.cost))

-- No point is below the one before it.
abbrev pub IsRising : List Point → Type 0
IsRising [] = Unit {0}
IsRising (p ∷ []) = Unit {0}
IsRising (p ∷ q ∷ ps) = (p.mw ≤ℤ q.mw) × IsRising (q ∷ ps)

-- ---- units and the instance

-- a power that isn't negative
abbrev pub IsLimitOf : Bool → ℤ → Value → Type 0
IsLimitOf exact z v = IsPowerOf exact z v × (pos 0 ≤ℤ z)

-- a minimum time, of which 0 is read as 1
abbrev pub IsMinimumTimeOf : Bool → ℕ → Value → Type 0
IsMinimumTimeOf exact h v = (written : ℕ) × IsTimeOf exact written v × (h ≡ max written 1)

pub record IsThermalOf (exact : Bool) (unit : Thermal) (ms : Pairs) : Type 0 where
  pub must_run : Has MustRun ms (IsFlagOf exact unit.must_run)
  pub minimum : Has PowerOutputMinimum ms (IsLimitOf exact unit.pmin)
  pub maximum : Has PowerOutputMaximum ms (IsPowerOf exact unit.pmax)
  pub range : unit.pmin ≤ℤ unit.pmax
  pub ramp_up : Has RampUpLimit ms (IsLimitOf exact unit.ru)
  pub ramp_down : Has RampDownLimit ms (IsLimitOf exact unit.rd)
  pub start_limit : Has RampStartupLimit ms (IsLimitOf exact unit.su)
  pub stop_limit : Has RampShutdownLimit ms (IsLimitOf exact unit.sd)
  pub time_up : Has TimeUpMinimum ms (IsMinimumTimeOf exact unit.ut)
  pub time_down : Has TimeDownMinimum ms (IsMinimumTimeOf exact unit.dt)
  pub initial_output : Has PowerOutputT0 ms (IsPowerOf exact unit.p0)
  pub initial_on : Has UnitOnT0 ms (IsFlagOf exact unit.on0)
  pub initial_time_up : Has TimeUpT0 ms (IsTimeOf exact unit.ut0)
  pub initial_time_down : Has TimeDownT0 ms (IsTimeOf exact unit.dt0)
  pub startup : Has Startup ms (AreRowsOf MAX_START_ROWS (IsStartRowOf exact) unit.startup)
  pub points : Has PiecewiseProduction ms (AreRowsOf MAX_POINTS (IsPointOf exact) unit.points)
  pub rising : IsRising unit.points

pub record IsRenewableOf (exact : Bool) (periods : ℕ) (unit : Renewable) (ms : Pairs) : Type 0 where
  pub minimum : Has PowerOutputMinimum ms (IsPowersOf exact periods unit.minimum)
  pub maximum : Has PowerOutputMaximum ms (IsPowersOf exact periods unit.maximum)
  pub range : AllZip (λ low high. int_max low (pos 0) ≤ℤ high) unit.minimum unit.maximum

-- the units of an object, in the order of the file, each under its name
abbrev pub AreUnitsOf : {A : Type 0} → (A → List ℕ) → (A → Pairs → Type 0) → List A → Value → Type 0
AreUnitsOf name IsUnit units v =
    IsObject v (λ ms. (length ms ≤ MAX_UNITS) × AllZip (λ (m : List ℕ × Value) unit. (name unit ≡ m.0) × IsObject m.1 (IsUnit unit)) ms units)

-- a file gives no price at which demand may stay unserved, or reserve be missing
pub record HasFields (exact : Bool) (instance : Instance) (ms : Pairs) : Type 0 where
  pub periods : Has TimePeriods ms (IsPeriodsOf exact instance.periods)
  pub demand : Has Demand ms (IsPowersOf exact instance.periods instance.demand)
  pub reserves : Has Reserves ms (IsPowersOf exact instance.periods instance.reserves)
  pub thermal : Has ThermalGenerators ms (AreUnitsOf (λ (u : Thermal). u.name) (IsThermalOf exact) instance.thermal)
  pub renewable : Has RenewableGenerators ms (AreUnitsOf (λ (u : Renewable). u.name) (IsRenewableOf exact instance.periods) instance.renewable)
  pub unpriced : (instance.a ≡ 0) × (instance.b ≡ 0)

-- The value stands for the instance.
abbrev pub IsInstanceOf : Bool → Value → Instance → Type 0
IsInstanceOf exact v instance = IsObject v (HasFields exact instance)
