-- An instance that a value stands for is within the limits.
use Rattle.std.proofs.Common.{◌≡◌, ℕ, zero, suc, ◌*◌, ◌<◌, ◌≤◌, false, List, [], ◌∷◌, length, get_or, take, arith, Bool, Result, Ok, Err, subst, IsTrue, ℤ, pos, ◌≤ℤ◌, IfOk, length-take}
use Rattle.std.specs.List.{All, AllZip}
use Rattle.std.proofs.lemmas.Int.{ints}
use Rattle.std.proofs.lemmas.List.Elements.{AllZip-get_or}
use Rattle.std.proofs.lemmas.Slice.Zip.{AllZip-long}
use Rattle.uc_model.specs.Prelude.{IsPower, IsCost, IsLimit, IsLawfulThermal, IsLawfulRenewable, IsLawfulInstance, thermal_unit, renewable_unit, no_unit, point, point_count, start_row, category_count}
use Rattle.decimal_json.specs.Value.{Decimal, Value}
use Rattle.instance.specs.Fields.{Demand, Field, PiecewiseProduction, PiecewiseProductionCost, PiecewiseProductionMw, PowerOutputMaximum, PowerOutputMinimum, PowerOutputT0, RampDownLimit, RampShutdownLimit, RampStartupLimit, RampUpLimit, RenewableGenerators, Reserves, Startup, StartupCost, StartupLag, ThermalGenerators, TimeDownMinimum, TimeDownT0, TimePeriods, TimeUpMinimum, TimeUpT0, key_of, number_in, entries_in, pairs_in, field_of}
use Rattle.instance.specs.Scaled.{MILLION, scaled, is_rounded}
use Rattle.instance.specs.InstanceOf.{Instance, MAX_POINTS, MAX_START_ROWS, MAX_TIME, MAX_UNITS, Renewable, Thermal, Pairs, Has, IsObject, IsNumber, IsPowerOf, IsCostOf, IsTimeOf, IsPeriodsOf, IsPowersOf, AreRowsOf, IsStartRowOf, IsPointOf, IsRising, IsLimitOf, IsMinimumTimeOf, IsThermalOf, IsRenewableOf, AreUnitsOf, HasFields, IsInstanceOf}
use Rattle.uc_model.proofs.Common.{linear, unpriced}
use Rattle.uc_model.specs.declared.instance.Point.{Point}
use Rattle.instance.proofs.StepLaws.{some_is, some_split}
use Rattle.instance.proofs.UnitLaws.{instance_is, instance_again}
use Rattle.instance.specs.FirstFault.{instance_at}
use Rattle.uc_model.specs.declared.field_refusal.FieldRefusal.{FieldRefusal}
use Rattle.instance.specs.Answer.{Fault, Gives}
use Rattle.uc_model.specs.declared.instance.Instance as memory

-- ---- one number

-- what is said of a number beside its value
beside_value : {Q : Type 0} (exact : Bool) (v : Value) (P : Decimal → Type 0) → IsNumber exact v (λ d. P d × Q) → Q
beside_value {Q} exact v P h = (some_is (λ d. (IsTrue exact → is_rounded d ≡ false) × (P d × Q)) (number_in v) h).2.1.1

has_power : (exact : Bool) (field : Field) (ms : Pairs) (z : ℤ) → Has field ms (IsPowerOf exact z) → IsPower z
has_power exact field ms z h = let a = some_is (IsPowerOf exact z) (field_of (key_of field) ms) h in beside_value exact a.0 (λ d. scaled d ≡ z) a.2

has_cost : (exact : Bool) (field : Field) (ms : Pairs) (z : ℤ) → Has field ms (IsCostOf exact z) → IsCost z
has_cost exact field ms z h = let a = some_is (IsCostOf exact z) (field_of (key_of field) ms) h in beside_value exact a.0 (λ d. scaled d ≡ z) a.2

has_time : (exact : Bool) (field : Field) (ms : Pairs) (t : ℕ) → Has field ms (IsTimeOf exact t) → t ≤ MAX_TIME
has_time exact field ms t h = let a = some_is (IsTimeOf exact t) (field_of (key_of field) ms) h in beside_value exact a.0 (λ d. scaled d ≡ pos (t * MILLION)) a.2

has_limit : (exact : Bool) (field : Field) (ms : Pairs) (z : ℤ) → Has field ms (IsLimitOf exact z) → IsLimit z
has_limit exact field ms z h = let a = some_split (IsPowerOf exact z) (field_of (key_of field) ms) h in record { low = a.1; power = has_power exact field ms z a.0 }

has_minimum_time : (exact : Bool) (field : Field) (ms : Pairs) (t : ℕ) → Has field ms (IsMinimumTimeOf exact t) → (1 ≤ t) × (t ≤ MAX_TIME)
has_minimum_time exact field ms t h = grind (arith, ints, h)

-- ---- lists

zip_at : {A B : Type 0} (R : A → B → Type 0) (xs : List A) (ys : List B) → AllZip R xs ys → (k : ℕ) (e : B) → k < length ys → (x : A) × R x (get_or ys k e)
zip_at R (x ∷ xs) (y ∷ ys) h zero e lt = (x, h.0)
zip_at R (x ∷ xs) (y ∷ ys) h (suc k) e lt = zip_at R xs ys h.1 k e (omega arith)
zip_at R [] [] h k e lt = absurd (omega arith)
zip_at R _ _ h k e lt = absurd h

-- a power for each period
record ArePowers (periods : ℕ) (zs : List ℤ) : Type 0 where
  length : length zs ≡ periods
  all : All IsPower zs

has_powers : (exact : Bool) (field : Field) (periods : ℕ) (ms : Pairs) (zs : List ℤ) → Has field ms (IsPowersOf exact periods zs) → ArePowers periods zs
has_powers exact field periods ms zs h =
    let a = some_is (IsPowersOf exact periods zs) (field_of (key_of field) ms) h in
    let R : Value → ℤ → Type 0 = λ v z. IsPowerOf exact z v in
    let b = some_is (λ vs. (periods ≤ length vs) × AllZip R (take periods vs) zs) (entries_in a.0) a.2 in
    let same = AllZip-long R (take periods b.0) zs b.2.1 in
    record {
      length = omega (arith, same, length-take periods b.0, b.2.0);
      all = λ k d lt. let w = zip_at R (take periods b.0) zs b.2.1 k d lt in beside_value exact w.0 (λ n. scaled n ≡ get_or zs k d) w.1;
    }

-- at least one row and at most so many, each with a value that it is of
has_rows : {A : Type 0} (most : ℕ) (IsRow : A → Value → Type 0) (field : Field) (ms : Pairs) (rows : List A) → Has field ms (AreRowsOf most IsRow rows)
    → (1 ≤ length rows) × (length rows ≤ most) × ((k : ℕ) (e : A) → k < length rows → (v : Value) × IsRow (get_or rows k e) v)
has_rows most IsRow field ms rows h =
    let a = some_is (AreRowsOf most IsRow rows) (field_of (key_of field) ms) h in
    let b = some_is (λ vs. (1 ≤ length vs) × (length vs ≤ most) × AllZip (λ w row. IsRow row w) vs rows) (entries_in a.0) a.2 in
    let same = AllZip-long (λ w row. IsRow row w) b.0 rows b.2.2 in
    (omega (arith, same, b.2.0), omega (arith, same, b.2.1), zip_at (λ w row. IsRow row w) b.0 rows b.2.2)

rising_at : (ps : List Point) → IsRising ps → (l : ℕ) (d : Point) → suc l < length ps → (get_or ps l d).mw ≤ℤ (get_or ps (suc l) d).mw
rising_at (p ∷ q ∷ ps) r zero d lt = r.0
rising_at (p ∷ q ∷ ps) r (suc l) d lt = rising_at (q ∷ ps) r.1 l d (omega arith)
rising_at _ r l d lt = absurd (omega arith)

has_units : {A : Type 0} (name : A → List ℕ) (IsUnit : A → Pairs → Type 0) (field : Field) (ms : Pairs) (units : List A) → Has field ms (AreUnitsOf name IsUnit units)
    → (length units ≤ MAX_UNITS) × ((k : ℕ) (e : A) → k < length units → (xs : Pairs) × IsUnit (get_or units k e) xs)
has_units name IsUnit field ms units h =
    let a = some_is (AreUnitsOf name IsUnit units) (field_of (key_of field) ms) h in
    let R : List ℕ × Value → _ → Type 0 = λ m unit. (name unit ≡ m.0) × IsObject m.1 (IsUnit unit) in
    let b = some_is (λ xs. (length xs ≤ MAX_UNITS) × AllZip R xs units) (pairs_in a.0) a.2 in
    let same = AllZip-long R b.0 units b.2.1 in (
      omega (arith, same, b.2.0),
      λ k e lt.
          let w = zip_at R b.0 units b.2.1 k e lt in
          let x = some_is (IsUnit (get_or units k e)) (pairs_in w.0.1) w.1.1 in
          (x.0, x.2),
    )

-- ---- units and the instance

thermal_lawful : (exact : Bool) (unit : Thermal) (ms : Pairs) → IsThermalOf exact unit ms → IsLawfulThermal unit
thermal_lawful exact unit ms h =
    let rows = has_rows MAX_START_ROWS (IsStartRowOf exact) Startup ms unit.startup h.startup in
    let points = has_rows MAX_POINTS (IsPointOf exact) PiecewiseProduction ms unit.points h.points in
    let row_is = λ (s : ℕ) (lt : s < category_count unit).
    (let a = rows.2 s (record { lag = 0; cost = pos 0 }) lt in
    some_is (λ xs. Has StartupLag xs (IsTimeOf exact (start_row unit s).lag) × Has StartupCost xs (IsCostOf exact (start_row unit s).cost)) (pairs_in a.0) a.1) in
    let point_is = λ (l : ℕ) (lt : l < point_count unit).
    (let a = points.2 l (record { mw = pos 0; cost = pos 0 }) lt in
    some_is (λ xs. Has PiecewiseProductionMw xs (IsPowerOf exact (point unit l).mw) × Has PiecewiseProductionCost xs (IsCostOf exact (point unit l).cost)) (pairs_in a.0) a.1) in
    record {
      minimum = has_limit exact PowerOutputMinimum ms unit.pmin h.minimum;
      maximum = record { low = omega (arith, ints, (has_limit exact PowerOutputMinimum ms unit.pmin h.minimum).low, h.range); power = has_power exact PowerOutputMaximum ms unit.pmax h.maximum };
      range = h.range;
      ramp_up = has_limit exact RampUpLimit ms unit.ru h.ramp_up;
      ramp_down = has_limit exact RampDownLimit ms unit.rd h.ramp_down;
      start_limit = has_limit exact RampStartupLimit ms unit.su h.start_limit;
      stop_limit = has_limit exact RampShutdownLimit ms unit.sd h.stop_limit;
      time_up = has_minimum_time exact TimeUpMinimum ms unit.ut h.time_up;
      time_down = has_minimum_time exact TimeDownMinimum ms unit.dt h.time_down;
      initial_output = has_power exact PowerOutputT0 ms unit.p0 h.initial_output;
      initial_time_up = has_time exact TimeUpT0 ms unit.ut0 h.initial_time_up;
      initial_time_down = has_time exact TimeDownT0 ms unit.dt0 h.initial_time_down;
      categories = (rows.0, rows.1);
      lags = λ s lt. has_time exact StartupLag (row_is s lt).0 (start_row unit s).lag (row_is s lt).2.0;
      start_costs = λ s lt. has_cost exact StartupCost (row_is s lt).0 (start_row unit s).cost (row_is s lt).2.1;
      points = (points.0, points.1);
      outputs = λ l lt. has_power exact PiecewiseProductionMw (point_is l lt).0 (point unit l).mw (point_is l lt).2.0;
      costs = λ l lt. has_cost exact PiecewiseProductionCost (point_is l lt).0 (point unit l).cost (point_is l lt).2.1;
      rising = λ l lt. rising_at unit.points h.rising l (record { mw = pos 0; cost = pos 0 }) lt;
    }

renewable_lawful : (exact : Bool) (i : Instance) (w : ℕ) (ms : Pairs) → IsRenewableOf exact i.periods (renewable_unit i w) ms → IsLawfulRenewable i w
renewable_lawful exact i w ms h = grind (arith, ints, has_powers, AllZip-get_or, h)

fields_lawful : (exact : Bool) (i : Instance) (ms : Pairs) → HasFields exact i ms → IsLawfulInstance i
fields_lawful exact i ms h =
    let t = some_is (IsPeriodsOf exact i.periods) (field_of (key_of TimePeriods) ms) h.periods in
    let count = (some_is (λ d. (IsTrue exact → is_rounded d ≡ false) × ((scaled d ≡ pos (i.periods * MILLION)) × (1 ≤ i.periods) × (i.periods ≤ 168))) (number_in t.0) t.2).2.1 in
    let demand = has_powers exact Demand i.periods ms i.demand h.demand in
    let reserves = has_powers exact Reserves i.periods ms i.reserves h.reserves in
    let thermal = has_units (λ (u : Thermal). u.name) (IsThermalOf exact) ThermalGenerators ms i.thermal h.thermal in
    let renewable = has_units (λ (u : Renewable). u.name) (IsRenewableOf exact i.periods) RenewableGenerators ms i.renewable h.renewable in
    record {
      periods = (count.1, count.2);
      demand_length = demand.length;
      reserves_length = reserves.length;
      demand = demand.all;
      reserves = reserves.all;
      thermal_units = thermal.0;
      thermal = λ g lt. let a = thermal.1 g no_unit lt in thermal_lawful exact (thermal_unit i g) a.0 a.1;
      renewable_units = renewable.0;
      renewable = λ w lt. let a = renewable.1 w (record { name = []; minimum = []; maximum = [] }) lt in renewable_lawful exact i w a.0 a.1;
      shed_price = omega (arith, h.unpriced.0);
      short_price = omega (arith, h.unpriced.1);
      shortages = omega (arith, linear, unpriced i i.a i.b h.unpriced.0 h.unpriced.1);
    }

pub instance_lawful : (exact : Bool) (v : Value) (i : Instance) → IsInstanceOf exact v i → IsLawfulInstance i
instance_lawful exact v i h = let a = some_is (HasFields exact i) (pairs_in v) h in fields_lawful exact i a.0 a.2

-- ---- What `from_json` says beside the first fault follows from it.
abbrev Answer : Type 0
Answer = Result (memory.Instance × ℕ) (Fault FieldRefusal)

pub answer_found : (exact : Bool) (v : Value) (r : Answer) → Gives (λ x. x.0) r (instance_at exact v) → IfOk r (λ x. IsInstanceOf exact v x.0)
answer_found exact v (Ok x) h = instance_is exact v x.0 h
answer_found exact v (Err e) h = tt

pub answer_lawful : (exact : Bool) (v : Value) (r : Answer) → Gives (λ x. x.0) r (instance_at exact v) → IfOk r (λ x. IsLawfulInstance x.0)
answer_lawful exact v (Ok x) h = instance_lawful exact v x.0 (instance_is exact v x.0 h)
answer_lawful exact v (Err e) h = tt

pub answer_only : (exact : Bool) (v : Value) (r : Answer) → Gives (λ x. x.0) r (instance_at exact v) → (i : memory.Instance) → IsInstanceOf exact v i → Gives (λ x. x.0) r (Ok i)
answer_only exact v r h i is = subst (λ (read : Result memory.Instance _). Gives (λ x. x.0) r read) (instance_again exact v i is) h
