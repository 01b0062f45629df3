-- What a value stands for with exact numbers, beside what it stands for with any and the count of those that are rounded.
use Rattle.std.proofs.Common.{◌≡◌, ℕ, ◌+◌, ◌*◌, ◌≤◌, List, [], ◌∷◌, length, take, Bool, true, false, Option, Some, None, refl, sym, subst, arith, ℤ, pos, ◌≤ℤ◌, sum_by, unwrap_or, option_and_then, IsTrue, if◌then◌else◌}
use Rattle.std.specs.List.{AllZip}
use Rattle.std.specs.Option.{IsSomeAnd}
use Rattle.std.proofs.lemmas.List.Sums.{sum_by-cons}
use Rattle.uc_model.specs.Prelude.{IsPower, IsCost}
use Rattle.decimal_json.specs.Value.{Decimal, Value}
use Rattle.instance.specs.Fields.{Demand, Field, MustRun, PiecewiseProduction, PiecewiseProductionCost, PiecewiseProductionMw, PowerOutputMaximum, PowerOutputMinimum, PowerOutputT0, RampDownLimit, RampShutdownLimit, RampStartupLimit, RampUpLimit, RenewableGenerators, Reserves, Startup, StartupCost, StartupLag, ThermalGenerators, TimeDownMinimum, TimeDownT0, TimePeriods, TimeUpMinimum, TimeUpT0, UnitOnT0, key_of, number_in, entries_in, pairs_in, field_of}
use Rattle.instance.specs.Scaled.{MILLION, scaled, is_rounded}
use Rattle.instance.specs.InstanceOf.{Instance, MAX_PERIODS, MAX_POINTS, MAX_START_ROWS, MAX_TIME, MAX_UNITS, Renewable, Thermal, Pairs, Has, IsObject, IsNumber, IsPowerOf, IsCostOf, IsTimeOf, IsFlagOf, IsPeriodsOf, IsPowersOf, AreRowsOf, IsStartRowOf, IsPointOf, IsRising, IsLimitOf, IsMinimumTimeOf, IsThermalOf, IsRenewableOf, AreUnitsOf, HasFields, IsInstanceOf}
use Rattle.uc_model.specs.declared.instance.Point.{Point}
use Rattle.uc_model.specs.declared.instance.StartRow.{StartRow}
use Rattle.instance.specs.FirstFault.{members_of_value, rounded_value, rounded_field, entries_field, members_field, rounded_array, rounded_start_row, rounded_point, rounded_startup, rounded_points, rounded_figures, rounded_outputs, rounded_ramps, rounded_times, rounded_initial, rounded_thermal, rounded_renewable, rounded_thermal_units, rounded_renewable_units, rounded_totals, rounded_instance}
use Rattle.instance.proofs.UnitLaws.{parts_of, from_parts}

-- The first holds exactly where the second does with a count of 0.
record Agree (E F : Type 0) (c : ℕ) : Type 0 where
  pub is : E → F × (c ≡ 0)
  pub again : F → c ≡ 0 → E

-- beside a fact that has no number, and behind one or two
beside : {E F : Type 0} {c : ℕ} (Q : Type 0) → Agree E F c → Agree (E × Q) (F × Q) c
beside Q a = record { is = λ h. let r = a.is h.0 in ((r.0, h.1), r.1); again = λ h z. (a.again h.0 z, h.1) }

behind : {E F : Type 0} {c : ℕ} (Q : Type 0) → Agree E F c → Agree (Q × E) (Q × F) c
behind Q a = record { is = λ h. let r = a.is h.1 in ((h.0, r.0), r.1); again = λ h z. (h.0, a.again h.1 z) }

behind_both : {E F : Type 0} {c : ℕ} (Q R : Type 0) → Agree E F c → Agree (Q × R × E) (Q × R × F) c
behind_both Q R a = record { is = λ h. let r = a.is h.2 in ((h.0, h.1, r.0), r.1); again = λ h z. (h.0, h.1, a.again h.2 z) }

two : {E F G H : Type 0} {c d : ℕ} → Agree E F c → Agree G H d → Agree (E × G) (F × H) (c + d)
two a b = grind (arith, a, b)

three : {E F G H I J : Type 0} {c d e : ℕ} → Agree E F c → Agree G H d → Agree I J e → Agree (E × G × I) (F × H × J) (c + d + e)
three a b c = grind (arith, a, b)

four : {E F G H I J K L : Type 0} {c d e f : ℕ} → Agree E F c → Agree G H d → Agree I J e → Agree K L f → Agree (E × G × I × K) (F × H × J × L) (c + d + e + f)
four a b c d = grind (arith, a, b)

neither : {E F : Type 0} {c : ℕ} → (E → ⊥) → (F → ⊥) → Agree E F c
neither f g = record { is = λ h. absurd (f h); again = λ h z. absurd (g h) }

-- ---- one number

abbrev one_if : Bool → ℕ
one_if b = if b then 1 else 0

number_option : (o : Option Decimal) (P : Decimal → Type 0)
    → Agree (IsSomeAnd o (λ d. (IsTrue true → is_rounded d ≡ false) × P d)) (IsSomeAnd o (λ d. (IsTrue false → is_rounded d ≡ false) × P d)) (elim o [ None ↦ 0 | Some d ↦ (if is_rounded d then 1 else 0) ])
number_option None P = neither (λ h. h) (λ h. h)
number_option (Some d) P = grind arith

number_agrees : (v : Value) (P : Decimal → Type 0) → Agree (IsNumber true v P) (IsNumber false v P) (rounded_value v)
unfolding rounded_value
number_agrees v P = number_option (number_in v) P

power_agrees : (z : ℤ) (v : Value) → Agree (IsPowerOf true z v) (IsPowerOf false z v) (rounded_value v)
power_agrees z v = number_agrees v (λ d. (scaled d ≡ z) × IsPower z)

cost_agrees : (z : ℤ) (v : Value) → Agree (IsCostOf true z v) (IsCostOf false z v) (rounded_value v)
cost_agrees z v = number_agrees v (λ d. (scaled d ≡ z) × IsCost z)

time_agrees : (h : ℕ) (v : Value) → Agree (IsTimeOf true h v) (IsTimeOf false h v) (rounded_value v)
time_agrees h v = number_agrees v (λ d. (scaled d ≡ pos (h * MILLION)) × (h ≤ MAX_TIME))

-- ---- fields, objects and arrays

field_option : (o : Option Value) (P Q : Value → Type 0) → ((w : Value) → Agree (P w) (Q w) (rounded_value w)) → Agree (IsSomeAnd o P) (IsSomeAnd o Q) (elim o [ None ↦ 0 | Some v ↦ rounded_value v ])
field_option None P Q a = neither (λ h. h) (λ h. h)
field_option (Some v) P Q a = a v

field_agrees : (field : Field) (ms : Pairs) (P Q : Value → Type 0) → ((w : Value) → Agree (P w) (Q w) (rounded_value w)) → Agree (Has field ms P) (Has field ms Q) (rounded_field field ms)
unfolding rounded_field
field_agrees field ms P Q a = field_option (field_of (key_of field) ms) P Q a

-- what is inside a value, where there is something, by a count over what is inside
inside_agrees : {X : Type 0} (o : Option (List X)) (P Q : List X → Type 0) (c : List X → ℕ) → ((xs : List X) → Agree (P xs) (Q xs) (c xs)) → Agree (IsSomeAnd o P) (IsSomeAnd o Q) (c (unwrap_or o []))
inside_agrees None P Q c a = neither (λ h. h) (λ h. h)
inside_agrees (Some xs) P Q c a = a xs

-- the same of the value of a field
within_agrees : {X : Type 0} (f : Value → Option (List X)) (o : Option Value) (P Q : List X → Type 0) (c : List X → ℕ) → ((xs : List X) → Agree (P xs) (Q xs) (c xs))
    → Agree (IsSomeAnd o (λ v. IsSomeAnd (f v) P)) (IsSomeAnd o (λ v. IsSomeAnd (f v) Q)) (c (unwrap_or (option_and_then f o) []))
within_agrees f None P Q c a = neither (λ h. h) (λ h. h)
within_agrees f (Some v) P Q c a = inside_agrees (f v) P Q c a

all_agree : {X Y : Type 0} (P Q : X → Y → Type 0) (c : X → ℕ) → ((x : X) (y : Y) → Agree (P x y) (Q x y) (c x)) → (xs : List X) (ys : List Y) → Agree (AllZip P xs ys) (AllZip Q xs ys) (sum_by c xs)
all_agree P Q c a [] [] = record { is = λ h. (h, refl); again = λ h z. h }
all_agree P Q c a (x ∷ xs) (y ∷ ys) = subst (λ (k : ℕ). Agree (P x y × AllZip P xs ys) (Q x y × AllZip Q xs ys) k) (sym (sum_by-cons c x xs)) (two (a x y) (all_agree P Q c a xs ys))
all_agree P Q c a _ _ = neither (λ h. h) (λ h. h)

powers_agree : (field : Field) (periods : ℕ) (ms : Pairs) (zs : List ℤ) → Agree (Has field ms (IsPowersOf true periods zs)) (Has field ms (IsPowersOf false periods zs)) (rounded_array field periods ms)
unfolding rounded_array
powers_agree field periods ms zs =
    within_agrees entries_in (field_of (key_of field) ms)
    (λ vs. (periods ≤ length vs) × AllZip (λ w z. IsPowerOf true z w) (take periods vs) zs)
    (λ vs. (periods ≤ length vs) × AllZip (λ w z. IsPowerOf false z w) (take periods vs) zs)
    (λ vs. sum_by rounded_value (take periods vs))
    (λ vs. behind (periods ≤ length vs) (all_agree (λ w z. IsPowerOf true z w) (λ w z. IsPowerOf false z w) rounded_value (λ w z. power_agrees z w) (take periods vs) zs))

rows_agree : {A : Type 0} (field : Field) (most : ℕ) (ms : Pairs) (R S : A → Value → Type 0) (c : Value → ℕ) → ((row : A) (w : Value) → Agree (R row w) (S row w) (c w)) → (rows : List A)
    → Agree (Has field ms (AreRowsOf most R rows)) (Has field ms (AreRowsOf most S rows)) (sum_by c (entries_field field ms))
rows_agree field most ms R S c a rows =
    within_agrees entries_in (field_of (key_of field) ms)
    (λ vs. (1 ≤ length vs) × (length vs ≤ most) × AllZip (λ w row. R row w) vs rows)
    (λ vs. (1 ≤ length vs) × (length vs ≤ most) × AllZip (λ w row. S row w) vs rows)
    (λ vs. sum_by c vs)
    (λ vs. behind_both (1 ≤ length vs) (length vs ≤ most) (all_agree (λ w row. R row w) (λ w row. S row w) c (λ w row. a row w) vs rows))

-- an object of two fields that are numbers
two_agree : (f g : Field) (A B C D : Value → Type 0) → ((w : Value) → Agree (A w) (B w) (rounded_value w)) → ((w : Value) → Agree (C w) (D w) (rounded_value w))
    → (v : Value) → Agree (IsObject v (λ ms. Has f ms A × Has g ms C)) (IsObject v (λ ms. Has f ms B × Has g ms D)) (rounded_field f (members_of_value v) + rounded_field g (members_of_value v))
two_agree f g A B C D a c v =
    inside_agrees (pairs_in v) (λ ms. Has f ms A × Has g ms C) (λ ms. Has f ms B × Has g ms D) (λ ms. rounded_field f ms + rounded_field g ms)
    (λ ms. two (field_agrees f ms A B a) (field_agrees g ms C D c))

start_row_agrees : (row : StartRow) (v : Value) → Agree (IsStartRowOf true row v) (IsStartRowOf false row v) (rounded_start_row v)
unfolding rounded_start_row
start_row_agrees row v =
    two_agree StartupLag StartupCost (IsTimeOf true row.lag) (IsTimeOf false row.lag) (IsCostOf true row.cost) (IsCostOf false row.cost) (time_agrees row.lag) (cost_agrees row.cost) v

point_agrees : (point : Point) (v : Value) → Agree (IsPointOf true point v) (IsPointOf false point v) (rounded_point v)
unfolding rounded_point
point_agrees point v =
    two_agree PiecewiseProductionMw PiecewiseProductionCost (IsPowerOf true point.mw) (IsPowerOf false point.mw) (IsCostOf true point.cost) (IsCostOf false point.cost) (power_agrees point.mw) (cost_agrees point.cost) v

startup_agrees : (ms : Pairs) (rows : List StartRow)
    → Agree (Has Startup ms (AreRowsOf MAX_START_ROWS (IsStartRowOf true) rows)) (Has Startup ms (AreRowsOf MAX_START_ROWS (IsStartRowOf false) rows)) (rounded_startup ms)
unfolding rounded_startup
startup_agrees ms rows = rows_agree Startup MAX_START_ROWS ms (IsStartRowOf true) (IsStartRowOf false) rounded_start_row start_row_agrees rows

points_agree : (ms : Pairs) (points : List Point)
    → Agree (Has PiecewiseProduction ms (AreRowsOf MAX_POINTS (IsPointOf true) points)) (Has PiecewiseProduction ms (AreRowsOf MAX_POINTS (IsPointOf false) points)) (rounded_points ms)
unfolding rounded_points
points_agree ms points = rows_agree PiecewiseProduction MAX_POINTS ms (IsPointOf true) (IsPointOf false) rounded_point point_agrees points

-- ---- units and the instance

flag_field : (field : Field) (ms : Pairs) (b : Bool) → Agree (Has field ms (IsFlagOf true b)) (Has field ms (IsFlagOf false b)) (rounded_field field ms)
flag_field field ms b = field_agrees field ms (IsFlagOf true b) (IsFlagOf false b) (λ v. number_agrees v (λ d. scaled d ≡ pos ((if b then 1 else 0) * MILLION)))

power_field : (field : Field) (ms : Pairs) (z : ℤ) → Agree (Has field ms (IsPowerOf true z)) (Has field ms (IsPowerOf false z)) (rounded_field field ms)
power_field field ms z = field_agrees field ms (IsPowerOf true z) (IsPowerOf false z) (power_agrees z)

limit_field : (field : Field) (ms : Pairs) (z : ℤ) → Agree (Has field ms (IsLimitOf true z)) (Has field ms (IsLimitOf false z)) (rounded_field field ms)
limit_field field ms z = field_agrees field ms (IsLimitOf true z) (IsLimitOf false z) (λ v. beside (pos 0 ≤ℤ z) (power_agrees z v))

time_field : (field : Field) (ms : Pairs) (h : ℕ) → Agree (Has field ms (IsTimeOf true h)) (Has field ms (IsTimeOf false h)) (rounded_field field ms)
time_field field ms h = field_agrees field ms (IsTimeOf true h) (IsTimeOf false h) (time_agrees h)

minimum_time_field : (field : Field) (ms : Pairs) (h : ℕ) → Agree (Has field ms (IsMinimumTimeOf true h)) (Has field ms (IsMinimumTimeOf false h)) (rounded_field field ms)
minimum_time_field field ms h = field_agrees field ms (IsMinimumTimeOf true h) (IsMinimumTimeOf false h) (λ v. record {
  is = λ m. let r = (time_agrees m.0 v).is m.1 in ((m.0, r.0, m.2), r.1);
  again = λ m z. (m.0, (time_agrees m.0 v).again m.1 z, m.2);
})

abbrev thermal_count : Pairs → ℕ
thermal_count ms = rounded_figures ms + rounded_startup ms + rounded_points ms

thermal_inside : (unit : Thermal) (ms : Pairs) → Agree (IsThermalOf true unit ms) (IsThermalOf false unit ms) (thermal_count ms)
unfolding rounded_figures rounded_outputs rounded_ramps rounded_times rounded_initial
thermal_inside unit ms =
    let outputs = beside (unit.pmin ≤ℤ unit.pmax) (three (flag_field MustRun ms unit.must_run) (limit_field PowerOutputMinimum ms unit.pmin) (power_field PowerOutputMaximum ms unit.pmax)) in
    let ramps = four (limit_field RampUpLimit ms unit.ru) (limit_field RampDownLimit ms unit.rd) (limit_field RampStartupLimit ms unit.su) (limit_field RampShutdownLimit ms unit.sd) in
    let times = two (minimum_time_field TimeUpMinimum ms unit.ut) (minimum_time_field TimeDownMinimum ms unit.dt) in
    let initial = four (power_field PowerOutputT0 ms unit.p0) (flag_field UnitOnT0 ms unit.on0) (time_field TimeUpT0 ms unit.ut0) (time_field TimeDownT0 ms unit.dt0) in
    let rows = two (startup_agrees ms unit.startup) (beside (IsRising unit.points) (points_agree ms unit.points)) in
    let all = two (four outputs ramps times initial) rows in
    record {
      is = λ h.
          let p = parts_of true unit ms h in
          let a = all.is (p.figures, (p.startup, p.points)) in
          (from_parts false unit ms (record { figures = a.0.0; startup = a.0.1.0; points = a.0.1.1 }), omega (arith, a.1));
      again = λ h z.
          let p = parts_of false unit ms h in
          let a = all.again (p.figures, (p.startup, p.points)) (omega (arith, z)) in
          from_parts true unit ms (record { figures = a.0; startup = a.1.0; points = a.1.1 });
    }

thermal_agrees : (unit : Thermal) (v : Value) → Agree (IsObject v (IsThermalOf true unit)) (IsObject v (IsThermalOf false unit)) (rounded_thermal v)
unfolding rounded_thermal
thermal_agrees unit v = inside_agrees (pairs_in v) (IsThermalOf true unit) (IsThermalOf false unit) thermal_count (λ ms. thermal_inside unit ms)

renewable_inside : (periods : ℕ) (unit : Renewable) (ms : Pairs)
    → Agree (IsRenewableOf true periods unit ms) (IsRenewableOf false periods unit ms) (rounded_array PowerOutputMinimum periods ms + rounded_array PowerOutputMaximum periods ms)
renewable_inside periods unit ms =
    let both = two (powers_agree PowerOutputMinimum periods ms unit.minimum) (powers_agree PowerOutputMaximum periods ms unit.maximum) in
    record {
      is = λ h. let a = both.is (h.minimum, h.maximum) in (record { minimum = a.0.0; maximum = a.0.1; range = h.range }, a.1);
      again = λ h z. let a = both.again (h.minimum, h.maximum) z in record { minimum = a.0; maximum = a.1; range = h.range };
    }

renewable_agrees : (periods : ℕ) (unit : Renewable) (v : Value) → Agree (IsObject v (IsRenewableOf true periods unit)) (IsObject v (IsRenewableOf false periods unit)) (rounded_renewable periods v)
unfolding rounded_renewable
renewable_agrees periods unit v =
    inside_agrees (pairs_in v) (IsRenewableOf true periods unit) (IsRenewableOf false periods unit) (λ ms. rounded_array PowerOutputMinimum periods ms + rounded_array PowerOutputMaximum periods ms)
    (λ ms. renewable_inside periods unit ms)

units_agree : {A : Type 0} (field : Field) (ms : Pairs) (name : A → List ℕ) (R S : A → Pairs → Type 0) (c : Value → ℕ) → ((unit : A) (w : Value) → Agree (IsObject w (R unit)) (IsObject w (S unit)) (c w)) → (units : List A)
    → Agree (Has field ms (AreUnitsOf name R units)) (Has field ms (AreUnitsOf name S units)) (sum_by (λ (m : List ℕ × Value). c m.1) (members_field field ms))
units_agree field ms name R S c a units =
    within_agrees pairs_in (field_of (key_of field) ms)
    (λ us. (length us ≤ MAX_UNITS) × AllZip (λ (m : List ℕ × Value) unit. (name unit ≡ m.0) × IsObject m.1 (R unit)) us units)
    (λ us. (length us ≤ MAX_UNITS) × AllZip (λ (m : List ℕ × Value) unit. (name unit ≡ m.0) × IsObject m.1 (S unit)) us units)
    (λ us. sum_by (λ (m : List ℕ × Value). c m.1) us)
    (λ us. behind (length us ≤ MAX_UNITS)
    (all_agree (λ (m : List ℕ × Value) unit. (name unit ≡ m.0) × IsObject m.1 (R unit)) (λ (m : List ℕ × Value) unit. (name unit ≡ m.0) × IsObject m.1 (S unit)) (λ m. c m.1)
    (λ m unit. behind (name unit ≡ m.0) (a unit m.1)) us units))

abbrev instance_count : ℕ → Pairs → ℕ
instance_count periods ms = rounded_totals periods ms + rounded_thermal_units ms + rounded_renewable_units periods ms

instance_inside : (i : Instance) (ms : Pairs) → Agree (HasFields true i ms) (HasFields false i ms) (instance_count i.periods ms)
unfolding rounded_totals rounded_thermal_units rounded_renewable_units
instance_inside i ms =
    let periods = field_agrees TimePeriods ms (IsPeriodsOf true i.periods) (IsPeriodsOf false i.periods) (λ v. number_agrees v (λ d. (scaled d ≡ pos (i.periods * MILLION)) × (1 ≤ i.periods) × (i.periods ≤ MAX_PERIODS))) in
    let demand = powers_agree Demand i.periods ms i.demand in
    let reserves = powers_agree Reserves i.periods ms i.reserves in
    let thermal = units_agree ThermalGenerators ms (λ (u : Thermal). u.name) (IsThermalOf true) (IsThermalOf false) rounded_thermal thermal_agrees i.thermal in
    let renewable = units_agree RenewableGenerators ms (λ (u : Renewable). u.name) (IsRenewableOf true i.periods) (IsRenewableOf false i.periods) (rounded_renewable i.periods) (renewable_agrees i.periods) i.renewable in
    let all = two (three periods demand reserves) (two thermal renewable) in
    record {
      is = λ h. let a = all.is ((h.periods, h.demand, h.reserves), (h.thermal, h.renewable)) in (record { periods = a.0.0.0; demand = a.0.0.1; reserves = a.0.0.2; thermal = a.0.1.0; renewable = a.0.1.1; unpriced = h.unpriced }, omega (arith, a.1));
      again = λ h z. let a = all.again ((h.periods, h.demand, h.reserves), (h.thermal, h.renewable)) (omega (arith, z)) in record { periods = a.0.0; demand = a.0.1; reserves = a.0.2; thermal = a.1.0; renewable = a.1.1; unpriced = h.unpriced };
    }

instance_agrees : (v : Value) (i : Instance) → Agree (IsInstanceOf true v i) (IsInstanceOf false v i) (rounded_instance i.periods v)
unfolding rounded_instance
instance_agrees v i = inside_agrees (pairs_in v) (HasFields true i) (HasFields false i) (instance_count i.periods) (λ ms. instance_inside i ms)

pub exact_is : (v : Value) (i : Instance) → IsInstanceOf true v i → IsInstanceOf false v i × (rounded_instance i.periods v ≡ 0)
exact_is v i h = (instance_agrees v i).is h

pub exact_again : (v : Value) (i : Instance) → IsInstanceOf false v i → rounded_instance i.periods v ≡ 0 → IsInstanceOf true v i
exact_again v i h z = (instance_agrees v i).again h z
