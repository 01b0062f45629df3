-- What is read is as the value says, and what the value says is read: numbers, arrays, rows, units and the instance.
use Rattle.std.proofs.Common.{◌≡◌, ℕ, Bool, true, false, List, Option, Some, None, Result, Ok, Err, refl, sym, ap, subst, ◌∙◌, zero, suc, ◌*◌, ◌/◌, ◌%◌, ◌≤◌, cond, arith, ◌+◌, [], ◌∷◌, ◌++◌, length, drop, get_or, append_assoc, take, max, ◌&&◌, ◌||◌, ◌==◌, nat_lt, IsTrue, ℤ, pos, ◌≤ℤ◌, int_lt, unsigned_abs, neg_ℤ, slice_index_or}
use Rattle.std.specs.Option.{IsSomeAnd}
use Rattle.instance.specs.FirstFault.{Demand, Instance, MAX_COST, MAX_PERIODS, MAX_POINTS, MAX_POWER, MAX_START_ROWS, MAX_TIME, MAX_UNITS, MustRun, NoField, PiecewiseProduction, PiecewiseProductionCost, PiecewiseProductionMw, PowerOutputMaximum, PowerOutputMinimum, PowerOutputT0, RampDownLimit, RampShutdownLimit, RampStartupLimit, RampUpLimit, Refusal, RenewableGenerators, Reserves, Startup, StartupCost, StartupLag, ThermalGenerators, TimeDownMinimum, TimeDownT0, TimePeriods, TimeUpMinimum, TimeUpT0, UnitOnT0, ◌>>=◌, wanted, refused_if, in_unit, number_at, amount_at, power_at, power_from, cost_at, whole_at, time_at, flag_at, periods_at, each_at, whole, next_entry, field_at, entries_at, rows_at, power_entry, powers_at, maximum_entry, maxima_at, start_row, point_row, startup_at, points_at, thermal_of, object_at, flag_field, time_field, power_field, output_field, outputs_at, ramps_at, times_at, initial_at, figures_at, thermal_at, renewable_at, outside, units_at, thermal_member, renewable_member, thermal_units_at, renewable_units_at, totals_at, instance_at, last_output}
use Rattle.instance.specs.declared.fault.Place.{Place}
use Rattle.uc_model.specs.declared.field_refusal.FieldRefusal.{FieldRefusal}
use Rattle.uc_model.specs.declared.instance.StartRow.{StartRow}
use Rattle.uc_model.specs.declared.instance.Point.{Point}
use Rattle.uc_model.specs.declared.instance.Renewable.{Renewable}
use Rattle.uc_model.specs.declared.instance.Thermal.{Thermal}
use Rattle.instance.specs.declared.reader.thermal.Initial.{Initial}
use Rattle.instance.specs.declared.reader.thermal.Times.{Times}
use Rattle.instance.specs.declared.reader.thermal.Ramps.{Ramps}
use Rattle.instance.specs.declared.reader.thermal.Outputs.{Outputs}
use Rattle.instance.specs.declared.reader.thermal.Figures.{Figures}
use Rattle.instance.specs.declared.reader.totals.Totals.{Totals}
use Rattle.uc_model.specs.declared.field.Field.{Field}
use Rattle.std.proofs.lemmas.Bool.{ltb-false, le-ltb, or_parts, or_from}
use Rattle.std.proofs.lemmas.Bool.Decides.{nat_tests}
use Rattle.std.proofs.lemmas.Int.{ints}
use Rattle.uc_model.specs.Prelude.{IsPower}
use Rattle.decimal_json.specs.Value.{Decimal, Value}
use Rattle.instance.specs.Fields.{number_in, key_of, entries_in, pairs_in, field_of}
use Rattle.instance.specs.Scaled.{MILLION, size_of, signed, scaled, is_rounded, wholes_of, is_below_zero}
use Rattle.instance.specs.InstanceOf.{IsNumber, IsPowerOf, IsCostOf, IsTimeOf, IsFlagOf, IsPeriodsOf, IsRising, Pairs, Has, IsPowersOf, AreRowsOf, IsStartRowOf, IsPointOf, IsObject, IsLimitOf, IsMinimumTimeOf, IsThermalOf, IsRenewableOf, AreUnitsOf, HasFields, IsInstanceOf}
use Rattle.std.specs.Int.{int_max}
use Rattle.std.specs.List.{AllZip}
use Rattle.std.proofs.lemmas.List.{append-nil, length-append, length-drop, nil_from_length, length-take}
use Rattle.std.proofs.Math.Seq.{drop-cons}
use Rattle.std.proofs.lemmas.Slice.Zip.{AllZip-long}
use Rattle.instance.proofs.Loops.{last_of}
use Rattle.instance.proofs.StepLaws.{Exactly, ok_is, bind_ok, told, some_map, some_is, some_split, some_pull, wanted-exactly, refused-exactly, guarded, tested, two-exactly, more-exactly, three-exactly, four-exactly, in_unit-exactly}

-- a number that is exact where it has to be, and what is read of it
by_exactness : {B : Type 0} (exact rounded : Bool) (place : Place) (d : Decimal) (read : Decimal → Result B Refusal) (P : B → Type 0) → Exactly (read d) P
    → Exactly (refused_if (exact && rounded) 8 place d >>= read) (λ y. (IsTrue exact → rounded ≡ false) × P y)
by_exactness true true place d read P h = record { is = λ y e. absurd cc; again = λ y w. absurd (let never = w.0 refl in cc) }
by_exactness true false place d read P h = record { is = λ y e. ((λ t. refl), h.is y e); again = λ y w. h.again y w.1 }
by_exactness false rounded place d read P h = record { is = λ y e. ((λ t. absurd cc), h.is y e); again = λ y w. h.again y w.1 }

number-exactly : {B : Type 0} (exact : Bool) (place : Place) (v : Value) (read : Decimal → Result B Refusal) (P : Decimal → B → Type 0) → ((d : Decimal) → Exactly (read d) (P d))
    → Exactly (number_at exact place v >>= read) (λ y. IsNumber exact v (λ d. P d y))
unfolding number_at
number-exactly {B} exact place v read P h = by_number (number_in v)
  where
    by_number : (o : Option Decimal) → Exactly ((wanted 2 place o >>= λ d. refused_if (exact && is_rounded d) 8 place d) >>= read) (λ y. IsSomeAnd o (λ d. (IsTrue exact → is_rounded d ≡ false) × P d y))
    by_number (Some d) = by_exactness exact (is_rounded d) place d read (P d) (h d)
    by_number None = record { is = λ y e. absurd cc; again = λ y w. absurd w }

-- the same in other words
number-told : {B : Type 0} {r : Result B Refusal} (exact : Bool) (v : Value) {P : Decimal → B → Type 0} → Exactly r (λ y. IsNumber exact v (λ d. P d y)) → (Q : Decimal → B → Type 0)
    → ((d : Decimal) (y : B) → P d y → Q d y) → ((d : Decimal) (y : B) → Q d y → P d y) → Exactly r (λ y. IsNumber exact v (λ d. Q d y))
number-told {B} exact v {P} h Q there back = grind (arith, ints, told, some_map, h, there, back)

-- ---- powers and costs

pub size_of_signed : (b : Bool) (n : ℕ) → unsigned_abs (signed b n) ≡ n
size_of_signed true zero = refl
size_of_signed _ _ = refl

-- a number of a size up to the most
amount-exactly : (most : ℕ) (exact : Bool) (place : Place) (v : Value) → Exactly (amount_at most exact place v) (λ z. IsNumber exact v (λ d. (scaled d ≡ z) × (unsigned_abs z ≤ most)))
unfolding amount_at
amount-exactly most exact place v =
    number-told exact v (number-exactly exact place v (λ d. refused_if (nat_lt most (size_of d)) 4 place (scaled d)) (λ d z. (nat_lt most (size_of d) ≡ false) × (scaled d ≡ z)) (λ d. refused-exactly (nat_lt most (size_of d)) 4 place (scaled d)))
    (λ d z. (scaled d ≡ z) × (unsigned_abs z ≤ most))
    (λ d z w. (w.1, omega (arith, size_of_signed d.negative (size_of d), ap unsigned_abs w.1, ltb-false _ _ w.0)))
    (λ d z w. (le-ltb most (size_of d) (omega (arith, size_of_signed d.negative (size_of d), ap unsigned_abs w.0, w.1)), w.0))

pub power-exactly : (exact : Bool) (place : Place) (v : Value) → Exactly (power_at exact place v) (λ z. IsPowerOf exact z v)
power-exactly = amount-exactly MAX_POWER

pub cost-exactly : (exact : Bool) (place : Place) (v : Value) → Exactly (cost_at exact place v) (λ z. IsCostOf exact z v)
cost-exactly = amount-exactly MAX_COST

pub power_from-exactly : (exact : Bool) (place : Place) (least : ℤ) (v : Value) → Exactly (power_from exact place least v) (λ z. IsPowerOf exact z v × (least ≤ℤ z))
unfolding power_from
power_from-exactly exact place least v =
    told (tested (power-exactly exact place v) (λ z. int_lt z least) 5 place) (λ z. IsPowerOf exact z v × (least ≤ℤ z)) (λ z w. (w.0, grind (arith, ints, w.1))) (λ z w. (w.0, grind (arith, ints, w.1)))

-- ---- whole numbers

bind_bind : {A B C E : Type 0} (r : Result A E) (f : A → Result B E) (g : B → Result C E) → (r >>= λ x. f x >>= g) ≡ ((r >>= f) >>= g)
bind_bind (Ok x) f g = refl
bind_bind (Err d) f g = refl

whole-exactly : {B : Type 0} (exact : Bool) (place : Place) (v : Value) (read : Decimal → Result B Refusal) (P : Decimal → B → Type 0) → ((d : Decimal) → Exactly (read d) (P d))
    → Exactly (whole_at exact place v >>= read) (λ y. IsNumber exact v (λ d. (nat_lt 0 (size_of d % MILLION) ≡ false) × P d y))
unfolding whole_at
whole-exactly {B} exact place v read P h =
    let test = λ (d : Decimal). refused_if (nat_lt 0 (size_of d % MILLION)) 3 place d in
    subst (λ (r : Result B Refusal). Exactly r (λ y. IsNumber exact v (λ d. (nat_lt 0 (size_of d % MILLION) ≡ false) × P d y))) (bind_bind (number_at exact place v) test read)
    (number-exactly exact place v (λ d. test d >>= read) (λ d y. (nat_lt 0 (size_of d % MILLION) ≡ false) × P d y) (λ d. guarded (nat_lt 0 (size_of d % MILLION)) 3 place d read (P d) (λ _. h d)))

-- a whole number that isn't below zero
signed_is : (b : Bool) (n h : ℕ) → nat_lt 0 (n % MILLION) ≡ false → (b && nat_lt 0 (n / MILLION)) ≡ false → n / MILLION ≡ h → signed b n ≡ pos (h * MILLION)
signed_is false n h rest e is = ap pos (omega (arith, ltb-false _ _ rest))
signed_is true n h rest e is = grind (arith, ints, rest, e, is)

signed_again : (b : Bool) (n h : ℕ) → signed b n ≡ pos (h * MILLION) → (nat_lt 0 (n % MILLION) ≡ false) × ((b && nat_lt 0 (n / MILLION)) ≡ false) × (n / MILLION ≡ h)
signed_again false n h e = let same : n ≡ h * MILLION = ap unsigned_abs e in (le-ltb 0 (n % MILLION) (omega arith), refl, omega arith)
signed_again true n h e = grind (arith, ints, e)

pub time-exactly : (exact : Bool) (place : Place) (v : Value) → Exactly (time_at exact place v) (λ h. IsTimeOf exact h v)
unfolding time_at
time-exactly exact place v =
    let test = λ (d : Decimal). is_below_zero d || nat_lt MAX_TIME (wholes_of d) in
    number-told exact v (whole-exactly exact place v (λ d. refused_if (test d) 4 place (wholes_of d)) (λ d h. (test d ≡ false) × (wholes_of d ≡ h)) (λ d. refused-exactly (test d) 4 place (wholes_of d)))
    (λ d h. (scaled d ≡ pos (h * MILLION)) × (h ≤ MAX_TIME))
    (λ d h w. let t = or_parts (is_below_zero d) (nat_lt MAX_TIME (wholes_of d)) w.1.0 in (signed_is d.negative (size_of d) h w.0 t.0 w.1.1, omega (arith, w.1.1, ltb-false _ _ t.1)))
    (λ d h w. let s = signed_again d.negative (size_of d) h w.0 in (s.0, (or_from (is_below_zero d) (nat_lt MAX_TIME (wholes_of d)) s.1 (le-ltb MAX_TIME (wholes_of d) (omega (arith, s.2, w.1))), s.2)))

flag_value : (b : Bool) (n : ℕ) → n ≤ 1 → (n == 1) ≡ b → n ≡ cond b 1 0
flag_value b zero le e = rw (← e) refl
flag_value b (suc zero) le e = rw (← e) refl
flag_value b (suc (suc n)) le e = absurd (omega arith)

flag_small : (b : Bool) (n : ℕ) → n ≡ cond b 1 0 → (n ≤ 1) × ((n == 1) ≡ b)
flag_small true n e = (omega arith, rw e refl)
flag_small false n e = (omega arith, rw e refl)

pub flag-exactly : (exact : Bool) (place : Place) (v : Value) → Exactly (flag_at exact place v) (λ b. IsFlagOf exact b v)
unfolding flag_at
flag-exactly exact place v =
    let test = λ (d : Decimal). is_below_zero d || nat_lt 1 (wholes_of d) in
    number-told exact v (whole-exactly exact place v (λ d. refused_if (test d) 5 place (wholes_of d == 1)) (λ d b. (test d ≡ false) × ((wholes_of d == 1) ≡ b)) (λ d. refused-exactly (test d) 5 place (wholes_of d == 1)))
    (λ d b. scaled d ≡ pos (cond b 1 0 * MILLION))
    (λ d b w. let t = or_parts (is_below_zero d) (nat_lt 1 (wholes_of d)) w.1.0 in signed_is d.negative (size_of d) (cond b 1 0) w.0 t.0 (flag_value b (wholes_of d) (ltb-false _ _ t.1) w.1.1))
    (λ d b w.
    let s = signed_again d.negative (size_of d) (cond b 1 0) w in
    let f = flag_small b (wholes_of d) s.2 in
    (s.0, (or_from (is_below_zero d) (nat_lt 1 (wholes_of d)) s.1 (le-ltb 1 (wholes_of d) f.0), f.1)))

pub not_zero_again : (n : ℕ) → 1 ≤ n → (n == 0) ≡ false
not_zero_again n le = grind (arith, nat_tests)

pub some_whole : (n : ℕ) → (n == 0) ≡ false → 1 ≤ n
some_whole n e = grind (arith, nat_tests)

positive_sign : (b : Bool) (n : ℕ) → (b && nat_lt 0 n) ≡ false → 1 ≤ n → b ≡ false
positive_sign false n e le = refl
positive_sign true n e le = absurd (omega (arith, ltb-false _ _ e))

pub periods-exactly : (exact : Bool) (place : Place) (v : Value) → Exactly (periods_at exact place v) (λ t. IsPeriodsOf exact t v)
unfolding periods_at
periods-exactly exact place v =
    let test = λ (d : Decimal). d.negative || wholes_of d == 0 in
    let few = λ (t : ℕ). refused_if (nat_lt MAX_PERIODS t) 7 place t in
    let says = λ (d : Decimal) (t : ℕ). (nat_lt MAX_PERIODS (wholes_of d) ≡ false) × (wholes_of d ≡ t) in
    number-told exact v (whole-exactly exact place v (λ d. refused_if (test d) 5 place (wholes_of d) >>= few) (λ d t. (test d ≡ false) × says d t)
    (λ d. guarded (test d) 5 place (wholes_of d) few (says d) (λ _. refused-exactly (nat_lt MAX_PERIODS (wholes_of d)) 7 place (wholes_of d))))
    (λ d t. (scaled d ≡ pos (t * MILLION)) × (1 ≤ t) × (t ≤ MAX_PERIODS))
    (λ d t w.
    let z = or_parts d.negative (wholes_of d == 0) w.1.0 in
    let plain : is_below_zero d ≡ false = ap (λ (x : Bool). x && nat_lt 0 (wholes_of d)) z.0 in
    (signed_is d.negative (size_of d) t w.0 plain w.1.1.1, omega (arith, some_whole (wholes_of d) z.1, w.1.1.1), omega (arith, w.1.1.1, ltb-false _ _ w.1.1.0)))
    (λ d t w.
    let s = signed_again d.negative (size_of d) t w.0 in
    let some : 1 ≤ wholes_of d = omega (arith, s.2, w.1) in
    (s.0, (or_from d.negative (wholes_of d == 0) (positive_sign d.negative (wholes_of d) s.1 some) (not_zero_again (wholes_of d) some), (le-ltb MAX_PERIODS (wholes_of d) (omega (arith, s.2, w.2)), s.2))))

-- ---- What is read entry after entry: each entry beside those before it.
-- This holds of each entry that was read, beside those before it.
abbrev pub Each : {A : Type 0} → (List A → A → Type 0) → List A → List A → Type 0
Each T front [] = Unit {0}
Each T front (z ∷ zs) = T front z × Each T (front ++ z ∷ []) zs

module _ {A B E : Type 0} (read : List A → B → Result A E) (R : B → A → Type 0) (T : List A → A → Type 0) (h : (front : List A) (v : B) → Exactly (read front v) (λ z. R v z × T front z)) where
  each_is : (front : List A) (vs : List B) (ys : List A) → each_at read front vs ≡ Ok ys → (zs : List A) × (ys ≡ front ++ zs) × AllZip R vs zs × Each T front zs
  unfolding each_at
  each_is front [] ys e = ([], sym (ok_is front ys e) ∙ sym (append-nil front), tt, tt)
  each_is front (v ∷ vs) ys e =
      let a = bind_ok (read front v) (λ x. each_at read (front ++ x ∷ []) vs) ys e in
      let b = each_is (front ++ a.0 ∷ []) vs ys a.2 in
      let z = (h front v).is a.0 a.1 in
      (a.0 ∷ b.0, b.1 ∙ append_assoc front (a.0 ∷ []) b.0, (z.0, b.2), (z.1, b.3))

  each_again : (front : List A) (vs : List B) (zs : List A) → AllZip R vs zs → Each T front zs → each_at read front vs ≡ Ok (front ++ zs)
  unfolding each_at
  each_again front [] [] all each = ap (λ (xs : List A). Ok xs) (sym (append-nil front))
  each_again front (v ∷ vs) (z ∷ zs) all each =
      rw ((h front v).again z (all.0, each.0)) (each_again (front ++ z ∷ []) vs zs all.1 each.1 ∙ ap (λ (xs : List A). Ok xs) (append_assoc front (z ∷ []) zs))
  each_again front _ _ all each = absurd all

  pub each-exactly : (vs : List B) → Exactly (each_at read [] vs) (λ zs. AllZip R vs zs × Each T [] zs)
  each-exactly vs = record {
    is = λ zs e. let a = each_is [] vs zs e in subst (λ (xs : List A). AllZip R vs xs × Each T [] xs) (sym a.1) (a.2, a.3);
    again = λ zs w. each_again [] vs zs w.0 w.1;
  }

-- ---- points, each no lower than the one before it

abbrev pub Above_last : List Point → Point → Type 0
Above_last front p = last_output front ≤ℤ p.mw

abbrev Rises : ℤ → List Point → Type 0
Rises least [] = Unit {0}
Rises least (p ∷ ps) = (least ≤ℤ p.mw) × Rises p.mw ps

each_rises : (front ps : List Point) → Each Above_last front ps → Rises (last_output front) ps
each_rises front [] e = tt
each_rises front (p ∷ ps) e = (e.0, subst (λ (z : ℤ). Rises z ps) (last_of front p) (each_rises (front ++ p ∷ []) ps e.1))

rises_each : (front ps : List Point) → Rises (last_output front) ps → Each Above_last front ps
rises_each front [] r = tt
rises_each front (p ∷ ps) r = (r.0, rises_each (front ++ p ∷ []) ps (subst (λ (z : ℤ). Rises z ps) (sym (last_of front p)) r.1))

rising_from : (least : ℤ) (ps : List Point) → Rises least ps → IsRising ps
rising_from least (p ∷ q ∷ ps) r = (r.1.0, rising_from p.mw (q ∷ ps) r.1)
rising_from least _ r = tt

rises_again : (least : ℤ) (p : Point) (ps : List Point) → least ≤ℤ p.mw → IsRising (p ∷ ps) → Rises least (p ∷ ps)
rises_again least p [] le r = (le, tt)
rises_again least p (q ∷ ps) le r = (le, rises_again p.mw q ps r.0 r.1)

least_power : (z : ℤ) → IsPower z → neg_ℤ (pos MAX_POWER) ≤ℤ z
least_power z h = grind (arith, ints)

pub rising_is : (ps : List Point) → Each Above_last [] ps → IsRising ps
rising_is ps e = rising_from (last_output []) ps (each_rises [] ps e)

pub rising_again : {B : Type 0} (R : B → Point → Type 0) → ((v : B) (p : Point) → R v p → IsPower p.mw) → (vs : List B) (ps : List Point) → AllZip R vs ps → IsRising ps → Each Above_last [] ps
rising_again R power (v ∷ vs) (p ∷ ps) h r = rises_each [] (p ∷ ps) (rises_again (last_output []) p ps (least_power p.mw (power v p h.0)) r)
rising_again R power [] [] h r = tt
rising_again R power _ _ h r = absurd h

-- ---- a maximum beside its minimum

abbrev pub Above : ℤ → ℤ → Type 0
Above low high = int_max low (pos 0) ≤ℤ high

abbrev pub Above_minimum : List ℤ → List ℤ → ℤ → Type 0
Above_minimum minimum front z = Above (slice_index_or minimum (length front) (pos 0)) z

minimum_at : (minimum front : List ℤ) (n : ℕ) → length minimum ≡ length front + suc n → drop (length front) minimum ≡ get_or minimum (length front) (pos 0) ∷ drop (suc (length front)) minimum
minimum_at minimum front n len = drop-cons minimum (length front) (pos 0) (omega (arith, len))

one_more : (front : List ℤ) (z : ℤ) → length (front ++ z ∷ []) ≡ suc (length front)
one_more front z = omega (arith, length-append front (z ∷ []))

maxima_from : (minimum front zs : List ℤ) → length minimum ≡ length front + length zs → Each (Above_minimum minimum) front zs → AllZip Above (drop (length front) minimum) zs
maxima_from minimum front [] len e =
    let none : length (drop (length front) minimum) ≡ 0 = omega (arith, length-drop (length front) minimum, len) in
    subst (λ (xs : List ℤ). AllZip Above xs []) (sym (nil_from_length (drop (length front) minimum) none)) tt
maxima_from minimum front (z ∷ zs) len e =
    let more = one_more front z in
    let rest = maxima_from minimum (front ++ z ∷ []) zs (omega (arith, more, len)) e.1 in
    subst (λ (xs : List ℤ). AllZip Above xs (z ∷ zs)) (sym (minimum_at minimum front (length zs) len)) (e.0, subst (λ (k : ℕ). AllZip Above (drop k minimum) zs) more rest)

maxima_each : (minimum front zs : List ℤ) → length minimum ≡ length front + length zs → AllZip Above (drop (length front) minimum) zs → Each (Above_minimum minimum) front zs
maxima_each minimum front [] len a = tt
maxima_each minimum front (z ∷ zs) len a =
    let more = one_more front z in
    let b = subst (λ (xs : List ℤ). AllZip Above xs (z ∷ zs)) (minimum_at minimum front (length zs) len) a in
    (b.0, maxima_each minimum (front ++ z ∷ []) zs (omega (arith, more, len)) (subst (λ (k : ℕ). AllZip Above (drop k minimum) zs) (sym more) b.1))

-- ---- Fields, arrays and rows: what is read is as the value says, and what the value says is read.
-- a field with what is read of it
pub field-exactly : {A : Type 0} (place : Place) (ms : Pairs) (read : Value → Result A Refusal) (P : Value → A → Type 0) → ((v : Value) → Exactly (read v) (P v))
    → Exactly (field_at place ms >>= read) (λ y. Has place.field ms (λ v. P v y))
field-exactly place ms read P h = wanted-exactly 1 place (field_of (key_of place.field) ms) read P h

-- ---- lists inside the value of a field

-- what is inside the value of a field
abbrev pub Holds : {X : Type 0} → (Value → Option X) → Field → Pairs → (X → Type 0) → Type 0
Holds look field ms P = Has field ms (λ v. IsSomeAnd (look v) P)

holds_map : {X : Type 0} (look : Value → Option X) (field : Field) (ms : Pairs) (P Q : X → Type 0) → ((xs : X) → P xs → Q xs) → Holds look field ms P → Holds look field ms Q
holds_map look field ms P Q f h = some_map (λ v. IsSomeAnd (look v) P) (λ v. IsSomeAnd (look v) Q) (field_of (key_of field) ms) (λ v. some_map P Q (look v) f) h

holds_split : {X Q : Type 0} (look : Value → Option X) (field : Field) (ms : Pairs) (P : X → Type 0) → Holds look field ms (λ xs. P xs × Q) → Holds look field ms P × Q
holds_split {X} {Q} look field ms P h = grind (arith, ints, h)

pub found-exactly : {X Y : Type 0} (look : Value → Option X) (field : Field) (ms : Pairs) (test : X → Result Y Refusal) (T : X → Y → Type 0) → ((xs : X) → Exactly (test xs) (T xs))
    → Exactly (field_at (whole field) ms >>= λ v. wanted 2 (whole field) (look v) >>= test) (λ ys. Holds look field ms (λ xs. T xs ys))
found-exactly look field ms test T h = grind (arith, ints, h)

-- and what is read of that
pub read-exactly : {X Y B E : Type 0} (look : Value → Option X) (field : Field) (ms : Pairs) (T : X → Y → Type 0) {r : Result Y E} → Exactly r (λ ys. Holds look field ms (λ xs. T xs ys))
    → (k : Y → Result B E) (K : Y → B → Type 0) → ((ys : Y) → Exactly (k ys) (K ys)) → (Q : X → B → Type 0)
    → ((xs : X) (ys : Y) (z : B) → T xs ys → K ys z → Q xs z) → ((xs : X) (z : B) → Q xs z → (ys : Y) × (T xs ys × K ys z)) → Exactly (r >>= k) (λ z. Holds look field ms (λ xs. Q xs z))
read-exactly {X} {Y} look field ms T h k K f Q there back = told (more-exactly h k K (λ ys _. f ys)) (λ z. Holds look field ms (λ xs. Q xs z))
    (λ z w. holds_map look field ms (λ xs. T xs w.0) (λ xs. Q xs z) (λ xs t. there xs w.0 z t w.2) w.1)
    (λ z q.
    let all = some_pull (λ ys v. IsSomeAnd (look v) (λ xs. T xs ys × K ys z)) (field_of (key_of field) ms)
    (some_map (λ v. IsSomeAnd (look v) (λ xs. Q xs z)) (λ v. (ys : Y) × IsSomeAnd (look v) (λ xs. T xs ys × K ys z)) (field_of (key_of field) ms)
    (λ v p. some_pull (λ ys xs. T xs ys × K ys z) (look v) (some_map (λ xs. Q xs z) (λ xs. (ys : Y) × (T xs ys × K ys z)) (look v) (λ xs. back xs z) p)) q) in
    let parts = holds_split look field ms (λ xs. T xs all.0) all.1 in
    (all.0, parts.0, parts.1))

-- ---- arrays with an entry for each period

entries-exactly : (field : Field) (periods : ℕ) (ms : Pairs) → Exactly (entries_at field periods ms) (λ ws. Holds entries_in field ms (λ vs. (periods ≤ length vs) × (take periods vs ≡ ws)))
unfolding entries_at
entries-exactly field periods ms =
    found-exactly entries_in field ms (λ vs. refused_if (nat_lt (length vs) periods) 6 (whole field) (take periods vs)) (λ vs ws. (periods ≤ length vs) × (take periods vs ≡ ws))
    (λ vs. told (refused-exactly (nat_lt (length vs) periods) 6 (whole field) (take periods vs)) (λ ws. (periods ≤ length vs) × (take periods vs ≡ ws))
    (λ ws w. (ltb-false _ _ w.0, w.1)) (λ ws w. (le-ltb (length vs) periods w.0, w.1)))

-- what is read entry after entry up to the last period
each_period-exactly : (field : Field) (periods : ℕ) (ms : Pairs) (read : List ℤ → Value → Result ℤ Refusal) (R : Value → ℤ → Type 0) (T : List ℤ → ℤ → Type 0)
    → ((front : List ℤ) (v : Value) → Exactly (read front v) (λ z. R v z × T front z))
    → Exactly (entries_at field periods ms >>= λ vs. each_at read [] vs) (λ zs. Holds entries_in field ms (λ vs. ((periods ≤ length vs) × AllZip R (take periods vs) zs) × Each T [] zs))
each_period-exactly field periods ms read R T h =
    read-exactly entries_in field ms (λ vs ws. (periods ≤ length vs) × (take periods vs ≡ ws)) (entries-exactly field periods ms) (λ vs. each_at read [] vs) (λ vs zs. AllZip R vs zs × Each T [] zs)
    (each-exactly read R T h) (λ vs zs. ((periods ≤ length vs) × AllZip R (take periods vs) zs) × Each T [] zs)
    (λ vs ws zs t k. ((t.0, subst (λ (xs : List Value). AllZip R xs zs) (sym t.1) k.0), k.1)) (λ vs zs q. (take periods vs, ((q.0.0, refl), (q.0.1, q.1))))

abbrev pub Anything : {A : Type 0} → List A → A → Type 0
Anything front z = Unit {0}

pub any_each : {A : Type 0} (front zs : List A) → Each Anything front zs
any_each front [] = tt
any_each front (z ∷ zs) = (tt, any_each (front ++ z ∷ []) zs)

-- there is one for each period
pub powers_length : (exact : Bool) (field : Field) (periods : ℕ) (ms : Pairs) (zs : List ℤ) → Has field ms (IsPowersOf exact periods zs) → length zs ≡ periods
powers_length exact field periods ms zs h = grind (arith, ints, some_is, AllZip-long, length-take, h)

pub powers-exactly : (exact : Bool) (field : Field) (periods : ℕ) (ms : Pairs) → Exactly (powers_at exact field periods ms) (λ zs. Has field ms (IsPowersOf exact periods zs) × (length zs ≡ periods))
unfolding powers_at
powers-exactly exact field periods ms =
    told (each_period-exactly field periods ms (power_entry exact field) (λ v z. IsPowerOf exact z v) Anything
    (λ front v. told (power-exactly exact (next_entry field front) v) (λ z. IsPowerOf exact z v × Unit {0}) (λ z p. (p, tt)) (λ z p. p.0)))
    (λ zs. Has field ms (IsPowersOf exact periods zs) × (length zs ≡ periods))
    (λ zs w. let h = (holds_split entries_in field ms (λ vs. (periods ≤ length vs) × AllZip (λ v z. IsPowerOf exact z v) (take periods vs) zs) w).0 in (h, powers_length exact field periods ms zs h))
    (λ zs h. holds_map entries_in field ms (λ vs. (periods ≤ length vs) × AllZip (λ v z. IsPowerOf exact z v) (take periods vs) zs) (λ vs. ((periods ≤ length vs) × AllZip (λ v z. IsPowerOf exact z v) (take periods vs) zs) × Each Anything [] zs)
    (λ vs p. (p, any_each [] zs)) h.0)

pub maxima-exactly : (exact : Bool) (periods : ℕ) (minimum : List ℤ) (ms : Pairs) → length minimum ≡ periods
    → Exactly (maxima_at exact periods minimum ms) (λ zs. Has PowerOutputMaximum ms (IsPowersOf exact periods zs) × AllZip Above minimum zs)
unfolding maxima_at
maxima-exactly exact periods minimum ms len =
    told (each_period-exactly PowerOutputMaximum periods ms (maximum_entry exact minimum) (λ v z. IsPowerOf exact z v) (Above_minimum minimum)
    (λ front v. power_from-exactly exact (next_entry PowerOutputMaximum front) _ v))
    (λ zs. Has PowerOutputMaximum ms (IsPowersOf exact periods zs) × AllZip Above minimum zs)
    (λ zs w.
    let h = holds_split entries_in PowerOutputMaximum ms (λ vs. (periods ≤ length vs) × AllZip (λ v z. IsPowerOf exact z v) (take periods vs) zs) w in
    (h.0, maxima_from minimum [] zs (omega (arith, len, powers_length exact PowerOutputMaximum periods ms zs h.0)) h.1))
    (λ zs h.
    holds_map entries_in PowerOutputMaximum ms (λ vs. (periods ≤ length vs) × AllZip (λ v z. IsPowerOf exact z v) (take periods vs) zs)
    (λ vs. ((periods ≤ length vs) × AllZip (λ v z. IsPowerOf exact z v) (take periods vs) zs) × Each (Above_minimum minimum) [] zs)
    (λ vs p. (p, maxima_each minimum [] zs (omega (arith, len, powers_length exact PowerOutputMaximum periods ms zs h.0)) h.1)) h.0)

-- ---- rows

abbrev AreSome : ℕ → List Value → List Value → Type 0
AreSome most vs rows = (1 ≤ length vs) × (length vs ≤ most) × (vs ≡ rows)

rows-exactly : (field : Field) (most : ℕ) (ms : Pairs) → Exactly (rows_at field most ms) (λ rows. Holds entries_in field ms (λ vs. AreSome most vs rows))
unfolding rows_at
rows-exactly field most ms =
    let few = λ (rows : List Value). refused_if (nat_lt most (length rows)) 7 (whole field) rows in
    found-exactly entries_in field ms (λ vs. refused_if (length vs == 0) 5 (whole field) vs >>= few) (AreSome most)
    (λ vs. told (guarded (length vs == 0) 5 (whole field) vs few (λ rows. (nat_lt most (length vs) ≡ false) × (vs ≡ rows)) (λ _. refused-exactly (nat_lt most (length vs)) 7 (whole field) vs)) (AreSome most vs)
    (λ rows w. (some_whole (length vs) w.0, ltb-false _ _ w.1.0, w.1.1)) (λ rows w. (not_zero_again (length vs) w.0, (le-ltb most (length vs) w.1, w.2))))

each_row-exactly : {A : Type 0} (field : Field) (most : ℕ) (ms : Pairs) (read : List A → Value → Result A Refusal) (R : A → Value → Type 0) (T : List A → A → Type 0)
    → ((front : List A) (v : Value) → Exactly (read front v) (λ z. R z v × T front z))
    → Exactly (rows_at field most ms >>= λ vs. each_at read [] vs) (λ zs. Holds entries_in field ms (λ vs. ((1 ≤ length vs) × (length vs ≤ most) × AllZip (λ w z. R z w) vs zs) × Each T [] zs))
each_row-exactly field most ms read R T h =
    read-exactly entries_in field ms (AreSome most) (rows-exactly field most ms) (λ vs. each_at read [] vs) (λ vs zs. AllZip (λ w z. R z w) vs zs × Each T [] zs) (each-exactly read (λ w z. R z w) T h)
    (λ vs zs. ((1 ≤ length vs) × (length vs ≤ most) × AllZip (λ w z. R z w) vs zs) × Each T [] zs)
    (λ vs rows zs t k. ((t.0, t.1, subst (λ (xs : List Value). AllZip (λ w z. R z w) xs zs) (sym t.2) k.0), k.1)) (λ vs zs q. (vs, ((q.0.0, q.0.1, refl), (q.0.2, q.1))))

start_row-exactly : (exact : Bool) (front : List StartRow) (v : Value) → Exactly (start_row exact front v) (λ row. IsStartRowOf exact row v)
unfolding start_row
start_row-exactly exact front v =
    let make : ℕ → ℤ → StartRow = λ lag cost. record { lag = lag; cost = cost } in
    let lag_place = next_entry StartupLag front in
    let cost_place = next_entry StartupCost front in
    wanted-exactly 2 (next_entry Startup front) (pairs_in v)
    (λ ms. (field_at lag_place ms >>= time_at exact lag_place) >>= λ lag. (field_at cost_place ms >>= cost_at exact cost_place) >>= λ cost. Ok (make lag cost))
    (λ ms row. Has StartupLag ms (IsTimeOf exact row.lag) × Has StartupCost ms (IsCostOf exact row.cost))
    (λ ms.
    let parts = two-exactly (field-exactly lag_place ms (time_at exact lag_place) (λ w lag. IsTimeOf exact lag w) (time-exactly exact lag_place))
    (λ lag _. field-exactly cost_place ms (cost_at exact cost_place) (λ w cost. IsCostOf exact cost w) (cost-exactly exact cost_place)) make in
    told parts (λ row. Has StartupLag ms (IsTimeOf exact row.lag) × Has StartupCost ms (IsCostOf exact row.cost))
    (λ row w. subst (λ (x : StartRow). Has StartupLag ms (IsTimeOf exact x.lag) × Has StartupCost ms (IsCostOf exact x.cost)) w.4 (w.2, w.3)) (λ row h. (row.lag, row.cost, h.0, h.1, refl)))

abbrev HasPoint : Bool → Point → Pairs → Type 0
HasPoint exact p ms = Has PiecewiseProductionMw ms (IsPowerOf exact p.mw) × Has PiecewiseProductionCost ms (IsCostOf exact p.cost)

point_row-exactly : (exact : Bool) (front : List Point) (v : Value) → Exactly (point_row exact front v) (λ p. IsPointOf exact p v × Above_last front p)
unfolding point_row
point_row-exactly exact front v =
    let make : ℤ → ℤ → Point = λ mw cost. record { mw = mw; cost = cost } in
    let mw_place = next_entry PiecewiseProductionMw front in
    let cost_place = next_entry PiecewiseProductionCost front in
    let mw_key = key_of PiecewiseProductionMw in
    let row = wanted-exactly 2 (next_entry PiecewiseProduction front) (pairs_in v)
    (λ ms. (field_at mw_place ms >>= power_from exact mw_place (last_output front)) >>= λ mw. (field_at cost_place ms >>= cost_at exact cost_place) >>= λ cost. Ok (make mw cost))
    (λ ms p. HasPoint exact p ms × Above_last front p)
    (λ ms.
    let parts = two-exactly (field-exactly mw_place ms (power_from exact mw_place (last_output front)) (λ w mw. IsPowerOf exact mw w × (last_output front ≤ℤ mw)) (power_from-exactly exact mw_place (last_output front)))
    (λ mw _. field-exactly cost_place ms (cost_at exact cost_place) (λ w cost. IsCostOf exact cost w) (cost-exactly exact cost_place)) make in
    told parts (λ p. HasPoint exact p ms × Above_last front p)
    (λ p w. let mw = some_split (IsPowerOf exact w.0) (field_of mw_key ms) w.2 in subst (λ (x : Point). HasPoint exact x ms × Above_last front x) w.4 ((mw.0, w.3), mw.1))
    (λ p h. (p.mw, p.cost, some_map (IsPowerOf exact p.mw) (λ x. IsPowerOf exact p.mw x × (last_output front ≤ℤ p.mw)) (field_of mw_key ms) (λ x is. (is, h.1)) h.0.0, h.0.1, refl))) in
    told row (λ p. IsPointOf exact p v × Above_last front p)
    (λ p w. some_split (HasPoint exact p) (pairs_in v) w) (λ p h. some_map (HasPoint exact p) (λ ms. HasPoint exact p ms × Above_last front p) (pairs_in v) (λ ms is. (is, h.1)) h.0)

point_power : (exact : Bool) (v : Value) (p : Point) → IsPointOf exact p v → IsPower p.mw
point_power exact v p h = grind (arith, ints, h)

-- ---- the rows of a unit

pub startup-exactly : (exact : Bool) (ms : Pairs) → Exactly (startup_at exact ms) (λ rows. Has Startup ms (AreRowsOf MAX_START_ROWS (IsStartRowOf exact) rows))
unfolding startup_at
startup-exactly exact ms =
    let Are = λ (rows : List StartRow) (vs : List Value). (1 ≤ length vs) × (length vs ≤ MAX_START_ROWS) × AllZip (λ w row. IsStartRowOf exact row w) vs rows in
    told (each_row-exactly Startup MAX_START_ROWS ms (start_row exact) (IsStartRowOf exact) Anything
    (λ front v. told (start_row-exactly exact front v) (λ row. IsStartRowOf exact row v × Unit {0}) (λ row is. (is, tt)) (λ row is. is.0)))
    (λ rows. Has Startup ms (AreRowsOf MAX_START_ROWS (IsStartRowOf exact) rows))
    (λ rows w. (holds_split entries_in Startup ms (Are rows) w).0)
    (λ rows h. holds_map entries_in Startup ms (Are rows) (λ vs. Are rows vs × Each Anything [] rows) (λ vs p. (p, any_each [] rows)) h)

pub points-exactly : (exact : Bool) (ms : Pairs) → Exactly (points_at exact ms) (λ ps. Has PiecewiseProduction ms (AreRowsOf MAX_POINTS (IsPointOf exact) ps) × IsRising ps)
unfolding points_at
points-exactly exact ms =
    let Are = λ (ps : List Point) (vs : List Value). (1 ≤ length vs) × (length vs ≤ MAX_POINTS) × AllZip (λ w p. IsPointOf exact p w) vs ps in
    told (each_row-exactly PiecewiseProduction MAX_POINTS ms (point_row exact) (IsPointOf exact) Above_last (point_row-exactly exact))
    (λ ps. Has PiecewiseProduction ms (AreRowsOf MAX_POINTS (IsPointOf exact) ps) × IsRising ps)
    (λ ps w. let h = holds_split entries_in PiecewiseProduction ms (Are ps) w in (h.0, rising_is ps h.1))
    (λ ps h. holds_map entries_in PiecewiseProduction ms (Are ps) (λ vs. Are ps vs × Each Above_last [] ps) (λ vs p. (p, rising_again (λ w q. IsPointOf exact q w) (point_power exact) vs ps p.2 h.1)) h.0)

-- ---- Units and the instance: what is read is as the value says, and what the value says is read.
-- ---- a field that is one number

flag_field-exactly : (exact : Bool) (field : Field) (ms : Pairs) → Exactly (flag_field exact field ms) (λ b. Has field ms (IsFlagOf exact b))
flag_field-exactly exact field ms = field-exactly (whole field) ms (flag_at exact (whole field)) (λ v b. IsFlagOf exact b v) (flag-exactly exact (whole field))

time_field-exactly : (exact : Bool) (field : Field) (ms : Pairs) → Exactly (time_field exact field ms) (λ t. Has field ms (IsTimeOf exact t))
time_field-exactly exact field ms = field-exactly (whole field) ms (time_at exact (whole field)) (λ v t. IsTimeOf exact t v) (time-exactly exact (whole field))

output_field-exactly : (exact : Bool) (field : Field) (ms : Pairs) → Exactly (output_field exact field ms) (λ z. Has field ms (IsPowerOf exact z))
output_field-exactly exact field ms = field-exactly (whole field) ms (power_at exact (whole field)) (λ v z. IsPowerOf exact z v) (power-exactly exact (whole field))

power_field-exactly : (exact : Bool) (field : Field) (least : ℤ) (ms : Pairs) → Exactly (power_field exact field least ms) (λ z. Has field ms (λ v. IsPowerOf exact z v × (least ≤ℤ z)))
power_field-exactly exact field least ms =
    field-exactly (whole field) ms (power_from exact (whole field) least) (λ v z. IsPowerOf exact z v × (least ≤ℤ z)) (power_from-exactly exact (whole field) least)

-- ---- the parts of a thermal unit

abbrev pub HasOutputs : Bool → Outputs → Pairs → Type 0
HasOutputs exact x ms = (Has MustRun ms (IsFlagOf exact x.must_run) × Has PowerOutputMinimum ms (IsLimitOf exact x.pmin) × Has PowerOutputMaximum ms (IsPowerOf exact x.pmax)) × (x.pmin ≤ℤ x.pmax)

outputs-exactly : (exact : Bool) (ms : Pairs) → Exactly (outputs_at exact ms) (λ x. HasOutputs exact x ms)
unfolding outputs_at
outputs-exactly exact ms =
    let make : Bool → ℤ → ℤ → Outputs = λ must_run pmin pmax. record { must_run = must_run; pmin = pmin; pmax = pmax } in
    let maximum = field_of (key_of PowerOutputMaximum) ms in
    let parts = three-exactly (flag_field-exactly exact MustRun ms) (λ _ _. power_field-exactly exact PowerOutputMinimum (pos 0) ms) (λ _ pmin _. power_field-exactly exact PowerOutputMaximum pmin ms) make in
    told parts (λ x. HasOutputs exact x ms)
    (λ x w. let top = some_split (IsPowerOf exact w.2.1) maximum w.2.3 in subst (λ (y : Outputs). HasOutputs exact y ms) w.2.4 ((w.1, w.2.2, top.0), top.1))
    (λ x h. (x.must_run, h.0.0, (x.pmin, x.pmax, h.0.1, some_map (IsPowerOf exact x.pmax) (λ v. IsPowerOf exact x.pmax v × (x.pmin ≤ℤ x.pmax)) maximum (λ v is. (is, h.1)) h.0.2, refl)))

abbrev pub HasRamps : Bool → Ramps → Pairs → Type 0
HasRamps exact x ms = Has RampUpLimit ms (IsLimitOf exact x.ru) × Has RampDownLimit ms (IsLimitOf exact x.rd) × Has RampStartupLimit ms (IsLimitOf exact x.su) × Has RampShutdownLimit ms (IsLimitOf exact x.sd)

ramps-exactly : (exact : Bool) (ms : Pairs) → Exactly (ramps_at exact ms) (λ x. HasRamps exact x ms)
unfolding ramps_at
ramps-exactly exact ms =
    let make : ℤ → ℤ → ℤ → ℤ → Ramps = λ ru rd su sd. record { ru = ru; rd = rd; su = su; sd = sd } in
    let limit = λ (field : Field). power_field-exactly exact field (pos 0) ms in
    let parts = four-exactly (limit RampUpLimit) (limit RampDownLimit) (limit RampStartupLimit) (limit RampShutdownLimit) make in
    told parts (λ x. HasRamps exact x ms)
    (λ x w. subst (λ (y : Ramps). HasRamps exact y ms) w.2.2.4 (w.1, w.2.1, w.2.2.2, w.2.2.3)) (λ x h. (x.ru, h.0, (x.rd, h.1, (x.su, x.sd, h.2, h.3, refl))))

abbrev pub HasTimes : Bool → Times → Pairs → Type 0
HasTimes exact x ms = Has TimeUpMinimum ms (IsMinimumTimeOf exact x.up) × Has TimeDownMinimum ms (IsMinimumTimeOf exact x.down)

-- a minimum time as it is written
pub written_time : (exact : Bool) (h : ℕ) (o : Option Value) → IsSomeAnd o (IsMinimumTimeOf exact h) → (t : ℕ) × IsSomeAnd o (IsTimeOf exact t) × (h ≡ max t 1)
written_time exact h None is = absurd is
written_time exact h (Some v) is = is

times-exactly : (exact : Bool) (ms : Pairs) → Exactly (times_at exact ms) (λ x. HasTimes exact x ms)
unfolding times_at
times-exactly exact ms =
    let make : ℕ → ℕ → Times = λ up down. record { up = max up 1; down = max down 1 } in
    let parts = two-exactly (time_field-exactly exact TimeUpMinimum ms) (λ _ _. time_field-exactly exact TimeDownMinimum ms) make in
    let read = λ (field : Field) (t : ℕ). some_map (IsTimeOf exact t) (IsMinimumTimeOf exact (max t 1)) (field_of (key_of field) ms) (λ v is. (t, is, refl)) in
    told parts (λ x. HasTimes exact x ms)
    (λ x w. subst (λ (y : Times). HasTimes exact y ms) w.4 (read TimeUpMinimum w.0 w.2, read TimeDownMinimum w.1 w.3))
    (λ x h.
    let up = written_time exact x.up (field_of (key_of TimeUpMinimum) ms) h.0 in
    let down = written_time exact x.down (field_of (key_of TimeDownMinimum) ms) h.1 in
    (up.0, down.0, up.1, down.1, λ i. record { up = sym up.2 i; down = sym down.2 i }))

abbrev pub HasInitial : Bool → Initial → Pairs → Type 0
HasInitial exact x ms = Has PowerOutputT0 ms (IsPowerOf exact x.output) × Has UnitOnT0 ms (IsFlagOf exact x.on) × Has TimeUpT0 ms (IsTimeOf exact x.up) × Has TimeDownT0 ms (IsTimeOf exact x.down)

initial-exactly : (exact : Bool) (ms : Pairs) → Exactly (initial_at exact ms) (λ x. HasInitial exact x ms)
unfolding initial_at
initial-exactly exact ms =
    let make : ℤ → Bool → ℕ → ℕ → Initial = λ output on up down. record { output = output; on = on; up = up; down = down } in
    let parts = four-exactly (output_field-exactly exact PowerOutputT0 ms) (flag_field-exactly exact UnitOnT0 ms) (time_field-exactly exact TimeUpT0 ms) (time_field-exactly exact TimeDownT0 ms) make in
    told parts (λ x. HasInitial exact x ms)
    (λ x w. subst (λ (y : Initial). HasInitial exact y ms) w.2.2.4 (w.1, w.2.1, w.2.2.2, w.2.2.3)) (λ x h. (x.output, h.0, (x.on, h.1, (x.up, x.down, h.2, h.3, refl))))

abbrev pub HasFigures : Bool → Figures → Pairs → Type 0
HasFigures exact x ms = HasOutputs exact x.outputs ms × HasRamps exact x.ramps ms × HasTimes exact x.times ms × HasInitial exact x.initial ms

figures-exactly : (exact : Bool) (ms : Pairs) → Exactly (figures_at exact ms) (λ x. HasFigures exact x ms)
unfolding figures_at
figures-exactly exact ms =
    let make : Outputs → Ramps → Times → Initial → Figures = λ outputs ramps times initial. record { outputs = outputs; ramps = ramps; times = times; initial = initial } in
    let parts = four-exactly (outputs-exactly exact ms) (ramps-exactly exact ms) (times-exactly exact ms) (initial-exactly exact ms) make in
    told parts (λ x. HasFigures exact x ms)
    (λ x w. subst (λ (y : Figures). HasFigures exact y ms) w.2.2.4 (w.1, w.2.1, w.2.2.2, w.2.2.3)) (λ x h. (x.outputs, h.0, (x.ramps, h.1, (x.times, x.initial, h.2, h.3, refl))))

-- ---- a thermal unit

-- the fields of a unit that are one number
abbrev pub figures_of : Thermal → Figures
figures_of unit = record {
  outputs = record { must_run = unit.must_run; pmin = unit.pmin; pmax = unit.pmax };
  ramps = record { ru = unit.ru; rd = unit.rd; su = unit.su; sd = unit.sd };
  times = record { up = unit.ut; down = unit.dt };
  initial = record { output = unit.p0; on = unit.on0; up = unit.ut0; down = unit.dt0 };
}

abbrev HasStartup : Bool → List StartRow → Pairs → Type 0
HasStartup exact rows ms = Has Startup ms (AreRowsOf MAX_START_ROWS (IsStartRowOf exact) rows)

abbrev HasPoints : Bool → List Point → Pairs → Type 0
HasPoints exact points ms = Has PiecewiseProduction ms (AreRowsOf MAX_POINTS (IsPointOf exact) points) × IsRising points

-- what is read of a unit, part after part
pub record HasParts (exact : Bool) (unit : Thermal) (ms : Pairs) : Type 0 where
  pub figures : HasFigures exact (figures_of unit) ms
  pub startup : HasStartup exact unit.startup ms
  pub points : HasPoints exact unit.points ms

pub parts_of : (exact : Bool) (unit : Thermal) (ms : Pairs) → IsThermalOf exact unit ms → HasParts exact unit ms
parts_of exact unit ms h = grind (arith, ints, h)

pub from_parts : (exact : Bool) (unit : Thermal) (ms : Pairs) → HasParts exact unit ms → IsThermalOf exact unit ms
from_parts exact unit ms p = grind (arith, ints, p)

-- an object that is a unit, under its name
named-exactly : {A : Type 0} (name : A → List ℕ) (IsUnit : A → Pairs → Type 0) (kind : ℕ) (m : List ℕ × Value) (read : Pairs → Result A Refusal)
    → ((ms : Pairs) → Exactly (read ms) (λ unit. IsUnit unit ms × (name unit ≡ m.0)))
    → Exactly (in_unit kind m.0 (object_at (whole NoField) m.1 >>= read)) (λ unit. (name unit ≡ m.0) × IsObject m.1 (IsUnit unit))
named-exactly {A} name IsUnit kind m read h = grind (arith, ints, h)

thermal-exactly : (exact : Bool) (name : List ℕ) (ms : Pairs)
    → Exactly (figures_at exact ms >>= λ f. startup_at exact ms >>= λ s. points_at exact ms >>= λ p. Ok (thermal_of name f s p)) (λ unit. IsThermalOf exact unit ms × (unit.name ≡ name))
thermal-exactly exact name ms =
    told (three-exactly (figures-exactly exact ms) (λ _ _. startup-exactly exact ms) (λ _ _ _. points-exactly exact ms) (thermal_of name)) (λ unit. IsThermalOf exact unit ms × (unit.name ≡ name))
    (λ unit w.
    subst (λ (u : Thermal). IsThermalOf exact u ms × (u.name ≡ name)) w.2.4
    (from_parts exact (thermal_of name w.0 w.2.0 w.2.1) ms (record { figures = w.1; startup = w.2.2; points = w.2.3 }), refl))
    (λ unit w.
    let p = parts_of exact unit ms w.0 in
    (figures_of unit, p.figures, (unit.startup, unit.points, p.startup, p.points, λ i. record unit { name = sym w.1 i })))

-- ---- a renewable unit

renewable-exactly : (exact : Bool) (periods : ℕ) (name : List ℕ) (ms : Pairs)
    → Exactly (powers_at exact PowerOutputMinimum periods ms >>= λ low. maxima_at exact periods low ms >>= λ high. Ok (record { name = name; minimum = low; maximum = high })) (λ unit. IsRenewableOf exact periods unit ms × (unit.name ≡ name))
renewable-exactly exact periods name ms =
    let make : List ℤ → List ℤ → Renewable = λ low high. record { name = name; minimum = low; maximum = high } in
    let parts = two-exactly (powers-exactly exact PowerOutputMinimum periods ms) (λ low p. maxima-exactly exact periods low ms p.1) make in
    told parts (λ unit. IsRenewableOf exact periods unit ms × (unit.name ≡ name))
    (λ unit w. subst (λ (u : Renewable). IsRenewableOf exact periods u ms × (u.name ≡ name)) w.4 (record { minimum = w.2.0; maximum = w.3.0; range = w.3.1 }, refl))
    (λ unit w.
    (unit.minimum, unit.maximum, (w.0.minimum, powers_length exact PowerOutputMinimum periods ms unit.minimum w.0.minimum), (w.0.maximum, w.0.range), λ i. record unit { name = sym w.1 i }))

-- ---- the units of a field

are_units-exactly : {A : Type 0} (name : A → List ℕ) (IsUnit : A → Pairs → Type 0) (field : Field) (ms : Pairs) (read : List A → List ℕ × Value → Result A FieldRefusal)
    → ((front : List A) (m : List ℕ × Value) → Exactly (read front m) (λ unit. (name unit ≡ m.0) × IsObject m.1 (IsUnit unit)))
    → Exactly (outside (units_at field ms) >>= λ us. each_at read [] us) (λ units. Has field ms (AreUnitsOf name IsUnit units))
unfolding units_at
are_units-exactly {A} name IsUnit field ms read h =
    let R = λ (m : List ℕ × Value) (unit : A). (name unit ≡ m.0) × IsObject m.1 (IsUnit unit) in
    let Few = λ (xs us : Pairs). (length xs ≤ MAX_UNITS) × (xs ≡ us) in
    let found = found-exactly pairs_in field ms (λ xs. refused_if (nat_lt MAX_UNITS (length xs)) 7 (whole field) xs) Few
    (λ xs. told (refused-exactly (nat_lt MAX_UNITS (length xs)) 7 (whole field) xs) (Few xs) (λ us w. (ltb-false _ _ w.0, w.1)) (λ us w. (le-ltb MAX_UNITS (length xs) w.0, w.1))) in
    read-exactly pairs_in field ms Few (in_unit-exactly 0 [] (units_at field ms) (λ us. Holds pairs_in field ms (λ xs. Few xs us)) found) (λ us. each_at read [] us) (λ us units. AllZip R us units × Each Anything [] units)
    (each-exactly read R Anything (λ front m. told (h front m) (λ unit. R m unit × Unit {0}) (λ unit is. (is, tt)) (λ unit is. is.0)))
    (λ xs units. (length xs ≤ MAX_UNITS) × AllZip R xs units)
    (λ xs us units t k. (t.0, subst (λ (ys : Pairs). AllZip R ys units) (sym t.1) k.0)) (λ xs units q. (xs, ((q.0, refl), (q.1, any_each [] units))))

thermal_units-exactly : (exact : Bool) (ms : Pairs) → Exactly (thermal_units_at exact ms) (λ units. Has ThermalGenerators ms (AreUnitsOf (λ (u : Thermal). u.name) (IsThermalOf exact) units))
unfolding thermal_units_at thermal_at
thermal_units-exactly exact ms =
    are_units-exactly (λ (u : Thermal). u.name) (IsThermalOf exact) ThermalGenerators ms (thermal_member exact) (λ front m. named-exactly (λ (u : Thermal). u.name) (IsThermalOf exact) 1 m _ (thermal-exactly exact m.0))

renewable_units-exactly : (exact : Bool) (periods : ℕ) (ms : Pairs) → Exactly (renewable_units_at exact periods ms) (λ units. Has RenewableGenerators ms (AreUnitsOf (λ (u : Renewable). u.name) (IsRenewableOf exact periods) units))
unfolding renewable_units_at renewable_at
renewable_units-exactly exact periods ms =
    are_units-exactly (λ (u : Renewable). u.name) (IsRenewableOf exact periods) RenewableGenerators ms (renewable_member exact periods)
    (λ front m. named-exactly (λ (u : Renewable). u.name) (IsRenewableOf exact periods) 2 m _ (renewable-exactly exact periods m.0))

-- ---- the instance

abbrev HasTotals : Bool → Totals → Pairs → Type 0
HasTotals exact x ms = Has TimePeriods ms (IsPeriodsOf exact x.periods) × Has Demand ms (IsPowersOf exact x.periods x.demand) × Has Reserves ms (IsPowersOf exact x.periods x.reserves)

totals-exactly : (exact : Bool) (ms : Pairs) → Exactly (totals_at exact ms) (λ x. HasTotals exact x ms)
unfolding totals_at
totals-exactly exact ms =
    let make : ℕ → List ℤ → List ℤ → Totals = λ periods demand reserves. record { periods = periods; demand = demand; reserves = reserves } in
    let powers = λ (field : Field) (t : ℕ). told (powers-exactly exact field t ms) (λ zs. Has field ms (IsPowersOf exact t zs)) (λ zs w. w.0) (λ zs h. (h, powers_length exact field t ms zs h)) in
    let parts = three-exactly (field-exactly (whole TimePeriods) ms (periods_at exact (whole TimePeriods)) (λ v t. IsPeriodsOf exact t v) (periods-exactly exact (whole TimePeriods))) (λ t _. powers Demand t) (λ t _ _. powers Reserves t) make in
    told parts (λ x. HasTotals exact x ms)
    (λ x w. subst (λ (y : Totals). HasTotals exact y ms) w.2.4 (w.1, w.2.2, w.2.3)) (λ x h. (x.periods, h.0, (x.demand, x.reserves, h.1, h.2, refl)))

-- an instance without prices of shortages is told by the rest
without_prices : (i : Instance) → i.a ≡ 0 → i.b ≡ 0
    → record { periods = i.periods; demand = i.demand; reserves = i.reserves; thermal = i.thermal; renewable = i.renewable; a = 0; b = 0 } ≡ i
without_prices i no_a no_b = λ k. record { periods = i.periods; demand = i.demand; reserves = i.reserves; thermal = i.thermal; renewable = i.renewable; a = sym no_a k; b = sym no_b k }

abbrev fields_read : Bool → Pairs → Result Instance FieldRefusal
fields_read exact ms = outside (totals_at exact ms) >>= λ totals. thermal_units_at exact ms >>= λ thermal. renewable_units_at exact totals.periods ms >>= λ renewable.
    Ok (record { periods = totals.periods; demand = totals.demand; reserves = totals.reserves; thermal = thermal; renewable = renewable; a = 0; b = 0 })

fields-exactly : (exact : Bool) (ms : Pairs) → Exactly (fields_read exact ms) (λ i. HasFields exact i ms)
fields-exactly exact ms =
    let make : Totals → List Thermal → List Renewable → Instance = λ totals thermal renewable. record { periods = totals.periods; demand = totals.demand; reserves = totals.reserves; thermal = thermal; renewable = renewable; a = 0; b = 0 } in
    let parts = three-exactly (in_unit-exactly 0 [] (totals_at exact ms) (λ x. HasTotals exact x ms) (totals-exactly exact ms)) (λ _ _. thermal_units-exactly exact ms) (λ totals _ _. renewable_units-exactly exact totals.periods ms) make in
    told parts (λ i. HasFields exact i ms)
    (λ i w. subst (λ (x : Instance). HasFields exact x ms) w.2.4 (record { periods = w.1.0; demand = w.1.1; reserves = w.1.2; thermal = w.2.2; renewable = w.2.3; unpriced = (refl, refl) }))
    (λ i h. (record { periods = i.periods; demand = i.demand; reserves = i.reserves }, (h.periods, h.demand, h.reserves), (i.thermal, i.renewable, h.thermal, h.renewable, without_prices i h.unpriced.0 h.unpriced.1)))

instance-exactly : (exact : Bool) (v : Value) → Exactly (instance_at exact v) (λ i. IsInstanceOf exact v i)
unfolding instance_at
instance-exactly exact v = by_object (pairs_in v)
  where
    by_object : (o : Option Pairs) → Exactly (outside (wanted 2 (whole NoField) o) >>= fields_read exact) (λ i. IsSomeAnd o (HasFields exact i))
    by_object (Some ms) = fields-exactly exact ms
    by_object None = record { is = λ i e. absurd cc; again = λ i h. absurd h }

-- What is read is the instance that the value stands for.
pub instance_is : (exact : Bool) (v : Value) (i : Instance) → instance_at exact v ≡ Ok i → IsInstanceOf exact v i
instance_is exact v = (instance-exactly exact v).is

-- The instance that a value stands for is read.
pub instance_again : (exact : Bool) (v : Value) (i : Instance) → IsInstanceOf exact v i → instance_at exact v ≡ Ok i
instance_again exact v = (instance-exactly exact v).again

pub one_instance : (exact : Bool) (v : Value) (i j : Instance) → IsInstanceOf exact v i → IsInstanceOf exact v j → i ≡ j
one_instance exact v i j h k = ok_is i j (sym (instance_again exact v i h) ∙ instance_again exact v j k)
