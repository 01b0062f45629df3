-- A value is read the same with each of its numbers changed to one that says the same.
use Rattle.std.proofs.Common.{◌≡◌, ℕ, ◌%◌, ◌^◌, ◌<◌, Bool, true, false, cond, List, [], ◌∷◌, ◌++◌, length, map, Option, Some, None, Result, Ok, Err, refl, sym, ap, ◌∙◌, inl, inr, arith, ◌+◌, ◌&&◌, ◌||◌, ◌==◌, nat_lt, ℤ, sum_by, fold, unwrap_or, option_and_then, nat_le}
use Rattle.std.specs.Option.{option_map}
use Rattle.std.specs.Str.{bytes_eq}
use Rattle.std.proofs.Math.Bool.{or-true}
use Rattle.std.proofs.lemmas.Bool.{lt-ltb, cases_lt, le-leb, lt-leb}
use Rattle.std.proofs.lemmas.List.{length-map, take-map}
use Rattle.decimal_json.specs.Value.{Decimal, Value, number, array, object, Items, no_items, item, Members, no_members, member, held_decimal}
use Rattle.instance.specs.Fields.{Field, key_of, entries_of, pairs_of, entries_in, pairs_in, field_of}
use Rattle.instance.specs.Scaled.{MILLION, size_of, scaled, is_rounded, wholes_of, is_below_zero, PAST_LIMITS, SaySame, MOST_DIGITS, IsShort, with_numbers, items_with, members_with, AllNumbers, AllItems, AllMembers}
use Rattle.instance.specs.FirstFault.{Instance, MAX_COST, MAX_PERIODS, MAX_POWER, MAX_TIME, Refusal, ◌>>=◌, refusal, wanted, refused_if, number_at, amount_at, power_at, power_from, cost_at, whole_at, time_at, flag_at, periods_at, entries_at, rows_at, each_at, next_entry, power_entry, powers_at, maximum_entry, start_row, point_row, outputs_at, figures_at, ramps_at, times_at, initial_at, startup_at, points_at, thermal_at, maxima_at, renewable_at, in_unit, units_at, thermal_member, renewable_member, thermal_units_at, renewable_units_at, totals_at, instance_at, rounded_value, rounded_field, entries_field, members_field, members_of_value, rounded_array, rounded_start_row, rounded_point, rounded_startup, rounded_points, rounded_outputs, rounded_figures, rounded_ramps, rounded_times, rounded_initial, rounded_thermal, rounded_renewable, rounded_thermal_units, rounded_renewable_units, rounded_totals, rounded_instance}
use Rattle.instance.specs.declared.fault.Place.{Place}
use Rattle.uc_model.specs.declared.instance.StartRow.{StartRow}
use Rattle.uc_model.specs.declared.instance.Point.{Point}
use Rattle.uc_model.specs.declared.instance.Renewable.{Renewable}
use Rattle.uc_model.specs.declared.instance.Thermal.{Thermal}
use Rattle.instance.specs.InstanceOf.{Pairs, IsInstanceOf}
use Rattle.instance.proofs.UnitLaws.{not_zero_again, instance_is, instance_again}
use Rattle.instance.proofs.Sizes.{itself, held_says_same}

-- ---- results

abbrev pub map_ok : {A B E : Type 0} → (A → B) → Result A E → Result B E
map_ok g (Ok x) = Ok (g x)
map_ok g (Err e) = Err e

bind_map : {A B C E : Type 0} (g : A → B) (r : Result A E) (k : B → Result C E) → (map_ok g r >>= k) ≡ (r >>= λ x. k (g x))
bind_map g (Ok x) k = refl
bind_map g (Err d) k = refl

map_bind : {A B C E : Type 0} (g : B → C) (r : Result A E) (k : A → Result B E) → map_ok g (r >>= k) ≡ (r >>= λ x. map_ok g (k x))
map_bind g (Ok x) k = refl
map_bind g (Err d) k = refl

refused_map : {A B E : Type 0} (g : A → B) (test : Bool) (e : E) (r : Result A E) → map_ok g (cond test (Err e) r) ≡ cond test (Err e) (map_ok g r)
refused_map g true e r = refl
refused_map g false e r = refl

refused_then : {A B : Type 0} (test : Bool) (code : ℕ) (place : Place) (x : A) (k : A → Result B Refusal) → (refused_if test code place x >>= k) ≡ cond test (Err (refusal code place)) (k x)
refused_then true code place x k = refl
refused_then false code place x k = refl

wanted_map : {A B : Type 0} (g : A → B) (code : ℕ) (place : Place) (o : Option A) → wanted code place (option_map g o) ≡ map_ok g (wanted code place o)
wanted_map g code place (Some x) = refl
wanted_map g code place None = refl

in_unit_map : {A B : Type 0} (g : A → B) (kind : ℕ) (unit : List ℕ) (r : Result A Refusal) → in_unit kind unit (map_ok g r) ≡ map_ok g (in_unit kind unit r)
in_unit_map g kind unit (Ok x) = refl
in_unit_map g kind unit (Err d) = refl

-- ---- what is looked up in a changed value

abbrev pub pair_with : (Decimal → Decimal) → List ℕ × Value → List ℕ × Value
pair_with f m = (m.0, with_numbers f m.1)

abbrev pub pairs_with : (Decimal → Decimal) → Pairs → Pairs
pairs_with f ms = map (pair_with f) ms

pub entries_changed : (f : Decimal → Decimal) (vs : Items) → entries_of (items_with f vs) ≡ map (with_numbers f) (entries_of vs)
entries_changed f no_items = refl
entries_changed f (item v vs) = ap (λ (xs : List Value). with_numbers f v ∷ xs) (entries_changed f vs)

pub pairs_changed : (f : Decimal → Decimal) (ms : Members) → pairs_of (members_with f ms) ≡ pairs_with f (pairs_of ms)
pairs_changed f no_members = refl
pairs_changed f (member key v ms) = ap (λ (xs : Pairs). (key, with_numbers f v) ∷ xs) (pairs_changed f ms)

pub entries_in_changed : (f : Decimal → Decimal) (v : Value) → entries_in (with_numbers f v) ≡ option_map (λ (vs : List Value). map (with_numbers f) vs) (entries_in v)
entries_in_changed f (array vs) = ap (λ (xs : List Value). Some xs) (entries_changed f vs)
entries_in_changed f v = refl

pub pairs_in_changed : (f : Decimal → Decimal) (v : Value) → pairs_in (with_numbers f v) ≡ option_map (pairs_with f) (pairs_in v)
pairs_in_changed f (object ms) = ap (λ (xs : Pairs). Some xs) (pairs_changed f ms)
pairs_in_changed f v = refl

found_changed : (b : Bool) (g : Value → Value) (v : Value) (o : Option Value) → cond b (Some (g v)) (option_map g o) ≡ option_map g (cond b (Some v) o)
found_changed true g v o = refl
found_changed false g v o = refl

pub field_changed : (f : Decimal → Decimal) (key : List ℕ) (ms : Pairs) → field_of key (pairs_with f ms) ≡ option_map (with_numbers f) (field_of key ms)
field_changed f key [] = refl
field_changed f key (m ∷ ms) =
    ap (λ (o : Option Value). cond (bytes_eq m.0 key) (Some (with_numbers f m.1)) o) (field_changed f key ms) ∙ found_changed (bytes_eq m.0 key) (with_numbers f) m.1 (field_of key ms)

ruleset looked_up = (field_changed, entries_in_changed, pairs_in_changed, wanted_map, bind_map)

abbrev pub list_with : (Decimal → Decimal) → List Value → List Value
list_with f vs = map (with_numbers f) vs

-- ---- one number

abbrev pub Keeps : (Decimal → Decimal) → Type 0
Keeps f = (d : Decimal) → SaySame (f d) d

abbrev periods_read : Place → Bool → ℕ → Result ℕ Refusal
periods_read place negative n = refused_if (negative || n == 0) 5 place n >>= λ t. refused_if (nat_lt MAX_PERIODS t) 7 place t

many_periods : (place : Place) (negative : Bool) (m n : ℕ) → MAX_PERIODS < m → MAX_PERIODS < n → periods_read place negative m ≡ periods_read place negative n
many_periods place true m n p q = refl
many_periods place false m n p q = rw (not_zero_again m (omega arith), not_zero_again n (omega arith), lt-ltb MAX_PERIODS m p, lt-ltb MAX_PERIODS n q) refl

each_changed : {A B E : Type 0} (read : List A → B → Result A E) (g : B → B) → ((front : List A) (v : B) → read front (g v) ≡ read front v) → (front : List A) (vs : List B) → each_at read front (map g vs) ≡ each_at read front vs
unfolding each_at
each_changed read g e front [] = refl
each_changed read g e front (v ∷ vs) = rw (e front v) (λ i. read front v >>= λ x. each_changed read g e (front ++ x ∷ []) vs i)

module _ (f : Decimal → Decimal) (same : Keeps f) where
  size_kept : (limit : ℕ) (place : Place) (d : Decimal) → limit < PAST_LIMITS → refused_if (nat_lt limit (size_of (f d))) 4 place (scaled (f d)) ≡ refused_if (nat_lt limit (size_of d)) 4 place (scaled d)
  size_kept limit place d low = elim (same d).size [
    | inl e ↦ rw (e, (same d).sign) refl
    | inr past ↦ rw (lt-ltb limit (size_of (f d)) (omega arith), lt-ltb limit (size_of d) (omega arith)) refl
  ]

  wholes_kept : {A : Type 0} (limit : ℕ) → limit < 10 ^ 8 → (code : ℕ) (place : Place) (g : ℕ → A) (d : Decimal)
      → refused_if (is_below_zero (f d) || nat_lt limit (wholes_of (f d))) code place (g (wholes_of (f d))) ≡ refused_if (is_below_zero d || nat_lt limit (wholes_of d)) code place (g (wholes_of d))
  wholes_kept limit low code place g d = elim (same d).size [
    | inl e ↦ rw (e, (same d).sign) refl
    | inr past ↦ rw (lt-ltb limit (wholes_of (f d)) (omega arith), lt-ltb limit (wholes_of d) (omega arith), or-true (is_below_zero (f d)), or-true (is_below_zero d)) refl
  ]

  periods_kept : (place : Place) (d : Decimal) → periods_read place (f d).negative (wholes_of (f d)) ≡ periods_read place d.negative (wholes_of d)
  periods_kept place d = elim (same d).size [
    | inl e ↦ rw (e, (same d).sign) refl
    | inr past ↦ ap (λ (negative : Bool). periods_read place negative (wholes_of (f d))) (same d).sign ∙ many_periods place d.negative (wholes_of (f d)) (wholes_of d) (omega arith) (omega arith)
  ]

  number_at_changed : (exact : Bool) (place : Place) (v : Value) → number_at exact place (with_numbers f v) ≡ map_ok f (number_at exact place v)
  unfolding number_at
  number_at_changed exact place (number d) = rw ((same d).rounded) (sym (refused_map f (exact && is_rounded d) (refusal 8 place) (Ok d)))
  number_at_changed exact place v = refl

  amount_at_changed : (most : ℕ) → most < PAST_LIMITS → (exact : Bool) (place : Place) (v : Value) → amount_at most exact place (with_numbers f v) ≡ amount_at most exact place v
  unfolding amount_at
  amount_at_changed most few exact place v = simp (number_at_changed, bind_map, size_kept)

  power_at_changed : (exact : Bool) (place : Place) (v : Value) → power_at exact place (with_numbers f v) ≡ power_at exact place v
  power_at_changed = amount_at_changed MAX_POWER (omega arith)

  cost_at_changed : (exact : Bool) (place : Place) (v : Value) → cost_at exact place (with_numbers f v) ≡ cost_at exact place v
  cost_at_changed = amount_at_changed MAX_COST (omega arith)

  power_from_changed : (exact : Bool) (place : Place) (least : ℤ) (v : Value) → power_from exact place least (with_numbers f v) ≡ power_from exact place least v
  unfolding power_from
  power_from_changed exact place least v = simp power_at_changed

  whole_at_changed : (exact : Bool) (place : Place) (v : Value) → whole_at exact place (with_numbers f v) ≡ map_ok f (whole_at exact place v)
  unfolding whole_at
  whole_at_changed exact place v = simp (number_at_changed, bind_map, map_bind, refused_map, rest)
    where
      rest : (d : Decimal) → size_of (f d) % MILLION ≡ size_of d % MILLION
      rest d = (same d).rest

  time_at_changed : (exact : Bool) (place : Place) (v : Value) → time_at exact place (with_numbers f v) ≡ time_at exact place v
  unfolding time_at
  time_at_changed exact place v = simp (whole_at_changed, bind_map, wholes_kept MAX_TIME (omega arith) 4 place (λ n. n))

  flag_at_changed : (exact : Bool) (place : Place) (v : Value) → flag_at exact place (with_numbers f v) ≡ flag_at exact place v
  unfolding flag_at
  flag_at_changed exact place v = simp (whole_at_changed, bind_map, wholes_kept 1 (omega arith) 5 place (λ n. n == 1))

  periods_at_changed : (exact : Bool) (place : Place) (v : Value) → periods_at exact place (with_numbers f v) ≡ periods_at exact place v
  unfolding periods_at
  periods_at_changed exact place v = simp (whole_at_changed, bind_map, periods_kept)

  -- arrays and rows
  entries_at_changed : (field : Field) (periods : ℕ) (ms : Pairs) → entries_at field periods (pairs_with f ms) ≡ map_ok (list_with f) (entries_at field periods ms)
  unfolding entries_at
  entries_at_changed field periods ms = simp (looked_up, length-map, take-map, map_bind, refused_map)

  rows_at_changed : (field : Field) (most : ℕ) (ms : Pairs) → rows_at field most (pairs_with f ms) ≡ map_ok (list_with f) (rows_at field most ms)
  unfolding rows_at
  rows_at_changed field most ms = simp (looked_up, length-map, map_bind, refused_map, refused_then)

  powers_at_changed : (exact : Bool) (field : Field) (periods : ℕ) (ms : Pairs) → powers_at exact field periods (pairs_with f ms) ≡ powers_at exact field periods ms
  unfolding powers_at
  powers_at_changed exact field periods ms = simp (entries_at_changed, bind_map, each_changed (power_entry exact field) (with_numbers f) (λ front v. power_at_changed exact (next_entry field front) v))

  maxima_at_changed : (exact : Bool) (periods : ℕ) (minimum : List ℤ) (ms : Pairs) → maxima_at exact periods minimum (pairs_with f ms) ≡ maxima_at exact periods minimum ms
  unfolding maxima_at
  maxima_at_changed exact periods minimum ms = simp (entries_at_changed, bind_map, each_changed (maximum_entry exact minimum) (with_numbers f) (λ front v. power_from_changed exact _ _ v))

  start_row_changed : (exact : Bool) (front : List StartRow) (v : Value) → start_row exact front (with_numbers f v) ≡ start_row exact front v
  unfolding start_row
  start_row_changed exact front v = simp (looked_up, time_at_changed, cost_at_changed)

  point_row_changed : (exact : Bool) (front : List Point) (v : Value) → point_row exact front (with_numbers f v) ≡ point_row exact front v
  unfolding point_row
  point_row_changed exact front v = simp (looked_up, power_from_changed, cost_at_changed)

  -- a thermal unit
  thermal_changed : (exact : Bool) (name : List ℕ) (v : Value) → thermal_at exact name (with_numbers f v) ≡ thermal_at exact name v
  unfolding thermal_at figures_at outputs_at ramps_at times_at initial_at startup_at points_at
  thermal_changed exact name v =
      simp (
        looked_up,
        flag_at_changed,
        power_at_changed,
        power_from_changed,
        time_at_changed,
        rows_at_changed,
        each_changed (start_row exact) (with_numbers f) (start_row_changed exact),
        each_changed (point_row exact) (with_numbers f) (point_row_changed exact),
      )

  -- a renewable unit
  renewable_changed : (exact : Bool) (periods : ℕ) (name : List ℕ) (v : Value) → renewable_at exact periods name (with_numbers f v) ≡ renewable_at exact periods name v
  unfolding renewable_at
  renewable_changed exact periods name v = simp (looked_up, powers_at_changed, maxima_at_changed)

  -- the instance
  units_at_changed : (field : Field) (ms : Pairs) → units_at field (pairs_with f ms) ≡ map_ok (pairs_with f) (units_at field ms)
  unfolding units_at
  units_at_changed field ms = simp (looked_up, length-map, map_bind, refused_map)

  thermal_units_changed : (exact : Bool) (ms : Pairs) → thermal_units_at exact (pairs_with f ms) ≡ thermal_units_at exact ms
  unfolding thermal_units_at
  thermal_units_changed exact ms =
      simp (units_at_changed, in_unit_map, bind_map, each_changed (thermal_member exact) (pair_with f) (λ front m. ap (λ (r : Result Thermal Refusal). in_unit 1 m.0 r) (thermal_changed exact m.0 m.1)))

  renewable_units_changed : (exact : Bool) (periods : ℕ) (ms : Pairs) → renewable_units_at exact periods (pairs_with f ms) ≡ renewable_units_at exact periods ms
  unfolding renewable_units_at
  renewable_units_changed exact periods ms =
      simp (units_at_changed, in_unit_map, bind_map, each_changed (renewable_member exact periods) (pair_with f) (λ front m. ap (λ (r : Result Renewable Refusal). in_unit 2 m.0 r) (renewable_changed exact periods m.0 m.1)))

  totals_changed : (exact : Bool) (ms : Pairs) → totals_at exact (pairs_with f ms) ≡ totals_at exact ms
  unfolding totals_at
  totals_changed exact ms = simp (looked_up, periods_at_changed, powers_at_changed)

  pub instance_changed : (exact : Bool) (v : Value) → instance_at exact (with_numbers f v) ≡ instance_at exact v
  unfolding instance_at
  instance_changed exact v = simp (looked_up, in_unit_map, totals_changed, thermal_units_changed, renewable_units_changed)

-- ---- As many numbers of a value are rounded with each of them changed to one that says the same.
sum_from : {A : Type 0} (g : A → ℕ) (h : A → A) → ((x : A) → g (h x) ≡ g x) → (n : ℕ) (xs : List A) → fold (λ a x. a + g x) n (map h xs) ≡ fold (λ a x. a + g x) n xs
sum_from g h e n [] = refl
sum_from g h e n (x ∷ xs) = ap (λ (m : ℕ). fold (λ a y. a + g y) (n + m) (map h xs)) (e x) ∙ sum_from g h e (n + g x) xs

sum_changed : {A : Type 0} (g : A → ℕ) (h : A → A) → ((x : A) → g (h x) ≡ g x) → (xs : List A) → sum_by g (map h xs) ≡ sum_by g xs
sum_changed g h e xs = sum_from g h e 0 xs

abbrev rounded_found : Option Value → ℕ
rounded_found None = 0
rounded_found (Some v) = rounded_value v

-- the list inside a value, or none
unwrapped : {X : Type 0} (g : X → X) (o : Option (List X)) → unwrap_or (option_map (map g) o) [] ≡ map g (unwrap_or o [])
unwrapped g None = refl
unwrapped g (Some xs) = refl

inside_changed : {X : Type 0} (f : Decimal → Decimal) (look : Value → Option (List X)) (g : X → X) → ((v : Value) → look (with_numbers f v) ≡ option_map (map g) (look v))
    → (o : Option Value) → unwrap_or (option_and_then look (option_map (with_numbers f) o)) [] ≡ map g (unwrap_or (option_and_then look o) [])
inside_changed f look g e None = refl
inside_changed f look g e (Some v) = rw (e v) (unwrapped g (look v))

entries_same : (f : Decimal → Decimal) (field : Field) (ms : Pairs) → entries_field field (pairs_with f ms) ≡ map (with_numbers f) (entries_field field ms)
entries_same f field ms = rw (field_changed f (key_of field) ms) (inside_changed f entries_in (with_numbers f) (entries_in_changed f) (field_of (key_of field) ms))

members_same : (f : Decimal → Decimal) (field : Field) (ms : Pairs) → members_field field (pairs_with f ms) ≡ pairs_with f (members_field field ms)
members_same f field ms = rw (field_changed f (key_of field) ms) (inside_changed f pairs_in (pair_with f) (pairs_in_changed f) (field_of (key_of field) ms))

members_changed : (f : Decimal → Decimal) (v : Value) → members_of_value (with_numbers f v) ≡ pairs_with f (members_of_value v)
members_changed f v = rw (pairs_in_changed f v) (unwrapped (pair_with f) (pairs_in v))

module _ (f : Decimal → Decimal) (same : Keeps f) where
  value_changed : (v : Value) → rounded_value (with_numbers f v) ≡ rounded_value v
  unfolding rounded_value
  value_changed (number d) = rw ((same d).rounded) refl
  value_changed v = refl

  found_same : (o : Option Value) → rounded_found (option_map (with_numbers f) o) ≡ rounded_found o
  found_same None = refl
  found_same (Some v) = value_changed v

  field_same : (field : Field) (ms : Pairs) → rounded_field field (pairs_with f ms) ≡ rounded_field field ms
  unfolding rounded_field
  field_same field ms = ap rounded_found (field_changed f (key_of field) ms) ∙ found_same (field_of (key_of field) ms)

  array_same : (field : Field) (periods : ℕ) (ms : Pairs) → rounded_array field periods (pairs_with f ms) ≡ rounded_array field periods ms
  unfolding rounded_array
  array_same field periods ms = simp (entries_same, take-map, sum_changed rounded_value (with_numbers f) value_changed)

  start_row_same : (v : Value) → rounded_start_row (with_numbers f v) ≡ rounded_start_row v
  unfolding rounded_start_row
  start_row_same v = simp (members_changed, field_same)

  point_same : (v : Value) → rounded_point (with_numbers f v) ≡ rounded_point v
  unfolding rounded_point
  point_same v = simp (members_changed, field_same)

  thermal_same : (v : Value) → rounded_thermal (with_numbers f v) ≡ rounded_thermal v
  unfolding rounded_thermal rounded_figures rounded_outputs rounded_ramps rounded_times rounded_initial rounded_startup rounded_points
  thermal_same v =
      simp (members_changed, field_same, entries_same, sum_changed rounded_start_row (with_numbers f) start_row_same, sum_changed rounded_point (with_numbers f) point_same)

  renewable_same : (periods : ℕ) (v : Value) → rounded_renewable periods (with_numbers f v) ≡ rounded_renewable periods v
  unfolding rounded_renewable
  renewable_same periods v = simp (members_changed, array_same)

  thermal_units_same : (ms : Pairs) → rounded_thermal_units (pairs_with f ms) ≡ rounded_thermal_units ms
  unfolding rounded_thermal_units
  thermal_units_same ms = simp (members_same, sum_changed (λ (m : List ℕ × Value). rounded_thermal m.1) (pair_with f) (λ m. thermal_same m.1))

  renewable_units_same : (periods : ℕ) (ms : Pairs) → rounded_renewable_units periods (pairs_with f ms) ≡ rounded_renewable_units periods ms
  unfolding rounded_renewable_units
  renewable_units_same periods ms = simp (members_same, sum_changed (λ (m : List ℕ × Value). rounded_renewable periods m.1) (pair_with f) (λ m. renewable_same periods m.1))

  pub rounded_changed : (periods : ℕ) (v : Value) → rounded_instance periods (with_numbers f v) ≡ rounded_instance periods v
  unfolding rounded_instance rounded_totals
  rounded_changed periods v = simp (members_changed, field_same, array_same, thermal_units_same, renewable_units_same)

-- ---- A value whose exponents are held is the same instance as the value as it is written.
-- a short number with its exponent held, and any other as it is
held_if_short : Decimal → Decimal
held_if_short d = cond (nat_le (length d.digits) MOST_DIGITS) (held_decimal d) d

keeps : Keeps held_if_short
unfolding held_if_short
keeps d = elim (cases_lt MOST_DIGITS (length d.digits)) [
  | inl more ↦ rw (lt-leb (length d.digits) MOST_DIGITS more) (itself d)
  | inr few ↦ rw (le-leb (length d.digits) MOST_DIGITS few) (held_says_same d few)
]

short_is : (d : Decimal) → IsShort d → held_if_short d ≡ held_decimal d
unfolding held_if_short
short_is d few = rw (le-leb (length d.digits) MOST_DIGITS few) refl

mutual
  short_values : (v : Value) → AllNumbers IsShort v → with_numbers held_if_short v ≡ with_numbers held_decimal v
  short_values (number d) few = ap (λ (x : Decimal). number x) (short_is d few)
  short_values (array vs) few = ap (λ (x : Items). array x) (short_items vs few)
  short_values (object ms) few = ap (λ (x : Members). object x) (short_members ms few)
  short_values _ few = refl

  short_items : (vs : Items) → AllItems IsShort vs → items_with held_if_short vs ≡ items_with held_decimal vs
  short_items no_items few = refl
  short_items (item v vs) few = rw (short_values v few.0, short_items vs few.1) refl

  short_members : (ms : Members) → AllMembers IsShort ms → members_with held_if_short ms ≡ members_with held_decimal ms
  short_members no_members few = refl
  short_members (member key v ms) few = rw (short_values v few.0, short_members ms few.1) refl

pub held_instance : (exact : Bool) (v : Value) → AllNumbers IsShort v → instance_at exact (with_numbers held_decimal v) ≡ instance_at exact v
held_instance exact v few = ap (λ (x : Value). instance_at exact x) (sym (short_values v few)) ∙ instance_changed held_if_short keeps exact v

pub held_rounded : (periods : ℕ) (v : Value) → AllNumbers IsShort v → rounded_instance periods (with_numbers held_decimal v) ≡ rounded_instance periods v
held_rounded periods v few = ap (λ (x : Value). rounded_instance periods x) (sym (short_values v few)) ∙ rounded_changed held_if_short keeps periods v

pub held_is : (exact : Bool) (v : Value) (i : Instance) → AllNumbers IsShort v → IsInstanceOf exact (with_numbers held_decimal v) i → IsInstanceOf exact v i
held_is exact v i few h = instance_is exact v i (sym (held_instance exact v few) ∙ instance_again exact (with_numbers held_decimal v) i h)

pub held_again : (exact : Bool) (v : Value) (i : Instance) → AllNumbers IsShort v → IsInstanceOf exact v i → IsInstanceOf exact (with_numbers held_decimal v) i
held_again exact v i few h = instance_is exact (with_numbers held_decimal v) i (held_instance exact v few ∙ instance_again exact v i h)
