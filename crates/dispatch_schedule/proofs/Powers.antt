-- The powers of a cheapest basis: what its values make of each, and that each stays small over a denominator up to 99.
-- Cite by `use Rattle.dispatch_schedule.proofs.Powers.{numerator_scaled, sum_scaled, power_high, renewable_high, sum_high, amount_high}`.
use Rattle.std.proofs.Common.{◌≡◌, ℕ, ◌<◌, ◌==◌, ◌&&◌, nat_lt, Bool, true, false, ⊎_elim, refl, sym, ap, ◌∙◌, arith, length, ℤ, pos, negsuc, ◌+ℤ◌, ◌-ℤ◌, ◌*ℤ◌, ◌≤ℤ◌, ◌<ℤ◌, unsigned_abs, int_div}
use Rattle.std.specs.Int.{◌∣◌, int_max}
use Rattle.std.proofs.lemmas.Bool.{cases_Bool, eq-eqb}
use Rattle.std.proofs.lemmas.List.Elements.{All-get_or}
use Rattle.std.proofs.lemmas.Int.{ints}
use Rattle.uc_model.specs.Prelude.{bit, Commitment, start_cap, start_reduction, starts, IsLawfulInstance, IsLawfulThermal, IsPower, thermal_unit, renewable_count, renewable_minimum, renewable_maximum, demand_at, reserve_at, most_shed, most_short}
use Rattle.uc_model.specs.declared.limits.TheConstants.{MAX_POWER}
use Rattle.uc_model.specs.declared.instance.Thermal.{Thermal}
use Rattle.uc_model.proofs.Common.{linear, mul_comm, mul_assoc, mul_left_comm, mul_nonneg, mul-zero, mul-one, one-mul, mul-add, mul-le-mul_left, le_from_mul, le_trans, sum_below-same, sum_below-mul_left, sum_below_nonneg, term-le-sum_below}
use Rattle.fractions.proofs.Divided.{times}
use Rattle.pivot_run.specs.Prelude.{Table}
use Rattle.dispatch_program.specs.Prelude.{IsReached, AreShares, basis_values, IsCheapest, AreValues}
use Rattle.dispatch_program.proofs.LastTables.{bases_give_values}
use Rattle.dispatch_rules.specs.declared.amount.Amount.{Amount}
use Rattle.dispatch_rules.specs.declared.amount.Amount.TheVariants.{Length, Held, Given, Shed, Short}
use Rattle.dispatch_rules.specs.Prelude.{Task, amounts, amount_at, low_at, program, IsTask, IsDispatch, sum_of, one_if, output_in, held_in, given_in, shed_in, short_in}
use Rattle.dispatch_rules.proofs.NodeBounds.{max_nonneg}
use Rattle.dispatch_rules.proofs.Primals.{Fits, amounts-fit, values_dispatch_is}
use Rattle.dispatch_schedule.specs.ColumnValues.{column_value}
use Rattle.dispatch_schedule.specs.inside.Chosen.{Power, IsPowerOf, numerator_over, power_in}
use Rattle.dispatch_schedule.specs.declared.power.Power.TheVariants.{Output, Reserve, Renewable, Unserved, Missing}
use Rattle.dispatch_schedule.proofs.ColumnValues.{value_positive, value_ratio}
use Rattle.dispatch_schedule.proofs.Totals.{power_nonneg}

-- ---- a divisor above 0
pub over_times : (z d : ℤ) → pos 0 <ℤ d → unsigned_abs d ∣ unsigned_abs z → int_div z d *ℤ d ≡ z
over_times z (pos n) h divides = times n z (omega (arith, ints)) divides
over_times z (negsuc n) h divides = absurd (omega (arith, ints))

-- a value's numerator over a multiple of its denominator
scaled_over : (d v den num D q : ℤ) → v *ℤ den ≡ num *ℤ d → q *ℤ den ≡ D → d *ℤ (num *ℤ q) ≡ D *ℤ v
scaled_over d v den num D q ratio over =
    mul_left_comm d num q ∙ sym (mul_assoc num d q) ∙ ap (λ z. z *ℤ q) (sym ratio) ∙ mul_assoc v den q
    ∙ ap (λ z. v *ℤ z) (mul_comm den q ∙ over) ∙ mul_comm v D

-- ---- limits
cap-le : (full reduction : ℤ) (on start : Bool) → pos 0 ≤ℤ full → pos 0 ≤ℤ reduction → (full *ℤ bit on -ℤ reduction *ℤ bit start) ≤ℤ full
cap-le full reduction true true h r = let a = mul-one full in let b = mul-one reduction in omega (arith, linear)
cap-le full reduction true false h r = let a = mul-one full in let b = mul-zero reduction in omega (arith, linear)
cap-le full reduction false true h r = let a = mul-zero full in let b = mul-one reduction in omega (arith, linear)
cap-le full reduction false false h r = let a = mul-zero full in let b = mul-zero reduction in omega (arith, linear)

abbrev most : ℤ
most = pos MAX_POWER

power-le : (z : ℤ) → IsPower z → z ≤ℤ most
power-le z h = omega (arith, ints)

start_cap-le : (unit : Thermal) (on : Commitment) (t : ℕ) → IsLawfulThermal unit → start_cap unit on t ≤ℤ most
start_cap-le unit on t lawful =
    let low = lawful.minimum.low in
    let range = lawful.range in
    let high = power-le unit.pmax lawful.maximum.power in
    let within = cap-le (unit.pmax -ℤ unit.pmin) (start_reduction unit) (on t) (starts unit on t) (omega (arith, linear)) (max_nonneg (unit.pmax -ℤ unit.su)) in
    omega (arith, linear)

max-le : (z : ℤ) → IsPower z → int_max z (pos 0) ≤ℤ most
max-le z h = grind (arith, ints)

-- ---- an amount's own power
abbrev pub own_power : Amount → Power
own_power (Length g t k) = Output g t
own_power (Held g t) = Reserve g t
own_power (Given w t) = Renewable w t
own_power (Shed t) = Unserved t
own_power (Short t) = Missing t

same_bit : (a b : ℕ) → one_if ((a == a) && (b == b)) ≡ pos 1
same_bit a b = (λ i. one_if (eq-eqb a a refl i && eq-eqb b b refl i))

pub in_own : (x : Amount) → power_in (own_power x) x ≡ pos 1
in_own (Length g t k) = same_bit g t
in_own (Held g t) = same_bit g t
in_own (Given w t) = same_bit w t
in_own (Shed t) = ap one_if (eq-eqb t t refl)
in_own (Short t) = ap one_if (eq-eqb t t refl)

pub own_fits : (task : Task) (x : Amount) → Fits task x → IsPowerOf task.instance (own_power x)
own_fits task (Length g t k) fits = (fits.0, fits.3)
own_fits task (Held g t) fits = (fits.0, fits.2)
own_fits task (Given w t) fits = fits
own_fits task (Shed t) fits = fits.1
own_fits task (Short t) fits = fits.1

module _ (task : Task) (t : Table) (lawful : IsLawfulInstance task.instance) (is : IsTask task) (reached : IsReached (program task) t)
    (cheapest : IsCheapest (program task) t) (d : ℤ) (share : ℕ → ℤ) (are : AreShares t d share) where
  abbrev v : ℕ → ℤ
  v = basis_values (program task) t d share

  pub values : AreValues (program task) d v
  values = (bases_give_values (program task) t d share reached cheapest.0 are).0

  pub dispatch : IsDispatch task d v
  dispatch = values_dispatch_is task d v is.periods values

  up_to : (x c : ℤ) → x ≤ℤ (d *ℤ c) → c ≤ℤ most → x ≤ℤ (d *ℤ most)
  up_to x c h l = let positive = are.denominator in le_trans x (d *ℤ c) (d *ℤ most) h (mul-le-mul_left d c most (omega (arith, linear)) l)

  nothing_high : (x : ℤ) → x ≡ pos 0 → x ≤ℤ (d *ℤ most)
  nothing_high x e = let positive = are.denominator in let some = mul_nonneg d most (omega (arith, linear)) (omega (arith, linear)) in omega (arith, linear)

  pub power_high : (power : Power) → IsPowerOf task.instance power → sum_of task v (power_in power) ≤ℤ (d *ℤ most)
  power_high (Output g s) h =
      let both = dispatch.start g s h.0 h.1 in
      let reserve = dispatch.reserve_low g s in
      up_to (sum_of task v (output_in g s)) (start_cap (thermal_unit task.instance g) (task.on g) s) (omega (arith, linear))
      (start_cap-le (thermal_unit task.instance g) (task.on g) s (lawful.thermal g h.0))
  power_high (Reserve g s) h =
      let both = dispatch.start g s h.0 h.1 in
      let output = sum_below_nonneg (length (amounts task)) (λ c. output_in g s (amount_at task c) *ℤ v c)
      (λ c l. mul_nonneg (output_in g s (amount_at task c)) (v c) (power_nonneg (Output g s) (amount_at task c)) (values.unknown c l)) in
      up_to (sum_of task v (held_in g s)) (start_cap (thermal_unit task.instance g) (task.on g) s) (omega (arith, linear))
      (start_cap-le (thermal_unit task.instance g) (task.on g) s (lawful.thermal g h.0))
  power_high (Renewable w s) h =
      let both = dispatch.renewable_high w s h.0 h.1 in
      let positive = are.denominator in
      let low = mul_nonneg d (low_at task w s) (omega (arith, linear)) (max_nonneg (renewable_minimum task.instance w s)) in
      up_to (sum_of task v (given_in w s)) (renewable_maximum task.instance w s) (omega (arith, linear))
      (power-le (renewable_maximum task.instance w s) ((lawful.renewable w h.0).maximum s h.1))
  power_high (Unserved s) h = ⊎_elim
      (λ (priced : nat_lt 0 task.instance.a ≡ true). up_to (sum_of task v (shed_in s)) (most_shed task.instance s) (dispatch.shed_high s h priced)
      (max-le (demand_at task.instance s) (All-get_or IsPower task.instance.demand s (pos 0) (let size = lawful.demand_length in omega arith) lawful.demand)))
      (λ (free : nat_lt 0 task.instance.a ≡ false). nothing_high (sum_of task v (shed_in s)) (dispatch.no_shed s free))
      (cases_Bool (nat_lt 0 task.instance.a))
  power_high (Missing s) h = ⊎_elim
      (λ (priced : nat_lt 0 task.instance.b ≡ true). up_to (sum_of task v (short_in s)) (most_short task.instance s) (dispatch.short_high s h priced)
      (max-le (reserve_at task.instance s) (All-get_or IsPower task.instance.reserves s (pos 0) (let size = lawful.reserves_length in omega arith) lawful.reserves)))
      (λ (free : nat_lt 0 task.instance.b ≡ false). nothing_high (sum_of task v (short_in s)) (dispatch.no_short s free))
      (cases_Bool (nat_lt 0 task.instance.b))

  -- ---- in numerators over a multiple of the values' denominators
  module _ (over : ℤ) (positive : pos 0 <ℤ over)
      (divides : (c : ℕ) → c < length (amounts task) → unsigned_abs (column_value t c).denominator ∣ unsigned_abs over) where
    abbrev pub numerator : ℕ → ℤ
    numerator c = numerator_over over (column_value t c)

    times_is : (c : ℕ) → c < length (amounts task) → int_div over (column_value t c).denominator *ℤ (column_value t c).denominator ≡ over
    times_is c h = over_times over (column_value t c).denominator (value_positive (program task) t reached c) (divides c h)

    pub numerator_scaled : (c : ℕ) → c < length (amounts task) → d *ℤ numerator c ≡ over *ℤ v c
    numerator_scaled c h =
        scaled_over d (v c) (column_value t c).denominator (column_value t c).numerator over (int_div over (column_value t c).denominator)
        (value_ratio (program task) t reached d share are c h) (times_is c h)

    pub sum_scaled : (f : Amount → ℤ) → d *ℤ sum_of task numerator f ≡ over *ℤ sum_of task v f
    sum_scaled f =
        let count = length (amounts task) in
        sym (sum_below-mul_left (length (amounts task)) d (λ c. f (amount_at task c) *ℤ numerator c))
        ∙ sum_below-same (length (amounts task)) (λ c. d *ℤ (f (amount_at task c) *ℤ numerator c)) (λ c. over *ℤ (f (amount_at task c) *ℤ v c))
        (λ c h. mul_left_comm d (f (amount_at task c)) (numerator c) ∙ ap (λ z. f (amount_at task c) *ℤ z) (numerator_scaled c h) ∙ mul_left_comm (f (amount_at task c)) over (v c))
        ∙ sum_below-mul_left (length (amounts task)) over (λ c. f (amount_at task c) *ℤ v c)

    from_scaled : (x y : ℤ) → d *ℤ x ≡ over *ℤ y → y ≤ℤ (d *ℤ most) → x ≤ℤ (over *ℤ most)
    from_scaled x y e h =
        le_from_mul d x (over *ℤ most) are.denominator
        (let high = mul-le-mul_left over y (d *ℤ most) (omega (arith, linear)) h in let order = mul_left_comm d over most in omega (arith, linear))

    pub sum_high : (power : Power) → IsPowerOf task.instance power → sum_of task numerator (power_in power) ≤ℤ (over *ℤ most)
    sum_high power h = from_scaled (sum_of task numerator (power_in power)) (sum_of task v (power_in power)) (sum_scaled (power_in power)) (power_high power h)

    pub renewable_high : (w s : ℕ) → w < renewable_count task.instance → s < task.instance.periods
        → (sum_of task numerator (given_in w s) +ℤ over *ℤ low_at task w s) ≤ℤ (over *ℤ most)
    renewable_high w s hw hs =
        from_scaled (sum_of task numerator (given_in w s) +ℤ over *ℤ low_at task w s) (sum_of task v (given_in w s) +ℤ d *ℤ low_at task w s)
        (let first = sum_scaled (given_in w s) in
        let outer = mul-add d (sum_of task numerator (given_in w s)) (over *ℤ low_at task w s) in
        let inner = mul-add over (sum_of task v (given_in w s)) (d *ℤ low_at task w s) in
        let order = mul_left_comm d over (low_at task w s) in
        omega (arith, linear))
        (up_to (sum_of task v (given_in w s) +ℤ d *ℤ low_at task w s) (renewable_maximum task.instance w s) (dispatch.renewable_high w s hw hs)
        (power-le (renewable_maximum task.instance w s) ((lawful.renewable w hw).maximum s hs)))

    pub numerator_low : (c : ℕ) → c < length (amounts task) → pos 0 ≤ℤ numerator c
    numerator_low c h =
        le_from_mul d (pos 0) (numerator c) are.denominator
        (let e = numerator_scaled c h in let some = mul_nonneg over (v c) (omega (arith, linear)) (values.unknown c h) in let none = mul-zero d in omega (arith, linear))

    -- an amount is no more than its power
    pub amount_high : (c : ℕ) → c < length (amounts task) → numerator c ≤ℤ (over *ℤ most)
    amount_high c h =
        let x = amount_at task c in
        let term = term-le-sum_below (length (amounts task)) (λ k. power_in (own_power (amount_at task c)) (amount_at task k) *ℤ numerator k) c h
        (λ k l. mul_nonneg (power_in (own_power (amount_at task c)) (amount_at task k)) (numerator k) (power_nonneg (own_power (amount_at task c)) (amount_at task k)) (numerator_low k l)) in
        let one : power_in (own_power (amount_at task c)) (amount_at task c) *ℤ numerator c ≡ numerator c = ap (λ z. z *ℤ numerator c) (in_own (amount_at task c)) ∙ one-mul (numerator c) in
        let high = sum_high (own_power (amount_at task c)) (own_fits task (amount_at task c) (amounts-fit task c (Shed 0) h)) in
        omega (arith, linear)
