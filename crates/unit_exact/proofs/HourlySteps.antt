-- What is given hour by hour, from the first hour to the last one, and as a schedule.
use Rattle.std.proofs.Common.{◌≡◌, ℕ, zero, suc, ◌*◌, ◌<◌, ◌≤◌, ◌==◌, ⊎_elim, Bool, true, false, true≢false, refl, sym, ap, subst, ◌∙◌, arith, ℤ, pos, negsuc, ◌+ℤ◌, ◌-ℤ◌, ◌*ℤ◌, ◌≤ℤ◌, ◌<ℤ◌, unsigned_abs, Option, Some, None, eq-eqb, ne_eqb, if◌then◌else◌}
use Rattle.std.specs.Int.{int_max}
use Rattle.std.proofs.lemmas.Int.{ints, clamps}
use Rattle.std.proofs.lemmas.Bool.{cases_Bool, cond-true, cond-false}
use Rattle.uc_model.specs.Prelude.{Commitment, starts, cap, start_cap, stop_cap, initial_p, cell_cap, IsLawfulThermal, thermal_unit, last_stop, sigma, term_at}
use Rattle.uc_model.specs.declared.terms.Terms.{Terms}
use Rattle.uc_model.proofs.Common.{abs_is, linear, mul-add, one-mul, sub-mul, zero-mul, below_or_last, sum_below-le}
use Rattle.dual_model.specs.Prelude.{UnitSchedule, IsUnitScheduleAt, exact_cell_value, exact_period_value, greatest_output, output_before as schedule_output_before, IsPatternAt, is_followed, pi_at, mu_at, AreTermsOf, IsCellTerm, IsTerm, output_price, reserve_price, period_value}
use Rattle.dual_model.specs.ExactValue.{floored_cost}
use Rattle.dual_model.proofs.CellCaps.{cell_cap-cap}
use Rattle.step_functions.specs.Functions.{value_at}
use Rattle.hull_function.specs.Hours.{IsHourAt, IsSizedHour}
use Rattle.hull_function.specs.Hulls.{IsHull, Steps}
use Rattle.hull_function.specs.Problems.{MAX_POWER}
use Rattle.hull_function.specs.declared.hour.Hour.{Hour}
use Rattle.unit_runs.specs.Patterns.{Instance, Node}
use Rattle.unit_runs.specs.Runs.{Table, Thermal, KeepsRamps, entry_output}
use Rattle.unit_runs.proofs.Cells.{IsIdleOff, cap-start, cap-stop, off-at}
use Rattle.unit_exact.specs.Hourly.{HasScheduleWithin}
use Rattle.unit_exact.specs.inside.Hourly.{Given, IsBestIn, IsGivenAt, IsHourlyAt, IsHourlyTo, IsHourly, output_before}

-- ---- hour by hour
pub hourly-none : (periods : ℕ) (table : Table) (unit : Thermal) (terms : Terms) (on : Commitment) (before : ℤ) → before ≡ entry_output unit 0
    → IsHourlyTo periods table unit terms on 0 before
hourly-none periods table unit terms on before is = record {
  given = λ t. record { output = pos 0; reserve = pos 0 };
  each = λ k h. absurd (omega arith);
  last = is;
}

-- an hour more
with_hour : (ℕ → Given) → ℕ → Given → ℕ → Given
with_hour given t new k = if k == t then new else given k

with_hour-same : (given : ℕ → Given) (t : ℕ) (new : Given) → with_hour given t new t ≡ new
unfolding with_hour
with_hour-same given t new = cond-true (t == t) new (given t) (eq-eqb t t refl)

with_hour-before : (given : ℕ → Given) (t : ℕ) (new : Given) (k : ℕ) → k < t → with_hour given t new k ≡ given k
unfolding with_hour
with_hour-before given t new k h = cond-false (k == t) new (given k) (ne_eqb k t (λ e. omega arith))

output-same : (unit : Thermal) (given : ℕ → Given) (t : ℕ) (new : Given) (k : ℕ) → k ≤ t
    → output_before unit (with_hour given t new) k ≡ output_before unit given k
output-same unit given t new zero h = refl
output-same unit given t new (suc k) h = ap (λ (g : Given). g.output) (with_hour-before given t new k (omega arith))

pub hourly-more : (periods : ℕ) (table : Table) (unit : Thermal) (terms : Terms) (on : Commitment) (t : ℕ) (before : ℤ) (new : Given)
    → IsHourlyTo periods table unit terms on t before → IsGivenAt periods table unit terms on t new → KeepsRamps unit before new.output new.reserve
    → IsHourlyTo periods table unit terms on (suc t) new.output
hourly-more periods table unit terms on t before new so_far is ramps =
    let given = so_far.given in
    let same = with_hour-same given t new in
    record {
      given = with_hour given t new;
      each = λ k h. ⊎_elim
          (λ (earlier : k < t).
          let own = so_far.each k earlier in
          let here = with_hour-before given t new k earlier in
          record {
            is = subst (IsGivenAt periods table unit terms on k) (sym here) own.is;
            ramps = grind (arith, ints, with_hour, output-same, unit, given, t, new, k, here, own);
          })
          (λ (last : k ≡ t).
          subst (IsHourlyAt periods table unit terms on (with_hour given t new)) (sym last)
          (record {
            is = subst (IsGivenAt periods table unit terms on t) (sym same) is;
            ramps = grind (arith, ints, with_hour, output-same, unit, given, t, new, same, so_far, ramps);
          }))
          (below_or_last t k h);
      last = sym (ap (λ (g : Given). g.output) same);
    }

-- ---- one hour
-- what reserve earns at its price: nothing is taken where that isn't above 0
earns : (mu worth reserve : ℤ) → worth ≡ int_max mu (pos 0) → (worth ≡ pos 0 → reserve ≡ pos 0) → mu *ℤ reserve ≡ worth *ℤ reserve
earns (pos n) worth reserve is none = let same : pos n ≡ worth = omega (arith, ints, clamps) in ap (λ z. z *ℤ reserve) same
earns (negsuc n) worth reserve is none = grind (arith, ints, is, none)

-- and all of the cap earns as much
all-earned : (worth taken limit : ℤ) → pos 0 ≤ℤ worth → (pos 0 <ℤ worth → taken ≡ limit) → worth *ℤ taken ≡ worth *ℤ limit
all-earned (pos zero) taken limit low all = zero-mul taken ∙ sym (zero-mul limit)
all-earned (pos (suc n)) taken limit low all = ap (λ z. pos (suc n) *ℤ z) (all (omega (arith, ints)))
all-earned (negsuc n) taken limit low all = absurd (omega (arith, ints))

pub best-given : (periods : ℕ) (table : Table) (unit : Thermal) (terms : Terms) (on : Commitment) (t : ℕ) (hull : Steps) (hour : Hour) (term : ℤ) (given : Given)
    → on t ≡ true → IsHull unit.points table.k hull → IsHourAt table unit t hour → IsSizedHour hour → hour.cap ≡ cell_cap periods unit t (starts unit on t) (is_followed periods unit on t)
    → term_at terms t (starts unit on t) (is_followed periods unit on t) ≡ Some term → IsBestIn hull hour term given → IsGivenAt periods table unit terms on t given
best-given periods table unit terms on t hull hour term given here is_hull at sized cap_is term_is best =
    let first = is_hull.first in
    let last = is_hull.last in
    let low = best.place.low in
    let high = best.place.high in
    let begins : pos 0 ≤ℤ given.output = omega (arith, linear, first, low) in
    let wide : given.output ≤ℤ greatest_output unit.points = omega (arith, linear, last, high) in
    let cap_there = cap_is ∙ cell_cap-cap periods unit on t here in
    let within = best.cap in
    record {
      output = begins;
      reserve = best.reserve;
      width = wide;
      small = small_of (given.output +ℤ given.reserve) hour.cap within sized.cap;
      off = λ off. absurd (true≢false (sym here ∙ off));
      cap = λ now. omega (arith, linear, within, cap_there);
      cost = λ now m is.
          let own : pos (unsigned_abs given.output) ≡ given.output = abs_is given.output begins in
          let read = is_hull.value (unsigned_abs given.output) (omega (arith, linear, own, wide)) in
          let same : m ≡ term = some_same m term (sym is ∙ term_is) in
          cost_of (value_at hull given.output) (floored_cost unit.points table.k 1 (unsigned_abs given.output)) m given.output given.reserve
          (pi_at table t) (mu_at table t) unit.pmin hour.worth hour.price hour.cap (ap (value_at hull) (sym own) ∙ read) same at.worth
          (at.price ∙ (λ i. sym at.worth i -ℤ pi_at table t)) sized.worth.0
          best.none best.all best.cost;
    }
  where
    small_of : (taken limit : ℤ) → taken ≤ℤ limit → unsigned_abs limit ≤ MAX_POWER → taken ≤ℤ pos (2 * MAX_POWER)
    small_of taken limit h k = omega (arith, ints)

    some_same : (m n : ℤ) → Some m ≡ Some n → m ≡ n
    some_same m n e = cc

    cost_of : (value floored m p r pi mu minimum worth price limit : ℤ) → value ≡ floored → m ≡ term → worth ≡ int_max mu (pos 0) → price ≡ worth -ℤ pi
        → pos 0 ≤ℤ worth → (worth ≡ pos 0 → r ≡ pos 0) → (pos 0 <ℤ worth → p +ℤ r ≡ limit) → (value +ℤ price *ℤ p -ℤ worth *ℤ limit) ≤ℤ term
        → (floored -ℤ pi *ℤ (p +ℤ minimum) -ℤ mu *ℤ r) ≤ℤ (m -ℤ pi *ℤ minimum)
    cost_of value floored m p r pi mu minimum worth price limit same e worth_is price_is sign none all most =
        let reserve = earns mu worth r worth_is none in
        let taken = all-earned worth (p +ℤ r) limit sign all in
        let parts = mul-add worth p r in
        let paid = mul-add pi p minimum in
        let net : price *ℤ p ≡ worth *ℤ p -ℤ pi *ℤ p = ap (λ z. z *ℤ p) price_is ∙ sub-mul worth pi p in
        omega (arith, linear)

-- ---- as a schedule
module _ (instance : Instance) (node : Node) (table : Table) (g : ℕ) (terms : Terms) (on : Commitment) (lawful : IsLawfulThermal (thermal_unit instance g))
    (are : AreTermsOf instance table g terms) (pattern : IsPatternAt instance node g on)
    (hourly : IsHourly instance.periods table (thermal_unit instance g) terms on) (wide : pos 0 ≤ℤ greatest_output (thermal_unit instance g).points) where
  abbrev unit : Thermal
  unit = thermal_unit instance g

  abbrev periods : ℕ
  periods = instance.periods

  abbrev given : ℕ → Given
  given = hourly.given

  abbrev own : UnitSchedule
  own = record { on = on; p = λ t. unsigned_abs (given t).output; r = λ t. unsigned_abs (given t).reserve }

  p-is : (t : ℕ) → t < periods → pos (own.p t) ≡ (given t).output
  p-is t h = abs_is (given t).output (hourly.each t h).is.output

  r-is : (t : ℕ) → t < periods → pos (own.r t) ≡ (given t).reserve
  r-is t h = abs_is (given t).reserve (hourly.each t h).is.reserve

  before-is : (t : ℕ) → t < periods → schedule_output_before 1 unit own t ≡ output_before unit given t
  before-is zero h = one-mul (initial_p unit)
  before-is (suc t) h = p-is t (omega arith)

  idle : IsIdleOff periods own
  idle = record {
    p = λ t h off. nothing (given t).output ((hourly.each t h).is.off off).0;
    r = λ t h off. nothing (given t).reserve ((hourly.each t h).is.off off).1;
  }
    where
      nothing : (z : ℤ) → z ≡ pos 0 → unsigned_abs z ≡ 0
      nothing z e = ap unsigned_abs e

  rules-on : (t : ℕ) → t < periods → on t ≡ true → IsUnitScheduleAt periods 1 unit own t
  rules-on t h here =
      let at = hourly.each t h in
      let p = p-is t h in
      let r = r-is t h in
      let before = before-is t h in
      let wide_here = at.is.width in
      let one_width = one-mul (greatest_output unit.points) in
      let one_start = one-mul (start_cap unit on t) in
      let one_stop = one-mul (stop_cap unit on t) in
      let fits = at.is.cap here in
      let whole : (pos (own.p t) +ℤ pos (own.r t)) ≤ℤ cap periods unit on t = omega (arith, linear, p, r, fits) in
      let up = at.ramps.up in
      let down = at.ramps.down in
      let one_up = one-mul unit.ru in
      let one_down = one-mul unit.rd in
      record {
        off = λ off. absurd (true≢false (sym here ∙ off));
        width = omega (arith, linear, p, wide_here, one_width);
        start_cap = let most = cap-start periods unit on t _ whole in omega (arith, linear, most, one_start);
        stop_cap = λ within. let most = cap-stop periods unit on t _ whole within in omega (arith, linear, most, one_stop);
        ramp_up = omega (arith, linear, p, r, before, up, one_up);
        ramp_down = omega (arith, linear, p, before, down, one_down);
      }

  rules-off : (t : ℕ) → t < periods → on t ≡ false → IsUnitScheduleAt periods 1 unit own t
  rules-off t h off =
      let at = hourly.each t h in
      let none = at.is.off off in
      let before = before-is t h in
      let up = at.ramps.up in
      let down = at.ramps.down in
      off-at periods unit own t idle h off wide
      (record { up = omega (arith, linear, none.0, none.1, before, up); down = omega (arith, linear, none.0, before, down) })

  rules : (t : ℕ) → t < periods → IsUnitScheduleAt periods 1 unit own t
  rules t h = ⊎_elim (λ (here : on t ≡ true). rules-on t h here) (λ (off : on t ≡ false). rules-off t h off) (cases_Bool (on t))

  -- ---- its value
  cell-is : (t : ℕ) → t < periods
      → exact_cell_value table 1 unit own t
      ≡ floored_cost unit.points table.k 1 (unsigned_abs (given t).output) -ℤ pi_at table t *ℤ ((given t).output +ℤ unit.pmin) -ℤ mu_at table t *ℤ (given t).reserve
  cell-is t h =
      λ i. floored_cost unit.points table.k 1 (unsigned_abs (given t).output) -ℤ pi_at table t *ℤ (p-is t h i +ℤ one-mul unit.pmin i) -ℤ mu_at table t *ℤ r-is t h i

  -- the term is there, and is what the terms say
  term-at : (t : ℕ) (term : ℤ) (o : Option ℤ) (a b c : ℤ) → IsTerm unit.points table.k a b c term → IsCellTerm unit.points table.k a b c o
      → (m : ℤ) × (o ≡ Some m) × (m ≤ℤ term)
  term-at t term None a b c is none = absurd (let low = is.reachable in omega (arith, linear, none, low))
  term-at t term (Some m) a b c is at = (m, refl, is.greatest m at.bound)

  cell-within : (t : ℕ) (term : ℤ) → t < periods → on t ≡ true → IsTerm unit.points table.k (output_price table g t) (reserve_price table g t) (cap periods unit on t) term
      → exact_cell_value table 1 unit own t ≤ℤ (term -ℤ pi_at table t *ℤ unit.pmin)
  cell-within t term h here is =
      let start = starts unit on t in
      let stop = is_followed periods unit on t in
      let at = subst (λ c. IsCellTerm unit.points table.k (output_price table g t) (reserve_price table g t) c (term_at terms t start stop))
      (cell_cap-cap periods unit on t here) (are.term t start stop h) in
      let found = term-at t term (term_at terms t start stop) _ _ _ is at in
      let most = (hourly.each t h).is.cost here found.0 found.1 in
      let value = cell-is t h in
      let less = found.2 in
      omega (arith, linear, most, value, less)

  period-within : (t : ℕ) (term : ℕ → ℤ) → t < periods
      → (on t ≡ true → IsTerm unit.points table.k (output_price table g t) (reserve_price table g t) (cap periods unit on t) (term t))
      → exact_period_value table 1 unit own t ≤ℤ period_value table unit on term t
  period-within t term h is =
      let one = one-mul (table.k *ℤ sigma unit (last_stop unit on t) t) in
      more (on t) (starts unit on t) _ _ _ _ one (λ here. cell-within t (term t) h here (is here))
    where
      more : (b s : Bool) (x y c d : ℤ) → c ≡ d → (b ≡ true → x ≤ℤ y)
          → ((if b then x else pos 0) +ℤ (if s then c else pos 0)) ≤ℤ ((if b then y else pos 0) +ℤ (if s then d else pos 0))
      more true true x y c d e h = let less = h refl in omega (arith, linear, less, e)
      more true false x y c d e h = let less = h refl in omega (arith, linear, less)
      more false true x y c d e h = omega (arith, linear, e)
      more false false x y c d e h = omega (arith, ints)

  pub hourly-within : HasScheduleWithin instance node table g on
  hourly-within = record {
    x = own;
    is_schedule = record { denominator = omega arith; pattern = pattern; each = rules };
    within = λ v is.
        let less = sum_below-le periods (exact_period_value table 1 unit own) (period_value table unit on is.term)
        (λ t h. period-within t is.term h (λ here. is.terms t h here)) in
        let total = is.total in
        omega (arith, linear, less, total);
  }
