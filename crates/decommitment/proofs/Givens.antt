-- The sums of amounts stay sums where an amount is set, and sums of parts where parts are exchanged.
-- Cite by `use Rattle.decommitment.proofs.Givens.{given_set}`.
use Rattle.std.proofs.Common.{◌≡◌, ◌≢◌, ℕ, ◌+◌, ◌-◌, ◌*◌, ◌<◌, ◌≤◌, ⊎_elim, Bool, true, false, sym, subst, ◌∙◌, arith, List, length, ℤ, pos, ◌+ℤ◌, ◌-ℤ◌, unsigned_abs, slice_set, get_or-set_same, get_or-set_other, length-set, nat_lt, if◌then◌else◌}
use Rattle.std.proofs.lemmas.Bool.{cases_lt, lt-ltb, le-ltb, cond-true, cond-false}
use Rattle.uc_model.specs.Prelude.{IsLawfulInstance, sum_below, thermal_count, renewable_count}
use Rattle.uc_model.proofs.Common.{IsWithin, within_of_abs, abs_of_within, within_const_sum, linear, pos-mul, sum_below-same, sum_below-sub}
use Rattle.dispatch_repair.specs.Prelude.{IsSizedEnd, thermal_amount, source_count, IsSizedSum, IsSum}
use Rattle.dispatch_repair.specs.Amounts.{amount_at}
use Rattle.dispatch_repair.specs.Period.{Instance}
use Rattle.dispatch_repair.specs.Totals.{MAX_POWER, MAX_UNITS}
use Rattle.dispatch_repair.proofs.Filling.{sum_below-raised}
use Rattle.decommitment.specs.inside.Fills.{Given, AreGiven, IsSizedAmount}
use Rattle.decommitment.proofs.Levels.{set_each}

-- a sum over units of terms of the size of a range's end
pub sum_sized : (n : ℕ) (f : ℕ → ℤ) → n ≤ MAX_UNITS → ((k : ℕ) → k < n → IsSizedEnd (f k)) → IsSizedSum (sum_below n f)
sum_sized n f few each =
    let within = within_const_sum n f (pos (3 * MAX_POWER)) (λ k h. within_of_abs (f k) (3 * MAX_POWER) (each k h)) in
    let size : unsigned_abs (sum_below n f) ≤ n * (3 * MAX_POWER) =
    abs_of_within (sum_below n f) (n * (3 * MAX_POWER)) (subst (λ z. IsWithin z (sum_below n f)) (sym (pos-mul n (3 * MAX_POWER))) within) in
    omega (arith, size, few)

-- a sum with what its terms changed by is the sum of the new ones
pub exchanged_sum : (number before : ℤ) (n : ℕ) (new old : ℕ → ℤ) → number ≡ before +ℤ sum_below n (λ k. new k -ℤ old k) → before ≡ sum_below n old
    → n ≤ MAX_UNITS → ((k : ℕ) → k < n → IsSizedEnd (new k)) → IsSum number (sum_below n new)
exchanged_sum number before n new old is was few each =
    let all : number ≡ sum_below n new = omega (arith, linear, is, was, sum_below-sub n new old) in
    record { is = all; size = subst IsSizedSum (sym all) (sum_sized n new few each) }

module _ (instance : Instance) (amounts : List ℤ) (given new : Given) (n : ℕ) (amount : ℤ) (lawful : IsLawfulInstance instance)
    (inside : n < source_count instance) (was : AreGiven instance amounts given) (sized : IsSizedAmount amount) where
  abbrev W : ℕ
  W = renewable_count instance

  abbrev G : ℕ
  G = thermal_count instance

  abbrev now : List ℤ
  now = slice_set amounts n amount

  abbrev more : ℤ
  more = amount -ℤ amount_at amounts n

  place : n < length amounts
  place = omega (arith, inside, was.count)

  sizes : (m : ℕ) → m < source_count instance → IsSizedAmount (amount_at now m)
  sizes = set_each (λ m z. m < source_count instance → IsSizedAmount z) amounts n amount (pos 0) place (λ h. sized) (λ m other h. was.sizes m h)

  here : amount_at now n ≡ amount_at amounts n +ℤ more
  here = get_or-set_same amounts n amount (pos 0) place ∙ (omega (arith, linear))

  others : (m : ℕ) → m ≢ n → amount_at now m ≡ amount_at amounts m
  others m other = get_or-set_other amounts n m amount (pos 0) other

  made : new.thermal ≡ sum_below G (thermal_amount instance now) → new.renewable ≡ sum_below W (amount_at now) → AreGiven instance now new
  made thermal renewable = record {
    count = length-set amounts n amount ∙ was.count;
    sizes = sizes;
    thermal = record {
      is = thermal;
      size = subst IsSizedSum (sym thermal) (sum_sized G (thermal_amount instance now) lawful.thermal_units (λ g h. (sizes (W + g) (omega arith)).size));
    };
    renewable = record {
      is = renewable;
      size = subst IsSizedSum (sym renewable) (sum_sized W (amount_at now) lawful.renewable_units (λ w h. (sizes w (omega arith)).size));
    };
  }

  free : n < W → new.thermal ≡ given.thermal → new.renewable ≡ given.renewable +ℤ more → AreGiven instance now new
  free low thermal renewable =
      made
      (thermal ∙ was.thermal.is ∙ sym (sum_below-same G (thermal_amount instance now) (thermal_amount instance amounts) (λ g h. others (W + g) (λ e. omega (arith, low, e)))))
      (omega (arith, linear, renewable, was.renewable.is, sum_below-raised W n (amount_at amounts) (amount_at now) more low here others))

  heated : W ≤ n → new.thermal ≡ given.thermal +ℤ more → new.renewable ≡ given.renewable → AreGiven instance now new
  heated high thermal renewable =
      let at : W + (n - W) ≡ n = omega (arith, high) in
      let total = sum_below-raised G (n - W) (thermal_amount instance amounts) (thermal_amount instance now) more (omega (arith, inside, high))
      (subst (λ m. amount_at now m ≡ amount_at amounts m +ℤ more) (sym at) here) (λ g other. others (W + g) (λ e. other (omega (arith, e)))) in
      made
      (omega (arith, linear, thermal, was.thermal.is, total))
      (renewable ∙ was.renewable.is ∙ sym (sum_below-same W (amount_at now) (amount_at amounts) (λ w h. others w (λ e. omega (arith, high, h, e)))))

  pub given_set : (is_free : Bool) → is_free ≡ nat_lt n W
      → new.thermal ≡ (if is_free then given.thermal else given.thermal +ℤ more)
      → new.renewable ≡ (if is_free then given.renewable +ℤ more else given.renewable) → AreGiven instance now new
  given_set is_free is thermal renewable = ⊎_elim
      (λ (low : n < W). let yes_free : is_free ≡ true = is ∙ lt-ltb n W low in
      free low (thermal ∙ cond-true is_free _ _ yes_free) (renewable ∙ cond-true is_free _ _ yes_free))
      (λ (high : W ≤ n). let not_free : is_free ≡ false = is ∙ le-ltb n W high in
      heated high (thermal ∙ cond-false is_free _ _ not_free) (renewable ∙ cond-false is_free _ _ not_free))
      (cases_lt n W)
