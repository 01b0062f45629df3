-- The powers of a cheapest basis are whole over just the multiples of the least common multiple of its values' denominators: over such a number each
-- value is whole, as each other amount of its power is.
-- Cite by `use Rattle.dispatch_schedule.proofs.Wholes.{denominators_are_least}`.
use Rattle.std.proofs.Common.{◌≡◌, ◌≢◌, ℕ, zero, suc, ◌<◌, ◌≤◌, ◌==◌, ◌⊎◌, ⊎_elim, inl, inr, refl, sym, ap, subst, ◌∙◌, arith, length, ℤ, pos, ◌+ℤ◌, ◌-ℤ◌, ◌*ℤ◌, ◌≤ℤ◌, ◌<ℤ◌, unsigned_abs, int_div, if◌then◌else◌}
use Rattle.std.specs.Int.{◌∣◌}
use Rattle.std.proofs.Math.Nat.{dvd-mul_left, one-dvd}
use Rattle.std.proofs.lemmas.Bool.{cases_eq, cases_lt, cond-true, cond-false, eq-eqb, ne_eqb}
use Rattle.std.proofs.lemmas.Int.{unsigned_abs-mul}
use Rattle.uc_model.specs.Prelude.{sum_below, IsLawfulInstance}
use Rattle.uc_model.proofs.Common.{linear, mul_comm, mul_assoc, mul_left_comm, mul-zero, zero-mul, add-mul, sub-mul, le_or_lt, le_antisymm, le_from_mul, le_of_eq, sum_below-sub, sum_below-single, sum_below-mul_left}
use Rattle.cost_curves.proofs.LowestTerms.{coprime-dvd}
use Rattle.fractions.proofs.Divided.{joined_are_least}
use Rattle.pivot_run.specs.Prelude.{Table}
use Rattle.dispatch_program.specs.Prelude.{IsReached, AreShares, basis_values, IsCheapest}
use Rattle.dispatch_rules.specs.declared.amount.Amount.{Amount}
use Rattle.dispatch_rules.specs.declared.amount.Amount.TheVariants.{Length, Held, Given, Shed, Short}
use Rattle.dispatch_rules.specs.Prelude.{segments, width_at, Task, amounts, amount_at, program, IsTask, sum_of, length_in, output_in, held_in, given_in, shed_in, short_in}
use Rattle.dispatch_rules.proofs.Primals.{Fits, amounts-fit}
use Rattle.dispatch_schedule.specs.ColumnValues.{column_value, denominator_to, schedule_denominator}
use Rattle.dispatch_schedule.specs.ShownSchedules.{AreWholeOver, LeastDenominators}
use Rattle.dispatch_schedule.proofs.ColumnValues.{value_positive, value_coprime, value_ratio, denominator_positive, denominator_divides}
use Rattle.dispatch_schedule.proofs.Filling.{own_in, sum_own, in_order}
use Rattle.dispatch_schedule.proofs.Powers.{over_times, dispatch, numerator, sum_scaled}

-- ---- multiples
abbrev pub IsMultiple : ℤ → ℤ → Type 0
IsMultiple d z = (q : ℤ) × (z ≡ q *ℤ d)

multiple-divides : (d z : ℤ) → IsMultiple d z → unsigned_abs d ∣ unsigned_abs z
multiple-divides d z is =
    subst (λ n. unsigned_abs d ∣ n) (sym (ap unsigned_abs is.1 ∙ unsigned_abs-mul is.0 d)) (dvd-mul_left (unsigned_abs d) (unsigned_abs is.0))

divides-multiple : (d z : ℤ) → pos 0 <ℤ d → unsigned_abs d ∣ unsigned_abs z → IsMultiple d z
divides-multiple d z h divides = (int_div z d, sym (over_times z d h divides))

multiple_zero : (d z : ℤ) → z ≡ pos 0 → IsMultiple d z
multiple_zero d z e = (pos 0, e ∙ sym (zero-mul d))

multiple_whole : (d e w z : ℤ) → z ≡ d *ℤ w → IsMultiple d (e *ℤ z)
multiple_whole d e w z is = (e *ℤ w, ap (λ y. e *ℤ y) (is ∙ mul_comm d w) ∙ sym (mul_assoc e w d))

multiple_sub : (d y z : ℤ) → IsMultiple d y → IsMultiple d z → IsMultiple d (y -ℤ z)
multiple_sub d y z first second = (first.0 -ℤ second.0, (λ i. first.1 i -ℤ second.1 i) ∙ sym (sub-mul first.0 second.0 d))

multiple_sum : (d : ℤ) (n : ℕ) (f : ℕ → ℤ) → ((k : ℕ) → k < n → IsMultiple d (f k)) → IsMultiple d (sum_below n f)
multiple_sum d zero f each = multiple_zero d (pos 0) refl
multiple_sum d (suc n) f each =
    let before = multiple_sum d n f (λ k h. each k (omega arith)) in
    let own = each n (omega arith) in
    (before.0 +ℤ own.0, (λ i. before.1 i +ℤ own.1 i) ∙ sym (add-mul before.0 own.0 d))

cases_same : (a b : ℤ) → (a ≡ b) ⊎ (a ≢ b)
cases_same a b = ⊎_elim
    (λ (less : a ≤ℤ b). ⊎_elim
    (λ (more : b ≤ℤ a). inl (le_antisymm a b less more))
    (λ (apart : a <ℤ b). inr (λ e. absurd (omega (arith, linear))))
    (le_or_lt b a))
    (λ (apart : b <ℤ a). inr (λ e. absurd (omega (arith, linear))))
    (le_or_lt a b)

cancel : (d x y : ℤ) → pos 0 <ℤ d → d *ℤ x ≡ d *ℤ y → x ≡ y
cancel d x y h e = le_antisymm x y (le_from_mul d x y h (le_of_eq (d *ℤ x) (d *ℤ y) e)) (le_from_mul d y x h (le_of_eq (d *ℤ y) (d *ℤ x) (sym e)))

-- a term of a sum that is a multiple, where the others are
one_left : (d e : ℤ) (n : ℕ) (f : ℕ → ℤ) (l : ℕ) → l < n → IsMultiple d (e *ℤ sum_below n f) → ((k : ℕ) → k < n → k ≢ l → IsMultiple d (e *ℤ f k)) → IsMultiple d (e *ℤ f l)
one_left d e n f l h whole others =
    let own : ℕ → ℤ = λ k. if k == l then e *ℤ f l else pos 0 in
    let rest = multiple_sum d n (λ k. e *ℤ f k -ℤ (if k == l then e *ℤ f l else pos 0)) (λ k m. ⊎_elim
    (λ (same : k ≡ l).
    let here = cond-true (k == l) (e *ℤ f l) (pos 0) (eq-eqb k l same) in
    let equal = ap (λ j. e *ℤ f j) same in
    multiple_zero d (e *ℤ f k -ℤ (if k == l then e *ℤ f l else pos 0)) (omega (arith, linear)))
    (λ (other : k ≢ l).
    let away = cond-false (k == l) (e *ℤ f l) (pos 0) (ne_eqb k l other) in
    let term = others k m other in
    (term.0, (let q = term.1 in omega (arith, linear))))
    (cases_eq k l)) in
    let single : sum_below n (λ k. if k == l then e *ℤ f l else pos 0) ≡ e *ℤ f l =
    sum_below-single n (λ k. if k == l then e *ℤ f l else pos 0) l h (λ k m other. cond-false (k == l) (e *ℤ f l) (pos 0) (ne_eqb k l other))
    ∙ cond-true (l == l) (e *ℤ f l) (pos 0) (eq-eqb l l refl) in
    let parted = sum_below-sub n (λ k. e *ℤ f k) (λ k. if k == l then e *ℤ f l else pos 0) in
    let factor = sum_below-mul_left n e f in
    let left = multiple_sub d (e *ℤ sum_below n f) (sum_below n (λ k. e *ℤ f k -ℤ (if k == l then e *ℤ f l else pos 0))) whole rest in
    (left.0, (let q = left.1 in omega (arith, linear)))

module _ (task : Task) (t : Table) (lawful : IsLawfulInstance task.instance) (is : IsTask task) (reached : IsReached (program task) t)
    (cheapest : IsCheapest (program task) t) (d : ℤ) (share : ℕ → ℤ) (are : AreShares t d share) (e : ℕ) where
  abbrev v : ℕ → ℤ
  v = basis_values (program task) t d share

  -- ---- over a multiple of the denominator
  sum_multiple : unsigned_abs (schedule_denominator task t) ∣ e → (f : Amount → ℤ) → IsMultiple d (pos e *ℤ sum_of task v f)
  sum_multiple divides f =
      let over = schedule_denominator task t in
      let positive = denominator_positive (program task) t reached (length (amounts task)) in
      let k = int_div (pos e) (schedule_denominator task t) in
      let whole : k *ℤ schedule_denominator task t ≡ pos e = over_times (pos e) (schedule_denominator task t) positive divides in
      let scaled = sum_scaled task t lawful is reached cheapest d share are (schedule_denominator task t) positive (λ c h. denominator_divides (program task) t reached (length (amounts task)) c h) f in
      let own = sum_of task (numerator task t lawful is reached cheapest d share are (schedule_denominator task t) positive (λ c h. denominator_divides (program task) t reached (length (amounts task)) c h)) f in (
        k *ℤ own,
        ap (λ z. z *ℤ sum_of task v f) (sym whole) ∙ mul_assoc k (schedule_denominator task t) (sum_of task v f)
            ∙ ap (λ z. k *ℤ z) (sym scaled ∙ mul_comm d own) ∙ sym (mul_assoc k own d),
      )

  whole_over : unsigned_abs (schedule_denominator task t) ∣ e → AreWholeOver task d v e
  whole_over divides = record {
    output = λ g s hg hs. multiple-divides d (pos e *ℤ sum_of task v (output_in g s)) (sum_multiple divides (output_in g s));
    reserve = λ g s hg hs. multiple-divides d (pos e *ℤ sum_of task v (held_in g s)) (sum_multiple divides (held_in g s));
    renewable = λ w s hw hs. multiple-divides d (pos e *ℤ sum_of task v (given_in w s)) (sum_multiple divides (given_in w s));
    shed = λ s hs. multiple-divides d (pos e *ℤ sum_of task v (shed_in s)) (sum_multiple divides (shed_in s));
    short = λ s hs. multiple-divides d (pos e *ℤ sum_of task v (short_in s)) (sum_multiple divides (short_in s));
  }

  -- ---- where the powers are whole, so is each value
  module _ (whole : AreWholeOver task d v e) where
    length_multiple : (g s l : ℕ) → Fits task (Length g s l) → IsMultiple d (pos e *ℤ sum_of task v (length_in g s l))
    length_multiple g s l fits =
        let used : ℕ → ℤ = λ k. sum_of task v (length_in g s k) in
        let total : IsMultiple d (pos e *ℤ sum_below (segments (task.corners g)) (λ k. sum_of task v (length_in g s k))) =
        subst (λ z. IsMultiple d (pos e *ℤ z)) ((dispatch task t lawful is reached cheapest d share are).output g s)
        (divides-multiple d (pos e *ℤ sum_of task v (output_in g s)) are.denominator (whole.output g s fits.0 fits.3)) in
        let ordered = in_order task t lawful is reached cheapest d share are g s fits.0 fits.3 fits.1 in
        ⊎_elim
        (λ (none : sum_of task v (length_in g s l) ≡ pos 0).
        multiple_zero d (pos e *ℤ sum_of task v (length_in g s l)) (ap (λ z. pos e *ℤ z) none ∙ mul-zero (pos e)))
        (λ (some : sum_of task v (length_in g s l) ≢ pos 0). ⊎_elim
        (λ (full : sum_of task v (length_in g s l) ≡ d *ℤ width_at (task.corners g) l). multiple_whole d (pos e) (width_at (task.corners g) l) (sum_of task v (length_in g s l)) full)
        (λ (partly : sum_of task v (length_in g s l) ≢ d *ℤ width_at (task.corners g) l).
        one_left d (pos e) (segments (task.corners g)) (λ k. sum_of task v (length_in g s k)) l fits.2 total
        (λ k hk other. ⊎_elim
        (λ (less : k < l). ⊎_elim
        (λ (none : sum_of task v (length_in g s l) ≡ pos 0). absurd (some none))
        (λ (full : sum_of task v (length_in g s k) ≡ d *ℤ width_at (task.corners g) k). multiple_whole d (pos e) (width_at (task.corners g) k) (sum_of task v (length_in g s k)) full)
        (ordered k l less fits.2))
        (λ (most : l ≤ k). ⊎_elim
        (λ (none : sum_of task v (length_in g s k) ≡ pos 0). multiple_zero d (pos e *ℤ sum_of task v (length_in g s k)) (ap (λ z. pos e *ℤ z) none ∙ mul-zero (pos e)))
        (λ (full : sum_of task v (length_in g s l) ≡ d *ℤ width_at (task.corners g) l). absurd (partly full))
        (ordered l k (omega arith) hk))
        (cases_lt k l)))
        (cases_same (sum_of task v (length_in g s l)) (d *ℤ width_at (task.corners g) l)))
        (cases_same (sum_of task v (length_in g s l)) (pos 0))

    own_multiple : (x : Amount) → Fits task x → IsMultiple d (pos e *ℤ sum_of task v (own_in x))
    own_multiple (Length g s k) fits = length_multiple g s k fits
    own_multiple (Held g s) fits = divides-multiple d (pos e *ℤ sum_of task v (held_in g s)) are.denominator (whole.reserve g s fits.0 fits.2)
    own_multiple (Given w s) fits = divides-multiple d (pos e *ℤ sum_of task v (given_in w s)) are.denominator (whole.renewable w s fits.0 fits.1)
    own_multiple (Shed s) fits = divides-multiple d (pos e *ℤ sum_of task v (shed_in s)) are.denominator (whole.shed s fits.1)
    own_multiple (Short s) fits = divides-multiple d (pos e *ℤ sum_of task v (short_in s)) are.denominator (whole.short s fits.1)

    value_multiple : (c : ℕ) → c < length (amounts task) → IsMultiple d (pos e *ℤ v c)
    value_multiple c h =
        subst (λ z. IsMultiple d (pos e *ℤ z)) (sum_own task v (amount_at task c) c h refl) (own_multiple (amount_at task c) (amounts-fit task c (Shed 0) h))

    -- so its denominator divides the number
    own_divides : (c : ℕ) → c < length (amounts task) → unsigned_abs (column_value t c).denominator ∣ e
    own_divides c h =
        let multiple = value_multiple c h in
        let over : pos e *ℤ (column_value t c).numerator ≡ multiple.0 *ℤ (column_value t c).denominator =
        crossed (pos e) (v c) (column_value t c).denominator (column_value t c).numerator multiple.0 multiple.1 (value_ratio (program task) t reached d share are c h) in
        coprime-dvd (unsigned_abs (column_value t c).numerator) (unsigned_abs (column_value t c).denominator) e
        (λ k first second. value_coprime (program task) t reached c k first second)
        (subst (λ n. unsigned_abs (column_value t c).denominator ∣ n) (unsigned_abs-mul (pos e) (column_value t c).numerator ∙ omega arith)
        (multiple-divides (column_value t c).denominator (pos e *ℤ (column_value t c).numerator) (multiple.0, over)))
      where
        crossed : (e v low high q : ℤ) → e *ℤ v ≡ q *ℤ d → v *ℤ low ≡ high *ℤ d → e *ℤ high ≡ q *ℤ low
        crossed e v low high q first second =
            cancel d (e *ℤ high) (q *ℤ low) are.denominator
            (mul_comm d (e *ℤ high) ∙ mul_assoc e high d ∙ ap (λ z. e *ℤ z) (sym second) ∙ sym (mul_assoc e v low) ∙ ap (λ z. z *ℤ low) first
            ∙ mul_assoc q d low ∙ mul_left_comm q d low)

    least_divides : (n : ℕ) → n ≤ length (amounts task) → unsigned_abs (denominator_to t n) ∣ e
    least_divides zero h = one-dvd e
    least_divides (suc n) h =
        (joined_are_least (denominator_to t n) (column_value t n).denominator (denominator_positive (program task) t reached n) (value_positive (program task) t reached n)).least e
        (least_divides n (omega arith)) (own_divides n (omega arith))

pub denominators_are_least : LeastDenominators
denominators_are_least task t d share e lawful is reached cheapest are some = (
  λ whole. least_divides task t lawful is reached cheapest d share are e whole (length (amounts task)) (omega arith),
  whole_over task t lawful is reached cheapest d share are e,
)
