-- Values that solve the start of a commitment's table are a dispatch of it: each rule is an equation of the amounts' parts, kind by kind.
-- Cite by `use Rattle.dispatch_rules.proofs.Primals.{values_dispatch_is}`.
use Rattle.std.proofs.Common.{◌≡◌, ◌≢◌, ℕ, zero, suc, ◌<◌, ◌==◌, nat_lt, Bool, true, false, ◌&&◌, ⊎_elim, refl, sym, ap, subst, ◌∙◌, arith, List, [], ◌∷◌, length, ℤ, pos, ◌+ℤ◌, ◌-ℤ◌, ◌*ℤ◌, neg_ℤ, ◌≤ℤ◌, IsTrue, if◌then◌else◌}
use Rattle.std.proofs.lemmas.Bool.{cond-true, cond_both, cases_eq, eq-eqb, ne_eqb, eqb-true, and_parts, true≢false, lt-ltb}
use Rattle.uc_model.specs.Prelude.{sum_below, bit, Production, StartCap, StopCap, RampUp, RampDown, RenewableRange, Demand, Reserve, ShedRange, ShortRange, rule_units, start_cap, stop_cap, thermal_unit, thermal_count, renewable_count, renewable_maximum, demand_at, reserve_at}
use Rattle.uc_model.proofs.Common.{linear, mul-zero, zero-mul, mul-add, add-mul, sub-mul, mul-sub, mul-neg, mul_nonneg, mul_assoc, sum_below-same, sum_below-zero, sum_below-single, sum_below-add, sum_below-sub, sum_below_nonneg, sum_below-mul_left, sum_below-mul_right, sum_below-swap}
use Rattle.dispatch_program.specs.Prelude.{AreValues}
use Rattle.dispatch_program.proofs.LineSums.{limit_holds, equality_holds, cost_is}
use Rattle.dispatch_rules.specs.Cells.{segments, width_at}
use Rattle.dispatch_rules.specs.Dispatch.{Task, Amount, Length, Held, Given, Shed, Short, Limit, limit, is_demand, parts, times_in, copies, listed, where_true, limits_of, limits, rule_from, right_at, right_of, low_at, given_output, initial_at, unit_amounts, amounts_in, amounts, amount_at, program}
use Rattle.dispatch_rules.specs.Primals.{IsDispatch, ValuesDispatch, one_if, length_in, output_in, held_in, given_in, shed_in, short_in, sum_of, output_before}
use Rattle.dispatch_rules.proofs.Listed.{Each, each_none, each_one, each_append, each_listed, StandsIn, stands_alone, stands_listed}

-- ---- bits
pub one_if-nonneg : (b : Bool) → pos 0 ≤ℤ one_if b
one_if-nonneg true = omega (arith, linear)
one_if-nonneg false = omega (arith, linear)

and_true : (a : Bool) → (a && true) ≡ a
and_true true = refl
and_true false = refl

and_false : (a : Bool) → (a && false) ≡ false
and_false true = refl
and_false false = refl

same_suc : (a b : ℕ) → (suc a == suc b) ≡ (a == b)
same_suc a b = ⊎_elim
    (λ (same : a ≡ b). eq-eqb (suc a) (suc b) (ap suc same) ∙ sym (eq-eqb a b same))
    (λ (other : a ≢ b). ne_eqb (suc a) (suc b) (λ e. other (omega arith)) ∙ sym (ne_eqb a b other))
    (cases_eq a b)

-- the one place that is h
one_place : (n h : ℕ) (b : Bool) → h < n → sum_below n (λ g. one_if ((g == h) && b)) ≡ one_if b
one_place n h b within =
    sum_below-single n (λ g. one_if ((g == h) && b)) h within (λ g l other. ap (λ e. one_if (e && b)) (ne_eqb g h other))
    ∙ ap (λ e. one_if (e && b)) (eq-eqb h h refl)

module _ (task : Task) where
  abbrev periods : ℕ
  periods = task.instance.periods

  abbrev units : ℕ
  units = thermal_count task.instance

  abbrev renewables : ℕ
  renewables = renewable_count task.instance

  -- ---- the amounts that there are
  abbrev pub Fits : Amount → Type 0
  Fits (Length g t k) = (g < units) × IsTrue (task.on g t) × (k < segments (task.corners g)) × (t < periods)
  Fits (Held g t) = (g < units) × IsTrue (task.on g t) × (t < periods)
  Fits (Given w t) = (w < renewables) × (t < periods)
  Fits (Shed t) = IsTrue (nat_lt 0 task.instance.a) × (t < periods)
  Fits (Short t) = IsTrue (nat_lt 0 task.instance.b) × (t < periods)

  each_where : (b : Bool) (xs : List Amount) → (b ≡ true → Each Fits xs) → Each Fits (where_true b xs)
  each_where b xs h = cond_both b xs [] (Each Fits) h (λ e. each_none Fits)

  pub amounts-fit : Each Fits (amounts task)
  amounts-fit =
      each_listed Fits periods (amounts_in task) (λ t ht.
      each_append Fits (listed units (unit_amounts task t)) _
      (each_listed Fits units (unit_amounts task t) (λ g hg.
      each_where (task.on g t) _ (λ on.
      each_append Fits (listed (segments (task.corners g)) (λ k. Length g t k ∷ [])) (Held g t ∷ [])
      (each_listed Fits (segments (task.corners g)) (λ k. Length g t k ∷ []) (λ k hk. each_one Fits (Length g t k) (hg, on, hk, ht)))
      (each_one Fits (Held g t) (hg, on, ht)))))
      (each_append Fits (listed renewables (λ w. Given w t ∷ [])) _
      (each_listed Fits renewables (λ w. Given w t ∷ []) (λ w hw. each_one Fits (Given w t) (hw, ht)))
      (each_append Fits (where_true (nat_lt 0 task.instance.a) (Shed t ∷ [])) (where_true (nat_lt 0 task.instance.b) (Short t ∷ []))
      (each_where (nat_lt 0 task.instance.a) (Shed t ∷ []) (λ e. each_one Fits (Shed t) (e, ht)))
      (each_where (nat_lt 0 task.instance.b) (Short t ∷ []) (λ e. each_one Fits (Short t) (e, ht))))))

  -- ---- the limits that there are
  pub limit_stands : (n g t k : ℕ) → n < 10 → g < rule_units (rule_from n) task.instance → t < periods → k < copies task (rule_from n) g t
      → StandsIn (limit Demand 0 0 0) (limit (rule_from n) g t k) (limits task)
  limit_stands n g t k hn hg ht hk =
      let l = limit (rule_from n) g t k in
      let none = limit Demand 0 0 0 in
      stands_listed none l 10 (λ m. limits_of task (rule_from m)) n hn
      (stands_listed none l (rule_units (rule_from n) task.instance)
      (λ h. listed periods (λ s. listed (copies task (rule_from n) h s) (λ j. limit (rule_from n) h s j ∷ []))) g hg
      (stands_listed none l periods (λ s. listed (copies task (rule_from n) g s) (λ j. limit (rule_from n) g s j ∷ [])) t ht
      (stands_listed none l (copies task (rule_from n) g t) (λ j. limit (rule_from n) g t j ∷ []) k hk (stands_alone none l))))

  -- ---- what an amount is in a limit
  pub in_production : (g t k : ℕ) (x : Amount) → times_in (limit Production g t k) (parts x) ≡ length_in g t k x
  in_production g t k (Length h s l) = omega (arith, linear)
  in_production g t k (Held h s) = refl
  in_production g t k (Given h s) = refl
  in_production g t k (Shed s) = refl
  in_production g t k (Short s) = refl

  pub in_start : (g t : ℕ) (x : Amount) → times_in (limit StartCap g t 0) (parts x) ≡ output_in g t x +ℤ held_in g t x
  in_start g t (Length h s l) = let e = ap (λ b. one_if ((g == h) && b)) (and_true (t == s)) in omega (arith, linear)
  in_start g t (Held h s) = let e = ap (λ b. one_if ((g == h) && b)) (and_true (t == s)) in omega (arith, linear)
  in_start g t (Given h s) = refl
  in_start g t (Shed s) = refl
  in_start g t (Short s) = refl

  in_stop : (g t : ℕ) (x : Amount) → times_in (limit StopCap g t 0) (parts x) ≡ output_in g t x +ℤ held_in g t x
  in_stop g t (Length h s l) = let e = ap (λ b. one_if ((g == h) && b)) (and_true (t == s)) in omega (arith, linear)
  in_stop g t (Held h s) = let e = ap (λ b. one_if ((g == h) && b)) (and_true (t == s)) in omega (arith, linear)
  in_stop g t (Given h s) = refl
  in_stop g t (Shed s) = refl
  in_stop g t (Short s) = refl

  neg_if : (b : Bool) → (if b then neg_ℤ (pos 1) else pos 0) ≡ neg_ℤ (one_if b)
  neg_if true = refl
  neg_if false = refl

  -- the bit of an amount's own cell, and of the cell after it
  own_bit : (g h t s : ℕ) → one_if ((g == h) && ((t == s) && true)) ≡ one_if ((g == h) && (t == s))
  own_bit g h t s = ap (λ b. one_if ((g == h) && b)) (and_true (t == s))

  next_bit : (g h t s : ℕ) → one_if ((g == h) && ((suc t == suc s) && true)) ≡ one_if ((g == h) && (t == s))
  next_bit g h t s = ap (λ b. one_if ((g == h) && b)) (and_true (suc t == suc s) ∙ same_suc t s)

  no_next_bit : (g h s : ℕ) → one_if ((g == h) && ((0 == suc s) && true)) ≡ pos 0
  no_next_bit g h s = ap (λ b. one_if ((g == h) && (b && true))) (ne_eqb 0 (suc s) (λ e. omega arith)) ∙ ap one_if (and_false (g == h))

  in_up-first : (g : ℕ) (x : Amount) → times_in (limit RampUp g 0 0) (parts x) ≡ output_in g 0 x +ℤ held_in g 0 x
  in_up-first g (Length h s l) =
      let a = own_bit g h 0 s in
      let b = no_next_bit g h s in
      let c = neg_if ((g == h) && ((0 == suc s) && true)) in
      omega (arith, linear)
  in_up-first g (Held h s) = let a = own_bit g h 0 s in omega (arith, linear)
  in_up-first g (Given h s) = refl
  in_up-first g (Shed s) = refl
  in_up-first g (Short s) = refl

  in_up-later : (g t : ℕ) (x : Amount) → times_in (limit RampUp g (suc t) 0) (parts x) ≡ (output_in g (suc t) x +ℤ held_in g (suc t) x) -ℤ output_in g t x
  in_up-later g t (Length h s l) =
      let a = own_bit g h (suc t) s in
      let b = next_bit g h t s in
      let c = neg_if ((g == h) && ((suc t == suc s) && true)) in
      omega (arith, linear)
  in_up-later g t (Held h s) = let a = own_bit g h (suc t) s in omega (arith, linear)
  in_up-later g t (Given h s) = refl
  in_up-later g t (Shed s) = refl
  in_up-later g t (Short s) = refl

  in_down-first : (g : ℕ) (x : Amount) → times_in (limit RampDown g 0 0) (parts x) ≡ pos 0 -ℤ output_in g 0 x
  in_down-first g (Length h s l) =
      let a = own_bit g h 0 s in
      let b = no_next_bit g h s in
      let c = neg_if ((g == h) && ((0 == s) && true)) in
      omega (arith, linear)
  in_down-first g (Held h s) = refl
  in_down-first g (Given h s) = refl
  in_down-first g (Shed s) = refl
  in_down-first g (Short s) = refl

  in_down-later : (g t : ℕ) (x : Amount) → times_in (limit RampDown g (suc t) 0) (parts x) ≡ output_in g t x -ℤ output_in g (suc t) x
  in_down-later g t (Length h s l) =
      let a = own_bit g h (suc t) s in
      let b = next_bit g h t s in
      let c = neg_if ((g == h) && ((suc t == s) && true)) in
      omega (arith, linear)
  in_down-later g t (Held h s) = refl
  in_down-later g t (Given h s) = refl
  in_down-later g t (Shed s) = refl
  in_down-later g t (Short s) = refl

  pub in_range : (w t : ℕ) (x : Amount) → times_in (limit RenewableRange w t 0) (parts x) ≡ given_in w t x
  in_range w t (Length h s l) = refl
  in_range w t (Held h s) = refl
  in_range w t (Given h s) = let a = own_bit w h t s in omega (arith, linear)
  in_range w t (Shed s) = refl
  in_range w t (Short s) = refl

  pub in_shed : (t : ℕ) (x : Amount) → times_in (limit ShedRange 0 t 0) (parts x) ≡ shed_in t x
  in_shed t (Length h s l) = refl
  in_shed t (Held h s) = refl
  in_shed t (Given h s) = refl
  in_shed t (Shed s) = let a = ap one_if (and_true (t == s)) in omega (arith, linear)
  in_shed t (Short s) = refl

  pub in_short : (t : ℕ) (x : Amount) → times_in (limit ShortRange 0 t 0) (parts x) ≡ short_in t x
  in_short t (Length h s l) = refl
  in_short t (Held h s) = refl
  in_short t (Given h s) = refl
  in_short t (Shed s) = refl
  in_short t (Short s) = let a = ap one_if (and_true (t == s)) in omega (arith, linear)

  pub zeros : (n : ℕ) → sum_below n (λ g. pos 0) ≡ pos 0
  zeros n = sum_below-zero n (λ g. pos 0) (λ g l. refl)

  in_reserve : (t : ℕ) (x : Amount) → Fits x → times_in (limit Reserve 0 t 0) (parts x) ≡ pos 0 -ℤ (sum_below units (λ g. held_in g t x) +ℤ short_in t x)
  in_reserve t (Length h s l) fits = let a = zeros units in omega (arith, linear)
  in_reserve t (Held h s) fits =
      let a = one_place units h (t == s) fits.0 in
      let b = ap one_if (and_true (t == s)) in
      let c = neg_if ((t == s) && true) in
      omega (arith, linear)
  in_reserve t (Given h s) fits = let a = zeros units in omega (arith, linear)
  in_reserve t (Shed s) fits = let a = zeros units in omega (arith, linear)
  in_reserve t (Short s) fits =
      let a = zeros units in
      let b = ap one_if (and_true (t == s)) in
      let c = neg_if ((t == s) && true) in
      omega (arith, linear)

  in_demand : (t : ℕ) (x : Amount) → Fits x
      → times_in (limit Demand 0 t 0) (parts x) ≡ (sum_below units (λ g. output_in g t x) +ℤ sum_below renewables (λ w. given_in w t x)) +ℤ shed_in t x
  in_demand t (Length h s l) fits =
      let a = one_place units h (t == s) fits.0 in
      let b = ap one_if (and_true (t == s)) in
      let c = zeros renewables in
      omega (arith, linear)
  in_demand t (Held h s) fits = let a = zeros units in let b = zeros renewables in omega (arith, linear)
  in_demand t (Given h s) fits =
      let a = one_place renewables h (t == s) fits.0 in
      let b = ap one_if (and_true (t == s)) in
      let c = zeros units in
      omega (arith, linear)
  in_demand t (Shed s) fits =
      let a = zeros units in
      let b = zeros renewables in
      let c = ap one_if (and_true (t == s)) in
      omega (arith, linear)
  in_demand t (Short s) fits = let a = zeros units in let b = zeros renewables in omega (arith, linear)

  -- an output is the sum of its lengths
  in_lengths : (g t : ℕ) (x : Amount) → Fits x → output_in g t x ≡ sum_below (segments (task.corners g)) (λ k. length_in g t k x)
  in_lengths g t (Length h s l) fits = ⊎_elim
      (λ (same : g ≡ h).
      let here = eq-eqb g h same in
      let each : sum_below (segments (task.corners g)) (λ k. one_if ((g == h) && ((t == s) && (k == l)))) ≡ sum_below (segments (task.corners g)) (λ k. one_if ((k == l) && (t == s))) =
      sum_below-same (segments (task.corners g)) _ _ (λ k i. ap (λ b. one_if (b && ((t == s) && (k == l)))) here ∙ ap one_if (swap (t == s) (k == l))) in
      let one = one_place (segments (task.corners g)) l (t == s) (subst (λ u. l < segments (task.corners u)) (sym same) fits.2) in
      let own : one_if ((g == h) && (t == s)) ≡ one_if (t == s) = ap (λ b. one_if (b && (t == s))) here in
      omega (arith, linear))
      (λ (other : g ≢ h).
      let away = ne_eqb g h other in
      let each : sum_below (segments (task.corners g)) (λ k. one_if ((g == h) && ((t == s) && (k == l)))) ≡ pos 0 =
      sum_below-zero (segments (task.corners g)) (λ k. one_if ((g == h) && ((t == s) && (k == l)))) (λ k i. ap (λ b. one_if (b && ((t == s) && (k == l)))) away) in
      let own : one_if ((g == h) && (t == s)) ≡ pos 0 = ap (λ b. one_if (b && (t == s))) away in
      omega (arith, linear))
      (cases_eq g h)
    where
      swap : (a b : Bool) → (a && b) ≡ (b && a)
      swap true true = refl
      swap true false = refl
      swap false true = refl
      swap false false = refl
  in_lengths g t (Held h s) fits = sym (zeros (segments (task.corners g)))
  in_lengths g t (Given h s) fits = sym (zeros (segments (task.corners g)))
  in_lengths g t (Shed s) fits = sym (zeros (segments (task.corners g)))
  in_lengths g t (Short s) fits = sym (zeros (segments (task.corners g)))

  -- amounts are 1 or 0 of a thing
  pub length_nonneg : (g t k : ℕ) (x : Amount) → pos 0 ≤ℤ length_in g t k x
  length_nonneg g t k (Length h s l) = one_if-nonneg ((g == h) && ((t == s) && (k == l)))
  length_nonneg g t k (Held h s) = one_if-nonneg false
  length_nonneg g t k (Given h s) = one_if-nonneg false
  length_nonneg g t k (Shed s) = one_if-nonneg false
  length_nonneg g t k (Short s) = one_if-nonneg false

  pub output_nonneg : (g t : ℕ) (x : Amount) → pos 0 ≤ℤ output_in g t x
  output_nonneg g t (Length h s l) = one_if-nonneg ((g == h) && (t == s))
  output_nonneg g t (Held h s) = one_if-nonneg false
  output_nonneg g t (Given h s) = one_if-nonneg false
  output_nonneg g t (Shed s) = one_if-nonneg false
  output_nonneg g t (Short s) = one_if-nonneg false

  pub held_nonneg : (g t : ℕ) (x : Amount) → pos 0 ≤ℤ held_in g t x
  held_nonneg g t (Length h s l) = one_if-nonneg false
  held_nonneg g t (Held h s) = one_if-nonneg ((g == h) && (t == s))
  held_nonneg g t (Given h s) = one_if-nonneg false
  held_nonneg g t (Shed s) = one_if-nonneg false
  held_nonneg g t (Short s) = one_if-nonneg false

  pub given_nonneg : (w t : ℕ) (x : Amount) → pos 0 ≤ℤ given_in w t x
  given_nonneg w t (Length h s l) = one_if-nonneg false
  given_nonneg w t (Held h s) = one_if-nonneg false
  given_nonneg w t (Given h s) = one_if-nonneg ((w == h) && (t == s))
  given_nonneg w t (Shed s) = one_if-nonneg false
  given_nonneg w t (Short s) = one_if-nonneg false

  pub shed_nonneg : (t : ℕ) (x : Amount) → pos 0 ≤ℤ shed_in t x
  shed_nonneg t (Length h s l) = one_if-nonneg false
  shed_nonneg t (Held h s) = one_if-nonneg false
  shed_nonneg t (Given h s) = one_if-nonneg false
  shed_nonneg t (Shed s) = one_if-nonneg (t == s)
  shed_nonneg t (Short s) = one_if-nonneg false

  pub short_nonneg : (t : ℕ) (x : Amount) → pos 0 ≤ℤ short_in t x
  short_nonneg t (Length h s l) = one_if-nonneg false
  short_nonneg t (Held h s) = one_if-nonneg false
  short_nonneg t (Given h s) = one_if-nonneg false
  short_nonneg t (Shed s) = one_if-nonneg false
  short_nonneg t (Short s) = one_if-nonneg (t == s)

  -- off cells have no amount
  off_bit : (g h t s : ℕ) → task.on g t ≡ false → IsTrue (task.on h s) → one_if ((g == h) && (t == s)) ≡ pos 0
  off_bit g h t s off on = cond_both ((g == h) && (t == s)) (pos 1) (pos 0) (λ z. z ≡ pos 0)
      (λ e. let both = and_parts (g == h) (t == s) e in
      absurd (true≢false (sym on ∙ (λ i. task.on (sym (eqb-true g h both.0) i) (sym (eqb-true t s both.1) i)) ∙ off)))
      (λ e. refl)

  no_output : (g t : ℕ) → task.on g t ≡ false → (x : Amount) → Fits x → output_in g t x ≡ pos 0
  no_output g t off (Length h s l) fits = off_bit g h t s off fits.1
  no_output g t off (Held h s) fits = refl
  no_output g t off (Given h s) fits = refl
  no_output g t off (Shed s) fits = refl
  no_output g t off (Short s) fits = refl

  no_held : (g t : ℕ) → task.on g t ≡ false → (x : Amount) → Fits x → held_in g t x ≡ pos 0
  no_held g t off (Length h s l) fits = refl
  no_held g t off (Held h s) fits = off_bit g h t s off fits.1
  no_held g t off (Given h s) fits = refl
  no_held g t off (Shed s) fits = refl
  no_held g t off (Short s) fits = refl

  no_shed : (t : ℕ) → nat_lt 0 task.instance.a ≡ false → (x : Amount) → Fits x → shed_in t x ≡ pos 0
  no_shed t free (Length h s l) fits = refl
  no_shed t free (Held h s) fits = refl
  no_shed t free (Given h s) fits = refl
  no_shed t free (Shed s) fits = absurd (true≢false (sym fits.0 ∙ free))
  no_shed t free (Short s) fits = refl

  no_short : (t : ℕ) → nat_lt 0 task.instance.b ≡ false → (x : Amount) → Fits x → short_in t x ≡ pos 0
  no_short t free (Length h s l) fits = refl
  no_short t free (Held h s) fits = refl
  no_short t free (Given h s) fits = refl
  no_short t free (Shed s) fits = refl
  no_short t free (Short s) fits = absurd (true≢false (sym fits.0 ∙ free))

  module _ (d : ℤ) (v : ℕ → ℤ) (some : 0 < periods) (are : AreValues (program task) d v) where
    abbrev count : ℕ
    count = length (amounts task)

    abbrev sum : (Amount → ℤ) → ℤ
    sum = sum_of task v

    -- ---- sums over the amounts
    pub sum-as : (f h : Amount → ℤ) → ((x : Amount) → Fits x → f x ≡ h x) → sum f ≡ sum h
    sum-as f h e = sum_below-same count (λ c. f (amount_at task c) *ℤ v c) (λ c. h (amount_at task c) *ℤ v c)
        (λ c l. ap (λ z. z *ℤ v c) (e (amount_at task c) (amounts-fit c (Shed 0) l)))

    pub sum-add : (f h : Amount → ℤ) → sum (λ x. f x +ℤ h x) ≡ sum f +ℤ sum h
    sum-add f h =
        sum_below-same count (λ c. (f (amount_at task c) +ℤ h (amount_at task c)) *ℤ v c) (λ c. f (amount_at task c) *ℤ v c +ℤ h (amount_at task c) *ℤ v c)
        (λ c l. add-mul (f (amount_at task c)) (h (amount_at task c)) (v c))
        ∙ sum_below-add count (λ c. f (amount_at task c) *ℤ v c) (λ c. h (amount_at task c) *ℤ v c)

    sum-sub : (f h : Amount → ℤ) → sum (λ x. f x -ℤ h x) ≡ sum f -ℤ sum h
    sum-sub f h =
        sum_below-same count (λ c. (f (amount_at task c) -ℤ h (amount_at task c)) *ℤ v c) (λ c. f (amount_at task c) *ℤ v c -ℤ h (amount_at task c) *ℤ v c)
        (λ c l. sub-mul (f (amount_at task c)) (h (amount_at task c)) (v c))
        ∙ sum_below-sub count (λ c. f (amount_at task c) *ℤ v c) (λ c. h (amount_at task c) *ℤ v c)

    pub sum-over : (n : ℕ) (f : ℕ → Amount → ℤ) → sum (λ x. sum_below n (λ g. f g x)) ≡ sum_below n (λ g. sum (f g))
    sum-over n f =
        sum_below-same count (λ c. sum_below n (λ g. f g (amount_at task c)) *ℤ v c) (λ c. sum_below n (λ g. f g (amount_at task c) *ℤ v c))
        (λ c l. sym (sum_below-mul_right n (λ g. f g (amount_at task c)) (v c)))
        ∙ sum_below-swap count n (λ c g. f g (amount_at task c) *ℤ v c)

    pub sum-times : (a : ℤ) (f : Amount → ℤ) → sum (λ x. a *ℤ f x) ≡ a *ℤ sum f
    sum-times a f =
        sum_below-same count (λ c. (a *ℤ f (amount_at task c)) *ℤ v c) (λ c. a *ℤ (f (amount_at task c) *ℤ v c)) (λ c l. mul_assoc a (f (amount_at task c)) (v c))
        ∙ sum_below-mul_left count a (λ c. f (amount_at task c) *ℤ v c)

    pub sum-nonneg : (f : Amount → ℤ) → ((x : Amount) → pos 0 ≤ℤ f x) → pos 0 ≤ℤ sum f
    sum-nonneg f e = sum_below_nonneg count (λ c. f (amount_at task c) *ℤ v c) (λ c l. mul_nonneg (f (amount_at task c)) (v c) (e (amount_at task c)) (are.unknown c l))

    sum-zero : (f : Amount → ℤ) → ((x : Amount) → Fits x → f x ≡ pos 0) → sum f ≡ pos 0
    sum-zero f e = sum_below-zero count (λ c. f (amount_at task c) *ℤ v c) (λ c l. ap (λ z. z *ℤ v c) (e (amount_at task c) (amounts-fit c (Shed 0) l)) ∙ zero-mul (v c))

    -- ---- the limits
    rule_sum : Limit → Amount → ℤ
    rule_sum l x = times_in l (parts x)

    holds : (n g t k : ℕ) → n < 10 → g < rule_units (rule_from n) task.instance → t < periods → k < copies task (rule_from n) g t
        → is_demand (limit (rule_from n) g t k) ≡ false
        → sum (λ x. times_in (limit (rule_from n) g t k) (parts x)) ≤ℤ (d *ℤ right_at task (rule_from n) g t k)
    holds n g t k hn hg ht hk plain =
        let stands = limit_stands n g t k hn hg ht hk in
        subst (λ (l : Limit). sum (λ x. times_in l (parts x)) ≤ℤ (d *ℤ right_of task l)) stands.2
        (limit_holds (program task) v d are stands.0 stands.1 (ap is_demand stands.2 ∙ plain))

    holds_equal : (t : ℕ) → t < periods → sum (λ x. times_in (limit Demand 0 t 0) (parts x)) ≡ d *ℤ right_at task Demand 0 t 0
    holds_equal t ht =
        let stands = limit_stands 6 0 t 0 (omega arith) (omega arith) ht (omega arith) in
        subst (λ (l : Limit). sum (λ x. times_in l (parts x)) ≡ d *ℤ right_of task l) stands.2
        (equality_holds (program task) v d are stands.0 stands.1 (ap is_demand stands.2))

    -- ---- the rules
    ramp_up : (g t : ℕ) → g < units → t < periods → ((sum (output_in g t) +ℤ sum (held_in g t)) -ℤ output_before task d v g t) ≤ℤ (d *ℤ (thermal_unit task.instance g).ru)
    ramp_up g zero hg ht =
        let rule = holds 3 g 0 0 (omega arith) hg ht (omega arith) refl in
        let parts = sum-as (λ x. times_in (limit RampUp g 0 0) (parts x)) (λ x. output_in g 0 x +ℤ held_in g 0 x) (λ x f. in_up-first g x) in
        let added = sum-add (output_in g 0) (held_in g 0) in
        let spread_out = mul-add d (thermal_unit task.instance g).ru (initial_at task g 0) in
        omega (arith, linear)
    ramp_up g (suc t) hg ht =
        let rule = holds 3 g (suc t) 0 (omega arith) hg ht (omega arith) refl in
        let parts = sum-as (λ x. times_in (limit RampUp g (suc t) 0) (parts x)) (λ x. (output_in g (suc t) x +ℤ held_in g (suc t) x) -ℤ output_in g t x) (λ x f. in_up-later g t x) in
        let less = sum-sub (λ x. output_in g (suc t) x +ℤ held_in g (suc t) x) (output_in g t) in
        let added = sum-add (output_in g (suc t)) (held_in g (suc t)) in
        let spread_out = mul-add d (thermal_unit task.instance g).ru (pos 0) in
        let none = mul-zero d in
        omega (arith, linear)

    ramp_down : (g t : ℕ) → g < units → t < periods → (output_before task d v g t -ℤ sum (output_in g t)) ≤ℤ (d *ℤ (thermal_unit task.instance g).rd)
    ramp_down g zero hg ht =
        let rule = holds 4 g 0 0 (omega arith) hg ht (omega arith) refl in
        let parts = sum-as (λ x. times_in (limit RampDown g 0 0) (parts x)) (λ x. pos 0 -ℤ output_in g 0 x) (λ x f. in_down-first g x) in
        let less = sum-sub (λ x. pos 0) (output_in g 0) in
        let none = sum-zero (λ x. pos 0) (λ x f. refl) in
        let spread_out = mul-sub d (thermal_unit task.instance g).rd (initial_at task g 0) in
        omega (arith, linear)
    ramp_down g (suc t) hg ht =
        let rule = holds 4 g (suc t) 0 (omega arith) hg ht (omega arith) refl in
        let parts = sum-as (λ x. times_in (limit RampDown g (suc t) 0) (parts x)) (λ x. output_in g t x -ℤ output_in g (suc t) x) (λ x f. in_down-later g t x) in
        let less = sum-sub (output_in g t) (output_in g (suc t)) in
        let spread_out = mul-sub d (thermal_unit task.instance g).rd (pos 0) in
        let none = mul-zero d in
        omega (arith, linear)

    start : (g t : ℕ) → g < units → t < periods → (sum (output_in g t) +ℤ sum (held_in g t)) ≤ℤ (d *ℤ start_cap (thermal_unit task.instance g) (task.on g) t)
    start g t hg ht =
        let rule = holds 1 g t 0 (omega arith) hg ht (omega arith) refl in
        let parts = sum-as (λ x. times_in (limit StartCap g t 0) (parts x)) (λ x. output_in g t x +ℤ held_in g t x) (λ x f. in_start g t x) in
        let added = sum-add (output_in g t) (held_in g t) in
        omega (arith, linear)

    stop : (g t : ℕ) → g < units → suc t < periods → (sum (output_in g t) +ℤ sum (held_in g t)) ≤ℤ (d *ℤ stop_cap (thermal_unit task.instance g) (task.on g) t)
    stop g t hg ht =
        let there : copies task StopCap g t ≡ 1 = cond-true (nat_lt (suc t) periods) 1 0 (lt-ltb (suc t) periods ht) in
        let rule = holds 2 g t 0 (omega arith) hg (omega arith) (omega arith) refl in
        let parts = sum-as (λ x. times_in (limit StopCap g t 0) (parts x)) (λ x. output_in g t x +ℤ held_in g t x) (λ x f. in_stop g t x) in
        let added = sum-add (output_in g t) (held_in g t) in
        omega (arith, linear)

    pub length_high : (g t k : ℕ) → g < units → t < periods → IsTrue (task.on g t) → k < segments (task.corners g) → sum (length_in g t k) ≤ℤ (d *ℤ width_at (task.corners g) k)
    length_high g t k hg ht on hk =
        let there : copies task Production g t ≡ segments (task.corners g) = cond-true (task.on g t) (segments (task.corners g)) 0 on in
        let rule = holds 0 g t k (omega arith) hg ht (omega arith) refl in
        let parts = sum-as (λ x. times_in (limit Production g t k) (parts x)) (length_in g t k) (λ x f. in_production g t k x) in
        omega (arith, linear)

    renewable_high : (w t : ℕ) → w < renewables → t < periods → (sum (given_in w t) +ℤ d *ℤ low_at task w t) ≤ℤ (d *ℤ renewable_maximum task.instance w t)
    renewable_high w t hw ht =
        let rule = holds 5 w t 0 (omega arith) hw ht (omega arith) refl in
        let parts = sum-as (λ x. times_in (limit RenewableRange w t 0) (parts x)) (given_in w t) (λ x f. in_range w t x) in
        let spread_out = mul-sub d (renewable_maximum task.instance w t) (low_at task w t) in
        omega (arith, linear)

    shed_high : (t : ℕ) → t < periods → IsTrue (nat_lt 0 task.instance.a) → sum (shed_in t) ≤ℤ (d *ℤ right_at task ShedRange 0 t 0)
    shed_high t ht priced =
        let there : copies task ShedRange 0 t ≡ 1 = cond-true (nat_lt 0 task.instance.a) 1 0 priced in
        let rule = holds 8 0 t 0 (omega arith) (omega arith) ht (omega arith) refl in
        let parts = sum-as (λ x. times_in (limit ShedRange 0 t 0) (parts x)) (shed_in t) (λ x f. in_shed t x) in
        omega (arith, linear)

    short_high : (t : ℕ) → t < periods → IsTrue (nat_lt 0 task.instance.b) → sum (short_in t) ≤ℤ (d *ℤ right_at task ShortRange 0 t 0)
    short_high t ht priced =
        let there : copies task ShortRange 0 t ≡ 1 = cond-true (nat_lt 0 task.instance.b) 1 0 priced in
        let rule = holds 9 0 t 0 (omega arith) (omega arith) ht (omega arith) refl in
        let parts = sum-as (λ x. times_in (limit ShortRange 0 t 0) (parts x)) (short_in t) (λ x f. in_short t x) in
        omega (arith, linear)

    reserve : (t : ℕ) → t < periods → (d *ℤ reserve_at task.instance t) ≤ℤ (sum_below units (λ g. sum (held_in g t)) +ℤ sum (short_in t))
    reserve t ht =
        let rule = holds 7 0 t 0 (omega arith) (omega arith) ht (omega arith) refl in
        let parts = sum-as (λ x. times_in (limit Reserve 0 t 0) (parts x)) (λ x. pos 0 -ℤ (sum_below units (λ g. held_in g t x) +ℤ short_in t x)) (in_reserve t) in
        let less = sum-sub (λ x. pos 0) (λ x. sum_below units (λ g. held_in g t x) +ℤ short_in t x) in
        let none = sum-zero (λ x. pos 0) (λ x f. refl) in
        let added = sum-add (λ x. sum_below units (λ g. held_in g t x)) (short_in t) in
        let over = sum-over units (λ g. held_in g t) in
        let turned = mul-neg d (reserve_at task.instance t) in
        omega (arith, linear)

    demand : (t : ℕ) → t < periods
        → sum_below units (λ g. sum (output_in g t) +ℤ d *ℤ ((thermal_unit task.instance g).pmin *ℤ bit (task.on g t)))
        +ℤ sum_below renewables (λ w. sum (given_in w t) +ℤ d *ℤ low_at task w t)
        +ℤ sum (shed_in t) ≡ d *ℤ demand_at task.instance t
    demand t ht =
        let rule = holds_equal t ht in
        let least = λ (g : ℕ). (thermal_unit task.instance g).pmin *ℤ bit (task.on g t) in
        let parts = sum-as (λ x. times_in (limit Demand 0 t 0) (parts x)) (λ x. (sum_below units (λ g. output_in g t x) +ℤ sum_below renewables (λ w. given_in w t x)) +ℤ shed_in t x) (in_demand t) in
        let first = sum-add (λ x. sum_below units (λ g. output_in g t x) +ℤ sum_below renewables (λ w. given_in w t x)) (shed_in t) in
        let second = sum-add (λ x. sum_below units (λ g. output_in g t x)) (λ x. sum_below renewables (λ w. given_in w t x)) in
        let thermal = sum-over units (λ g. output_in g t) in
        let sun = sum-over renewables (λ w. given_in w t) in
        let thermal_parts = sum_below-add units (λ g. sum (output_in g t)) (λ g. d *ℤ least g) in
        let sun_parts = sum_below-add renewables (λ w. sum (given_in w t)) (λ w. d *ℤ low_at task w t) in
        let thermal_factor = sum_below-mul_left units d least in
        let sun_factor = sum_below-mul_left renewables d (λ w. low_at task w t) in
        let outer = mul-sub d (demand_at task.instance t) (given_output task t) in
        let inner = mul-add d (sum_below units least) (sum_below renewables (λ w. low_at task w t)) in
        omega (arith, linear)

    pub values_dispatch : IsDispatch task d v
    values_dispatch = record {
      length_low = λ g t k. sum-nonneg (length_in g t k) (length_nonneg g t k);
      length_high = length_high;
      output = λ g t. sum-as (output_in g t) (λ x. sum_below (segments (task.corners g)) (λ k. length_in g t k x)) (in_lengths g t) ∙ sum-over (segments (task.corners g)) (λ k. length_in g t k);
      reserve_low = λ g t. sum-nonneg (held_in g t) (held_nonneg g t);
      idle_output = λ g t off. sum-zero (output_in g t) (no_output g t off);
      idle_reserve = λ g t off. sum-zero (held_in g t) (no_held g t off);
      start = start;
      stop = stop;
      ramp_up = ramp_up;
      ramp_down = ramp_down;
      renewable_low = λ w t. sum-nonneg (given_in w t) (given_nonneg w t);
      renewable_high = renewable_high;
      demand = demand;
      reserve = reserve;
      shed_low = λ t. sum-nonneg (shed_in t) (shed_nonneg t);
      shed_high = shed_high;
      no_shed = λ t free. sum-zero (shed_in t) (no_shed t free);
      short_low = λ t. sum-nonneg (short_in t) (short_nonneg t);
      short_high = short_high;
      no_short = λ t free. sum-zero (short_in t) (no_short t free);
      cost = cost_is (program task) v d are;
    }

pub values_dispatch_is : ValuesDispatch
values_dispatch_is task d v some are = values_dispatch task d v some are
