-- At a cheapest basis the lengths of a cell fill in order: where one has a value, those before it are whole widths of their segments.
-- Cite by `use Rattle.dispatch_schedule.proofs.Filling.{own_in, sum_own, in_order}`.
use Rattle.std.proofs.Common.{◌≡◌, ◌≢◌, ℕ, zero, suc, ◌+◌, ◌<◌, ◌≤◌, ◌==◌, ◌⊎◌, Bool, true, false, not, ◌&&◌, ⊎_elim, inl, inr, refl, sym, ap, subst, ◌∙◌, arith, List, [], ◌∷◌, length, ℤ, pos, ◌+ℤ◌, ◌-ℤ◌, ◌*ℤ◌, neg_ℤ, ◌<ℤ◌, IsTrue}
use Rattle.std.proofs.lemmas.Bool.{cases_lt, cond-true, cond-false, eq-eqb, eqb-true, and_parts}
use Rattle.std.proofs.lemmas.Int.{by_lt_z}
use Rattle.uc_model.specs.Prelude.{Production, StartCap, StopCap, RampUp, RampDown, Demand, point_of, thermal_unit, thermal_count, IsLawfulInstance}
use Rattle.uc_model.proofs.Common.{linear, spread, mul_comm, mul_assoc, mul-zero, zero-mul, mul-one, one-mul, mul-lt-mul_left, mul-le-mul_left, sum_below-same, sum_below-single}
use Rattle.cost_curves.specs.LowerHull.{Point, IsLowerHull}
use Rattle.pivot_run.specs.Prelude.{row_at, Table, basic, number}
use Rattle.dispatch_program.specs.Prelude.{Program, Slack, SumValue, RightSide, is_limit, place, multiplier, start_rows, IsLastRow, IsReached, AreShares, basis_values, IsCheapest}
use Rattle.dispatch_program.proofs.BasicValues.{at_other, value_none}
use Rattle.dispatch_program.proofs.Combined.{unknown_is}
use Rattle.dispatch_program.proofs.LastTables.{count, cost_column, early_rule, ends_are_last}
use Rattle.dispatch_program.proofs.LineSums.{rule_is}
use Rattle.dispatch_program.proofs.Starts.{counted-le, start_is}
use Rattle.dispatch_rules.specs.declared.amount.Amount.{Amount}
use Rattle.dispatch_rules.specs.declared.amount.Amount.TheVariants.{Length, Held, Given, Shed, Short}
use Rattle.dispatch_rules.specs.Prelude.{segments, width_at, rise_at, Task, Limit, Part, limit, part, parts, times_in, is_demand, copies, limits, limit_at, right_of, amounts, amount_at, amounts_in, unit_amounts, listed, cost_of, program, IsTask, times_at, cost_times, sum_of, one_if, length_in, held_in, given_in, shed_in, short_in}
use Rattle.dispatch_rules.proofs.Distinct.{limits_are_once}
use Rattle.dispatch_rules.proofs.Duals.{m_nonneg}
use Rattle.dispatch_rules.proofs.Listed.{StandsIn, stands_alone, stands_left, stands_listed}
use Rattle.dispatch_rules.proofs.Multipliers.{priced, amount}
use Rattle.dispatch_rules.proofs.Primals.{limit_stands, in_production}
use Rattle.dispatch_schedule.proofs.Apart.{amounts_apart}
use Rattle.dispatch_schedule.proofs.ColumnValues.{IsOfRow, IsNothing, value_comes, value_nothing, constraints, rule_row}
use Rattle.dispatch_schedule.proofs.Powers.{values as end_values}

-- ---- the sum over one amount
-- 1 at the amount, 0 at any other
abbrev pub own_in : Amount → Amount → ℤ
own_in (Length g t k) y = length_in g t k y
own_in (Held g t) y = held_in g t y
own_in (Given w t) y = given_in w t y
own_in (Shed t) y = shed_in t y
own_in (Short t) y = short_in t y

pub own_same : (x : Amount) → own_in x x ≡ pos 1
own_same (Length g t k) = λ i. one_if (eq-eqb g g refl i && (eq-eqb t t refl i && eq-eqb k k refl i))
own_same (Held g t) = λ i. one_if (eq-eqb g g refl i && eq-eqb t t refl i)
own_same (Given w t) = λ i. one_if (eq-eqb w w refl i && eq-eqb t t refl i)
own_same (Shed t) = ap one_if (eq-eqb t t refl)
own_same (Short t) = ap one_if (eq-eqb t t refl)

two_cases : (b : Bool) (P : Type 0) → (b ≡ true → P) → (one_if b ≡ pos 0) ⊎ P
two_cases true P h = inr (h refl)
two_cases false P h = inl refl

own_other : (x y : Amount) → (own_in x y ≡ pos 0) ⊎ (x ≡ y)
own_other (Length g t k) (Length h s l) = two_cases ((g == h) && ((t == s) && (k == l))) (Length g t k ≡ Length h s l) (λ e.
    let first = and_parts (g == h) ((t == s) && (k == l)) e in
    let second = and_parts (t == s) (k == l) first.1 in
    λ i. Length (eqb-true g h first.0 i) (eqb-true t s second.0 i) (eqb-true k l second.1 i))
own_other (Length g t k) (Held h s) = inl refl
own_other (Length g t k) (Given h s) = inl refl
own_other (Length g t k) (Shed s) = inl refl
own_other (Length g t k) (Short s) = inl refl
own_other (Held g t) (Held h s) = two_cases ((g == h) && (t == s)) (Held g t ≡ Held h s) (λ e.
    let both = and_parts (g == h) (t == s) e in λ i. Held (eqb-true g h both.0 i) (eqb-true t s both.1 i))
own_other (Held g t) (Length h s l) = inl refl
own_other (Held g t) (Given h s) = inl refl
own_other (Held g t) (Shed s) = inl refl
own_other (Held g t) (Short s) = inl refl
own_other (Given g t) (Given h s) = two_cases ((g == h) && (t == s)) (Given g t ≡ Given h s) (λ e.
    let both = and_parts (g == h) (t == s) e in λ i. Given (eqb-true g h both.0 i) (eqb-true t s both.1 i))
own_other (Given g t) (Length h s l) = inl refl
own_other (Given g t) (Held h s) = inl refl
own_other (Given g t) (Shed s) = inl refl
own_other (Given g t) (Short s) = inl refl
own_other (Shed t) (Shed s) = two_cases (t == s) (Shed t ≡ Shed s) (λ e. ap Shed (eqb-true t s e))
own_other (Shed t) (Length h s l) = inl refl
own_other (Shed t) (Held h s) = inl refl
own_other (Shed t) (Given h s) = inl refl
own_other (Shed t) (Short s) = inl refl
own_other (Short t) (Short s) = two_cases (t == s) (Short t ≡ Short s) (λ e. ap Short (eqb-true t s e))
own_other (Short t) (Length h s l) = inl refl
own_other (Short t) (Held h s) = inl refl
own_other (Short t) (Given h s) = inl refl
own_other (Short t) (Shed s) = inl refl

apart_any : (task : Task) (i j : ℕ) → i < length (amounts task) → j < length (amounts task) → i ≢ j → amount_at task i ≢ amount_at task j
apart_any task i j h l other e = ⊎_elim
    (λ (less : i < j). amounts_apart task i j less l e)
    (λ (most : j ≤ i). amounts_apart task j i (omega arith) h (sym e))
    (cases_lt i j)

pub sum_own : (task : Task) (v : ℕ → ℤ) (x : Amount) (c : ℕ) → c < length (amounts task) → amount_at task c ≡ x → sum_of task v (own_in x) ≡ v c
sum_own task v x c h is =
    sum_below-single (length (amounts task)) (λ j. own_in x (amount_at task j) *ℤ v j) c h
    (λ j l other. ⊎_elim
    (λ (none : own_in x (amount_at task j) ≡ pos 0). ap (λ z. z *ℤ v j) none ∙ zero-mul (v j))
    (λ (same : x ≡ amount_at task j). absurd (apart_any task j c l h other (sym same ∙ sym is)))
    (own_other x (amount_at task j)))
    ∙ ap (λ y. own_in x y *ℤ v c) is ∙ ap (λ z. z *ℤ v c) (own_same x) ∙ one-mul (v c)

-- ---- the slopes of a hull
steeper : (m s s' w w' r r' : ℤ) → pos 0 <ℤ m → pos 0 <ℤ w → pos 0 <ℤ w' → s *ℤ w ≡ m *ℤ r → s' *ℤ w' ≡ m *ℤ r'
    → (r *ℤ (w +ℤ w')) <ℤ ((r +ℤ r') *ℤ w) → s <ℤ s'
steeper m s s' w w' r r' sign positive positive' steep steep' below =
    let parts : (r *ℤ w') <ℤ (r' *ℤ w) = let h = simp spread at below in omega (arith, linear) in
    let times = mul-lt-mul_left m _ _ sign parts in
    let left : m *ℤ (r *ℤ w') ≡ (w *ℤ w') *ℤ s =
    sym (mul_assoc m r w') ∙ ap (λ z. z *ℤ w') (sym steep) ∙ mul_assoc s w w' ∙ mul_comm s (w *ℤ w') in
    let right : m *ℤ (r' *ℤ w) ≡ (w *ℤ w') *ℤ s' =
    sym (mul_assoc m r' w) ∙ ap (λ z. z *ℤ w) (sym steep') ∙ mul_assoc s' w' w ∙ ap (λ z. s' *ℤ z) (mul_comm w' w) ∙ mul_comm s' (w *ℤ w') in
    less_from_mul (w *ℤ w') s s' (product w w' positive positive') (omega (arith, linear))
  where
    product : (a b : ℤ) → pos 0 <ℤ a → pos 0 <ℤ b → pos 0 <ℤ (a *ℤ b)
    product a b h k = let more = mul-lt-mul_left a (pos 0) b h k in let none = mul-zero a in omega (arith, linear)

    less_from_mul : (q a b : ℤ) → pos 0 <ℤ q → (q *ℤ a) <ℤ (q *ℤ b) → a <ℤ b
    less_from_mul q a b h l = by_lt_z a b (λ less. less)
        (λ most. let more = mul-le-mul_left q b a (omega (arith, linear)) most in absurd (omega (arith, linear)))

module _ (points corners : List Point) (m : ℤ) (slope : ℕ → ℤ) (hull : IsLowerHull points corners) (sign : pos 0 <ℤ m)
    (steep : (k : ℕ) → suc k < length corners → slope k *ℤ width_at corners k ≡ m *ℤ rise_at corners k) where
  pub width_positive : (i : ℕ) → suc i < length corners → pos 0 <ℤ width_at corners i
  width_positive i h = let rising = hull.hull.rising i h in omega (arith, linear)

  next_slope : (k : ℕ) → suc (suc k) < length corners → slope k <ℤ slope (suc k)
  next_slope k h =
      let below = hull.hull.strict k h in
      let first : (point_of corners (suc (suc k))).mw -ℤ (point_of corners k).mw ≡ width_at corners k +ℤ width_at corners (suc k) = omega (arith, linear) in
      let second : (point_of corners (suc (suc k))).cost -ℤ (point_of corners k).cost ≡ rise_at corners k +ℤ rise_at corners (suc k) = omega (arith, linear) in
      let line : (rise_at corners k *ℤ (width_at corners k +ℤ width_at corners (suc k))) <ℤ ((rise_at corners k +ℤ rise_at corners (suc k)) *ℤ width_at corners k) =
      subst (λ z. (rise_at corners k *ℤ (width_at corners k +ℤ width_at corners (suc k))) <ℤ (z *ℤ width_at corners k)) second
      (subst (λ z. (rise_at corners k *ℤ z) <ℤ (((point_of corners (suc (suc k))).cost -ℤ (point_of corners k).cost) *ℤ width_at corners k)) first below) in
      steeper m (slope k) (slope (suc k)) (width_at corners k) (width_at corners (suc k)) (rise_at corners k) (rise_at corners (suc k)) sign
      (width_positive k (omega arith)) (width_positive (suc k) h) (steep k (omega arith)) (steep (suc k) h) line

  pub slopes_rise : (k i : ℕ) → k < i → suc i < length corners → slope k <ℤ slope i
  slopes_rise k zero le h = absurd (omega arith)
  slopes_rise k (suc i) le h = ⊎_elim
      (λ (less : k < i). let before = slopes_rise k i less (omega arith) in let next = next_slope i h in omega (arith, linear))
      (λ (most : i ≤ k). let same : k ≡ i = omega arith in let e = ap slope same in let next = next_slope i h in omega (arith, linear))
      (cases_lt k i)

-- ---- the row of the cost
-- the limits of a length but its own
abbrev others_of : ℕ → ℕ → List Part
others_of g t =
    part StartCap g t 0 (pos 1) ∷ part StopCap g t 0 (pos 1)
    ∷ part RampUp g t 0 (pos 1) ∷ part RampUp g (suc t) 0 (neg_ℤ (pos 1))
    ∷ part RampDown g t 0 (neg_ℤ (pos 1)) ∷ part RampDown g (suc t) 0 (pos 1)
    ∷ part Demand 0 t 0 (pos 1) ∷ []

module _ (task : Task) (t : Table) (lawful : IsLawfulInstance task.instance) (is : IsTask task) (reached : IsReached (program task) t)
    (cheapest : IsCheapest (program task) t) (d : ℤ) (share : ℕ → ℤ) (are : AreShares t d share) where
  abbrev p : Program
  p = program task

  abbrev o : ℕ
  o = (program task).rules + 1

  abbrev row : List ℤ
  row = row_at t.rows ((program task).rules + 1)

  abbrev v : ℕ → ℤ
  v = basis_values (program task) t d share

  abbrev m : Limit → ℤ
  m = times_at task (row_at t.rows ((program task).rules + 1))

  last_row : IsLastRow (program task) (row_at t.rows ((program task).rules + 1))
  last_row = ends_are_last (program task) t ((program task).rules + 1) reached (omega arith) (omega arith) cheapest.1

  last_within : (program task).rules + 1 < length t.rows
  last_within = let size = count (program task) t reached in omega arith

  cost_positive : pos 0 <ℤ cost_times task (row_at t.rows ((program task).rules + 1))
  cost_positive =
      subst (λ c. pos 0 <ℤ number t ((program task).rules + 1) c) (cost_column (program task) t reached) (reached.keeps.basis.own ((program task).rules + 1) last_within)

  -- the number of a length
  abbrev common : ℕ → ℕ → ℤ
  common g s = priced task (multiplier (program task) (row_at t.rows ((program task).rules + 1))) (others_of g s)

  length_number : (c g s k : ℕ) → c < length (amounts task) → amount_at task c ≡ Length g s k
      → number t ((program task).rules + 1) c ≡ m (limit Production g s k) +ℤ common g s +ℤ cost_times task (row_at t.rows ((program task).rules + 1)) *ℤ cost_of task (Length g s k)
  length_number c g s k h e =
      unknown_is (program task) (start_rows (program task)) (start_is (program task)) (row_at t.rows ((program task).rules + 1)) last_row.kept c h
      ∙ ap (λ z. z +ℤ cost_times task (row_at t.rows ((program task).rules + 1)) *ℤ cost_of task (amount_at task c))
      (amount task (multiplier (program task) (row_at t.rows ((program task).rules + 1))) (parts (amount_at task c)))
      ∙ ap (λ x. priced task (multiplier (program task) (row_at t.rows ((program task).rules + 1))) (parts x) +ℤ cost_times task (row_at t.rows ((program task).rules + 1)) *ℤ cost_of task x) e
      ∙ ap (λ z. z +ℤ common g s +ℤ cost_times task (row_at t.rows ((program task).rules + 1)) *ℤ cost_of task (Length g s k)) (mul-one (m (limit Production g s k)))

  -- a basic column has the number 0
  basic_number : (k c : ℕ) → k < (program task).rules → basic t k ≡ c → number t ((program task).rules + 1) c ≡ pos 0
  basic_number k c h same =
      ap (number t ((program task).rules + 1)) (sym same)
      ∙ reached.keeps.basis.others k ((program task).rules + 1) (rule_row (program task) t reached k h) last_within (λ e. absurd (omega arith))

  -- ---- a limit that stands in the row
  module _ (g s k : ℕ) (hg : g < thermal_count task.instance) (hs : s < task.instance.periods) (on : IsTrue (task.on g s)) (hk : k < segments (task.corners g)) where
    stands : StandsIn (limit Demand 0 0 0) (limit Production g s k) (limits task)
    stands =
        let there : copies task Production g s ≡ segments (task.corners g) = cond-true (task.on g s) (segments (task.corners g)) 0 on in
        limit_stands task 0 g s k (omega arith) hg hs (omega arith)

    abbrev i : ℕ
    i = stands.0

    plain : is_demand (limit_at task stands.0) ≡ false
    plain = ap is_demand stands.2

    m_is : m (limit Production g s k) ≡ number t ((program task).rules + 1) (place (program task) (Slack stands.0))
    m_is =
        ap m (sym stands.2)
        ∙ limits_are_once task (multiplier (program task) (row_at t.rows ((program task).rules + 1))) stands.0 stands.1
        ∙ cond-false ((program task).is_equality stands.0) _ _ plain

    slack_early : place (program task) (Slack stands.0) < place (program task) SumValue
    slack_early = let less = counted-le (is_limit (program task)) stands.0 (program task).rules stands.1 (ap not plain) in omega arith

    slack_none : pos 0 <ℤ m (limit Production g s k) → v (place (program task) (Slack stands.0)) ≡ pos 0
    slack_none some =
        value_none t reached.keeps.basis (place (program task) RightSide) (neg_ℤ d) (λ l. neg_ℤ (share l)) (place (program task) (Slack stands.0))
        (λ j l same.
        let rule = early_rule (program task) t reached j (place (program task) (Slack stands.0)) l slack_early same in
        let none = basic_number j (place (program task) (Slack stands.0)) rule same in
        let own = m_is in
        absurd (omega (arith, linear)))
        ∙ at_other (place (program task) RightSide) (neg_ℤ d) (place (program task) (Slack stands.0)) (λ e. let early = slack_early in absurd (omega arith))

    -- it is reached
    is_whole : pos 0 <ℤ m (limit Production g s k) → sum_of task v (length_in g s k) ≡ d *ℤ width_at (task.corners g) k
    is_whole some =
        let whole = rule_is (program task) v d (end_values task t lawful is reached cheapest d share are) stands.0 stands.1 in
        let own = cond-true (is_limit (program task) stands.0) (v (place (program task) (Slack stands.0))) (pos 0) (ap not plain) in
        let none = slack_none some in
        let left : sum_of task v (λ x. times_in (limit_at task stands.0) (parts x)) ≡ sum_of task v (length_in g s k) =
        ap (λ (l : Limit). sum_of task v (λ x. times_in l (parts x))) stands.2
        ∙ sum_below-same (length (amounts task)) (λ c. times_in (limit Production g s k) (parts (amount_at task c)) *ℤ v c) (λ c. length_in g s k (amount_at task c) *ℤ v c)
        (λ c h. ap (λ z. z *ℤ v c) (in_production task g s k (amount_at task c))) in
        let right : d *ℤ right_of task (limit_at task stands.0) ≡ d *ℤ width_at (task.corners g) k = ap (λ (l : Limit). d *ℤ right_of task l) stands.2 in
        omega (arith, linear)

  -- ---- two lengths of a cell
  module _ (g s : ℕ) (hg : g < thermal_count task.instance) (hs : s < task.instance.periods) (on : IsTrue (task.on g s)) where
    length_stands : (k : ℕ) → k < segments (task.corners g) → StandsIn (Shed 0) (Length g s k) (amounts task)
    length_stands k hk =
        stands_listed (Shed 0) (Length g s k) task.instance.periods (amounts_in task) s hs
        (stands_left (Shed 0) (Length g s k) (listed (thermal_count task.instance) (unit_amounts task s)) _
        (stands_listed (Shed 0) (Length g s k) (thermal_count task.instance) (unit_amounts task s) g hg
        (subst (λ xs. StandsIn (Shed 0) (Length g s k) xs) (sym (cond-true (task.on g s) _ _ on))
        (stands_left (Shed 0) (Length g s k) (listed (segments (task.corners g)) (λ j. Length g s j ∷ [])) (Held g s ∷ [])
        (stands_listed (Shed 0) (Length g s k) (segments (task.corners g)) (λ j. Length g s j ∷ []) k hk (stands_alone (Shed 0) (Length g s k)))))))

    abbrev used : ℕ → ℤ
    used k = sum_of task v (length_in g s k)

    cost_rises : (k l : ℕ) → k < l → l < segments (task.corners g) → cost_of task (Length g s k) <ℤ cost_of task (Length g s l)
    cost_rises k l less hl =
        slopes_rise (thermal_unit task.instance g).points (task.corners g) task.scale (λ j. cost_of task (Length g s j)) (is.hulls g hg) is.scale
        (λ j hj. is.whole g s j hg hs on hj) k l less (omega arith)

    pub in_order : (k l : ℕ) → k < l → l < segments (task.corners g) → (used l ≡ pos 0) ⊎ (used k ≡ d *ℤ width_at (task.corners g) k)
    in_order k l less hl =
        let low = length_stands k (omega arith) in
        let high = length_stands l hl in
        let own = sum_own task v (Length g s l) high.0 high.1 high.2 in
        ⊎_elim
        (λ (basic_row : (j : ℕ) × IsOfRow t high.0 t.constraints j).
        let rule = subst (λ n. basic_row.0 < n) (constraints (program task) t reached) basic_row.1.within in
        let nothing_is = basic_number basic_row.0 high.0 rule basic_row.1.column in
        let high_is = length_number high.0 g s l high.1 high.2 in
        let low_is = length_number low.0 g s k low.1 low.2 in
        let sign = last_row.unknown low.0 low.1 in
        let limit_sign = m_nonneg task (row_at t.rows ((program task).rules + 1)) is last_row (limit Production g s l) refl in
        let rises = mul-lt-mul_left (cost_times task (row_at t.rows ((program task).rules + 1))) (cost_of task (Length g s k)) (cost_of task (Length g s l)) cost_positive (cost_rises k l less hl) in
        inr (is_whole g s k hg hs on (omega arith) (omega (arith, linear))))
        (λ (none : IsNothing t high.0 t.constraints). inl (own ∙ value_nothing (program task) t reached d share are high.0 high.1 none))
        (value_comes t high.0 t.constraints)
