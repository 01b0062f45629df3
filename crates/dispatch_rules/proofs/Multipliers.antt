-- Sums over the rules of a dispatch's program, by its limits.
-- Cite by `use Rattle.dispatch_rules.proofs.Multipliers.{amount}`.
use Rattle.std.proofs.Common.{◌≡◌, ℕ, zero, suc, ◌+◌, ◌<◌, ◌==◌, Bool, true, false, ◌&&◌, refl, sym, ap, subst, ◌∙◌, arith, List, [], ◌∷◌, length, ℤ, pos, ◌+ℤ◌, ◌*ℤ◌, ◌≤ℤ◌, IsTrue, if◌then◌else◌}
use Rattle.std.proofs.lemmas.Bool.{cond-true, cond_both, eqb-true, eq-eqb, and_parts}
use Rattle.uc_model.specs.Prelude.{sum_below, Rule, rule_number, rule_units}
use Rattle.uc_model.proofs.Common.{mul-add, mul-zero, zero-mul, pos_nonneg, sum_below-same, sum_below-add, sum_below-zero, sum_below-single, sum_below-mul_right, sum_below-swap, sum_below_nonneg}
use Rattle.dispatch_rules.specs.Dispatch.{Task, Limit, limit, is_same, Part, times_in, right_of, is_demand, copies, limits_of, limits, limit_at, rule_from, over_cells, over_limits, times_of}
use Rattle.dispatch_rules.proofs.Listed.{Each, each_one, each_listed}

-- ---- same limits
pub record AreEqual (a b : Limit) : Type 0 where
  pub rule : rule_number a.rule ≡ rule_number b.rule
  pub unit : a.unit ≡ b.unit
  pub period : a.period ≡ b.period
  pub segment : a.segment ≡ b.segment

pub same-equal : (a b : Limit) → IsTrue (is_same a b) → AreEqual a b
same-equal a b h =
    let first = and_parts _ _ h in
    let second = and_parts _ _ first.1 in
    let third = and_parts _ _ second.1 in
    record { rule = eqb-true _ _ first.0; unit = eqb-true _ _ second.0; period = eqb-true _ _ third.0; segment = eqb-true _ _ third.1 }

pub is_same-refl : (a : Limit) → is_same a a ≡ true
is_same-refl a =
    let r = eq-eqb (rule_number a.rule) _ refl in
    let u = eq-eqb a.unit _ refl in
    let t = eq-eqb a.period _ refl in
    let k = eq-eqb a.segment _ refl in
    λ i. r i && (u i && (t i && k i))

-- what stands where the limits are the same, and 0 else
abbrev pub where_same : Limit → Limit → ℤ → ℤ
where_same a b z = if is_same a b then z else pos 0

where_other : (a b : Limit) (z : ℤ) → (AreEqual a b → ⊥) → where_same a b z ≡ pos 0
where_other a b z other = cond_both (is_same a b) z (pos 0) (λ x. x ≡ pos 0) (λ e. absurd (other (same-equal a b e))) (λ e. refl)

where_equal : (a : Limit) (z : ℤ) → where_same a a z ≡ z
where_equal a z = cond-true (is_same a a) z (pos 0) (is_same-refl a)

-- ---- the limits that there are
pub record IsListed (task : Task) (l : Limit) : Type 0 where
  pub number : ℕ
  pub few : number < 10
  pub unit : l.unit < rule_units (rule_from number) task.instance
  pub period : l.period < task.instance.periods
  pub segment : l.segment < copies task (rule_from number) l.unit l.period
  pub is : l ≡ limit (rule_from number) l.unit l.period l.segment

limits-listed : (task : Task) → Each (IsListed task) (limits task)
limits-listed task =
    each_listed (IsListed task) 10 (λ n. limits_of task (rule_from n)) (λ n few.
    each_listed (IsListed task) _ _ (λ g unit.
    each_listed (IsListed task) _ _ (λ t period.
    each_listed (IsListed task) _ _ (λ k segment.
    each_one (IsListed task) (limit (rule_from n) g t k)
    (record { number = n; few = few; unit = unit; period = period; segment = segment; is = refl })))))

pub limit_at-listed : (task : Task) (i : ℕ) → i < length (limits task) → IsListed task (limit_at task i)
limit_at-listed task i h = limits-listed task i _ h

-- the rules have numbers of their own
number_is : (n : ℕ) → n < 10 → rule_number (rule_from n) ≡ n + 8
number_is zero h = refl
number_is (suc zero) h = refl
number_is (suc (suc zero)) h = refl
number_is (suc (suc (suc zero))) h = refl
number_is (suc (suc (suc (suc zero)))) h = refl
number_is (suc (suc (suc (suc (suc zero))))) h = refl
number_is (suc (suc (suc (suc (suc (suc zero)))))) h = refl
number_is (suc (suc (suc (suc (suc (suc (suc zero))))))) h = refl
number_is (suc (suc (suc (suc (suc (suc (suc (suc zero)))))))) h = refl
number_is (suc (suc (suc (suc (suc (suc (suc (suc (suc zero))))))))) h = refl
number_is (suc (suc (suc (suc (suc (suc (suc (suc (suc (suc n)))))))))) h = absurd (omega arith)

pub same_number : (m n : ℕ) → m < 10 → n < 10 → rule_number (rule_from m) ≡ rule_number (rule_from n) → m ≡ n
same_number m n h l e = let a = number_is m h in let b = number_is n l in omega arith

-- ---- a sum over the limits of what stands at one of them
module _ (task : Task) (n g t k : ℕ) (f : Limit → ℤ) where
  abbrev own : Limit
  own = limit (rule_from n) g t k

  abbrev at : Limit → ℤ
  at l = where_same own l (f l)

  abbrev in_cell : ℕ → ℕ → ℕ → ℤ
  in_cell m g' t' = sum_below (copies task (rule_from m) g' t') (λ k'. at (limit (rule_from m) g' t' k'))

  cell_zero : (m g' t' : ℕ) → ((k' : ℕ) → AreEqual own (limit (rule_from m) g' t' k') → ⊥) → in_cell m g' t' ≡ pos 0
  cell_zero m g' t' other =
      sum_below-zero (copies task (rule_from m) g' t') (λ k'. at (limit (rule_from m) g' t' k'))
      (λ k' h. where_other own (limit (rule_from m) g' t' k') (f (limit (rule_from m) g' t' k')) (other k'))

  unit_zero : (m g' : ℕ) → ((t' k' : ℕ) → AreEqual own (limit (rule_from m) g' t' k') → ⊥) → sum_below task.instance.periods (in_cell m g') ≡ pos 0
  unit_zero m g' other = sum_below-zero task.instance.periods (in_cell m g') (λ t' h. cell_zero m g' t' (other t'))

  rule_zero : (m : ℕ) → ((g' t' k' : ℕ) → AreEqual own (limit (rule_from m) g' t' k') → ⊥) → over_cells task (rule_from m) at ≡ pos 0
  rule_zero m other =
      sum_below-zero (rule_units (rule_from m) task.instance) (λ g'. sum_below task.instance.periods (in_cell m g'))
      (λ g' h. unit_zero m g' (other g'))

  one_limit : n < 10 → g < rule_units (rule_from n) task.instance → t < task.instance.periods → k < copies task (rule_from n) g t
      → over_limits task at ≡ f own
  one_limit few unit period segment =
      sum_below-single 10 (λ m. over_cells task (rule_from m) at) n few
      (λ m less other. rule_zero m (λ g' t' k' e. other (same_number m n less few (sym e.rule))))
      ∙ sum_below-single (rule_units (rule_from n) task.instance) (λ g'. sum_below task.instance.periods (in_cell n g')) g unit
      (λ g' less other. unit_zero n g' (λ t' k' e. other (sym e.unit)))
      ∙ sum_below-single task.instance.periods (in_cell n g) t period (λ t' less other. cell_zero n g t' (λ k' e. other (sym e.period)))
      ∙ sum_below-single (copies task (rule_from n) g t) (λ k'. at (limit (rule_from n) g t k')) k segment
      (λ k' less other. where_other own (limit (rule_from n) g t k') (f (limit (rule_from n) g t k')) (λ e. other (sym e.segment)))
      ∙ where_equal own (f own)

pub at_listed : (task : Task) (l : Limit) (f : Limit → ℤ) → IsListed task l → over_limits task (λ other. where_same l other (f other)) ≡ f l
at_listed task l f is =
    subst (λ o. over_limits task (λ other. where_same o other (f other)) ≡ f o) (sym is.is)
    (one_limit task is.number l.unit l.period l.segment f is.few is.unit is.period is.segment)

-- ---- sums over the program's rules and sums over the limits change places
swapped : (task : Task) (n : ℕ) (F : ℕ → Limit → ℤ) → sum_below n (λ i. over_limits task (F i)) ≡ over_limits task (λ l. sum_below n (λ i. F i l))
swapped task n F =
    sum_below-swap n 10 (λ i m. over_cells task (rule_from m) (F i))
    ∙ sum_below-same 10 (λ m. sum_below n (λ i. over_cells task (rule_from m) (F i))) (λ m. over_cells task (rule_from m) (λ l. sum_below n (λ i. F i l)))
    (λ m few. in_rule (rule_from m))
  where
    in_unit : (rule : Rule) (g t : ℕ) → sum_below n (λ i. sum_below (copies task rule g t) (λ k. F i (limit rule g t k)))
        ≡ sum_below (copies task rule g t) (λ k. sum_below n (λ i. F i (limit rule g t k)))
    in_unit rule g t = sum_below-swap n (copies task rule g t) (λ i k. F i (limit rule g t k))

    in_periods : (rule : Rule) (g : ℕ)
        → sum_below n (λ i. sum_below task.instance.periods (λ t. sum_below (copies task rule g t) (λ k. F i (limit rule g t k))))
        ≡ sum_below task.instance.periods (λ t. sum_below (copies task rule g t) (λ k. sum_below n (λ i. F i (limit rule g t k))))
    in_periods rule g =
        sum_below-swap n task.instance.periods (λ i t. sum_below (copies task rule g t) (λ k. F i (limit rule g t k)))
        ∙ sum_below-same task.instance.periods (λ t. sum_below n (λ i. sum_below (copies task rule g t) (λ k. F i (limit rule g t k))))
        (λ t. sum_below (copies task rule g t) (λ k. sum_below n (λ i. F i (limit rule g t k))))
        (λ t h. in_unit rule g t)

    in_rule : (rule : Rule) → sum_below n (λ i. over_cells task rule (F i)) ≡ over_cells task rule (λ l. sum_below n (λ i. F i l))
    in_rule rule =
        sum_below-swap n (rule_units rule task.instance) (λ i g. sum_below task.instance.periods (λ t. sum_below (copies task rule g t) (λ k. F i (limit rule g t k))))
        ∙ sum_below-same (rule_units rule task.instance)
        (λ g. sum_below n (λ i. sum_below task.instance.periods (λ t. sum_below (copies task rule g t) (λ k. F i (limit rule g t k)))))
        (λ g. sum_below task.instance.periods (λ t. sum_below (copies task rule g t) (λ k. sum_below n (λ i. F i (limit rule g t k)))))
        (λ g h. in_periods rule g)

over_limits-same : (task : Task) (f h : Limit → ℤ) → ((l : Limit) → f l ≡ h l) → over_limits task f ≡ over_limits task h
over_limits-same task f h e =
    sum_below-same 10 _ _ (λ n few. sum_below-same (rule_units (rule_from n) task.instance) _ _ (λ g hg.
    sum_below-same task.instance.periods _ _ (λ t ht. sum_below-same (copies task (rule_from n) g t) _ _ (λ k hk. e (limit (rule_from n) g t k)))))

-- a factor of what stands at one limit
factored : (b : Bool) (m x : ℤ) → (if b then m *ℤ x else pos 0) ≡ (if b then m else pos 0) *ℤ x
factored true m x = refl
factored false m x = sym (zero-mul x)

-- ---- the multiples of the program's rules, by its limits
module _ (task : Task) (times : ℕ → ℤ) where
  abbrev count : ℕ
  count = length (limits task)

  -- of their right sides
  pub rights : sum_below count (λ i. times i *ℤ right_of task (limit_at task i)) ≡ over_limits task (λ l. times_of task times l *ℤ right_of task l)
  rights =
      sum_below-same count (λ i. times i *ℤ right_of task (limit_at task i))
      (λ i. over_limits task (λ l. where_same (limit_at task i) l (times i *ℤ right_of task l)))
      (λ i h. sym (at_listed task (limit_at task i) (λ l. times i *ℤ right_of task l) (limit_at-listed task i h)))
      ∙ swapped task count (λ i l. where_same (limit_at task i) l (times i *ℤ right_of task l))
      ∙ over_limits-same task (λ l. sum_below count (λ i. where_same (limit_at task i) l (times i *ℤ right_of task l)))
      (λ l. times_of task times l *ℤ right_of task l)
      (λ l. sum_below-same count (λ i. where_same (limit_at task i) l (times i *ℤ right_of task l))
      (λ i. where_same (limit_at task i) l (times i) *ℤ right_of task l)
      (λ i h. factored (is_same (limit_at task i) l) (times i) (right_of task l))
      ∙ sum_below-mul_right count (λ i. where_same (limit_at task i) l (times i)) (right_of task l))

  -- of an amount's numbers
  abbrev pub priced : List Part → ℤ
  priced [] = pos 0
  priced (p ∷ ps) = times_of task times p.of *ℤ p.times +ℤ priced ps

  pub amount : (ps : List Part) → sum_below count (λ i. times i *ℤ times_in (limit_at task i) ps) ≡ priced ps
  amount [] = sum_below-zero count (λ i. times i *ℤ pos 0) (λ i h. mul-zero (times i))
  amount (p ∷ ps) =
      sum_below-same count (λ i. times i *ℤ times_in (limit_at task i) (p ∷ ps))
      (λ i. where_same (limit_at task i) p.of (times i) *ℤ p.times +ℤ times i *ℤ times_in (limit_at task i) ps)
      (λ i h. mul-add (times i) (where_same (limit_at task i) p.of p.times) (times_in (limit_at task i) ps)
      ∙ ap (λ z. z +ℤ times i *ℤ times_in (limit_at task i) ps) (moved (is_same (limit_at task i) p.of) (times i) p.times))
      ∙ sum_below-add count (λ i. where_same (limit_at task i) p.of (times i) *ℤ p.times) (λ i. times i *ℤ times_in (limit_at task i) ps)
      ∙ (λ j. sum_below-mul_right count (λ i. where_same (limit_at task i) p.of (times i)) p.times j +ℤ amount ps j)
    where
      moved : (b : Bool) (m x : ℤ) → m *ℤ (if b then x else pos 0) ≡ (if b then m else pos 0) *ℤ x
      moved true m x = refl
      moved false m x = mul-zero m ∙ sym (zero-mul x)

  -- a limit that isn't there stands nowhere
  pub unlisted : (l : Limit) → ((other : Limit) → IsListed task other → AreEqual other l → ⊥) → times_of task times l ≡ pos 0
  unlisted l none =
      sum_below-zero count (λ i. where_same (limit_at task i) l (times i))
      (λ i h. where_other (limit_at task i) l (times i) (none (limit_at task i) (limit_at-listed task i h)))

  -- and one that isn't an equality doesn't stand less than 0 times
  pub times_nonneg : (l : Limit) → is_demand l ≡ false → ((i : ℕ) → i < count → is_demand (limit_at task i) ≡ false → pos 0 ≤ℤ times i) → pos 0 ≤ℤ times_of task times l
  times_nonneg l plain each =
      sum_below_nonneg count (λ i. where_same (limit_at task i) l (times i))
      (λ i h. cond_both (is_same (limit_at task i) l) (times i) (pos 0) (λ z. pos 0 ≤ℤ z)
      (λ e. each i h (ap (λ r. r == 14) (same-equal (limit_at task i) l e).rule ∙ plain))
      (λ e. pos_nonneg 0))
