-- The value of the commitment's node is at least what the right side of the last row says, part by part.
-- Cite by `use Rattle.dispatch_rules.proofs.NodeBounds.{last_rows_bound}`.
use Rattle.std.proofs.Common.{◌≡◌, ℕ, suc, ◌<◌, ◌≤◌, nat_lt, Bool, true, false, ⊎_elim, refl, sym, ap, subst, ◌∙◌, arith, List, [], ◌∷◌, length, ℤ, pos, ◌+ℤ◌, ◌-ℤ◌, ◌*ℤ◌, neg_ℤ, ◌≤ℤ◌, IsTrue, int_lt, if◌then◌else◌}
use Rattle.std.specs.Int.{int_min, int_max}
use Rattle.std.proofs.lemmas.Int.{ints}
use Rattle.std.proofs.lemmas.Bool.{cases_Bool, cond-true, cond-false, cond_both, cases_lt}
use Rattle.uc_model.specs.Prelude.{sum_below, Demand, Reserve, RenewableRange, ShedRange, ShortRange, RampUp, RampDown, starts, cap, initial_p, last_stop, sigma, thermal_unit, thermal_count, renewable_count, renewable_maximum, most_shed, most_short, demand_at, reserve_at, IsLawfulInstance}
use Rattle.uc_model.proofs.Common.{linear, mul-one, mul-neg, neg-mul, mul_assoc, mul_comm, mul-zero, mul-sub, mul-le-mul_right, mul_nonneg, sum_below-same, sum_below-le, sum_below-add}
use Rattle.dual_model.specs.Prelude.{IsCellBound, pi_at, mu_at, up_at, down_at, period_value, IsUnitValue, shortage_value, needs_value, renewable_value, constant_at, unit_part, IsNodeValue}
use Rattle.dual_model.specs.Term as term
use Rattle.dual_model.specs.declared.table.Table.{Table}
use Rattle.dual_model.specs.declared.node.Node.{Node}
use Rattle.dual_model.proofs.Locality.{SameBelow, starts-same, cap-same, sigma-same}
use Rattle.dual_model.proofs.Multipliers.{up_at_past, down_at_past}
use Rattle.pivot_run.specs.Prelude.{entry}
use Rattle.dispatch_program.specs.Prelude.{RightSide, place, multiplier, IsLastRow}
use Rattle.dispatch_rules.specs.Dispatch.{Task, Given, Shed, Short, Limit, limit, amounts, amounts_in, unit_amounts, listed, where_true, copies, right_of, low_at, program}
use Rattle.dispatch_rules.specs.Duals.{IsTask, IsReadOff, IsNodeOf, LastRowsBound, times_at, cost_times, scale_of, pi_of, up_of, down_of, output_price, reserve_price, bound_of, needs_part, period_part, constant_part, renewable_part, start_cost, start_costs, left_costs}
use Rattle.dispatch_rules.proofs.Listed.{StandsIn, stands_alone, stands_left, stands_right, stands_listed}
use Rattle.dispatch_rules.proofs.Multipliers.{unlisted}
use Rattle.dispatch_rules.proofs.Duals.{amount_nonneg, m_nonneg, bounds_on}
use Rattle.dispatch_rules.proofs.Totals.{total_whole}

-- a bound at equal prices
bound_at : (task : Task) (g : ℕ) (k k' a a' b b' room room' n : ℤ) → k ≡ k' → a ≡ a' → b ≡ b' → room ≡ room'
    → IsCellBound (thermal_unit task.instance g).points k a b room n → IsCellBound (thermal_unit task.instance g).points k' a' b' room' n
bound_at task g k k' a a' b b' room room' n ek ea eb er h =
    let points = (thermal_unit task.instance g).points in
    subst (λ z. IsCellBound points k' a' b' z n) er
    (subst (λ z. IsCellBound points k' a' z room n) eb
    (subst (λ z. IsCellBound points k' z b room n) ea
    (subst (λ z. IsCellBound points z a b room n) ek h)))

-- what may be missing at a price
shortage-le : (k price multiplier most x : ℤ) → pos 0 ≤ℤ x → pos 0 ≤ℤ most → pos 0 ≤ℤ (k *ℤ price -ℤ multiplier +ℤ x)
    → neg_ℤ (x *ℤ most) ≤ℤ (int_min (pos 0) (k *ℤ price -ℤ multiplier) *ℤ most)
shortage-le k price multiplier most x sign some priced =
    let less : neg_ℤ x ≤ℤ int_min (pos 0) (k *ℤ price -ℤ multiplier) = least (k *ℤ price -ℤ multiplier) (omega (arith, linear)) in
    let times = mul-le-mul_right most _ _ some less in
    let turned = neg-mul x most in
    omega (arith, linear)
  where
    least : (z : ℤ) → neg_ℤ x ≤ℤ z → neg_ℤ x ≤ℤ int_min (pos 0) z
    least z h = cond_both (int_lt z (pos 0)) z (pos 0) (λ c. neg_ℤ x ≤ℤ c) (λ e. h) (λ e. omega (arith, linear))

pub max_nonneg : (z : ℤ) → pos 0 ≤ℤ int_max z (pos 0)
max_nonneg z = grind (arith, ints)

module _ (task : Task) (row : List ℤ) (table : Table) (node : Node) (lawful : IsLawfulInstance task.instance) (is : IsTask task) (last : IsLastRow (program task) row) (read : IsReadOff task row table) (alone : IsNodeOf task node) where
  abbrev m : Limit → ℤ
  m = times_at task row

  abbrev periods : ℕ
  periods = task.instance.periods

  abbrev units : ℕ
  units = thermal_count task.instance

  -- ---- the prices of a cell
  no_next : (n g t : ℕ) → periods ≤ t → (l : Limit) → l.period ≡ t → m l ≡ pos 0
  no_next n g t past l at =
      unlisted task (multiplier (program task) row) l (λ other there same. let h = there.period in let e = same.period in absurd (omega arith))

  up_next : (g t : ℕ) → g < units → t < periods → up_at table g (suc t) ≡ up_of task row g (suc t)
  up_next g t hg ht = ⊎_elim
      (λ (within : suc t < periods). read.up g (suc t) hg within)
      (λ (past : periods ≤ suc t).
      up_at_past table table.units (length table.pi) g (suc t) read.size.form.rows (let e = read.size.periods in omega arith)
      ∙ sym (no_next 0 g (suc t) past (limit RampUp g (suc t) 0) refl))
      (cases_lt (suc t) periods)

  down_next : (g t : ℕ) → g < units → t < periods → down_at table g (suc t) ≡ down_of task row g (suc t)
  down_next g t hg ht = ⊎_elim
      (λ (within : suc t < periods). read.down g (suc t) hg within)
      (λ (past : periods ≤ suc t).
      down_at_past table table.units (length table.pi) g (suc t) read.size.form.rows (let e = read.size.periods in omega arith)
      ∙ sym (no_next 0 g (suc t) past (limit RampDown g (suc t) 0) refl))
      (cases_lt (suc t) periods)

  output_price-is : (g t : ℕ) → g < units → t < periods → output_price task row g t ≡ term.output_price table g t
  output_price-is g t hg ht =
      let a = read.up g t hg ht in
      let b = read.pi t ht in
      let c = up_next g t hg ht in
      let d = read.down g t hg ht in
      let e = down_next g t hg ht in
      omega (arith, linear)

  reserve_price-is : (g t : ℕ) → g < units → t < periods → reserve_price task row g t ≡ term.reserve_price table g t
  reserve_price-is g t hg ht = let a = read.up g t hg ht in let b = read.mu t ht in omega (arith, linear)

  -- ---- a unit
  where_started : (k : ℤ) (b : Bool) (x : ℤ) → k *ℤ (if b then x else pos 0) ≡ (if b then k *ℤ x else pos 0)
  where_started k true x = refl
  where_started k false x = mul-zero k

  unit-le : (g : ℕ) (v : ℤ) → g < units → IsUnitValue task.instance node table g v
      → (sum_below periods (period_part task row g) +ℤ sum_below periods (start_cost task row g)) ≤ℤ v
  unit-le g v hg value =
      let unit = thermal_unit task.instance g in
      let on = value.on in
      let terms = value.best.value.term in
      let same : SameBelow periods (task.on g) on = record { same = alone.alone g on hg value.best.pattern } in
      let cell : (t : ℕ) → t < periods → period_part task row g t ≤ℤ (if on t then terms t -ℤ pi_at table t *ℤ unit.pmin else pos 0) = λ t ht. ⊎_elim
      (λ (here : IsTrue (task.on g t)).
      let there : IsTrue (on t) = sym (same.same t ht) ∙ here in
      let own = cond-true (task.on g t) (bound_of task row g t -ℤ pi_of task row t *ℤ unit.pmin) (pos 0) here in
      let other = cond-true (on t) (terms t -ℤ pi_at table t *ℤ unit.pmin) (pos 0) there in
      let bound = bound_at task g (scale_of task row) table.k (output_price task row g t) (term.output_price table g t) (reserve_price task row g t) (term.reserve_price table g t) (cap periods unit (task.on g) t) (cap periods unit on t) (bound_of task row g t) (sym read.scale) (output_price-is g t hg ht) (reserve_price-is g t hg ht) (cap-same periods unit (task.on g) on same t ht) (bounds_on task row is last g t hg ht here) in
      let below = (value.best.value.terms t ht there).greatest (bound_of task row g t) bound in
      let price = ap (λ z. z *ℤ unit.pmin) (read.pi t ht) in
      omega (arith, linear))
      (λ (off : task.on g t ≡ false).
      let own = cond-false (task.on g t) (bound_of task row g t -ℤ pi_of task row t *ℤ unit.pmin) (pos 0) off in
      let other = cond-false (on t) (terms t -ℤ pi_at table t *ℤ unit.pmin) (pos 0) (sym (same.same t ht) ∙ off) in
      omega (arith, linear))
      (cases_Bool (task.on g t)) in
      let start : (t : ℕ) → t < periods → start_cost task row g t ≡ (if starts unit on t then table.k *ℤ sigma unit (last_stop unit on t) t else pos 0) = λ t ht.
      (let started = starts-same periods unit (task.on g) on same t ht in
      let cost = sigma-same periods unit (task.on g) on same t (omega arith) in
      let k = sym read.scale in
      where_started (scale_of task row) (starts unit (task.on g) t) (sigma unit (last_stop unit (task.on g) t) t)
      ∙ (λ i. if started i then k i *ℤ cost i else pos 0)) in
      let whole = sum_below-add periods (period_part task row g) (start_cost task row g) in
      let each : sum_below periods (λ t. period_part task row g t +ℤ start_cost task row g t) ≤ℤ sum_below periods (period_value table unit on terms) =
      sum_below-le periods _ _ (λ t ht. let a = cell t ht in let b = start t ht in omega (arith, linear)) in
      let total = value.best.value.total in
      omega (arith, linear)

  constant_is : (g : ℕ) → g < units → constant_part task row g ≡ constant_at task.instance table g
  constant_is g hg =
      let unit = thermal_unit task.instance g in
      let first = sum_below-same periods (λ t. neg_ℤ (up_of task row g t *ℤ unit.ru) -ℤ down_of task row g t *ℤ unit.rd)
      (λ t. neg_ℤ (up_at table g t *ℤ unit.ru) -ℤ down_at table g t *ℤ unit.rd)
      (λ t ht. λ i. neg_ℤ (sym (read.up g t hg ht) i *ℤ unit.ru) -ℤ sym (read.down g t hg ht) i *ℤ unit.rd) in
      λ i. first i +ℤ (sym (read.down g 0 hg is.periods) i -ℤ sym (read.up g 0 hg is.periods) i) *ℤ initial_p unit

  -- ---- what may be missing
  shed_stands : (t : ℕ) → t < periods → IsTrue (nat_lt 0 task.instance.a) → StandsIn (Shed 0) (Shed t) (amounts task)
  shed_stands t ht priced =
      stands_listed (Shed 0) (Shed t) periods (amounts_in task) t ht
      (stands_right (Shed 0) (Shed t) (listed units (unit_amounts task t)) _
      (stands_right (Shed 0) (Shed t) (listed (renewable_count task.instance) (λ w. Given w t ∷ [])) _
      (stands_left (Shed 0) (Shed t) (where_true (nat_lt 0 task.instance.a) (Shed t ∷ [])) (where_true (nat_lt 0 task.instance.b) (Short t ∷ []))
      (subst (λ xs. StandsIn (Shed 0) (Shed t) xs) (sym (cond-true (nat_lt 0 task.instance.a) (Shed t ∷ []) [] priced)) (stands_alone (Shed 0) (Shed t))))))

  short_stands : (t : ℕ) → t < periods → IsTrue (nat_lt 0 task.instance.b) → StandsIn (Shed 0) (Short t) (amounts task)
  short_stands t ht priced =
      stands_listed (Shed 0) (Short t) periods (amounts_in task) t ht
      (stands_right (Shed 0) (Short t) (listed units (unit_amounts task t)) _
      (stands_right (Shed 0) (Short t) (listed (renewable_count task.instance) (λ w. Given w t ∷ [])) _
      (stands_right (Shed 0) (Short t) (where_true (nat_lt 0 task.instance.a) (Shed t ∷ [])) (where_true (nat_lt 0 task.instance.b) (Short t ∷ []))
      (subst (λ xs. StandsIn (Shed 0) (Short t) xs) (sym (cond-true (nat_lt 0 task.instance.b) (Short t ∷ []) [] priced)) (stands_alone (Shed 0) (Short t))))))

  given_stands : (w t : ℕ) → w < renewable_count task.instance → t < periods → StandsIn (Shed 0) (Given w t) (amounts task)
  given_stands w t hw ht =
      stands_listed (Shed 0) (Given w t) periods (amounts_in task) t ht
      (stands_right (Shed 0) (Given w t) (listed units (unit_amounts task t)) _
      (stands_left (Shed 0) (Given w t) (listed (renewable_count task.instance) (λ j. Given j t ∷ [])) _
      (stands_listed (Shed 0) (Given w t) (renewable_count task.instance) (λ j. Given j t ∷ []) w hw (stands_alone (Shed 0) (Given w t)))))

  abbrev shed_limited : ℕ → ℤ
  shed_limited t = sum_below (copies task ShedRange 0 t) (λ k. m (limit ShedRange 0 t k) *ℤ right_of task (limit ShedRange 0 t k))

  abbrev short_limited : ℕ → ℤ
  short_limited t = sum_below (copies task ShortRange 0 t) (λ k. m (limit ShortRange 0 t k) *ℤ right_of task (limit ShortRange 0 t k))

  shed-le : (t : ℕ) → t < periods → neg_ℤ (shed_limited t) ≤ℤ shortage_value table.k task.instance.a (pi_at table t) (most_shed task.instance t)
  shed-le t ht = ⊎_elim
      (λ (priced : IsTrue (nat_lt 0 task.instance.a)).
      let x = m (limit ShedRange 0 t 0) in
      let count : shed_limited t ≡ x *ℤ most_shed task.instance t =
      ap (λ n. sum_below n (λ k. m (limit ShedRange 0 t k) *ℤ right_of task (limit ShedRange 0 t k))) (cond-true (nat_lt 0 task.instance.a) 1 0 priced) ∙ omega (arith, linear) in
      let value = cond-true (nat_lt 0 task.instance.a) (int_min (pos 0) (table.k *ℤ pos task.instance.a -ℤ pi_at table t) *ℤ most_shed task.instance t) (pos 0) priced in
      let column = amount_nonneg task row is last (Shed t) (shed_stands t ht priced) in
      let scaled : table.k *ℤ pos task.instance.a ≡ cost_times task row *ℤ (pos task.instance.a *ℤ task.scale) =
      ap (λ z. z *ℤ pos task.instance.a) read.scale ∙ mul_assoc (cost_times task row) task.scale (pos task.instance.a)
      ∙ ap (λ z. cost_times task row *ℤ z) (mul_comm task.scale (pos task.instance.a)) in
      let price = read.pi t ht in
      let one = mul-one (m (limit Demand 0 t 0)) in
      let own = mul-one x in
      let less = shortage-le table.k (pos task.instance.a) (pi_at table t) (most_shed task.instance t) x (m_nonneg task row is last (limit ShedRange 0 t 0) refl) (max_nonneg (demand_at task.instance t)) (omega (arith, linear)) in
      omega (arith, linear))
      (λ (free : nat_lt 0 task.instance.a ≡ false).
      let count : shed_limited t ≡ pos 0 =
      ap (λ n. sum_below n (λ k. m (limit ShedRange 0 t k) *ℤ right_of task (limit ShedRange 0 t k))) (cond-false (nat_lt 0 task.instance.a) 1 0 free) in
      let value = cond-false (nat_lt 0 task.instance.a) (int_min (pos 0) (table.k *ℤ pos task.instance.a -ℤ pi_at table t) *ℤ most_shed task.instance t) (pos 0) free in
      omega (arith, linear))
      (cases_Bool (nat_lt 0 task.instance.a))

  short-le : (t : ℕ) → t < periods → neg_ℤ (short_limited t) ≤ℤ shortage_value table.k task.instance.b (mu_at table t) (most_short task.instance t)
  short-le t ht = ⊎_elim
      (λ (priced : IsTrue (nat_lt 0 task.instance.b)).
      let x = m (limit ShortRange 0 t 0) in
      let count : short_limited t ≡ x *ℤ most_short task.instance t =
      ap (λ n. sum_below n (λ k. m (limit ShortRange 0 t k) *ℤ right_of task (limit ShortRange 0 t k))) (cond-true (nat_lt 0 task.instance.b) 1 0 priced) ∙ omega (arith, linear) in
      let value = cond-true (nat_lt 0 task.instance.b) (int_min (pos 0) (table.k *ℤ pos task.instance.b -ℤ mu_at table t) *ℤ most_short task.instance t) (pos 0) priced in
      let column = amount_nonneg task row is last (Short t) (short_stands t ht priced) in
      let scaled : table.k *ℤ pos task.instance.b ≡ cost_times task row *ℤ (pos task.instance.b *ℤ task.scale) =
      ap (λ z. z *ℤ pos task.instance.b) read.scale ∙ mul_assoc (cost_times task row) task.scale (pos task.instance.b)
      ∙ ap (λ z. cost_times task row *ℤ z) (mul_comm task.scale (pos task.instance.b)) in
      let price = read.mu t ht in
      let minus : m (limit Reserve 0 t 0) *ℤ neg_ℤ (pos 1) ≡ neg_ℤ (m (limit Reserve 0 t 0)) =
      mul-neg (m (limit Reserve 0 t 0)) (pos 1) ∙ ap neg_ℤ (mul-one (m (limit Reserve 0 t 0))) in
      let own = mul-one x in
      let less = shortage-le table.k (pos task.instance.b) (mu_at table t) (most_short task.instance t) x (m_nonneg task row is last (limit ShortRange 0 t 0) refl) (max_nonneg (reserve_at task.instance t)) (omega (arith, linear)) in
      omega (arith, linear))
      (λ (free : nat_lt 0 task.instance.b ≡ false).
      let count : short_limited t ≡ pos 0 =
      ap (λ n. sum_below n (λ k. m (limit ShortRange 0 t k) *ℤ right_of task (limit ShortRange 0 t k))) (cond-false (nat_lt 0 task.instance.b) 1 0 free) in
      let value = cond-false (nat_lt 0 task.instance.b) (int_min (pos 0) (table.k *ℤ pos task.instance.b -ℤ mu_at table t) *ℤ most_short task.instance t) (pos 0) free in
      omega (arith, linear))
      (cases_Bool (nat_lt 0 task.instance.b))

  needs-le : (t : ℕ) → t < periods → needs_part task row t ≤ℤ needs_value task.instance table t
  needs-le t ht =
      let shed = shed-le t ht in
      let short = short-le t ht in
      let first = ap (λ z. z *ℤ demand_at task.instance t) (read.pi t ht) in
      let second = ap (λ z. z *ℤ reserve_at task.instance t) (read.mu t ht) in
      omega (arith, linear)

  -- ---- a renewable unit
  renewable-le : (w t : ℕ) → w < renewable_count task.instance → t < periods → renewable_part task row w t ≤ℤ renewable_value task.instance table w t
  renewable-le w t hw ht =
      let x = m (limit RenewableRange w t 0) in
      let most = renewable_maximum task.instance w t in
      let low = low_at task w t in
      let column = amount_nonneg task row is last (Given w t) (given_stands w t hw ht) in
      let none = mul-zero (cost_times task row) in
      let one = mul-one x in
      let other = mul-one (m (limit Demand 0 t 0)) in
      let sign = m_nonneg task row is last (limit RenewableRange w t 0) refl in
      let range = (lawful.renewable w hw).range t ht in
      let below : pi_of task row t ≤ℤ x = omega (arith, linear) in
      let room : pos 0 ≤ℤ (most -ℤ low) = omega (arith, linear) in
      let bought = mul-le-mul_right (most -ℤ low) _ _ room below in
      let kept = mul_nonneg x (most -ℤ low) sign room in
      let parted = mul-sub (pi_of task row t) most low in
      let high_price = ap (λ z. z *ℤ most) (read.pi t ht) in
      let low_price = ap (λ z. z *ℤ low) (read.pi t ht) in
      cond_both (int_lt (pos 0) (pi_at table t)) (neg_ℤ (pi_at table t *ℤ most)) (neg_ℤ (pi_at table t *ℤ low)) (λ z. renewable_part task row w t ≤ℤ z)
      (λ e. omega (arith, linear)) (λ e. omega (arith, linear))

  -- ---- all
  node-le : (v : ℤ) → IsNodeValue task.instance node table v
      → (left_costs task row +ℤ start_costs task row -ℤ entry row (place (program task) RightSide)) ≤ℤ v
  node-le v value =
      let whole = total_whole task row is last in
      let system = sum_below-le periods (needs_part task row) (needs_value task.instance table) needs-le in
      let sun = sum_below-le (renewable_count task.instance) (λ w. sum_below periods (renewable_part task row w)) (λ w. sum_below periods (renewable_value task.instance table w))
      (λ w hw. sum_below-le periods _ _ (λ t ht. renewable-le w t hw ht)) in
      let own = λ (g : ℕ). sum_below periods (period_part task row g) +ℤ constant_part task row g in
      let begun = λ (g : ℕ). sum_below periods (start_cost task row g) in
      let thermal : sum_below units (λ g. own g +ℤ begun g) ≤ℤ sum_below units (λ g. unit_part task.instance table g (value.unit_value g)) =
      sum_below-le units _ _ (λ g hg. let a = unit-le g (value.unit_value g) hg (value.units g hg) in let b = constant_is g hg in omega (arith, linear)) in
      let parted = sum_below-add units own begun in
      let total = value.total in
      omega (arith, linear)

pub last_rows_bound : LastRowsBound
last_rows_bound task row table node v lawful is last read alone value = node-le task row table node lawful is last read alone v value
