-- What the printed schedule costs is paid for by the right side of the last row: period by period, then unit by unit.
-- Cite by `use Rattle.dispatch_prices.proofs.Payments.{schedule_pays}`.
use Rattle.std.proofs.Common.{◌≡◌, ℕ, zero, suc, ◌*◌, ◌/◌, ◌<◌, ⊎_elim, true, false, refl, sym, ap, subst, ◌∙◌, arith, List, ℤ, pos, ◌+ℤ◌, ◌*ℤ◌, ◌≤ℤ◌, ◌<ℤ◌, nat_lt, ◌&&◌, if◌then◌else◌, length}
use Rattle.std.proofs.lemmas.Bool.{cases_Bool, cond-true, cond-false, and_left}
use Rattle.uc_model.specs.Prelude.{sum_below, point_of, production_cost, shortage_cost, Row, thermal_unit, thermal_count, shed_at, short_at, printed_denominator, printed_schedule, IsLawfulInstance}
use Rattle.uc_model.proofs.Common.{linear, mul_comm, mul_assoc, mul_left_comm, mul-add, mul-zero, mul-le-mul_left, sum_below-zero, watts-factor, share_is, pos-mul}
use Rattle.dual_model.specs.Prelude.{least_start_cost, cell_cost_by_least_starts, unit_cost_by_least_starts, cost_by_least_starts}
use Rattle.dual_model.proofs.Locality.{SameBelow, starts-same, sigma-same}
use Rattle.uc_model.specs.declared.instance.Thermal.{Thermal}
use Rattle.dispatch_rules.specs.Prelude.{Task, IsTask, cost_times, scale_of, left_cost, left_costs, start_cost, start_costs, IsDispatch, above_left, shortage_at, dispatch_cost, sum_of, shed_in, short_in, Printed, Prints}
use Rattle.dispatch_prices.specs.Dispatched.{IsAllowedTask}
use Rattle.dispatch_prices.proofs.CellCosts.{segment, on_cost, off_cost}

-- f is paid for by left ends, starts and the rest: d times k times f is at most q times their sum
record Pays (d k q a f left start rest : ℤ) : Type 0 where
  is : (d *ℤ (k *ℤ f)) ≤ℤ (q *ℤ (d *ℤ (left +ℤ start) +ℤ a *ℤ rest))

module _ (d k q a : ℤ) where
  pays_add : (f f' l l' s s' r r' : ℤ) → Pays d k q a f l s r → Pays d k q a f' l' s' r' → Pays d k q a (f +ℤ f') (l +ℤ l') (s +ℤ s') (r +ℤ r')
  pays_add f f' l l' s s' r r' first second =
      let one = first.is in
      let two = second.is in
      let costs : d *ℤ (k *ℤ (f +ℤ f')) ≡ d *ℤ (k *ℤ f) +ℤ d *ℤ (k *ℤ f') = ap (λ z. d *ℤ z) (mul-add k f f') ∙ mul-add d (k *ℤ f) (k *ℤ f') in
      let regroup : (l +ℤ l') +ℤ (s +ℤ s') ≡ (l +ℤ s) +ℤ (l' +ℤ s') = omega (arith, linear) in
      let inner : d *ℤ ((l +ℤ l') +ℤ (s +ℤ s')) +ℤ a *ℤ (r +ℤ r') ≡ (d *ℤ (l +ℤ s) +ℤ a *ℤ r) +ℤ (d *ℤ (l' +ℤ s') +ℤ a *ℤ r') =
      omega (arith, linear, ap (λ z. d *ℤ z) regroup ∙ mul-add d (l +ℤ s) (l' +ℤ s'), mul-add a r r') in
      let whole = ap (λ z. q *ℤ z) inner ∙ mul-add q (d *ℤ (l +ℤ s) +ℤ a *ℤ r) (d *ℤ (l' +ℤ s') +ℤ a *ℤ r') in
      record { is = omega (arith, linear, one, two, costs, whole) }

  pays_none : Pays d k q a (pos 0) (pos 0) (pos 0) (pos 0)
  pays_none =
      let one = ap (λ z. d *ℤ z) (mul-zero k) ∙ mul-zero d in
      let two : q *ℤ (d *ℤ (pos 0 +ℤ pos 0) +ℤ a *ℤ pos 0) ≡ pos 0 = ap (λ z. q *ℤ z) (omega (arith, linear, mul-zero d, mul-zero a)) ∙ mul-zero q in
      record { is = omega (arith, linear, one, two) }

  pays_sum : (n : ℕ) (f l s r : ℕ → ℤ) → ((i : ℕ) → i < n → Pays d k q a (f i) (l i) (s i) (r i))
      → Pays d k q a (sum_below n f) (sum_below n l) (sum_below n s) (sum_below n r)
  pays_sum zero f l s r each = pays_none
  pays_sum (suc n) f l s r each =
      pays_add (sum_below n f) (f n) (sum_below n l) (l n) (sum_below n s) (s n) (sum_below n r) (r n)
      (pays_sum n f l s r (λ i h. each i (omega arith))) (each n (omega arith))

-- a cell, by what the dispatch pays for it
cell_pays : (d scale q a paid c0 above least : ℤ) → pos 0 ≤ℤ a → (d *ℤ (scale *ℤ paid)) ≤ℤ (q *ℤ (d *ℤ (scale *ℤ c0) +ℤ above))
    → Pays d (a *ℤ scale) q a (paid +ℤ q *ℤ least) ((a *ℤ scale) *ℤ c0) ((a *ℤ scale) *ℤ least) above
cell_pays d scale q a paid c0 above least some bound =
    let k = a *ℤ scale in
    let times = mul-le-mul_left a _ _ some bound in
    let own : (z : ℤ) → d *ℤ ((a *ℤ scale) *ℤ z) ≡ a *ℤ (d *ℤ (scale *ℤ z)) = λ z. ap (λ y. d *ℤ y) (mul_assoc a scale z) ∙ mul_left_comm d a (scale *ℤ z) in
    let start : d *ℤ ((a *ℤ scale) *ℤ (q *ℤ least)) ≡ q *ℤ (d *ℤ ((a *ℤ scale) *ℤ least)) =
    ap (λ z. d *ℤ z) (mul_left_comm (a *ℤ scale) q least) ∙ mul_left_comm d q ((a *ℤ scale) *ℤ least) in
    let costs = ap (λ z. d *ℤ z) (mul-add (a *ℤ scale) paid (q *ℤ least)) ∙ mul-add d ((a *ℤ scale) *ℤ paid) ((a *ℤ scale) *ℤ (q *ℤ least)) in
    let inner = mul-add d ((a *ℤ scale) *ℤ c0) ((a *ℤ scale) *ℤ least) in
    let right : q *ℤ (d *ℤ ((a *ℤ scale) *ℤ c0 +ℤ (a *ℤ scale) *ℤ least) +ℤ a *ℤ above)
    ≡ a *ℤ (q *ℤ (d *ℤ (scale *ℤ c0) +ℤ above)) +ℤ q *ℤ (d *ℤ ((a *ℤ scale) *ℤ least)) =
    ap (λ z. q *ℤ z) (omega (arith, linear, inner, own c0, mul-add a (d *ℤ (scale *ℤ c0)) above))
    ∙ mul-add q (a *ℤ (d *ℤ (scale *ℤ c0) +ℤ above)) (d *ℤ ((a *ℤ scale) *ℤ least))
    ∙ ap (λ z. z +ℤ q *ℤ (d *ℤ ((a *ℤ scale) *ℤ least))) (mul_left_comm q a (d *ℤ (scale *ℤ c0) +ℤ above)) in
    record { is = omega (arith, linear, times, own paid, start, costs, right) }

-- a shortage
lack_pays : (d k q n e a scale price missing sum : ℤ) → q ≡ n *ℤ e → d *ℤ missing ≡ e *ℤ sum → k ≡ a *ℤ scale
    → d *ℤ (k *ℤ (price *ℤ (n *ℤ missing))) ≡ q *ℤ (a *ℤ ((price *ℤ scale) *ℤ sum))
lack_pays d k q n e a scale price missing sum share same factor =
    ap (λ z. d *ℤ (z *ℤ (price *ℤ (n *ℤ missing)))) factor ∙ ap (λ z. d *ℤ z) (mul_assoc a scale (price *ℤ (n *ℤ missing)) ∙ ap (λ z. a *ℤ z) turned)
    ∙ mul_left_comm d a ((price *ℤ scale) *ℤ (n *ℤ missing)) ∙ ap (λ z. a *ℤ z) (mul_left_comm d (price *ℤ scale) (n *ℤ missing) ∙ ap (λ z. (price *ℤ scale) *ℤ z) amounts)
    ∙ ap (λ z. a *ℤ z) (mul_left_comm (price *ℤ scale) q sum) ∙ mul_left_comm a q ((price *ℤ scale) *ℤ sum)
  where
    turned : scale *ℤ (price *ℤ (n *ℤ missing)) ≡ (price *ℤ scale) *ℤ (n *ℤ missing)
    turned = sym (mul_assoc scale price (n *ℤ missing)) ∙ ap (λ z. z *ℤ (n *ℤ missing)) (mul_comm scale price)

    amounts : d *ℤ (n *ℤ missing) ≡ q *ℤ sum
    amounts = mul_left_comm d n missing ∙ ap (λ z. n *ℤ z) same ∙ sym (mul_assoc n e sum) ∙ ap (λ z. z *ℤ sum) (sym share)

pays_same : (d k q a f f' l l' s s' r r' : ℤ) → f ≡ f' → l ≡ l' → s ≡ s' → r ≡ r' → Pays d k q a f l s r → Pays d k q a f' l' s' r'
pays_same d k q a f f' l l' s s' r r' ef el es er pays =
    subst (λ z. Pays d k q a z l' s' r') ef (subst (λ z. Pays d k q a f z s' r') el (subst (λ z. Pays d k q a f l z r') es (subst (λ z. Pays d k q a f l s z) er pays)))

-- ---- the schedule
module _ (task : Task) (d : ℤ) (v : ℕ → ℤ) (printed : Printed) (lawful : IsLawfulInstance task.instance) (is : IsTask task)
    (allowed : IsAllowedTask task) (some : pos 0 <ℤ d) (dispatch : IsDispatch task d v) (prints : Prints task d v printed)
    (last : List ℤ) (nonneg : pos 0 ≤ℤ cost_times task last) where
  abbrev q : ℕ
  q = printed_denominator task.instance printed

  abbrev k : ℤ
  k = scale_of task last

  abbrev a : ℤ
  a = cost_times task last

  abbrev row : ℕ → Row
  row g = (printed_schedule task.instance printed q).thermal g

  abbrev unit : ℕ → Thermal
  unit g = thermal_unit task.instance g

  abbrev chosen : ℕ → ℕ → ℕ
  chosen = segment task d v printed lawful is allowed some dispatch prints

  same_on : (g : ℕ) → g < thermal_count task.instance → SameBelow task.instance.periods (row g).on (task.on g)
  same_on g hg = record { same = λ t ht. prints.on g t hg ht }

  least_same : (g t : ℕ) → g < thermal_count task.instance → t < task.instance.periods
      → least_start_cost (unit g) (row g).on t ≡ least_start_cost (unit g) (task.on g) t
  least_same g t hg ht =
      λ i. if starts-same task.instance.periods (unit g) (row g).on (task.on g) (same_on g hg) t ht i
      then sigma-same task.instance.periods (unit g) (row g).on (task.on g) (same_on g hg) t (omega arith) i else pos 0

  cell : (g t : ℕ) → g < thermal_count task.instance → t < task.instance.periods
      → Pays d k (pos q) a (cell_cost_by_least_starts q (unit g) (row g) t) (left_cost task last g t) (start_cost task last g t) (above_left task d v chosen g t)
  cell g t hg ht =
      let least = least_start_cost (unit g) (task.on g) t in
      let paid = production_cost (unit g) (row g) t in
      let c0 = (point_of (task.corners g) 0).cost in
      let whole = ap (λ z. production_cost (unit g) (row g) t +ℤ pos q *ℤ z) (sym (least_same g t hg ht)) in
      ⊎_elim
      (λ (on : task.on g t ≡ true).
      pays_same d k (pos q) a _ _ _ _ _ _ _ _ whole (sym (cond-true (task.on g t) (k *ℤ (point_of (task.corners g) 0).cost) (pos 0) on)) refl refl
      (cell_pays d task.scale (pos q) a (production_cost (unit g) (row g) t) (point_of (task.corners g) 0).cost (above_left task d v chosen g t)
      (least_start_cost (unit g) (task.on g) t) nonneg
      (on_cost task d v printed lawful is allowed some dispatch prints g t hg ht on)))
      (λ (off : task.on g t ≡ false).
      let idle = off_cost task d v printed lawful is allowed some dispatch prints g t hg ht off in
      let no_above = cond-false (task.on g t && nat_lt 1 (length (task.corners g))) _ (pos 0) (and_left (task.on g t) (nat_lt 1 (length (task.corners g))) off) in
      pays_same d k (pos q) a _ _ _ _ _ _ _ _ (ap (λ z. z +ℤ pos q *ℤ least_start_cost (unit g) (task.on g) t) (sym idle) ∙ whole)
      (mul-zero k ∙ sym (cond-false (task.on g t) (k *ℤ (point_of (task.corners g) 0).cost) (pos 0) off)) refl (sym no_above)
      (cell_pays d task.scale (pos q) a (pos 0) (pos 0) (pos 0) (least_start_cost (unit g) (task.on g) t) nonneg nothing))
      (cases_Bool (task.on g t))
    where
      none : d *ℤ (task.scale *ℤ pos 0) ≡ pos 0
      none = ap (λ z. d *ℤ z) (mul-zero task.scale) ∙ mul-zero d

      nothing : (d *ℤ (task.scale *ℤ pos 0)) ≤ℤ (pos q *ℤ (d *ℤ (task.scale *ℤ pos 0) +ℤ pos 0))
      nothing =
          let inner : d *ℤ (task.scale *ℤ pos 0) +ℤ pos 0 ≡ pos 0 = omega (arith, linear, none) in
          let right : pos q *ℤ (d *ℤ (task.scale *ℤ pos 0) +ℤ pos 0) ≡ pos 0 = ap (λ z. pos q *ℤ z) inner ∙ mul-zero (pos q) in
          omega (arith, linear, none, right)

  lacking : (t : ℕ) → t < task.instance.periods
      → Pays d k (pos q) a (shortage_cost task.instance (printed_schedule task.instance printed q) t) (pos 0) (pos 0) (shortage_at task v t)
  lacking t ht =
      let n = q / printed.denominator in
      let positive : 0 < printed.denominator = omega (arith, prints.shape.denominator.0) in
      let factor = watts-factor task.instance printed in
      let share : pos q ≡ pos (q / printed.denominator) *ℤ pos printed.denominator =
      ap pos (factor.1 ∙ ap (λ m. m * printed.denominator) (sym (share_is q factor.0 printed.denominator positive factor.1))) ∙ pos-mul (q / printed.denominator) printed.denominator in
      let shed = lack_pays d k (pos q) (pos (q / printed.denominator)) (pos printed.denominator) a task.scale (pos task.instance.a) (shed_at printed t) (sum_of task v (shed_in t)) share (prints.shed t ht) refl in
      let short = lack_pays d k (pos q) (pos (q / printed.denominator)) (pos printed.denominator) a task.scale (pos task.instance.b) (short_at printed t) (sum_of task v (short_in t)) share (prints.short t ht) refl in
      record { is = both _ _ _ _ shed short }
    where
      both : (f f' r r' : ℤ) → d *ℤ (k *ℤ f) ≡ pos q *ℤ (a *ℤ r) → d *ℤ (k *ℤ f') ≡ pos q *ℤ (a *ℤ r')
          → (d *ℤ (k *ℤ (f +ℤ f'))) ≤ℤ (pos q *ℤ (d *ℤ (pos 0 +ℤ pos 0) +ℤ a *ℤ (r +ℤ r')))
      both f f' r r' first second =
          let left = ap (λ z. d *ℤ z) (mul-add k f f') ∙ mul-add d (k *ℤ f) (k *ℤ f') in
          let inner : d *ℤ (pos 0 +ℤ pos 0) +ℤ a *ℤ (r +ℤ r') ≡ a *ℤ r +ℤ a *ℤ r' = omega (arith, linear, mul-zero d, mul-add a r r') in
          let right : pos q *ℤ (d *ℤ (pos 0 +ℤ pos 0) +ℤ a *ℤ (r +ℤ r')) ≡ pos q *ℤ (a *ℤ r) +ℤ pos q *ℤ (a *ℤ r') =
          ap (λ z. pos q *ℤ z) inner ∙ mul-add (pos q) (a *ℤ r) (a *ℤ r') in
          omega (arith, linear, first, second, left, right)

  pub schedule_pays : (d *ℤ (scale_of task last *ℤ cost_by_least_starts task.instance q (printed_schedule task.instance printed q)))
      ≤ℤ (pos q *ℤ (d *ℤ (left_costs task last +ℤ start_costs task last) +ℤ cost_times task last *ℤ dispatch_cost task d v chosen))
  schedule_pays =
      let units = pays_sum d k (pos q) a (thermal_count task.instance) (λ g. unit_cost_by_least_starts task.instance.periods q (unit g) (row g))
      (λ g. sum_below task.instance.periods (left_cost task last g)) (λ g. sum_below task.instance.periods (start_cost task last g))
      (λ g. sum_below task.instance.periods (above_left task d v chosen g))
      (λ g hg. pays_sum d k (pos q) a task.instance.periods (cell_cost_by_least_starts q (unit g) (row g)) (left_cost task last g) (start_cost task last g)
      (above_left task d v chosen g) (λ t ht. cell g t hg ht)) in
      let lacks = pays_sum d k (pos q) a task.instance.periods (shortage_cost task.instance (printed_schedule task.instance printed q)) (λ t. pos 0) (λ t. pos 0)
      (shortage_at task v) lacking in
      let none : (n : ℕ) → sum_below n (λ t. pos 0) ≡ pos 0 = λ n. sum_below-zero n (λ t. pos 0) (λ t h. refl) in
      let whole = pays_same d k (pos q) a _ _ _ _ _ _ _ _ refl (lose (left_costs task last)) (lose (start_costs task last)) refl
      (pays_add d k (pos q) a _ _ _ _ _ _ _ _ units lacks) in
      whole.is
    where
      lose : (z : ℤ) → z +ℤ sum_below task.instance.periods (λ t. pos 0) ≡ z
      lose z = let none = sum_below-zero task.instance.periods (λ t. pos 0) (λ t h. refl) in omega (arith, linear)
