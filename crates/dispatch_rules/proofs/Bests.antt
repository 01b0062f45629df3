-- The value of the commitment's node is at least the scale times what the dispatch costs: the bound of the last row at the values, segment by
-- segment.
-- Cite by `use Rattle.dispatch_rules.proofs.Bests.{node_covers_dispatch}`.
use Rattle.std.proofs.Common.{◌≡◌, ℕ, ◌<◌, ◌==◌, nat_lt, Bool, true, false, ◌&&◌, ⊎_elim, refl, sym, ap, ◌∙◌, arith, length, ℤ, pos, ◌+ℤ◌, ◌*ℤ◌, neg_ℤ, ◌≤ℤ◌, IsTrue}
use Rattle.std.proofs.lemmas.Bool.{cases_Bool, cond_both, eq-eqb, ne_eqb, and_parts, ltb-true, ltb-false}
use Rattle.uc_model.specs.Prelude.{sum_below, thermal_unit, thermal_count}
use Rattle.uc_model.proofs.Common.{linear, mul-zero, mul-one, mul-sub, mul-neg, mul-le-mul_left, sum_below-same, sum_below-zero, sum_below-single, sum_below-add, sum_below-le, term-le-sum_below}
use Rattle.pivot_run.specs.Prelude.{entry}
use Rattle.dispatch_program.specs.Prelude.{place, CostValue, RightSide, AreValues}
use Rattle.dispatch_rules.specs.Cells.{segments}
use Rattle.dispatch_rules.specs.Dispatch.{Task, Amount, Length, Held, Given, Shed, Short, cost_of, program}
use Rattle.dispatch_rules.specs.Duals.{IsTask, cost_times, left_costs, start_costs}
use Rattle.dispatch_rules.specs.Primals.{IsDispatch, one_if, length_in, output_in, shed_in, short_in, sum_of, line_cost, above_left, shortage_at, dispatch_cost, AreSegments, NodeCoversDispatch}
use Rattle.dispatch_rules.proofs.Primals.{Fits, sum-as, sum-add, sum-over, sum-times, values_dispatch}
use Rattle.dispatch_rules.proofs.SegmentCosts.{lengths_cost}
use Rattle.dispatch_rules.proofs.NodeBounds.{last_rows_bound}

module _ (task : Task) (d : ℤ) (v : ℕ → ℤ) (some : 0 < task.instance.periods) (are : AreValues (program task) d v) where
  abbrev periods : ℕ
  periods = task.instance.periods

  abbrev units : ℕ
  units = thermal_count task.instance

  abbrev sum : (Amount → ℤ) → ℤ
  sum = sum_of task v

  -- ---- what an amount costs, by cells
  abbrev length_cost : ℕ → ℕ → ℕ → Amount → ℤ
  length_cost g t k x = cost_of task (Length g t k) *ℤ length_in g t k x

  abbrev cell_cost : ℕ → ℕ → Amount → ℤ
  cell_cost g t x = sum_below (segments (task.corners g)) (λ k. length_cost g t k x)

  abbrev cells_cost : Amount → ℤ
  cells_cost x = sum_below units (λ g. sum_below periods (λ t. cell_cost g t x))

  abbrev shed_cost : ℕ → Amount → ℤ
  shed_cost t x = (pos task.instance.a *ℤ task.scale) *ℤ shed_in t x

  abbrev short_cost : ℕ → Amount → ℤ
  short_cost t x = (pos task.instance.b *ℤ task.scale) *ℤ short_in t x

  abbrev parted : Amount → ℤ
  parted x = (cells_cost x +ℤ sum_below periods (λ t. shed_cost t x)) +ℤ sum_below periods (λ t. short_cost t x)

  no_cells : (x : Amount) → ((g t k : ℕ) → length_in g t k x ≡ pos 0) → cells_cost x ≡ pos 0
  no_cells x none =
      sum_below-zero units (λ g. sum_below periods (λ t. cell_cost g t x)) (λ g hg.
      sum_below-zero periods (λ t. cell_cost g t x) (λ t ht.
      sum_below-zero (segments (task.corners g)) (λ k. length_cost g t k x) (λ k hk.
      ap (λ z. cost_of task (Length g t k) *ℤ z) (none g t k) ∙ mul-zero (cost_of task (Length g t k)))))

  no_shed : (x : Amount) → ((t : ℕ) → shed_in t x ≡ pos 0) → sum_below periods (λ t. shed_cost t x) ≡ pos 0
  no_shed x none = sum_below-zero periods (λ t. shed_cost t x) (λ t ht. ap (λ z. (pos task.instance.a *ℤ task.scale) *ℤ z) (none t) ∙ mul-zero (pos task.instance.a *ℤ task.scale))

  no_short : (x : Amount) → ((t : ℕ) → short_in t x ≡ pos 0) → sum_below periods (λ t. short_cost t x) ≡ pos 0
  no_short x none = sum_below-zero periods (λ t. short_cost t x) (λ t ht. ap (λ z. (pos task.instance.b *ℤ task.scale) *ℤ z) (none t) ∙ mul-zero (pos task.instance.b *ℤ task.scale))

  free : (c : ℤ) (b : Bool) → b ≡ false → c *ℤ one_if b ≡ pos 0
  free c b e = ap (λ z. c *ℤ one_if z) e ∙ mul-zero c

  one_cell : (h s l : ℕ) → h < units → s < periods → l < segments (task.corners h) → cells_cost (Length h s l) ≡ cost_of task (Length h s l)
  one_cell h s l hh hs hl =
      sum_below-single units (λ g. sum_below periods (λ t. cell_cost g t (Length h s l))) h hh
      (λ g hg other. sum_below-zero periods (λ t. cell_cost g t (Length h s l)) (λ t ht.
      sum_below-zero (segments (task.corners g)) (λ k. length_cost g t k (Length h s l)) (λ k hk.
      free (cost_of task (Length g t k)) ((g == h) && ((t == s) && (k == l))) (ap (λ b. b && ((t == s) && (k == l))) (ne_eqb g h other)))))
      ∙ sum_below-single periods (λ t. cell_cost h t (Length h s l)) s hs
      (λ t ht other. sum_below-zero (segments (task.corners h)) (λ k. length_cost h t k (Length h s l)) (λ k hk.
      free (cost_of task (Length h t k)) ((h == h) && ((t == s) && (k == l))) (away_second (h == h) (t == s) (k == l) (ne_eqb t s other))))
      ∙ sum_below-single (segments (task.corners h)) (λ k. length_cost h s k (Length h s l)) l hl
      (λ k hk other. free (cost_of task (Length h s k)) ((h == h) && ((s == s) && (k == l))) (away_third (h == h) (s == s) (k == l) (ne_eqb k l other)))
      ∙ ap (λ b. cost_of task (Length h s l) *ℤ one_if b) (here (h == h) (s == s) (l == l) (eq-eqb h h refl) (eq-eqb s s refl) (eq-eqb l l refl))
      ∙ mul-one (cost_of task (Length h s l))
    where
      away_second : (a b c : Bool) → b ≡ false → (a && (b && c)) ≡ false
      away_second true b c e = ap (λ z. z && c) e
      away_second false b c e = refl

      away_third : (a b c : Bool) → c ≡ false → (a && (b && c)) ≡ false
      away_third true true c e = e
      away_third true false c e = refl
      away_third false b c e = refl

      here : (a b c : Bool) → a ≡ true → b ≡ true → c ≡ true → (a && (b && c)) ≡ true
      here a b c e f h = λ i. e i && (f i && h i)

  amount_cost : (x : Amount) → Fits task x → cost_of task x ≡ parted x
  amount_cost (Length h s l) fits =
      let a = one_cell h s l fits.0 fits.3 fits.2 in
      let b = no_shed (Length h s l) (λ t. refl) in
      let c = no_short (Length h s l) (λ t. refl) in
      omega (arith, linear)
  amount_cost (Held h s) fits =
      let a = no_cells (Held h s) (λ g t k. refl) in
      let b = no_shed (Held h s) (λ t. refl) in
      let c = no_short (Held h s) (λ t. refl) in
      omega (arith, linear)
  amount_cost (Given h s) fits =
      let a = no_cells (Given h s) (λ g t k. refl) in
      let b = no_shed (Given h s) (λ t. refl) in
      let c = no_short (Given h s) (λ t. refl) in
      omega (arith, linear)
  amount_cost (Shed s) fits =
      let a = no_cells (Shed s) (λ g t k. refl) in
      let price = pos task.instance.a *ℤ task.scale in
      let b : sum_below periods (λ t. shed_cost t (Shed s)) ≡ pos task.instance.a *ℤ task.scale =
      sum_below-single periods (λ t. shed_cost t (Shed s)) s fits.1 (λ t ht other. free (pos task.instance.a *ℤ task.scale) (t == s) (ne_eqb t s other))
      ∙ ap (λ b. (pos task.instance.a *ℤ task.scale) *ℤ one_if b) (eq-eqb s s refl) ∙ mul-one (pos task.instance.a *ℤ task.scale) in
      let c = no_short (Shed s) (λ t. refl) in
      omega (arith, linear)
  amount_cost (Short s) fits =
      let a = no_cells (Short s) (λ g t k. refl) in
      let b = no_shed (Short s) (λ t. refl) in
      let c : sum_below periods (λ t. short_cost t (Short s)) ≡ pos task.instance.b *ℤ task.scale =
      sum_below-single periods (λ t. short_cost t (Short s)) s fits.1 (λ t ht other. free (pos task.instance.b *ℤ task.scale) (t == s) (ne_eqb t s other))
      ∙ ap (λ b. (pos task.instance.b *ℤ task.scale) *ℤ one_if b) (eq-eqb s s refl) ∙ mul-one (pos task.instance.b *ℤ task.scale) in
      omega (arith, linear)

  -- ---- what the values cost
  abbrev lengths : ℕ → ℕ → ℤ
  lengths g t = sum_below (segments (task.corners g)) (λ k. cost_of task (Length g t k) *ℤ sum (length_in g t k))

  cells_sum : sum cells_cost ≡ sum_below units (λ g. sum_below periods (lengths g))
  cells_sum =
      sum-over task d v some are units (λ g x. sum_below periods (λ t. cell_cost g t x))
      ∙ sum_below-same units _ (λ g. sum_below periods (lengths g)) (λ g hg.
      sum-over task d v some are periods (λ t x. cell_cost g t x)
      ∙ sum_below-same periods (λ t. sum (cell_cost g t)) (lengths g) (λ t ht.
      sum-over task d v some are (segments (task.corners g)) (λ k x. length_cost g t k x)
      ∙ sum_below-same (segments (task.corners g)) (λ k. sum (length_cost g t k)) (λ k. cost_of task (Length g t k) *ℤ sum (length_in g t k)) (λ k hk.
      sum-times task d v some are (cost_of task (Length g t k)) (length_in g t k))))

  shortages_sum : sum (λ x. sum_below periods (λ t. shed_cost t x)) +ℤ sum (λ x. sum_below periods (λ t. short_cost t x)) ≡ sum_below periods (shortage_at task v)
  shortages_sum =
      let first = sum-over task d v some are periods shed_cost in
      let second = sum-over task d v some are periods short_cost in
      let shed = sum_below-same periods (λ t. sum (shed_cost t)) (λ t. (pos task.instance.a *ℤ task.scale) *ℤ sum (shed_in t)) (λ t ht. sum-times task d v some are (pos task.instance.a *ℤ task.scale) (shed_in t)) in
      let short = sum_below-same periods (λ t. sum (short_cost t)) (λ t. (pos task.instance.b *ℤ task.scale) *ℤ sum (short_in t)) (λ t ht. sum-times task d v some are (pos task.instance.b *ℤ task.scale) (short_in t)) in
      let both = sum_below-add periods (λ t. (pos task.instance.a *ℤ task.scale) *ℤ sum (shed_in t)) (λ t. (pos task.instance.b *ℤ task.scale) *ℤ sum (short_in t)) in
      omega (arith, linear)

  cost_sum : sum (cost_of task) ≡ sum_below units (λ g. sum_below periods (lengths g)) +ℤ sum_below periods (shortage_at task v)
  cost_sum =
      let parts = sum-as task d v some are (cost_of task) parted amount_cost in
      let first = sum-add task d v some are (λ x. cells_cost x +ℤ sum_below periods (λ t. shed_cost t x)) (λ x. sum_below periods (λ t. short_cost t x)) in
      let second = sum-add task d v some are cells_cost (λ x. sum_below periods (λ t. shed_cost t x)) in
      let cells = cells_sum in
      let shortages = shortages_sum in
      omega (arith, linear)

  module _ (segment : ℕ → ℕ → ℕ) (is : IsTask task) (named : AreSegments task segment) where
    dispatch : IsDispatch task d v
    dispatch = values_dispatch task d v some are

    -- a cell
    cell-le : (g t : ℕ) → g < units → t < periods → above_left task d v segment g t ≤ℤ lengths g t
    cell-le g t hg ht = cond_both (task.on g t && nat_lt 1 (length (task.corners g))) (line_cost task d v g t (segment g t)) (pos 0) (λ z. z ≤ℤ lengths g t)
        (λ there.
        let both = and_parts (task.on g t) (nat_lt 1 (length (task.corners g))) there in
        let more = ltb-true 1 (length (task.corners g)) both.1 in
        lengths_cost (thermal_unit task.instance g).points (task.corners g) task.scale d (λ k. cost_of task (Length g t k)) (λ k. sum (length_in g t k))
        (is.hulls g hg) (let h = is.scale in omega (arith, linear)) (let h = are.denominator in omega (arith, linear)) (λ k hk. is.whole g t k hg ht both.0 hk)
        (λ k hk. dispatch.length_low g t k) (λ k hk. dispatch.length_high g t k hg ht both.0 (omega arith))
        (segment g t) (sum (output_in g t)) (named g t hg ht more) (sym (dispatch.output g t)))
        (λ none. ⊎_elim
        (λ (on : IsTrue (task.on g t)).
        let few : nat_lt 1 (length (task.corners g)) ≡ false = sym (ap (λ b. b && nat_lt 1 (length (task.corners g))) on) ∙ none in
        let no_segment : segments (task.corners g) ≡ 0 = omega (arith, ltb-false 1 (length (task.corners g)) few) in
        let nothing : lengths g t ≡ pos 0 = ap (λ n. sum_below n (λ k. cost_of task (Length g t k) *ℤ sum (length_in g t k))) no_segment in
        omega (arith, linear))
        (λ (off : task.on g t ≡ false).
        let nothing = off_lengths g t off in
        omega (arith, linear))
        (cases_Bool (task.on g t)))
      where
        -- the lengths of an off cell are 0: none is below 0, and they sum to 0
        off_lengths : (g t : ℕ) → task.on g t ≡ false → lengths g t ≡ pos 0
        off_lengths g t off =
            let whole : sum_below (segments (task.corners g)) (λ k. sum (length_in g t k)) ≡ pos 0 = sym (dispatch.output g t) ∙ dispatch.idle_output g t off in
            sum_below-zero (segments (task.corners g)) (λ k. cost_of task (Length g t k) *ℤ sum (length_in g t k)) (λ k hk.
            let most = term-le-sum_below (segments (task.corners g)) (λ j. sum (length_in g t j)) k hk (λ j hj. dispatch.length_low g t j) in
            let least = dispatch.length_low g t k in
            let none : sum (length_in g t k) ≡ pos 0 = omega (arith, linear) in
            ap (λ z. cost_of task (Length g t k) *ℤ z) none ∙ mul-zero (cost_of task (Length g t k)))

    pub cost-le : dispatch_cost task d v segment ≤ℤ sum (cost_of task)
    cost-le =
        let cells = sum_below-le units (λ g. sum_below periods (above_left task d v segment g)) (λ g. sum_below periods (lengths g))
        (λ g hg. sum_below-le periods (above_left task d v segment g) (lengths g) (λ t ht. cell-le g t hg ht)) in
        let whole = cost_sum in
        omega (arith, linear)

pub node_covers_dispatch : NodeCoversDispatch
node_covers_dispatch task row table node d v segment value lawful is last read alone node_value are named balance =
    let bound = last_rows_bound task row table node value lawful is last read alone node_value in
    let positive = are.denominator in
    let times = mul-le-mul_left d _ _ (omega (arith, linear)) bound in
    let parted = mul-sub d (left_costs task row +ℤ start_costs task row) (entry row (place (program task) RightSide)) in
    let less = cost-le task d v is.periods are segment is named in
    let scaled = mul-le-mul_left (cost_times task row) _ _ last.value less in
    let paid : cost_times task row *ℤ v (place (program task) CostValue) ≡ neg_ℤ (cost_times task row *ℤ sum_of task v (cost_of task)) =
    ap (λ z. cost_times task row *ℤ z) (values_dispatch task d v is.periods are).cost ∙ mul-neg (cost_times task row) (sum_of task v (cost_of task)) in
    omega (arith, linear)
