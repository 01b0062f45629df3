-- The least reduced cost of a cell against its term, and against the cells of a schedule that obeys.
use Rattle.std.proofs.Common.{◌≡◌, ℕ, ⊎_elim, sym, ap, subst, ◌∙◌, arith, List, ℤ, pos, ◌+ℤ◌, ◌*ℤ◌, ◌≤ℤ◌, ◌<ℤ◌}
use Rattle.uc_model.specs.Prelude.{cap, Production, StartCap, StopCap, thermal_unit, weight_sum, bit}
use Rattle.uc_model.specs.declared.instance.Point.{Point}
use Rattle.uc_model.proofs.Common.{linear, le_antisymm, le_from_mul, le_or_lt, mul-add, mul-le-mul_left, mul-one, mul_assoc, mul_comm, mul_left_comm, scale-le-scale, int_le-true, rule_at, production_parts}
use Rattle.dual_model.specs.Prelude.{IsTerm, weighted_total, weighted_output, weighted_cost}
use Rattle.dual_model.proofs.PricedRules.{within_cap}
use Rattle.cell_least.specs.CellLeast.{IsCellLeast, LeastsAreOne, LeastsBoundCells, TermsAreFloors}

-- a reduced cost at prices times d is d times the reduced cost
unscaled : (d k a b c p r : ℤ) → (d *ℤ k) *ℤ c +ℤ (d *ℤ a) *ℤ p +ℤ (d *ℤ b) *ℤ r ≡ d *ℤ (k *ℤ c +ℤ a *ℤ p +ℤ b *ℤ r)
unscaled d k a b c p r =
    let outer = mul-add d (k *ℤ c +ℤ a *ℤ p) (b *ℤ r) in
    let inner = mul-add d (k *ℤ c) (a *ℤ p) in
    omega (arith, linear, outer, inner, mul_assoc d k c, mul_assoc d a p, mul_assoc d b r)

-- no weights and reserve over q cost less
least_below : (points : List Point) (k a b room n d : ℤ) → IsCellLeast points k a b room n d → (q : ℕ) (weight : ℕ → ℕ) (r : ℤ)
    → weighted_total points weight ≡ pos q → pos 0 ≤ℤ r → (weighted_output points weight +ℤ r) ≤ℤ (pos q *ℤ room)
    → (pos q *ℤ n) ≤ℤ (d *ℤ (k *ℤ weighted_cost points weight +ℤ a *ℤ weighted_output points weight +ℤ b *ℤ r))
least_below points k a b room n d least q weight r total reserve within =
    subst (λ z. (pos q *ℤ n) ≤ℤ z) (unscaled d k a b (weighted_cost points weight) (weighted_output points weight) r)
    (least.bound.below q weight r total reserve within)

-- one least is at most another
least-le : (points : List Point) (k a b room n d m e : ℤ) → IsCellLeast points k a b room n d → IsCellLeast points k a b room m e
    → (n *ℤ e) ≤ℤ (m *ℤ d)
least-le points k a b room n d m e first second =
    let x = k *ℤ weighted_cost points second.weight +ℤ a *ℤ weighted_output points second.weight +ℤ b *ℤ second.r in
    let q = pos second.q in
    let below = least_below points k a b room n d first second.q second.weight second.r second.total second.reserve second.within in
    let times = mul-le-mul_left e (q *ℤ n) (d *ℤ x) (omega (arith, linear, second.positive)) below in
    let left : e *ℤ (q *ℤ n) ≡ q *ℤ (n *ℤ e) = mul_left_comm e q n ∙ ap (λ z. q *ℤ z) (mul_comm e n) in
    let right : e *ℤ (d *ℤ x) ≡ q *ℤ (m *ℤ d) =
    mul_left_comm e d x ∙ ap (λ z. d *ℤ z) (sym second.attained) ∙ mul_left_comm d q m ∙ ap (λ z. q *ℤ z) (mul_comm d m) in
    le_from_mul q (n *ℤ e) (m *ℤ d) (omega (arith, linear, second.denominator)) (omega (arith, linear, times, left, right))

pub leasts_are_one : LeastsAreOne
leasts_are_one points k a b room n d m e first second =
    le_antisymm _ _ (least-le points k a b room n d m e first second) (least-le points k a b room m e n d second first)

-- a whole number whose next one is at most the least isn't the term
next_bound : (points : List Point) (k a b room m n d : ℤ) → IsTerm points k a b room m → IsCellLeast points k a b room n d
    → (m *ℤ d +ℤ d) ≤ℤ n → ⊥
next_bound points k a b room m n d term least above =
    let more = term.greatest (m +ℤ pos 1) (record {
      below = λ q weight r total reserve within.
          let x = k *ℤ weighted_cost points weight +ℤ a *ℤ weighted_output points weight +ℤ b *ℤ r in
          let costs = least_below points k a b room n d least q weight r total reserve within in
          let scaled = scale-le-scale q (m *ℤ d +ℤ d) n above in
          let next : d *ℤ (m +ℤ pos 1) ≡ m *ℤ d +ℤ d = mul-add d m (pos 1) ∙ (omega (arith, linear, mul_comm d m, mul-one d)) in
          let order : d *ℤ (pos q *ℤ (m +ℤ pos 1)) ≡ pos q *ℤ (m *ℤ d +ℤ d) =
          mul_left_comm d (pos q) (m +ℤ pos 1) ∙ ap (λ z. pos q *ℤ z) next in
          le_from_mul d (pos q *ℤ (m +ℤ pos 1)) x least.positive (omega (arith, linear, costs, scaled, order));
    }) in
    omega (arith, linear, more)

pub terms_are_floors : TermsAreFloors
terms_are_floors points k a b room m n d term least = record { below = below; next = next }
  where
    x : ℤ
    x = k *ℤ weighted_cost points least.weight +ℤ a *ℤ weighted_output points least.weight +ℤ b *ℤ least.r

    below : (m *ℤ d) ≤ℤ n
    below =
        let q = pos least.q in
        let costs = term.bound.below least.q least.weight least.r least.total least.reserve least.within in
        let times = mul-le-mul_left d (q *ℤ m) x (omega (arith, linear, least.positive)) costs in
        let order : d *ℤ (q *ℤ m) ≡ q *ℤ (m *ℤ d) = mul_left_comm d q m ∙ ap (λ z. q *ℤ z) (mul_comm d m) in
        le_from_mul q (m *ℤ d) n (omega (arith, linear, least.denominator)) (omega (arith, linear, times, order, least.attained))

    next : n <ℤ (m *ℤ d +ℤ d)
    next = ⊎_elim (λ (above : (m *ℤ d +ℤ d) ≤ℤ n). absurd (next_bound points k a b room m n d term least above)) (λ less. less)
        (le_or_lt (m *ℤ d +ℤ d) n)

pub leasts_bound_cells : LeastsBoundCells
leasts_bound_cells instance q x table g t n d obeys hg ht on least =
    let unit = thermal_unit instance g in
    let row = x.thermal g in
    let made = production_parts q unit row t (rule_at instance q x obeys Production g t hg ht) in
    let whole : weight_sum unit row t ≡ pos q = made.total ∙ ap (λ u. pos q *ℤ bit u) on ∙ mul-one (pos q) in
    let started = int_le-true _ _ (rule_at instance q x obeys StartCap g t hg ht) in
    let fits = within_cap instance.periods q unit row t started (rule_at instance q x obeys StopCap g t hg ht) in
    least_below unit.points table.k _ _ (cap instance.periods unit row.on t) n d least q (row.weight t) (row.reserve t) whole made.reserve fits
