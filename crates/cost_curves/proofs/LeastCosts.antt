-- The cost on a line between two points, below which no point lies, is the least cost of weights at an output, rounded up.
-- An output is p over d, in watts.
use Rattle.std.proofs.Common.{◌≡◌, ◌≢◌, ℕ, ◌<◌, refl, sym, ap, subst, ◌∙◌, arith, List, length, ℤ, pos, ◌+ℤ◌, ◌-ℤ◌, ◌*ℤ◌, ◌≤ℤ◌, ◌<ℤ◌, ◌==◌, if◌then◌else◌}
use Rattle.std.proofs.lemmas.Bool.{cond-true, cond-false, eq-eqb, ne_eqb}
use Rattle.uc_model.specs.Prelude.{IsCeiling, sum_below, point_of, output_of, weighted_output, weighted_cost, run, rise}
use Rattle.uc_model.proofs.Common.{linear, sub_nonneg, sub-mul, spread, mul_comm, mul_assoc, mul_left_comm, mul-add, mul-sub, mul-zero, zero-mul, mul-one, one-mul, le_from_mul, mul-le-mul_right, mul-lt-mul_left, scale-le-scale, pos_of_nonneg, pos_nonneg, sum_below-same, sum_below-le, sum_below-sub, sum_below-mul_left, sum_below-single, sum_below-pair, IsCeiling-least}
use Rattle.cost_curves.specs.LowerHull.{Point}
use Rattle.cost_curves.specs.LeastCost.{CostsAtMost, IsLeastCostUp}
use Rattle.cost_curves.proofs.Lines.{less_le, sub_positive}

-- ---- weights on one point, and on two
single_sum : (n a : ℕ) (g : ℕ → ℕ → ℤ) → a < n → ((l : ℕ) → g l 0 ≡ pos 0) → sum_below n (λ l. g l (if l == a then 1 else 0)) ≡ g a 1
single_sum n a g h none =
    sum_below-single n (λ l. g l (if l == a then 1 else 0)) a h (λ l hl apart. ap (λ w. g l w) (cond-false (l == a) 1 0 (ne_eqb l a apart)) ∙ none l)
    ∙ ap (λ w. g a w) (cond-true (a == a) 1 0 (eq-eqb a a refl))

pair_sum : (n a b u v : ℕ) (g : ℕ → ℕ → ℤ) → a < n → b < n → a ≢ b → ((l : ℕ) → g l 0 ≡ pos 0)
    → sum_below n (λ l. g l (if l == a then u else (if l == b then v else 0))) ≡ g a u +ℤ g b v
pair_sum n a b u v g ha hb apart none =
    sum_below-pair n (λ l. g l (if l == a then u else (if l == b then v else 0))) a b ha hb apart
    (λ l hl i j. ap (λ w. g l w) (cond-false (l == a) u (if l == b then v else 0) (ne_eqb l a i) ∙ cond-false (l == b) v 0 (ne_eqb l b j)) ∙ none l)
    ∙ (λ t. g a (cond-true (a == a) u (if a == b then v else 0) (eq-eqb a a refl) t)
    +ℤ g b ((cond-false (b == a) u (if b == b then v else 0) (ne_eqb b a (λ e. apart (sym e))) ∙ cond-true (b == b) v 0 (eq-eqb b b refl)) t))

-- ---- the line is reached
line_output : (xa xb p : ℤ) → xa *ℤ (xb -ℤ p) +ℤ xb *ℤ (p -ℤ xa) ≡ (xb -ℤ xa) *ℤ p
line_output xa xb p = let c = mul_comm xa xb in simp spread (omega (arith, linear, c))

line_cost : (ca cb w v n : ℤ) → ((cb -ℤ ca) *ℤ v) ≤ℤ ((n -ℤ ca) *ℤ w) → (ca *ℤ (w -ℤ v) +ℤ cb *ℤ v) ≤ℤ (w *ℤ n)
line_cost ca cb w v n h = grind (arith, linear, spread, mul_comm, h)

pub line_reached : (points : List Point) (d : ℕ) (p n : ℤ) (a b : ℕ) → a < length points → b < length points
    → (pos d *ℤ output_of points a) <ℤ (pos d *ℤ output_of points b)
    → (pos d *ℤ output_of points a) ≤ℤ p → p ≤ℤ (pos d *ℤ output_of points b)
    → (((point_of points b).cost -ℤ (point_of points a).cost) *ℤ (p -ℤ pos d *ℤ output_of points a))
    ≤ℤ ((n -ℤ (point_of points a).cost) *ℤ (pos d *ℤ output_of points b -ℤ pos d *ℤ output_of points a))
    → CostsAtMost points d p n
line_reached points d p n a b ha hb rising begins reaches cost =
    let xa = pos d *ℤ output_of points a in
    let xb = pos d *ℤ output_of points b in
    let left = pos_of_nonneg (xb -ℤ p) (sub_nonneg p xb reaches) in
    let right = pos_of_nonneg (p -ℤ xa) (sub_nonneg xa p begins) in
    let whole = pos_of_nonneg (xb -ℤ xa) (sub_nonneg xa xb (less_le xa xb rising)) in
    let apart : a ≢ b = λ e. level a b e rising in
    record {
      q = whole.0;
      weight = λ l. if l == a then left.0 else (if l == b then right.0 else 0);
      positive = some whole.0 (xb -ℤ xa) whole.1 (sub_positive xa xb rising);
      total = pair_sum (length points) a b left.0 right.0 (λ l w. pos w) ha hb apart (λ l. refl)
          ∙ (omega (arith, linear, left.1, right.1, whole.1));
      output = ap (λ z. pos d *ℤ z) (pair_sum (length points) a b left.0 right.0 (λ l w. output_of points l *ℤ pos w) ha hb apart (λ l. mul-zero (output_of points l)))
          ∙ over (output_of points a) (output_of points b) (pos left.0) (pos right.0)
          ∙ (λ t. xa *ℤ sym left.1 t +ℤ xb *ℤ sym right.1 t) ∙ line_output xa xb p ∙ ap (λ z. z *ℤ p) whole.1;
      cost = subst (λ z. z ≤ℤ (pos whole.0 *ℤ n))
          (sym (pair_sum (length points) a b left.0 right.0 (λ l w. (point_of points l).cost *ℤ pos w) ha hb apart (λ l. mul-zero (point_of points l).cost)
          ∙ (λ t. (point_of points a).cost *ℤ sym left.1 t +ℤ (point_of points b).cost *ℤ sym right.1 t)))
          (subst (λ z. ((point_of points a).cost *ℤ (xb -ℤ p) +ℤ (point_of points b).cost *ℤ (p -ℤ xa)) ≤ℤ (z *ℤ n)) whole.1
          (subst (λ z. ((point_of points a).cost *ℤ z +ℤ (point_of points b).cost *ℤ (p -ℤ xa)) ≤ℤ ((xb -ℤ xa) *ℤ n)) (omega (arith, linear))
          (line_cost (point_of points a).cost (point_of points b).cost (xb -ℤ xa) (p -ℤ xa) n cost)));
    }
  where
    some : (n : ℕ) (z : ℤ) → z ≡ pos n → pos 0 <ℤ z → 0 < n
    some n z e h = let same = subst (λ y. pos 0 <ℤ y) e h in omega (arith, linear)

    level : (a b : ℕ) → a ≡ b → (pos d *ℤ output_of points a) <ℤ (pos d *ℤ output_of points b) → ⊥
    level a b e h =
        let same : pos d *ℤ output_of points a ≡ pos d *ℤ output_of points b = ap (λ l. pos d *ℤ output_of points l) e in
        omega (arith, linear)

    over : (x y u v : ℤ) → pos d *ℤ (x *ℤ u +ℤ y *ℤ v) ≡ (pos d *ℤ x) *ℤ u +ℤ (pos d *ℤ y) *ℤ v
    over x y u v = mul-add (pos d) (x *ℤ u) (y *ℤ v) ∙ (λ t. sym (mul_assoc (pos d) x u) t +ℤ sym (mul_assoc (pos d) y v) t)

-- ---- and nothing costs less
-- the sum of differences from a number, by weights, all times a number
sum_apart : (n : ℕ) (r x : ℤ) (f : ℕ → ℤ) (weight : ℕ → ℕ) → sum_below n (λ l. r *ℤ (f l *ℤ pos (weight l) -ℤ x *ℤ pos (weight l)))
    ≡ r *ℤ (sum_below n (λ l. f l *ℤ pos (weight l)) -ℤ x *ℤ sum_below n (λ l. pos (weight l)))
sum_apart n r x f weight =
    sum_below-mul_left n r (λ l. f l *ℤ pos (weight l) -ℤ x *ℤ pos (weight l))
    ∙ ap (λ z. r *ℤ z) (sum_below-sub n (λ l. f l *ℤ pos (weight l)) (λ l. x *ℤ pos (weight l)))
    ∙ ap (λ z. r *ℤ (sum_below n (λ l. f l *ℤ pos (weight l)) -ℤ z)) (sum_below-mul_left n x (λ l. pos (weight l)))

-- a fact of a point, times its weight
weighted_point : (r w x xa c ca z : ℤ) → pos 0 ≤ℤ z → (r *ℤ (x -ℤ xa)) ≤ℤ ((c -ℤ ca) *ℤ w)
    → (r *ℤ (x *ℤ z -ℤ xa *ℤ z)) ≤ℤ (w *ℤ (c *ℤ z -ℤ ca *ℤ z))
weighted_point r w x xa c ca z nonneg h =
    let times = mul-le-mul_right z (r *ℤ (x -ℤ xa)) ((c -ℤ ca) *ℤ w) nonneg h in
    let left = mul_assoc r (x -ℤ xa) z ∙ ap (λ y. r *ℤ y) (sub-mul x xa z) in
    let right = ap (λ y. y *ℤ z) (mul_comm (c -ℤ ca) w) ∙ mul_assoc w (c -ℤ ca) z ∙ ap (λ y. w *ℤ y) (sub-mul c ca z) in
    subst (λ y. y ≤ℤ (w *ℤ (c *ℤ z -ℤ ca *ℤ z))) left (subst (λ y. ((r *ℤ (x -ℤ xa)) *ℤ z) ≤ℤ y) right times)

-- what all points' weighted sums say of an output
divided : (q : ℕ) (r w p xa m ca total : ℤ) → 0 < q → pos 0 ≤ℤ w → total ≤ℤ (pos q *ℤ m)
    → (r *ℤ (pos q *ℤ p -ℤ xa *ℤ pos q)) ≤ℤ (w *ℤ (total -ℤ ca *ℤ pos q))
    → (r *ℤ (p -ℤ xa)) ≤ℤ ((m -ℤ ca) *ℤ w)
divided q r w p xa m ca total some nonneg cost h =
    let more : (w *ℤ (total -ℤ ca *ℤ pos q)) ≤ℤ (w *ℤ (pos q *ℤ m -ℤ ca *ℤ pos q)) =
    rw (mul_comm w (total -ℤ ca *ℤ pos q), mul_comm w (pos q *ℤ m -ℤ ca *ℤ pos q))
    (mul-le-mul_right w _ _ nonneg (omega (arith, linear))) in
    let left : r *ℤ (pos q *ℤ p -ℤ xa *ℤ pos q) ≡ pos q *ℤ (r *ℤ (p -ℤ xa)) =
    ap (λ z. r *ℤ z) (factor p xa) ∙ mul_left_comm r (pos q) (p -ℤ xa) in
    let right : w *ℤ (pos q *ℤ m -ℤ ca *ℤ pos q) ≡ pos q *ℤ ((m -ℤ ca) *ℤ w) =
    ap (λ z. w *ℤ z) (factor m ca) ∙ mul_left_comm w (pos q) (m -ℤ ca) ∙ ap (λ z. pos q *ℤ z) (mul_comm w (m -ℤ ca)) in
    let whole : (pos q *ℤ (r *ℤ (p -ℤ xa))) ≤ℤ (pos q *ℤ ((m -ℤ ca) *ℤ w)) = omega (arith, linear, h, more, left, right) in
    le_from_mul (pos q) _ _ (omega (arith, linear, some)) whole
  where
    factor : (x y : ℤ) → pos q *ℤ x -ℤ y *ℤ pos q ≡ pos q *ℤ (x -ℤ y)
    factor x y = ap (λ z. pos q *ℤ x -ℤ z) (mul_comm y (pos q)) ∙ sym (mul-sub (pos q) x y)

-- d times the output of weights
output_over : (points : List Point) (d : ℕ) (weight : ℕ → ℕ)
    → sum_below (length points) (λ l. (pos d *ℤ output_of points l) *ℤ pos (weight l)) ≡ pos d *ℤ weighted_output points weight
output_over points d weight =
    sum_below-same (length points) (λ l. (pos d *ℤ output_of points l) *ℤ pos (weight l)) (λ l. pos d *ℤ (output_of points l *ℤ pos (weight l)))
    (λ l h. mul_assoc (pos d) (output_of points l) (pos (weight l)))
    ∙ sum_below-mul_left (length points) (pos d) (λ l. output_of points l *ℤ pos (weight l))

-- a line with slope r over w through a point, below all points, is below all weights; outputs are d times those of the points
pub below_weights : (points : List Point) (d : ℕ) (p m r w xa ca : ℤ) → pos 0 ≤ℤ w
    → ((l : ℕ) → l < length points → (r *ℤ (pos d *ℤ output_of points l -ℤ xa)) ≤ℤ (((point_of points l).cost -ℤ ca) *ℤ w))
    → CostsAtMost points d p m → (r *ℤ (p -ℤ xa)) ≤ℤ ((m -ℤ ca) *ℤ w)
below_weights points d p m r w xa ca nonneg below costs =
    let weight = costs.weight in
    let n = length points in
    let each = sum_below-le n (λ l. r *ℤ ((pos d *ℤ output_of points l) *ℤ pos (weight l) -ℤ xa *ℤ pos (weight l)))
    (λ l. w *ℤ ((point_of points l).cost *ℤ pos (weight l) -ℤ ca *ℤ pos (weight l)))
    (λ l h. weighted_point r w (pos d *ℤ output_of points l) xa (point_of points l).cost ca (pos (weight l)) (pos_nonneg (weight l)) (below l h)) in
    let output = output_over points d weight ∙ costs.output in
    let left = sum_apart n r xa (λ l. pos d *ℤ output_of points l) weight ∙ (λ t. r *ℤ (output t -ℤ xa *ℤ costs.total t)) in
    let right = sum_apart n w ca (λ l. (point_of points l).cost) weight ∙ (λ t. w *ℤ (weighted_cost points weight -ℤ ca *ℤ costs.total t)) in
    divided costs.q r w p xa m ca (weighted_cost points weight) costs.positive nonneg costs.cost
    (subst (λ z. z ≤ℤ (w *ℤ (weighted_cost points weight -ℤ ca *ℤ pos costs.q))) left
    (subst (λ z. sum_below n (λ l. r *ℤ ((pos d *ℤ output_of points l) *ℤ pos (weight l) -ℤ xa *ℤ pos (weight l))) ≤ℤ z) right each))

-- ---- the cost on a segment
-- the line between two points, below which no point lies
pub between_least : (points : List Point) (d : ℕ) (p n : ℤ) (a b : ℕ) → 0 < d → a < length points → b < length points
    → output_of points a <ℤ output_of points b → (pos d *ℤ output_of points a) ≤ℤ p → p ≤ℤ (pos d *ℤ output_of points b)
    → ((l : ℕ) → l < length points → (rise points a b *ℤ run points a l) ≤ℤ (rise points a l *ℤ run points a b))
    → IsCeiling (rise points a b *ℤ (p -ℤ pos d *ℤ output_of points a)) (pos d *ℤ run points a b) (n -ℤ (point_of points a).cost)
    → IsLeastCostUp points d p n
between_least points d p n a b some ha hb rising begins reaches above ceiling = record {
  reached = line_reached points d p n a b ha hb wider begins reaches scaled.above;
  least = λ m costs.
      omega (
        arith,
        linear,
        IsCeiling-least (rise points a b *ℤ (p -ℤ xa)) (xb -ℤ xa) (n -ℤ (point_of points a).cost) (m -ℤ (point_of points a).cost) (sub_positive xa xb wider) scaled
            (below_weights points d p m (rise points a b) (xb -ℤ xa) xa (point_of points a).cost (sub_nonneg xa xb (less_le xa xb wider)) line costs),
      );
}
  where
    xa : ℤ
    xa = pos d *ℤ output_of points a

    xb : ℤ
    xb = pos d *ℤ output_of points b

    wider : xa <ℤ xb
    wider = mul-lt-mul_left (pos d) (output_of points a) (output_of points b) (omega (arith, linear)) rising

    scaled : IsCeiling (rise points a b *ℤ (p -ℤ xa)) (xb -ℤ xa) (n -ℤ (point_of points a).cost)
    scaled = subst (λ z. IsCeiling (rise points a b *ℤ (p -ℤ xa)) z (n -ℤ (point_of points a).cost)) (mul-sub (pos d) (output_of points b) (output_of points a)) ceiling

    line : (l : ℕ) → l < length points → (rise points a b *ℤ (pos d *ℤ output_of points l -ℤ xa)) ≤ℤ (rise points a l *ℤ (xb -ℤ xa))
    line l h =
        let left = mul_left_comm (pos d) (rise points a b) (run points a l) ∙ ap (λ z. rise points a b *ℤ z) (mul-sub (pos d) (output_of points l) (output_of points a)) in
        let right = mul_left_comm (pos d) (rise points a l) (run points a b) ∙ ap (λ z. rise points a l *ℤ z) (mul-sub (pos d) (output_of points b) (output_of points a)) in
        subst (λ z. z ≤ℤ (rise points a l *ℤ (xb -ℤ xa))) left
        (subst (λ z. (pos d *ℤ (rise points a b *ℤ run points a l)) ≤ℤ z) right (scale-le-scale d _ _ (above l h)))

-- ---- the cost of a point
-- at a point's output, where none costs less
pub level_least : (points : List Point) (d a : ℕ) → a < length points → ((l : ℕ) → l < length points → (point_of points a).cost ≤ℤ (point_of points l).cost)
    → IsLeastCostUp points d (pos d *ℤ output_of points a) (point_of points a).cost
level_least points d a h lowest = record {
  reached = record {
    q = 1;
    weight = λ l. if l == a then 1 else 0;
    positive = omega arith;
    total = single_sum (length points) a (λ l w. pos w) h (λ l. refl);
    output = ap (λ z. pos d *ℤ z) (single_sum (length points) a (λ l w. output_of points l *ℤ pos w) h (λ l. mul-zero (output_of points l))
        ∙ mul-one (output_of points a)) ∙ sym (one-mul (pos d *ℤ output_of points a));
    cost = omega (arith, linear, single_sum (length points) a (λ l w. (point_of points l).cost *ℤ pos w) h (λ l. mul-zero (point_of points l).cost) ∙ mul_comm (point_of points a).cost (pos 1));
  };
  least = λ m costs.
      ended m (point_of points a).cost (pos d *ℤ output_of points a -ℤ pos 0) (below_weights points d (pos d *ℤ output_of points a) m (pos 0) (pos 1) (pos 0) (point_of points a).cost (pos_nonneg 1)
      (λ l hl. flat (pos d *ℤ output_of points l) (point_of points l).cost (point_of points a).cost (lowest l hl)) costs);
}
  where
    flat : (x c ca : ℤ) → ca ≤ℤ c → (pos 0 *ℤ (x -ℤ pos 0)) ≤ℤ ((c -ℤ ca) *ℤ pos 1)
    flat x c ca h = let left = zero-mul (x -ℤ pos 0) in let right = mul-one (c -ℤ ca) in omega (arith, linear)

    ended : (m c x : ℤ) → (pos 0 *ℤ x) ≤ℤ ((m -ℤ c) *ℤ pos 1) → c ≤ℤ m
    ended m c x h = let left = zero-mul x in let right = mul-one (m -ℤ c) in omega (arith, linear)
