-- The rules of a program at values that solve the start of its table.
-- Cite by `use Rattle.dispatch_program.proofs.LineSums.{values_obey}`.
use Rattle.std.proofs.Common.{◌≡◌, ℕ, zero, suc, ◌+◌, ◌<◌, Bool, true, false, not, refl, sym, ap, ◌∙◌, arith, List, [], ◌∷◌, ◌++◌, map, length, ℤ, pos, ◌+ℤ◌, ◌*ℤ◌, neg_ℤ, ◌≤ℤ◌, if◌then◌else◌}
use Rattle.std.proofs.lemmas.Bool.{cond-true, cond-false, cond_both}
use Rattle.std.proofs.lemmas.List.{length-map}
use Rattle.uc_model.specs.Prelude.{sum_below}
use Rattle.uc_model.proofs.Common.{linear, one-mul, neg-mul, mul-neg, mul-zero, zero-mul, mul_assoc, mul_comm, mul-add, sum_below-same, sum_below-zero, sum_below-single, sum_below-mul_left}
use Rattle.pivot_run.specs.Prelude.{dot}
use Rattle.dispatch_program.specs.Prelude.{Program, Column, Unknown, Slack, Artificial, SumValue, CostValue, RightSide, RuleLine, CostLine, sign, one_at, is_limit, is_negated, has_artificial, rule_number, line_number, picked, counted, all, columns_of, lines_of, slacks, artificials, place, AreValues, ValuesObey}
use Rattle.dispatch_program.proofs.Combined.{one_at-same, one_at-other}
use Rattle.dispatch_program.proofs.Starts.{length-picked, counted-all, row_is, cost_row_is, lines_long}

dot-same : (row : List ℤ) (v w : ℕ → ℤ) → ((c : ℕ) → v c ≡ w c) → dot row v ≡ dot row w
dot-same [] v w h = refl
dot-same (x ∷ xs) v w h = λ i. x *ℤ h 0 i +ℤ dot-same xs (λ c. v (suc c)) (λ c. w (suc c)) (λ c. h (suc c)) i

dot-append : (xs ys : List ℤ) (v : ℕ → ℤ) → dot (xs ++ ys) v ≡ dot xs v +ℤ dot ys (λ c. v (length xs + c))
dot-append [] ys v = dot-same ys v (λ c. v (0 + c)) (λ c. ap v (omega arith)) ∙ omega (arith, linear)
dot-append (x ∷ xs) ys v =
    let rest = dot-append xs ys (λ c. v (suc c)) in
    let same = dot-same ys (λ c. v (suc (length xs + c))) (λ c. v (length (x ∷ xs) + c)) (λ c. ap v (next (length xs) c)) in
    omega (arith, linear)
  where
    next : (n c : ℕ) → suc (n + c) ≡ suc n + c
    next n c = omega arith

map-append : (f : Column → ℤ) (xs ys : List Column) → map f (xs ++ ys) ≡ map f xs ++ map f ys
map-append f [] ys = refl
map-append f (x ∷ xs) ys = ap (λ zs. f x ∷ zs) (map-append f xs ys)

-- the products over two parts
dot-parts : (f : Column → ℤ) (xs ys : List Column) (v : ℕ → ℤ) → dot (map f (xs ++ ys)) v ≡ dot (map f xs) v +ℤ dot (map f ys) (λ c. v (length xs + c))
dot-parts f xs ys v =
    ap (λ row. dot row v) (map-append f xs ys) ∙ dot-append (map f xs) (map f ys) v
    ∙ ap (λ n. dot (map f xs) v +ℤ dot (map f ys) (λ c. v (n + c))) (length-map xs f)

-- and over picked places
dot-picked : (f : Column → ℤ) (test : ℕ → Bool) (col : ℕ → Column) (n : ℕ) (v : ℕ → ℤ)
    → dot (map f (picked test col n)) v ≡ sum_below n (λ i. if test i then f (col i) *ℤ v (counted test i) else pos 0)
dot-picked f test col zero v = refl
dot-picked f test col (suc n) v =
    let before = dot-picked f test col n v in
    let both = dot-parts f (picked test col n) (if test n then col n ∷ [] else []) v in
    let last = one (test n) (col n) (length (picked test col n)) (counted test n) (length-picked test col n) in
    omega (arith, linear)
  where
    one : (b : Bool) (c : Column) (m k : ℕ) → m ≡ k → dot (map f (if b then c ∷ [] else [])) (λ j. v (m + j)) ≡ (if b then f c *ℤ v k else pos 0)
    one false c m k e = refl
    one true c m k e = let at : v (m + 0) ≡ v k = ap v (omega arith) in let same = ap (λ z. f c *ℤ z) at in omega (arith, linear)

-- ---- a line at values
module _ (p : Program) (v : ℕ → ℤ) where
  abbrev line_sum : (Column → ℤ) → ℤ
  line_sum f =
      sum_below p.unknowns (λ c. f (Unknown c) *ℤ v c)
      +ℤ sum_below p.rules (λ i. if is_limit p i then f (Slack i) *ℤ v (place p (Slack i)) else pos 0)
      +ℤ sum_below p.rules (λ i. if has_artificial p i then f (Artificial i) *ℤ v (place p (Artificial i)) else pos 0)
      +ℤ f SumValue *ℤ v (place p SumValue) +ℤ f CostValue *ℤ v (place p CostValue) +ℤ f RightSide *ℤ v (place p RightSide)

  pub line_dot : (f : Column → ℤ) → dot (map f (columns_of p)) v ≡ line_sum f
  line_dot f =
      let unknowns = picked all Unknown p.unknowns in
      let slack_columns = picked (is_limit p) Slack p.rules in
      let artificial_columns = picked (has_artificial p) Artificial p.rules in
      let last_three = SumValue ∷ CostValue ∷ RightSide ∷ [] in
      let first = dot-parts f unknowns (slack_columns ++ (artificial_columns ++ last_three)) v in
      let shift : length unknowns ≡ p.unknowns = length-picked all Unknown p.unknowns ∙ counted-all p.unknowns in
      let second = dot-parts f slack_columns (artificial_columns ++ last_three) (λ c. v (length unknowns + c)) in
      let third = dot-parts f artificial_columns last_three (λ c. v (length unknowns + (length slack_columns + c))) in
      let own : dot (map f unknowns) v ≡ sum_below p.unknowns (λ c. f (Unknown c) *ℤ v c) =
      dot-picked f all Unknown p.unknowns v ∙ sum_below-same p.unknowns _ (λ c. f (Unknown c) *ℤ v c) (λ c h. ap (λ k. f (Unknown c) *ℤ v k) (counted-all c)) in
      let slack : dot (map f slack_columns) (λ c. v (length unknowns + c)) ≡ sum_below p.rules (λ i. if is_limit p i then f (Slack i) *ℤ v (place p (Slack i)) else pos 0) =
      ap (λ n. dot (map f slack_columns) (λ c. v (n + c))) shift ∙ dot-picked f (is_limit p) Slack p.rules (λ c. v (p.unknowns + c)) in
      let counts : length slack_columns ≡ slacks p = length-picked (is_limit p) Slack p.rules in
      let kinds : length artificial_columns ≡ artificials p = length-picked (has_artificial p) Artificial p.rules in
      let art : dot (map f artificial_columns) (λ c. v (length unknowns + (length slack_columns + c)))
      ≡ sum_below p.rules (λ i. if has_artificial p i then f (Artificial i) *ℤ v (place p (Artificial i)) else pos 0) =
      (λ i. dot (map f artificial_columns) (λ c. v (shift i + (counts i + c)))) ∙ dot-picked f (has_artificial p) Artificial p.rules (λ c. v (p.unknowns + (slacks p + c))) in
      let final : dot (map f last_three) (λ c. v (length unknowns + (length slack_columns + (length artificial_columns + c))))
      ≡ f SumValue *ℤ v (place p SumValue) +ℤ (f CostValue *ℤ v (place p CostValue) +ℤ (f RightSide *ℤ v (place p RightSide) +ℤ pos 0)) =
      λ i. dot (map f last_three) (λ c. v (shift i + (counts i + (kinds i + c)))) in
      omega (arith, linear)

  module _ (d : ℤ) (are : AreValues p d v) where
    -- a rule's sum and its slack make up its right side
    rule_whole : (i : ℕ) → i < p.rules → sign p i *ℤ (sum_below p.unknowns (λ c. p.factor i c *ℤ v c) +ℤ (if is_limit p i then v (place p (Slack i)) else pos 0))
        ≡ sign p i *ℤ (d *ℤ p.right i)
    rule_whole i h =
        let f = rule_number p i in
        let solved = are.solves i (omega (arith, lines_long p, length-map (lines_of p) (λ line. map (line_number p line) (columns_of p)))) in
        let row = ap (λ r. dot r v) (row_is p i (RuleLine i) h refl) in
        let whole = line_dot f in
        let s = sign p i in
        let own : sum_below p.unknowns (λ c. (s *ℤ p.factor i c) *ℤ v c) ≡ s *ℤ sum_below p.unknowns (λ c. p.factor i c *ℤ v c) =
        sum_below-same p.unknowns _ (λ c. s *ℤ (p.factor i c *ℤ v c)) (λ c l. mul_assoc s (p.factor i c) (v c))
        ∙ sum_below-mul_left p.unknowns s (λ c. p.factor i c *ℤ v c) in
        let slack : sum_below p.rules (λ j. if is_limit p j then one_at i j s *ℤ v (place p (Slack j)) else pos 0) ≡ s *ℤ (if is_limit p i then v (place p (Slack i)) else pos 0) =
        sum_below-single p.rules (λ j. if is_limit p j then one_at i j s *ℤ v (place p (Slack j)) else pos 0) i h
        (λ j l other. cond_both (is_limit p j) _ _ (λ z. z ≡ pos 0)
        (λ e. ap (λ z. z *ℤ v (place p (Slack j))) (one_at-other i j s (λ e'. other (sym e'))) ∙ zero-mul (v (place p (Slack j)))) (λ e. refl))
        ∙ moved (is_limit p i) (one_at i i s) s (v (place p (Slack i))) (one_at-same i i s refl) in
        let art : sum_below p.rules (λ j. if has_artificial p j then one_at i j (pos 1) *ℤ v (place p (Artificial j)) else pos 0) ≡ pos 0 =
        sum_below-zero p.rules _ (λ j l. cond_both (has_artificial p j) _ _ (λ z. z ≡ pos 0)
        (λ e. ap (λ z. one_at i j (pos 1) *ℤ z) (are.artificial j l e) ∙ mul-zero (one_at i j (pos 1))) (λ e. refl)) in
        let none = zero-mul (v (place p SumValue)) in
        let free = zero-mul (v (place p CostValue)) in
        let right : (s *ℤ p.right i) *ℤ v (place p RightSide) ≡ neg_ℤ (s *ℤ (d *ℤ p.right i)) =
        ap (λ z. (s *ℤ p.right i) *ℤ z) are.right ∙ mul-neg (s *ℤ p.right i) d
        ∙ ap neg_ℤ (mul_assoc s (p.right i) d ∙ ap (λ z. s *ℤ z) (mul_comm (p.right i) d)) in
        let parted = mul-add s (sum_below p.unknowns (λ c. p.factor i c *ℤ v c)) (if is_limit p i then v (place p (Slack i)) else pos 0) in
        omega (arith, linear)
      where
        moved : (b : Bool) (o s x : ℤ) → o ≡ s → (if b then o *ℤ x else pos 0) ≡ s *ℤ (if b then x else pos 0)
        moved true o s x e = ap (λ z. z *ℤ x) e
        moved false o s x e = sym (mul-zero s)

    -- without the sign
    pub rule_is : (i : ℕ) → i < p.rules → sum_below p.unknowns (λ c. p.factor i c *ℤ v c) +ℤ (if is_limit p i then v (place p (Slack i)) else pos 0) ≡ d *ℤ p.right i
    rule_is i h = unsigned (is_negated p i) _ _ (rule_whole i h)
      where
        unsigned : (b : Bool) (x y : ℤ) → (if b then neg_ℤ (pos 1) else pos 1) *ℤ x ≡ (if b then neg_ℤ (pos 1) else pos 1) *ℤ y → x ≡ y
        unsigned true x y e = let a = neg-mul (pos 1) x in let b = neg-mul (pos 1) y in let c = one-mul x in let d = one-mul y in omega (arith, linear)
        unsigned false x y e = sym (one-mul x) ∙ e ∙ one-mul y

    pub limit_holds : (i : ℕ) → i < p.rules → p.is_equality i ≡ false → sum_below p.unknowns (λ c. p.factor i c *ℤ v c) ≤ℤ (d *ℤ p.right i)
    limit_holds i h limit =
        let whole = rule_is i h in
        let own = cond-true (is_limit p i) (v (place p (Slack i))) (pos 0) (ap not limit) in
        let sign = are.slack i h (ap not limit) in
        omega (arith, linear)

    pub equality_holds : (i : ℕ) → i < p.rules → p.is_equality i ≡ true → sum_below p.unknowns (λ c. p.factor i c *ℤ v c) ≡ d *ℤ p.right i
    equality_holds i h equality =
        let whole = rule_is i h in
        let own = cond-false (is_limit p i) (v (place p (Slack i))) (pos 0) (ap not equality) in
        omega (arith, linear)

    -- the value of the cost
    pub cost_is : v (place p CostValue) ≡ neg_ℤ (sum_below p.unknowns (λ c. p.cost c *ℤ v c))
    cost_is =
        let solved = are.solves (p.rules + 1) (omega (arith, lines_long p, length-map (lines_of p) (λ line. map (line_number p line) (columns_of p)))) in
        let row = ap (λ r. dot r v) (cost_row_is p) in
        let whole = line_dot (line_number p CostLine) in
        let slack : sum_below p.rules (λ j. if is_limit p j then pos 0 *ℤ v (place p (Slack j)) else pos 0) ≡ pos 0 =
        sum_below-zero p.rules _ (λ j l. cond_both (is_limit p j) _ _ (λ z. z ≡ pos 0) (λ e. zero-mul (v (place p (Slack j)))) (λ e. refl)) in
        let art : sum_below p.rules (λ j. if has_artificial p j then pos 0 *ℤ v (place p (Artificial j)) else pos 0) ≡ pos 0 =
        sum_below-zero p.rules _ (λ j l. cond_both (has_artificial p j) _ _ (λ z. z ≡ pos 0) (λ e. zero-mul (v (place p (Artificial j)))) (λ e. refl)) in
        let none = zero-mul (v (place p SumValue)) in
        let one = one-mul (v (place p CostValue)) in
        let free = zero-mul (v (place p RightSide)) in
        omega (arith, linear)

pub values_obey : ValuesObey
values_obey p d v are = record {
  limits = limit_holds p v d are;
  equalities = equality_holds p v d are;
  cost = cost_is p v d are;
}
