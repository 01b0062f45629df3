-- A commitment's table has no ray: each amount stands in a limit of its own that a ray leaves nothing of.
-- Cite by `use Rattle.dispatch_rules.proofs.Rays.{no_rays}`.
use Rattle.std.proofs.Common.{◌≡◌, ℕ, ◌<◌, ◌==◌, nat_lt, Bool, true, false, not, ◌||◌, ◌&&◌, refl, sym, ap, ◌∙◌, arith, length, ℤ, pos, ◌+ℤ◌, ◌*ℤ◌, neg_ℤ, ◌≤ℤ◌, IsTrue, int_lt, if◌then◌else◌}
use Rattle.std.proofs.lemmas.Int.{ints}
use Rattle.std.proofs.lemmas.Bool.{cond-true, cond-false, eq-eqb, true≢false}
use Rattle.uc_model.specs.Prelude.{sum_below, ShedRange, ShortRange, Production, rule_units, demand_at, reserve_at, IsLawfulInstance}
use Rattle.uc_model.proofs.Common.{linear, one-mul, neg-mul, mul-zero, zero-mul, mul_nonneg, sum_below-same, sum_below-zero, sum_below-single, term-le-sum_below}
use Rattle.dispatch_program.specs.Prelude.{Program, Unknown, Slack, Artificial, RightSide, sign, one_at, is_limit, is_negated, has_artificial, rule_number, place, IsRay}
use Rattle.dispatch_program.proofs.Combined.{one_at-same, one_at-other}
use Rattle.dispatch_program.proofs.Lines.{rule_line, own_sum, slack_sum, slack_at}
use Rattle.dispatch_rules.specs.Cells.{segments}
use Rattle.dispatch_rules.specs.Dispatch.{Task, Amount, Length, Held, Given, Shed, Short, Limit, limit, is_demand, parts, times_in, right_of, rule_from, copies, limit_at, amounts, amount_at, program}
use Rattle.dispatch_rules.specs.Duals.{IsTask}
use Rattle.dispatch_rules.specs.Primals.{one_if, length_in, output_in, held_in, given_in, shed_in, short_in}
use Rattle.dispatch_rules.specs.Rays.{HasRoom, NoRays}
use Rattle.dispatch_rules.proofs.Primals.{Fits, amounts-fit, limit_stands, in_production, in_start, in_range, in_shed, in_short, length_nonneg, output_nonneg, held_nonneg, given_nonneg, shed_nonneg, short_nonneg}
use Rattle.dispatch_rules.proofs.NodeBounds.{max_nonneg}

-- ---- a ray of a commitment's table
module _ (task : Task) (v : ℕ → ℤ) (lawful : IsLawfulInstance task.instance) (is : IsTask task) (room : HasRoom task) (ray : IsRay (program task) v) where
  abbrev p : Program
  p = program task

  abbrev count : ℕ
  count = length (amounts task)

  -- a limit whose right side isn't below 0 takes no unknown that stands in it, if none stands in it less than 0 times
  limit_line : (i : ℕ) → i < p.rules → has_artificial p i ≡ false → is_limit p i ≡ true → sign p i ≡ pos 1
      → sum_below count (λ c. p.factor i c *ℤ v c) ≤ℤ pos 0
  limit_line i h plain limit upright =
      let line = rule_line p v ray.solves i h in
      let none = cond-false (has_artificial p i) (v (place p (Artificial i))) (pos 0) plain in
      let right : rule_number p i RightSide *ℤ v (place p RightSide) ≡ pos 0 = ap (λ z. rule_number p i RightSide *ℤ z) ray.right ∙ mul-zero (rule_number p i RightSide) in
      let own : own_sum p v ray.solves i ≡ sum_below count (λ c. p.factor i c *ℤ v c) =
      sum_below-same count _ (λ c. p.factor i c *ℤ v c) (λ c l. ap (λ s. (s *ℤ p.factor i c) *ℤ v c) upright ∙ ap (λ z. z *ℤ v c) (one-mul (p.factor i c))) in
      let slack : slack_sum p v ray.solves i ≡ v (place p (Slack i)) =
      sum_below-single p.rules (λ j. one_at i j (sign p i) *ℤ slack_at p v ray.solves j) i h
      (λ j l other. ap (λ z. z *ℤ slack_at p v ray.solves j) (one_at-other i j (sign p i) (λ e. other (sym e))) ∙ zero-mul (slack_at p v ray.solves j))
      ∙ ap (λ z. z *ℤ slack_at p v ray.solves i) (one_at-same i i (sign p i) refl ∙ upright) ∙ one-mul (slack_at p v ray.solves i)
      ∙ cond-true (is_limit p i) (v (place p (Slack i))) (pos 0) limit in
      let low = ray.slack i h limit in
      omega (arith, linear)

  -- such a limit of the table, in which each amount of the cell stands once
  taken : (n g t k c : ℕ) (f : Amount → ℤ) → n < 10 → g < rule_units (rule_from n) task.instance → t < task.instance.periods → k < copies task (rule_from n) g t
      → is_demand (limit (rule_from n) g t k) ≡ false → pos 0 ≤ℤ right_of task (limit (rule_from n) g t k)
      → ((x : Amount) → times_in (limit (rule_from n) g t k) (parts x) ≡ f x) → ((x : Amount) → pos 0 ≤ℤ f x)
      → c < count → f (amount_at task c) ≡ pos 1 → v c ≡ pos 0
  taken n g t k c f hn hg ht hk plain low same nonneg hc one =
      let l = limit (rule_from n) g t k in
      let stands = limit_stands task n g t k hn hg ht hk in
      let upright : is_negated p stands.0 ≡ false = ap (λ (o : Limit). int_lt (right_of task o) (pos 0)) stands.2 ∙ not_below (right_of task (limit (rule_from n) g t k)) low in
      let limited : is_demand (limit_at task stands.0) ≡ false = ap is_demand stands.2 ∙ plain in
      let line = limit_line stands.0 stands.1 (λ i. limited i || upright i) (ap not limited) (cond-false (is_negated p stands.0) (neg_ℤ (pos 1)) (pos 1) upright) in
      let whole : sum_below count (λ j. f (amount_at task j) *ℤ v j) ≡ sum_below count (λ j. p.factor stands.0 j *ℤ v j) =
      sum_below-same count _ _ (λ j h. ap (λ z. z *ℤ v j) (sym (ap (λ o. times_in o (parts (amount_at task j))) stands.2 ∙ same (amount_at task j)))) in
      let term = term-le-sum_below count (λ j. f (amount_at task j) *ℤ v j) c hc (λ j h. mul_nonneg (f (amount_at task j)) (v j) (nonneg (amount_at task j)) (ray.unknown j h)) in
      let own : f (amount_at task c) *ℤ v c ≡ v c = ap (λ z. z *ℤ v c) one ∙ one-mul (v c) in
      let least = ray.unknown c hc in
      omega (arith, linear)
    where
      not_below : (z : ℤ) → pos 0 ≤ℤ z → int_lt z (pos 0) ≡ false
      not_below z h = grind (arith, ints)

  own_bit : (h s : ℕ) → one_if ((h == h) && (s == s)) ≡ pos 1
  own_bit h s = let a = eq-eqb h h refl in let b = eq-eqb s s refl in λ i. one_if (a i && b i)

  own_bits : (h s l : ℕ) → one_if ((h == h) && ((s == s) && (l == l))) ≡ pos 1
  own_bits h s l = let a = eq-eqb h h refl in let b = eq-eqb s s refl in let c = eq-eqb l l refl in λ i. one_if (a i && (b i && c i))

  none_taken : (c : ℕ) → c < count → (x : Amount) → amount_at task c ≡ x → Fits task x → v c ≡ pos 0
  none_taken c hc (Length h s l) e fits =
      let there : copies task Production h s ≡ segments (task.corners h) = cond-true (task.on h s) (segments (task.corners h)) 0 fits.1 in
      taken 0 h s l c (length_in h s l) (omega arith) fits.0 fits.3 (omega (arith, there, fits.2)) refl
      (let rising = (is.hulls h fits.0).hull.rising l (omega (arith, fits.2)) in omega (arith, linear))
      (in_production task h s l) (length_nonneg task h s l) hc (ap (length_in h s l) e ∙ own_bits h s l)
  none_taken c hc (Held h s) e fits =
      taken 1 h s 0 c (λ x. output_in h s x +ℤ held_in h s x) (omega arith) fits.0 fits.2 (omega arith) refl (room h s fits.0 fits.2 fits.1)
      (in_start task h s) (λ x. let a = output_nonneg task h s x in let b = held_nonneg task h s x in omega (arith, linear)) hc
      (ap (λ x. output_in h s x +ℤ held_in h s x) e ∙ (let a = own_bit h s in omega (arith, linear)))
  none_taken c hc (Given h s) e fits =
      taken 5 h s 0 c (given_in h s) (omega arith) fits.0 fits.1 (omega arith) refl
      (let range = (lawful.renewable h fits.0).range s fits.1 in omega (arith, linear))
      (in_range task h s) (given_nonneg task h s) hc (ap (given_in h s) e ∙ own_bit h s)
  none_taken c hc (Shed s) e fits =
      let there : copies task ShedRange 0 s ≡ 1 = cond-true (nat_lt 0 task.instance.a) 1 0 fits.0 in
      taken 8 0 s 0 c (shed_in s) (omega arith) (omega arith) fits.1 (omega (arith, there)) refl (max_nonneg (demand_at task.instance s))
      (in_shed task s) (shed_nonneg task s) hc (ap (shed_in s) e ∙ ap one_if (eq-eqb s s refl))
  none_taken c hc (Short s) e fits =
      let there : copies task ShortRange 0 s ≡ 1 = cond-true (nat_lt 0 task.instance.b) 1 0 fits.0 in
      taken 9 0 s 0 c (short_in s) (omega arith) (omega arith) fits.1 (omega (arith, there)) refl (max_nonneg (reserve_at task.instance s))
      (in_short task s) (short_nonneg task s) hc (ap (short_in s) e ∙ ap one_if (eq-eqb s s refl))

  pub no_unknown : (c : ℕ) → c < p.unknowns → v (place p (Unknown c)) ≡ pos 0
  no_unknown c h = none_taken c h (amount_at task c) refl (amounts-fit task c (Shed 0) h)

  pub slack_is : (i : ℕ) → i < p.rules → IsTrue (is_limit p i) → v (place p (Slack i)) ≡ (if has_artificial p i then v (place p (Artificial i)) else pos 0)
  slack_is i h limit =
      let line = rule_line p v ray.solves i h in
      let right : rule_number p i RightSide *ℤ v (place p RightSide) ≡ pos 0 = ap (λ z. rule_number p i RightSide *ℤ z) ray.right ∙ mul-zero (rule_number p i RightSide) in
      let own : own_sum p v ray.solves i ≡ pos 0 =
      sum_below-zero count (λ c. rule_number p i (Unknown c) *ℤ v c) (λ c l. ap (λ z. rule_number p i (Unknown c) *ℤ z) (no_unknown c l) ∙ mul-zero (rule_number p i (Unknown c))) in
      let slack : slack_sum p v ray.solves i ≡ sign p i *ℤ v (place p (Slack i)) =
      sum_below-single p.rules (λ j. one_at i j (sign p i) *ℤ slack_at p v ray.solves j) i h
      (λ j l other. ap (λ z. z *ℤ slack_at p v ray.solves j) (one_at-other i j (sign p i) (λ e. other (sym e))) ∙ zero-mul (slack_at p v ray.solves j))
      ∙ ap (λ z. z *ℤ slack_at p v ray.solves i) (one_at-same i i (sign p i) refl)
      ∙ ap (λ z. sign p i *ℤ z) (cond-true (is_limit p i) (v (place p (Slack i))) (pos 0) limit) in
      signed (p.is_equality i) (is_negated p i) (v (place p (Slack i))) (v (place p (Artificial i))) limit (omega (arith, linear))
    where
      signed : (e n : Bool) (s a : ℤ) → not e ≡ true → (if n then neg_ℤ (pos 1) else pos 1) *ℤ s +ℤ (if (e || n) then a else pos 0) ≡ pos 0
          → s ≡ (if (e || n) then a else pos 0)
      signed true n s a limit h = absurd (true≢false (sym limit))
      signed false true s a limit h = let t = neg-mul (pos 1) s in let o = one-mul s in omega (arith, linear)
      signed false false s a limit h = let o = one-mul s in omega (arith, linear)

pub no_rays : NoRays
no_rays task v lawful is room ray = (no_unknown task v lawful is room ray, slack_is task v lawful is room ray)
