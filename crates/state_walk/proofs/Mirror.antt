-- A run costs the same from its end back as from its beginning on: between any two of its hours both are the least, over the
-- output there, of what the hours before cost and those behind.
use Rattle.std.proofs.Common.{◌≡◌, ℕ, zero, suc, ◌+◌, Bool, true, false, ◌==◌, nat_lt, refl, sym, ap, subst, ◌∙◌, arith, ℤ, pos, ◌+ℤ◌, ◌-ℤ◌, neg_ℤ, ◌≤ℤ◌, IsTrue, int_le, Option, Some, None}
use Rattle.std.specs.Ordering.{int_eq}
use Rattle.std.proofs.lemmas.Bool.{cond-true, cond-false, and_from, and_parts, eq-eqb, eqb-true, eqb-false, ne_eqb}
use Rattle.uc_model.proofs.Common.{linear, int_le-true, le-int_le, int_eq-true, eq-int_eq}
use Rattle.dual_model.specs.Prelude.{greatest_output, total_of}
use Rattle.uc_model.specs.Prelude.{cell_cap}
use Rattle.dual_model.proofs.Optimum.{AtMost, total_of-parts}
use Rattle.unit_runs.specs.CostThrough.{cost_through, hour_after, is_output, least_between, output_cost, reserve_cost, run_cost}
use Rattle.unit_runs.specs.Runs.{entry_output, hour_cap}
use Rattle.unit_runs.proofs.Costs.{least_between-at_most, least_between-reached}
use Rattle.state_walk.specs.inside.CostToEnd.{Table, Thermal, cost_to_end, highest_end, hours_after, is_between, lowest_end}
use Rattle.hull_function.proofs.Represented.{same-least, through}
use Rattle.hull_function.specs.Hours.{with_output}

module _ (periods : ℕ) (table : Table) (unit : Thermal) where
  -- ---- one hour, between the output q before it and its own, p
  -- the hours behind it, one more, by the output before
  more-behind : (t : ℕ) (cap q p b : ℤ) (behind : ℤ → Option ℤ) → IsTrue (is_output unit cap p) → (p -ℤ unit.ru) ≤ℤ q → q ≤ℤ (p +ℤ unit.rd) → behind p ≡ Some b
      → AtMost (hours_after table unit t cap (with_output table unit t cap behind) q) (output_cost table unit t p +ℤ b +ℤ reserve_cost table unit t cap q)
  more-behind t cap q p b behind fits low high is =
      let hours = with_output table unit t cap behind in
      let here : hours p ≡ Some (output_cost table unit t p +ℤ b) =
      cond-true (is_output unit cap p) (total_of (Some (output_cost table unit t p)) (behind p)) None fits ∙ ap (total_of (Some (output_cost table unit t p))) is in
      let least = least_between-at_most (q -ℤ unit.rd) (q +ℤ unit.ru) hours p (output_cost table unit t p +ℤ b) (omega (arith, linear, high)) (omega (arith, linear, low))
      (record { cost = output_cost table unit t p +ℤ b; is = here; below = omega (arith, linear) }) in
      let below = least.below in
      record {
        cost = least.cost +ℤ reserve_cost table unit t cap q;
        is = ap (λ o. total_of o (Some (reserve_cost table unit t cap q))) least.is;
        below = omega (arith, linear, below);
      }

  -- and the hours before it, one more, by its own output
  more-before : (t : ℕ) (cap q p c : ℤ) (before : ℤ → Option ℤ) → IsTrue (is_output unit cap p) → (p -ℤ unit.ru) ≤ℤ q → q ≤ℤ (p +ℤ unit.rd) → before q ≡ Some c
      → AtMost (hour_after table unit t cap before p) (output_cost table unit t p +ℤ (c +ℤ reserve_cost table unit t cap q))
  more-before t cap q p c before fits low high is =
      let behind : ℤ → Option ℤ = λ z. total_of (before z) (Some (reserve_cost table unit t cap z)) in
      let here : behind q ≡ Some (c +ℤ reserve_cost table unit t cap q) = ap (λ o. total_of o (Some (reserve_cost table unit t cap q))) is in
      let least = least_between-at_most (p -ℤ unit.ru) (p +ℤ unit.rd) behind q (c +ℤ reserve_cost table unit t cap q) low high
      (record { cost = c +ℤ reserve_cost table unit t cap q; is = here; below = omega (arith, linear) }) in
      let below = least.below in
      record {
        cost = output_cost table unit t p +ℤ least.cost;
        is = cond-true (is_output unit cap p) (total_of (Some (output_cost table unit t p)) (least_between (p -ℤ unit.ru) (p +ℤ unit.rd) behind)) None fits
            ∙ ap (total_of (Some (output_cost table unit t p))) least.is;
        below = omega (arith, linear, below);
      }

  -- what the cost of hours up to one is made of, and that of hours from one on
  record HasBefore (t : ℕ) (cap p v : ℤ) (before : ℤ → Option ℤ) : Type 0 where
    q : ℤ
    c : ℤ
    fits : IsTrue (is_output unit cap p)
    low : (p -ℤ unit.ru) ≤ℤ q
    high : q ≤ℤ (p +ℤ unit.rd)
    is : before q ≡ Some c
    total : v ≡ output_cost table unit t p +ℤ (c +ℤ reserve_cost table unit t cap q)

  before-of : (t : ℕ) (cap p v : ℤ) (before : ℤ → Option ℤ) → hour_after table unit t cap before p ≡ Some v → HasBefore t cap p v before
  before-of t cap p v before e =
      let behind : ℤ → Option ℤ = λ z. total_of (before z) (Some (reserve_cost table unit t cap z)) in
      let found = through (is_output unit cap p) (total_of (Some (output_cost table unit t p)) (least_between (p -ℤ unit.ru) (p +ℤ unit.rd) behind)) v e in
      let parts = total_of-parts (Some (output_cost table unit t p)) (least_between (p -ℤ unit.ru) (p +ℤ unit.rd) behind) v found.1 in
      let reached = least_between-reached (p -ℤ unit.ru) (p +ℤ unit.rd) behind parts.second parts.second_is in
      let rest = total_of-parts (before reached.at) (Some (reserve_cost table unit t cap reached.at)) parts.second reached.is in
      let output : parts.first ≡ output_cost table unit t p = (let is = parts.first_is in cc) in
      let reserve : rest.second ≡ reserve_cost table unit t cap reached.at = (let is = rest.second_is in cc) in
      let first = parts.total in
      let second = rest.total in
      record {
        q = reached.at;
        c = rest.first;
        fits = found.0;
        low = reached.from;
        high = reached.to;
        is = rest.first_is;
        total = omega (arith, linear, output, reserve, first, second);
      }

  record HasBehind (t : ℕ) (cap q v : ℤ) (behind : ℤ → Option ℤ) : Type 0 where
    p : ℤ
    b : ℤ
    fits : IsTrue (is_output unit cap p)
    low : (p -ℤ unit.ru) ≤ℤ q
    high : q ≤ℤ (p +ℤ unit.rd)
    is : behind p ≡ Some b
    total : v ≡ output_cost table unit t p +ℤ b +ℤ reserve_cost table unit t cap q

  behind-of : (t : ℕ) (cap q v : ℤ) (behind : ℤ → Option ℤ) → hours_after table unit t cap (with_output table unit t cap behind) q ≡ Some v → HasBehind t cap q v behind
  behind-of t cap q v behind e =
      let hours = with_output table unit t cap behind in
      let parts = total_of-parts (least_between (q -ℤ unit.rd) (q +ℤ unit.ru) hours) (Some (reserve_cost table unit t cap q)) v e in
      let reached = least_between-reached (q -ℤ unit.rd) (q +ℤ unit.ru) hours parts.first parts.first_is in
      let found = through (is_output unit cap reached.at) (total_of (Some (output_cost table unit t reached.at)) (behind reached.at)) parts.first reached.is in
      let rest = total_of-parts (Some (output_cost table unit t reached.at)) (behind reached.at) parts.first found.1 in
      let reserve : parts.second ≡ reserve_cost table unit t cap q = (let is = parts.second_is in cc) in
      let output : rest.first ≡ output_cost table unit t reached.at = (let is = rest.first_is in cc) in
      let from = reached.from in
      let to = reached.to in
      let first = parts.total in
      let second = rest.total in
      record {
        p = reached.at;
        b = rest.second;
        fits = found.0;
        low = omega (arith, linear, to);
        high = omega (arith, linear, from);
        is = rest.second_is;
        total = omega (arith, linear, output, reserve, first, second);
      }

  -- ---- a run
  module _ (from hours : ℕ) where
    abbrev before : ℕ → ℤ → Option ℤ
    before n p = cost_through periods table unit from hours n p

    abbrev behind : ℕ → ℕ → ℤ → Option ℤ
    behind m n q = cost_to_end periods table unit m (from + n) (n == 0) q

    abbrev whole : Option ℤ
    whole = cost_to_end periods table unit hours from true (entry_output unit from)

    -- the hour that ends the run is the one with none behind it
    last-same : (n m : ℕ) → n + suc m ≡ hours → (m == 0) ≡ (suc n == hours)
    last-same n m e = by (m == 0) refl
      where
        by : (b : Bool) → (m == 0) ≡ b → (m == 0) ≡ (suc n == hours)
        by true is = is ∙ sym (eq-eqb (suc n) hours (let none = eqb-true m 0 is in omega (arith, none, e)))
        by false is = is ∙ sym (ne_eqb (suc n) hours (λ same. eqb-false m 0 is (omega (arith, same, e))))

    cap-same : (n m : ℕ) → n + suc m ≡ hours → cell_cap periods unit (from + n) (n == 0) (m == 0) ≡ hour_cap periods unit from hours n
    cap-same n m e = ap (cell_cap periods unit (from + n) (n == 0)) (last-same n m e)

    next-period : (n m : ℕ) → cost_to_end periods table unit m (suc (from + n)) false ≡ behind m (suc n)
    next-period n m =
        let at : suc (from + n) ≡ from + suc n = omega arith in
        let later = sym (ne_eqb (suc n) 0 (λ e. omega (arith, e))) in
        λ i q. cost_to_end periods table unit m (at i) (later i) q

    -- behind an output, with the hour's cap as forward
    behind-is : (n m : ℕ) (q : ℤ) → n + suc m ≡ hours
        → behind (suc m) n q
        ≡ hours_after table unit (from + n) (hour_cap periods unit from hours n) (with_output table unit (from + n) (hour_cap periods unit from hours n) (behind m (suc n))) q
    behind-is n m q e =
        let cap = cap-same n m e in
        let rest = next-period n m in
        λ i. hours_after table unit (from + n) (cap i) (with_output table unit (from + n) (cap i) (rest i)) q

    -- from any place between two hours back to the beginning
    to-beginning : (n m : ℕ) → n + m ≡ hours → (p a b : ℤ) → before n p ≡ Some a → behind m n p ≡ Some b → AtMost whole (a +ℤ b)
    to-beginning zero m e p a b first second =
        let found = through (int_eq p (entry_output unit from)) (Some (pos 0)) a first in
        let here = int_eq-true p (entry_output unit from) found.0 in
        let none : a ≡ pos 0 = (let is = found.1 in cc) in
        let at : from + 0 ≡ from = omega arith in
        let all : m ≡ hours = omega (arith, e) in
        let whole_is : behind m 0 p ≡ whole = λ i. cost_to_end periods table unit (all i) (at i) true (here i) in
        record { cost = b; is = sym whole_is ∙ second; below = omega (arith, linear, none) }
    to-beginning (suc n) m e p a b first second =
        let cap = hour_cap periods unit from hours n in
        let made = before-of (from + n) cap p a (before n) first in
        let sum : n + suc m ≡ hours = omega (arith, e) in
        let more = more-behind (from + n) cap made.q p b (behind m (suc n)) made.fits made.low made.high second in
        let earlier = to-beginning n (suc m) sum made.q made.c more.cost made.is (behind-is n m made.q sum ∙ more.is) in
        let below = earlier.below in
        let own = more.below in
        let total = made.total in
        record { cost = earlier.cost; is = earlier.is; below = omega (arith, linear, below, own, total) }

    -- ---- the end
    -- the run as far as its last output lies between both ends
    ended : (b : Bool) → nat_lt (from + hours) periods ≡ b → run_cost periods table unit from hours
        ≡ least_between (lowest_end periods unit (from + hours)) (highest_end periods unit (from + hours)) (before hours)
    ended true e =
        cond-true (nat_lt (from + hours) periods) _ _ e
        ∙ (λ i. least_between (sym (cond-true (nat_lt (from + hours) periods) (neg_ℤ unit.ru) (pos 0) e) i)
        (sym (cond-true (nat_lt (from + hours) periods) unit.rd (greatest_output unit.points) e) i) (before hours))
    ended false e =
        cond-false (nat_lt (from + hours) periods) _ _ e
        ∙ (λ i. least_between (sym (cond-false (nat_lt (from + hours) periods) (neg_ℤ unit.ru) (pos 0) e) i)
        (sym (cond-false (nat_lt (from + hours) periods) unit.rd (greatest_output unit.points) e) i) (before hours))

    run-is : run_cost periods table unit from hours
        ≡ least_between (lowest_end periods unit (from + hours)) (highest_end periods unit (from + hours)) (before hours)
    run-is = ended (nat_lt (from + hours) periods) refl

    to-end : (m n : ℕ) → n + m ≡ hours → (q c b : ℤ) → before n q ≡ Some c → behind m n q ≡ Some b → AtMost (run_cost periods table unit from hours) (c +ℤ b)
    to-end zero n e q c b first second =
        let found = through (is_between (lowest_end periods unit (from + n)) (highest_end periods unit (from + n)) q) (Some (pos 0)) b second in
        let tests = and_parts (int_le (lowest_end periods unit (from + n)) q) (int_le q (highest_end periods unit (from + n))) found.0 in
        let none : b ≡ pos 0 = (let is = found.1 in cc) in
        let all : n ≡ hours = omega (arith, e) in
        let low = subst (λ k. lowest_end periods unit (from + k) ≤ℤ q) all (int_le-true _ _ tests.0) in
        let high = subst (λ k. q ≤ℤ highest_end periods unit (from + k)) all (int_le-true _ _ tests.1) in
        let own : before hours q ≡ Some c = subst (λ k. before k q ≡ Some c) all first in
        subst (λ o. AtMost o (c +ℤ b)) (sym run-is)
        (least_between-at_most (lowest_end periods unit (from + hours)) (highest_end periods unit (from + hours)) (before hours) q (c +ℤ b) low high
        (record { cost = c; is = own; below = omega (arith, linear, none) }))
    to-end (suc m) n e q c b first second =
        let cap = hour_cap periods unit from hours n in
        let sum : n + suc m ≡ hours = e in
        let made = behind-of (from + n) cap q b (behind m (suc n)) (sym (behind-is n m q sum) ∙ second) in
        let more = more-before (from + n) cap q made.p c (before n) made.fits made.low made.high first in
        let later = to-end m (suc n) (omega (arith, e)) made.p more.cost made.b more.is made.is in
        let below = later.below in
        let own = more.below in
        let total = made.total in
        record { cost = later.cost; is = later.is; below = omega (arith, linear, below, own, total) }

    -- ---- both are the same
    forward : (v : ℤ) → whole ≡ Some v → AtMost (run_cost periods table unit from hours) v
    forward v e =
        let at : from ≡ from + 0 = omega arith in
        let start : before 0 (entry_output unit from) ≡ Some (pos 0) =
        cond-true (int_eq (entry_output unit from) (entry_output unit from)) (Some (pos 0)) None (eq-int_eq (entry_output unit from) (entry_output unit from) refl) in
        let most = to-end hours 0 (omega arith) (entry_output unit from) (pos 0) v start (subst (λ t. cost_to_end periods table unit hours t true (entry_output unit from) ≡ Some v) at e) in
        let below = most.below in
        record { cost = most.cost; is = most.is; below = omega (arith, linear, below) }

    backward : (v : ℤ) → run_cost periods table unit from hours ≡ Some v → AtMost whole v
    backward v e =
        let low = lowest_end periods unit (from + hours) in
        let high = highest_end periods unit (from + hours) in
        let reached = least_between-reached low high (before hours) v (sym run-is ∙ e) in
        let none : behind 0 hours reached.at ≡ Some (pos 0) =
        cond-true (is_between low high reached.at) (Some (pos 0)) None
        (and_from _ _ (le-int_le low reached.at reached.from) (le-int_le reached.at high reached.to)) in
        let most = to-beginning hours 0 (omega arith) reached.at v (pos 0) reached.is none in
        let below = most.below in
        record { cost = most.cost; is = most.is; below = omega (arith, linear, below) }

    pub run-same : cost_to_end periods table unit hours from true (entry_output unit from) ≡ run_cost periods table unit from hours
    run-same = same-least whole (run_cost periods table unit from hours) forward backward
