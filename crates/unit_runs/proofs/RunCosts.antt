-- The recursion over the hours of a run gives the least value of a trajectory: each costs at least that, and one attains it.
-- Reserve goes first: beside two outputs in a row the most of it is the best where its price is above 0, and none is
-- elsewhere.
use Rattle.std.proofs.Common.{◌≡◌, ℕ, zero, suc, ◌+◌, ◌<◌, ◌≤◌, ◌⊎◌, ⊎_elim, Bool, true, false, ◌==◌, nat_lt, refl, sym, ap, subst, ◌∙◌, arith, ℤ, pos, ◌+ℤ◌, ◌-ℤ◌, ◌*ℤ◌, neg_ℤ, ◌≤ℤ◌, ◌<ℤ◌, IsTrue, int_le, unsigned_abs, Option, Some, None, if◌then◌else◌}
use Rattle.std.specs.Int.{int_min, int_max}
use Rattle.std.specs.Ordering.{int_eq}
use Rattle.std.proofs.lemmas.Int.{ints}
use Rattle.std.proofs.lemmas.Bool.{cond-true, cond-false, and_parts, and_from, eq-eqb, ne_eqb, lt-ltb, le-ltb, cases_lt}
use Rattle.uc_model.proofs.Common.{linear, mul-add, mul-sub, sub-mul, zero-mul, mul-zero, mul-le-mul_left, mul-le-mul_right, sum_below-same, int_le-true, le-int_le, int_eq-true, eq-int_eq, int_min_left, int_min_right, abs_is}
use Rattle.dual_model.specs.Prelude.{pi_at, mu_at, greatest_output, total_of}
use Rattle.dual_model.specs.ExactValue.{floored_cost}
use Rattle.dual_model.proofs.Optimum.{AtMost, Parts, total_of-parts}
use Rattle.unit_runs.specs.Runs.{Table, Thermal, Trajectory, entry_output, output_before_hour, hour_cap, IsHourOf, IsTrajectory, hour_value, trajectory_value, IsRunValueOf}
use Rattle.unit_runs.specs.CostThrough.{least_between, reserve_worth, output_cost, reserve_cost, is_output, cost_through, run_cost}
use Rattle.unit_runs.specs.Laws.{RunCostsAreLeast}
use Rattle.unit_runs.proofs.Costs.{Reached, least_between-at_most, least_between-reached}

le_min : (z a b : ℤ) → z ≤ℤ a → z ≤ℤ b → z ≤ℤ int_min a b
le_min z a b h k = grind (arith, ints)

-- ---- the reserve of an hour, over plain numbers: mu its price, q and p the outputs
-- what it is worth per watt is at least the price, and no less than nothing
worth_is : (mu : ℤ) → ((pos 0 <ℤ mu) × (int_max mu (pos 0) ≡ mu)) ⊎ ((mu ≤ℤ pos 0) × (int_max mu (pos 0) ≡ pos 0))
worth_is mu = grind (arith, ints)

-- the reserve earns at most what the most reserve would
earned : (mu r most : ℤ) → pos 0 ≤ℤ r → r ≤ℤ most → (mu *ℤ r) ≤ℤ (int_max mu (pos 0) *ℤ most)
earned mu r most low high = grind (arith, ints, mul-le-mul_left, zero-mul, mul-le-mul_right, worth_is, low, high)

-- the best reserve: the most of it where its price is above 0
record BestReserve (mu most : ℤ) : Type 0 where
  r : ℕ
  within : pos r ≤ℤ most
  earns : mu *ℤ pos r ≡ int_max mu (pos 0) *ℤ most

best_reserve : (mu most : ℤ) → pos 0 ≤ℤ most → BestReserve mu most
best_reserve mu most room = ⊎_elim
    (λ (some : (pos 0 <ℤ mu) × (int_max mu (pos 0) ≡ mu)).
    let size = abs_is most room in
    record {
      r = unsigned_abs most;
      within = omega (arith, linear);
      earns = ap (λ z. mu *ℤ z) size ∙ ap (λ w. w *ℤ most) (sym some.1);
    })
    (λ (none : (mu ≤ℤ pos 0) × (int_max mu (pos 0) ≡ pos 0)).
    record {
      r = 0;
      within = room;
      earns = mul-zero mu ∙ sym (zero-mul most) ∙ ap (λ w. w *ℤ most) (sym none.1);
    })
    (worth_is mu)

-- the cost of an hour without reserve and what the most reserve earns beside it
split_cost : (cost pi p low w most limit : ℤ) → most ≡ limit -ℤ p
    → cost -ℤ pi *ℤ (p +ℤ low) -ℤ w *ℤ most ≡ (cost +ℤ (w -ℤ pi) *ℤ p -ℤ pi *ℤ low) +ℤ neg_ℤ (w *ℤ limit)
split_cost cost pi p low w most limit e =
    let first = mul-add pi p low in
    let second = ap (λ z. w *ℤ z) e ∙ mul-sub w limit p in
    let third = sub-mul w pi p in
    omega (arith, linear)

module _ (periods : ℕ) (table : Table) (unit : Thermal) (from hours : ℕ) where
  abbrev cap : ℕ → ℤ
  cap i = hour_cap periods unit from hours i

  abbrev cost : ℕ → ℤ → Option ℤ
  cost n p = cost_through periods table unit from hours n p

  -- the costs of the hours before one of output p by the output before it, with what reserve costs there, and the least
  abbrev behind : ℕ → ℤ → Option ℤ
  behind n q = total_of (cost n q) (Some (reserve_cost table unit (from + n) (cap n) q))

  abbrev least_behind : ℕ → ℤ → Option ℤ
  least_behind n p = least_between (p -ℤ unit.ru) (p +ℤ unit.rd) (behind n)

  abbrev with_output : ℕ → ℤ → Option ℤ
  with_output n p = total_of (Some (output_cost table unit (from + n) p)) (least_behind n p)

  -- the most reserve beside the outputs q and p of two hours, the second one of this cap
  abbrev most_reserve : ℕ → ℤ → ℤ → ℤ
  most_reserve n q p = int_min (cap n) (q +ℤ unit.ru) -ℤ p

  -- both costs of hour n, and its value with a reserve
  abbrev both : ℕ → ℤ → ℤ → ℤ
  both n q p = output_cost table unit (from + n) p +ℤ reserve_cost table unit (from + n) (cap n) q

  valued : (n : ℕ) (q : ℤ) (p : ℕ)
      → floored_cost unit.points table.k 1 p -ℤ pi_at table (from + n) *ℤ (pos p +ℤ unit.pmin)
      -ℤ reserve_worth table (from + n) *ℤ most_reserve n q (pos p) ≡ both n q (pos p)
  valued n q p =
      split_cost (floored_cost unit.points table.k 1 p) (pi_at table (from + n)) (pos p) unit.pmin (reserve_worth table (from + n))
      (most_reserve n q (pos p)) (int_min (cap n) (q +ℤ unit.ru)) refl

  -- ---- trajectories of the first n hours
  record Leads (n : ℕ) (p v : ℤ) : Type 0 where
    x : Trajectory
    each : (i : ℕ) → i < n → IsHourOf periods unit from hours x i
    last : p ≡ output_before_hour unit from x n
    value : v ≡ trajectory_value table unit from n x

  -- what an hour keeps hangs on its own numbers, and on the output before it
  hour-same : (x y : Trajectory) (i : ℕ) → x.p i ≡ y.p i → x.r i ≡ y.r i
      → output_before_hour unit from x i ≡ output_before_hour unit from y i
      → IsHourOf periods unit from hours x i → IsHourOf periods unit from hours y i
  hour-same x y i p r before h =
      let limit = h.cap in
      let up = h.ramps.up in
      let down = h.ramps.down in
      record {
        width = subst (λ n. pos n ≤ℤ greatest_output unit.points) p h.width;
        cap = omega (arith, linear, p, r, limit);
        ramps = record { up = omega (arith, linear, p, r, before, up); down = omega (arith, linear, p, before, down) };
      }

  -- the trajectory with these numbers in hour n
  abbrev with_hour : Trajectory → ℕ → ℕ → ℕ → Trajectory
  with_hour x n p r = record { p = λ i. if i == n then p else x.p i; r = λ i. if i == n then r else x.r i }

  kept : (x : Trajectory) (n p r i : ℕ) → i < n → ((with_hour x n p r).p i ≡ x.p i) × ((with_hour x n p r).r i ≡ x.r i)
  kept x n p r i l =
      let other : (i == n) ≡ false = ne_eqb i n (λ e. omega arith) in
      (cond-false (i == n) p (x.p i) other, cond-false (i == n) r (x.r i) other)

  here : (x : Trajectory) (n p r : ℕ) → ((with_hour x n p r).p n ≡ p) × ((with_hour x n p r).r n ≡ r)
  here x n p r =
      let same : (n == n) ≡ true = eq-eqb n n refl in
      (cond-true (n == n) p (x.p n) same, cond-true (n == n) r (x.r n) same)

  before-kept : (x : Trajectory) (n p r i : ℕ) → i ≤ n → output_before_hour unit from (with_hour x n p r) i ≡ output_before_hour unit from x i
  before-kept x n p r zero l = refl
  before-kept x n p r (suc i) l = ap pos (kept x n p r i (omega arith)).0

  -- ---- each trajectory costs at least the recursion's
  output-there : (n : ℕ) (p : ℕ) → pos p ≤ℤ greatest_output unit.points → pos p ≤ℤ cap n → IsTrue (is_output unit (cap n) (pos p))
  output-there n p wide fits =
      and_from _ _ (le-int_le (pos 0) (pos p) (omega (arith, linear)))
      (le-int_le (pos p) _ (le_min (pos p) (cap n) (greatest_output unit.points) fits wide))

  below-hour : (n : ℕ) (q v : ℤ) (x : Trajectory) → q ≡ output_before_hour unit from x n → IsHourOf periods unit from hours x n
      → AtMost (cost n q) v → AtMost (cost (suc n) (pos (x.p n))) (v +ℤ hour_value table unit (from + n) (x.p n) (x.r n))
  below-hour n q v x e h less = record { cost = output_cost table unit (from + n) p +ℤ least.cost; is = is; below = below }
    where
      p : ℤ
      p = pos (x.p n)

      up : (p +ℤ pos (x.r n) -ℤ q) ≤ℤ unit.ru
      up = subst (λ z. (p +ℤ pos (x.r n) -ℤ z) ≤ℤ unit.ru) (sym e) h.ramps.up

      down : (q -ℤ p) ≤ℤ unit.rd
      down = subst (λ z. (z -ℤ p) ≤ℤ unit.rd) (sym e) h.ramps.down

      least : AtMost (least_behind n p) (v +ℤ reserve_cost table unit (from + n) (cap n) q)
      least = least_between-at_most (p -ℤ unit.ru) (p +ℤ unit.rd) (behind n) q _ (omega (arith, linear)) (omega (arith, linear))
          (record {
            cost = less.cost +ℤ reserve_cost table unit (from + n) (cap n) q;
            is = ap (λ o. total_of o (Some (reserve_cost table unit (from + n) (cap n) q))) less.is;
            below = let small = less.below in omega (arith, linear);
          })

      is : cost (suc n) p ≡ Some (output_cost table unit (from + n) p +ℤ least.cost)
      is = cond-true (is_output unit (cap n) p) (with_output n p) None (output-there n (x.p n) h.width (let fits = h.cap in omega (arith, linear)))
          ∙ ap (total_of (Some (output_cost table unit (from + n) p))) least.is

      below : (output_cost table unit (from + n) p +ℤ least.cost) ≤ℤ (v +ℤ hour_value table unit (from + n) (x.p n) (x.r n))
      below =
          let small = least.below in
          let fits = h.cap in
          let both_limits : (p +ℤ pos (x.r n)) ≤ℤ int_min (cap n) (q +ℤ unit.ru) =
          le_min _ _ _ fits (let rise = up in omega (arith, linear)) in
          let worth = earned (mu_at table (from + n)) (pos (x.r n)) (most_reserve n q p) (omega (arith, linear)) (omega (arith, linear)) in
          let split = valued n q (x.p n) in
          omega (arith, linear, small, worth, split)

  at_most : (n : ℕ) (x : Trajectory) → ((i : ℕ) → i < n → IsHourOf periods unit from hours x i)
      → AtMost (cost n (output_before_hour unit from x n)) (trajectory_value table unit from n x)
  at_most zero x each = record {
    cost = pos 0;
    is = cond-true (int_eq (entry_output unit from) (entry_output unit from)) _ None (eq-int_eq (entry_output unit from) _ refl);
    below = omega (arith, linear);
  }
  at_most (suc n) x each =
      below-hour n (output_before_hour unit from x n) (trajectory_value table unit from n x) x refl (each n (omega arith))
      (at_most n x (λ i l. each i (omega arith)))

  -- ---- and one attains it
  record AtOutput (b : Bool) (o : Option ℤ) (v : ℤ) : Type 0 where
    test : IsTrue b
    is : o ≡ Some v

  through : (b : Bool) (o : Option ℤ) (v : ℤ) → (if b then o else None) ≡ Some v → AtOutput b o v
  through true o v e = record { test = refl; is = e }
  through false o v e = cc

  longer : (n : ℕ) (p v : ℤ) → ((q w : ℤ) → cost n q ≡ Some w → Leads n q w) → cost (suc n) p ≡ Some v → Leads (suc n) p v
  longer n p v shorter e = record { x = y; each = each; last = last; value = value }
    where
      found : AtOutput (is_output unit (cap n) p) (with_output n p) v
      found = through (is_output unit (cap n) p) (with_output n p) v e

      parts : Parts (Some (output_cost table unit (from + n) p)) (least_behind n p) v
      parts = total_of-parts _ _ v found.is

      reached : Reached (behind n) (p -ℤ unit.ru) (p +ℤ unit.rd) parts.second
      reached = least_between-reached (p -ℤ unit.ru) (p +ℤ unit.rd) (behind n) parts.second parts.second_is

      q : ℤ
      q = reached.at

      rest : Parts (cost n q) (Some (reserve_cost table unit (from + n) (cap n) q)) parts.second
      rest = total_of-parts _ _ parts.second reached.is

      earlier : Leads n q rest.first
      earlier = shorter q rest.first rest.first_is

      output : ℕ
      output = unsigned_abs p

      tests : IsTrue (int_le (pos 0) p) × IsTrue (int_le p (int_min (cap n) (greatest_output unit.points)))
      tests = and_parts (int_le (pos 0) p) _ found.test

      output_is : pos output ≡ p
      output_is = abs_is p (int_le-true _ _ tests.0)

      high : p ≤ℤ int_min (cap n) (greatest_output unit.points)
      high = int_le-true _ _ tests.1

      room : pos 0 ≤ℤ most_reserve n q p
      room =
          let low = reached.from in
          let fits = high in
          let left = int_min_left (cap n) (greatest_output unit.points) in
          let limit = le_min p (cap n) (q +ℤ unit.ru) (omega (arith, linear)) (omega (arith, linear)) in
          omega (arith, linear)

      best : BestReserve (mu_at table (from + n)) (most_reserve n q p)
      best = best_reserve (mu_at table (from + n)) (most_reserve n q p) room

      y : Trajectory
      y = with_hour earlier.x n output best.r

      p_is : y.p n ≡ output
      p_is = (here earlier.x n output best.r).0

      r_is : y.r n ≡ best.r
      r_is = (here earlier.x n output best.r).1

      before_is : output_before_hour unit from y n ≡ q
      before_is = before-kept earlier.x n output best.r n (omega arith) ∙ sym earlier.last

      last : p ≡ pos (y.p n)
      last = sym (ap pos p_is ∙ output_is)

      own : IsHourOf periods unit from hours y n
      own =
          let fits = best.within in
          let left = int_min_left (cap n) (q +ℤ unit.ru) in
          let right = int_min_right (cap n) (q +ℤ unit.ru) in
          let wide = int_min_right (cap n) (greatest_output unit.points) in
          let below = high in
          let down = reached.to in
          let reserve = ap pos r_is in
          record {
            width = omega (arith, linear, last, below, wide);
            cap = omega (arith, linear, last, reserve, fits, left);
            ramps = record {
              up = omega (arith, linear, last, reserve, fits, right, before_is);
              down = omega (arith, linear, last, down, before_is);
            };
          }

      each : (i : ℕ) → i < suc n → IsHourOf periods unit from hours y i
      each i l = ⊎_elim
          (λ (less : i < n).
          let same = kept earlier.x n output best.r i less in
          hour-same earlier.x y i (sym same.0) (sym same.1) (sym (before-kept earlier.x n output best.r i (omega arith))) (earlier.each i less))
          (λ (is_last : n ≤ i). let at_end : n ≡ i = omega arith in subst (λ k. IsHourOf periods unit from hours y k) at_end own)
          (cases_lt i n)

      value : v ≡ trajectory_value table unit from (suc n) y
      value =
          let older : trajectory_value table unit from n y ≡ trajectory_value table unit from n earlier.x =
          sum_below-same n _ _ (λ i l.
          let same = kept earlier.x n output best.r i l in λ k. hour_value table unit (from + i) (same.0 k) (same.1 k)) in
          let newest : hour_value table unit (from + n) (y.p n) (y.r n) ≡ hour_value table unit (from + n) output best.r =
          λ k. hour_value table unit (from + n) (p_is k) (r_is k) in
          let worth = best.earns in
          let split = valued n q output in
          let first = parts.total in
          let second = rest.total in
          let own_first : parts.first ≡ output_cost table unit (from + n) p = (let some = parts.first_is in cc) in
          let own_second : rest.second ≡ reserve_cost table unit (from + n) (cap n) q = (let some = rest.second_is in cc) in
          let begun = earlier.value in
          let at_p : both n q (pos output) ≡ both n q p = ap (both n q) output_is in
          let room_is : most_reserve n q (pos output) ≡ most_reserve n q p = ap (most_reserve n q) output_is in
          let worth_is_same = ap (λ z. reserve_worth table (from + n) *ℤ z) room_is in
          omega (arith, linear, older, newest, worth, split, first, second, own_first, own_second, begun, at_p, worth_is_same)

  attained : (n : ℕ) (p v : ℤ) → cost n p ≡ Some v → Leads n p v
  attained zero p v e =
      let found = through (int_eq p (entry_output unit from)) _ v e in
      record {
        x = record { p = λ i. 0; r = λ i. 0 };
        each = λ i l. absurd (omega arith);
        last = int_eq-true _ _ found.test;
        value = let some = found.is in cc;
      }
  attained (suc n) p v e = longer n p v (attained n) e

  -- ---- the whole run
  abbrev whole : Option ℤ
  whole = run_cost periods table unit from hours

  -- the run as far as its last output may be, with a stop in the horizon and without
  stopped : from + hours < periods → whole ≡ least_between (neg_ℤ unit.ru) unit.rd (cost hours)
  stopped l = cond-true (nat_lt (from + hours) periods) _ _ (lt-ltb (from + hours) periods l)

  lasting : periods ≤ from + hours → whole ≡ least_between (pos 0) (greatest_output unit.points) (cost hours)
  lasting l = cond-false (nat_lt (from + hours) periods) _ _ (le-ltb (from + hours) periods l)

  last_output : (n : ℕ) (x : Trajectory) → 0 < n → ((i : ℕ) → i < n → IsHourOf periods unit from hours x i)
      → (pos 0 ≤ℤ output_before_hour unit from x n) × (output_before_hour unit from x n ≤ℤ greatest_output unit.points)
  last_output zero x some each = absurd (omega arith)
  last_output (suc n) x some each = (omega (arith, linear), (each n (omega arith)).width)

  whole-at_most : from < periods → (x : Trajectory) → IsTrajectory periods unit from hours x
      → AtMost whole (trajectory_value table unit from hours x)
  whole-at_most within x is = ⊎_elim
      (λ (stop : from + hours < periods).
      let ramps = is.stop stop in
      let up = ramps.up in
      let down = ramps.down in
      subst (λ o. AtMost o (trajectory_value table unit from hours x)) (sym (stopped stop))
      (least_between-at_most (neg_ℤ unit.ru) unit.rd (cost hours) (output_before_hour unit from x hours) _
      (omega (arith, linear)) (omega (arith, linear)) (at_most hours x is.each)))
      (λ (end : periods ≤ from + hours).
      let last = last_output hours x (omega arith) is.each in
      subst (λ o. AtMost o (trajectory_value table unit from hours x)) (sym (lasting end))
      (least_between-at_most (pos 0) (greatest_output unit.points) (cost hours) (output_before_hour unit from x hours) _
      last.0 last.1 (at_most hours x is.each)))
      (cases_lt (from + hours) periods)

  -- a trajectory of this value
  record Attained (v : ℤ) : Type 0 where
    x : Trajectory
    is : IsTrajectory periods unit from hours x
    value : v ≡ trajectory_value table unit from hours x

  whole-attained : (v : ℤ) → whole ≡ Some v → Attained v
  whole-attained v e = ⊎_elim
      (λ (stop : from + hours < periods).
      let reached = least_between-reached (neg_ℤ unit.ru) unit.rd (cost hours) v (sym (stopped stop) ∙ e) in
      let led = attained hours reached.at v reached.is in
      let low = reached.from in
      let high = reached.to in
      let last = led.last in
      record {
        x = led.x;
        is = record { each = led.each; stop = λ l. record { up = omega (arith, linear); down = omega (arith, linear) } };
        value = led.value;
      })
      (λ (end : periods ≤ from + hours).
      let reached = least_between-reached (pos 0) (greatest_output unit.points) (cost hours) v (sym (lasting end) ∙ e) in
      let led = attained hours reached.at v reached.is in
      record { x = led.x; is = record { each = led.each; stop = λ l. absurd (omega arith) }; value = led.value })
      (cases_lt (from + hours) periods)

  answer : from < periods → (o : Option ℤ) → whole ≡ o → IsRunValueOf periods table unit from hours o
  answer within None e = λ x is. let most = whole-at_most within x is in let there = most.is in cc
  answer within (Some v) e =
      let best = whole-attained v e in
      record {
        x = best.x;
        is_trajectory = best.is;
        reached = best.value;
        least = λ other is.
            let most = whole-at_most within other is in
            let same : v ≡ most.cost = (let there = most.is in cc) in
            let below = most.below in
            omega (arith, linear);
      }

pub run_costs_are_least : RunCostsAreLeast
run_costs_are_least periods table unit from hours within =
    answer periods table unit from hours within (run_cost periods table unit from hours) refl
