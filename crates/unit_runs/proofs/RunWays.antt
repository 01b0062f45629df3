-- The way that a commitment takes from run to run: in which case there is one, and that its cost is the commitment's value by
-- runs. So the recursion over periods gives the least such value.
use Rattle.std.proofs.Common.{◌≡◌, ℕ, zero, suc, ◌+◌, ◌-◌, ◌<◌, ◌≤◌, ⊎_elim, Bool, true, false, cond, not, ◌&&◌, true≢false, refl, sym, ap, subst, ◌∙◌, arith, ℤ, pos, ◌+ℤ◌, ◌*ℤ◌, IsTrue, unwrap_or, Option, Some, None, MatchOption}
use Rattle.std.proofs.lemmas.Bool.{cases_Bool, cases_lt, cond-true, cond-false, and_from, and_right, not_from_false}
use Rattle.uc_model.specs.Prelude.{was_on, last_stop, sigma, IsLawfulThermal}
use Rattle.uc_model.proofs.Common.{linear}
use Rattle.dual_model.specs.Prelude.{MoveCosts, EndCosts, allowed, stop_since, IsPattern, MAX_PERIODS, since_after}
use Rattle.dual_model.proofs.Optimum.{way-at_most, attained}
use Rattle.dual_model.proofs.Switches.{since, since-le, last_stop-since}
use Rattle.dual_model.proofs.Ways.{IsRight, IsThere, Moved, moved, way-moved, right-from, right-may}
use Rattle.unit_runs.specs.Runs.{Table, Thermal}
use Rattle.unit_runs.specs.Patterns.{Commitment, starts, hours_on, run_hours, EachRun, sum_over_runs, start_costs, IsValueByRuns, HasTrajectories}
use Rattle.unit_runs.specs.CostThrough.{run_cost}
use Rattle.unit_runs.specs.RunsToGo.{Fix, run_from, run_and_start, last_cost, runs_way, whole_way, least_runs, HasNoRunsByFix, IsLeastByFix}
use Rattle.unit_runs.specs.Laws.{RunsToGoAreLeast, WaysAreValues}
use Rattle.unit_runs.proofs.Hours.{more, no_more, begins-start, begins-first, begins-later, begins-off}
use Rattle.unit_runs.proofs.RunSums.{sum_from, sum_from-same, sum_from-add, from_zero, sums-begun}
use Rattle.unit_runs.proofs.LeastValues.{least_value, value_by_runs, value_there, cost-is, trajectory-from}
use Rattle.unit_runs.proofs.Capped.{rights-from, pattern-from}

module _ (periods : ℕ) (table : Table) (unit : Thermal) (fix : Fix) where
  -- moves and ends are paid by runs
  abbrev costs : MoveCosts
  costs = run_and_start periods table unit

  abbrev end : EndCosts
  end = last_cost periods table unit

  abbrev way : Commitment → ℕ → ℕ → Bool → ℕ → Option ℤ
  way on n t was from = runs_way periods table unit fix on n t was from

  -- ---- what a way costs, each run by its value
  abbrev start_cost : Commitment → ℕ → ℤ
  start_cost on t = table.k *ℤ sigma unit (last_stop unit on t) t

  -- the runs that begin in the n periods from t on, with their starts
  abbrev later : Commitment → (ℕ → ℕ → ℤ) → ℕ → ℕ → ℤ
  later on value n t = sum_from n t (λ k. cond (starts unit on k) (value k (run_hours periods on k) +ℤ start_cost on k) (pos 0))

  -- the hours of the run that lasts before period t, of a unit that is on since then
  abbrev hours_of : Commitment → ℕ → ℕ → ℕ → ℕ
  hours_of on from n t = t - run_from from + hours_on on n t

  run_from-le : (from : ℕ) → run_from from ≤ from
  run_from-le zero = omega arith
  run_from-le (suc s) = omega arith

  -- one of its hours goes by
  one_hour : (on : Commitment) (from n t : ℕ) → since unit.on0 on t ≡ from → on t ≡ true → hours_of on from n (suc t) ≡ hours_of on from (suc n) t
  one_hour on from n t s e =
      let all = more on n t e in
      let began = run_from-le from in
      let before = since-le unit.on0 on t in
      omega (arith, all, began, before, s)

  no_hour : (on : Commitment) (from n t : ℕ) → on t ≡ false → hours_of on from (suc n) t ≡ t - run_from from
  no_hour on from n t e = let none = no_more on n t e in omega (arith, none)

  -- a run that begins has all its hours before it
  all_hours : (on : Commitment) (n t : ℕ) → t + suc n ≡ periods → on t ≡ true → hours_of on (suc t) n (suc t) ≡ run_hours periods on t
  all_hours on n t h e =
      let all = more on n t e in
      let left : suc n ≡ periods - t = omega arith in
      let same = ap (λ m. hours_on on m t) left in
      omega (arith, all, same)

  no_start : (on : Commitment) (t : ℕ) (v : ℤ) → starts unit on t ≡ false → cond (starts unit on t) v (pos 0) ≡ pos 0
  no_start on t v e = cond-false (starts unit on t) v (pos 0) e

  start_is : (on : Commitment) (t : ℕ) → was_on unit on t ≡ false → on t ≡ true → starts unit on t ≡ true
  start_is on t w n = and_from _ _ (not_from_false _ w) n

  no_start_on : (on : Commitment) (t : ℕ) → was_on unit on t ≡ true → starts unit on t ≡ false
  no_start_on on t w = ap (λ b. not b && on t) w

  no_start_off : (on : Commitment) (t : ℕ) → on t ≡ false → starts unit on t ≡ false
  no_start_off on t n = and_right (not (was_on unit on t)) (on t) n

  module _ (on : Commitment) (value : ℕ → ℕ → ℤ) (rights : (k : ℕ) → k < periods → IsRight unit fix on k)
      (runs : EachRun periods unit on (λ from hours. run_cost periods table unit from hours ≡ Some (value from hours))) where
    -- the run that lasts has its value
    abbrev IsPriced : ℕ → ℕ → ℕ → Type 0
    IsPriced from n t =
        run_cost periods table unit (run_from from) (hours_of on from n t) ≡ Some (value (run_from from) (hours_of on from n t))

    abbrev cost_is : ℕ → ℕ → Bool → ℕ → ℤ
    cost_is n t was from = cond was (value (run_from from) (hours_of on from n t)) (pos 0) +ℤ later on value n t

    -- a move, and what the way behind it costs
    one_more : (n t from : ℕ) (was now : Bool) (paid : ℤ) → t < periods → was_on unit on t ≡ was → since unit.on0 on t ≡ from → on t ≡ now
        → costs t was from now ≡ Some paid
        → way on n (suc t) now (since_after was from now t) ≡ Some (cost_is n (suc t) now (since_after was from now t))
        → way on (suc n) t was from ≡ Some (paid +ℤ cost_is n (suc t) now (since_after was from now t))
    one_more n t from was now paid l w s e is rest =
        way-moved unit fix costs end on n t was from now paid (cost_is n (suc t) now (since_after was from now t)) e
        (right-may unit fix on t from was now w s e (rights t l)) is rest

    way-before : (n t from : ℕ) (was now : Bool) → t + suc n ≡ periods → was_on unit on t ≡ was → since unit.on0 on t ≡ from → on t ≡ now
        → (was ≡ true → IsPriced from (suc n) t)
        → ((now ≡ true → IsPriced (since_after was from now t) n (suc t))
        → way on n (suc t) now (since_after was from now t) ≡ Some (cost_is n (suc t) now (since_after was from now t)))
        → way on (suc n) t was from ≡ Some (cost_is (suc n) t was from)
    way-before n t from true true count w s e own rest =
        let same = one_hour on from n t s e in
        let hours = ap (value (run_from from)) same in
        let none = no_start on t (value t (run_hours periods on t) +ℤ start_cost on t) (no_start_on on t w) in
        one_more n t from true true (pos 0) (omega arith) w s e refl
        (rest (λ h. subst (λ m. run_cost periods table unit (run_from from) m ≡ Some (value (run_from from) m)) (sym same) (own refl)))
        ∙ ap Some (omega (arith, linear, hours, none))
    way-before n t from true false count w s e own rest =
        let none = no_start on t (value t (run_hours periods on t) +ℤ start_cost on t) (no_start_on on t w) in
        one_more n t from true false (value (run_from from) (hours_of on from (suc n) t)) (omega arith) w s e
        (ap (run_cost periods table unit (run_from from)) (sym (no_hour on from n t e)) ∙ own refl)
        (rest (λ h. absurd (true≢false (sym h))))
        ∙ ap Some (omega (arith, linear, none))
    way-before n t from false true count w s e own rest =
        let same = all_hours on n t count e in
        let begun = start_is on t w e in
        let stop : stop_since from ≡ last_stop unit on t = ap stop_since (sym s) ∙ sym (last_stop-since unit on t w) in
        let hours = ap (value t) same in
        let one = cond-true (starts unit on t) (value t (run_hours periods on t) +ℤ start_cost on t) (pos 0) begun in
        one_more n t from false true (start_cost on t) (omega arith) w s e (ap (λ z. Some (table.k *ℤ sigma unit z t)) stop)
        (rest (λ h. subst (λ m. run_cost periods table unit t m ≡ Some (value t m)) (sym same) (runs t (omega arith) (begins-start unit on t begun))))
        ∙ ap Some (omega (arith, linear, hours, one))
    way-before n t from false false count w s e own rest =
        let none = no_start on t (value t (run_hours periods on t) +ℤ start_cost on t) (no_start_off on t e) in
        one_more n t from false false (pos 0) (omega arith) w s e refl (rest (λ h. absurd (true≢false (sym h))))
        ∙ ap Some (omega (arith, linear, none))

    way-is : (n t : ℕ) (was : Bool) (from : ℕ) → t + n ≡ periods → was_on unit on t ≡ was → since unit.on0 on t ≡ from
        → (was ≡ true → IsPriced from n t) → way on n t was from ≡ Some (cost_is n t was from)
    way-is zero t true from count w s own =
        let hours : t - run_from from ≡ hours_of on from 0 t = omega arith in
        ap (run_cost periods table unit (run_from from)) hours ∙ own refl ∙ ap Some (omega (arith, linear))
    way-is zero t false from count w s own = refl
    way-is (suc n) t was from count w s own =
        way-before n t from was (on t) count w s refl own
        (way-is n (suc t) (on t) (since_after was from (on t) t) (omega arith) refl (λ i. since_after (w i) (s i) (on t) t))

    -- from the beginning
    start_parts : (b : Bool) (v w : ℤ) → cond b (v +ℤ w) (pos 0) ≡ cond b v (pos 0) +ℤ cond b w (pos 0)
    start_parts true v w = refl
    start_parts false v w = refl

    first_hours : hours_of on 0 periods 0 ≡ run_hours periods on 0
    first_hours = let left : periods ≡ periods - 0 = omega arith in let same = ap (λ m. hours_on on m 0) left in omega (arith, same)

    whole_cost : 0 < periods → cost_is periods 0 unit.on0 0 ≡ sum_over_runs periods unit on value +ℤ start_costs periods table unit on
    whole_cost some =
        let first = ap (λ m. cond unit.on0 (value 0 m) (pos 0)) first_hours in
        let parts = sum_from-same periods 0 (λ k. cond (starts unit on k) (value k (run_hours periods on k) +ℤ start_cost on k) (pos 0)) _
        (λ k h. start_parts (starts unit on k) (value k (run_hours periods on k)) (start_cost on k)) in
        let both = sum_from-add periods 0 (λ k. cond (starts unit on k) (value k (run_hours periods on k)) (pos 0)) (λ k. cond (starts unit on k) (start_cost on k) (pos 0)) in
        let own = sums-begun periods unit on value some in
        let plain = from_zero periods (λ k. cond (starts unit on k) (start_cost on k) (pos 0)) in
        omega (arith, linear, first, parts, both, own, plain)

    pub whole-is : 0 < periods
        → whole_way periods table unit fix on ≡ Some (sum_over_runs periods unit on value +ℤ start_costs periods table unit on)
    whole-is some =
        way-is periods 0 unit.on0 0 (omega arith) refl refl
        (λ first. subst (λ m. run_cost periods table unit 0 m ≡ Some (value 0 m)) (sym first_hours) (runs 0 some (begins-first unit on first)))
        ∙ ap Some (whole_cost some)

  -- ---- what a way that has a cost says
  record Lets (on : Commitment) (n t : ℕ) (was : Bool) (from : ℕ) : Type 0 where
    rights : (k : ℕ) → t ≤ k → k < periods → IsRight unit fix on k
    own : was ≡ true → IsThere (run_cost periods table unit (run_from from) (hours_of on from n t))
    starts_there : (k : ℕ) → t ≤ k → k < periods → IsTrue (starts unit on k) → IsThere (run_cost periods table unit k (run_hours periods on k))

  from_here : (P : ℕ → Type 0) (t : ℕ) → P t → ((k : ℕ) → suc t ≤ k → k < periods → P k) → (k : ℕ) → t ≤ k → k < periods → P k
  from_here P t here rest k low high = ⊎_elim
      (λ (more : t < k). rest k more high)
      (λ (same : k ≤ t). let at : t ≡ k = omega arith in subst P at here)
      (cases_lt t k)

  no_start_at : (on : Commitment) (t : ℕ) → starts unit on t ≡ false
      → IsTrue (starts unit on t) → IsThere (run_cost periods table unit t (run_hours periods on t))
  no_start_at on t none h = absurd (true≢false (sym h ∙ none))

  abbrev StartThere : Commitment → ℕ → Type 0
  StartThere on k = IsTrue (starts unit on k) → IsThere (run_cost periods table unit k (run_hours periods on k))

  -- the run that lasts, and one that starts, by what is behind a move
  own-before : (on : Commitment) (n t from : ℕ) (was now : Bool) (v : ℤ) → since unit.on0 on t ≡ from → on t ≡ now → Moved unit fix costs end on n t was from now v
      → Lets on n (suc t) now (since_after was from now t) → was ≡ true → IsThere (run_cost periods table unit (run_from from) (hours_of on from (suc n) t))
  own-before on n t from true true v s e first rest h =
      subst (λ m. IsThere (run_cost periods table unit (run_from from) m)) (one_hour on from n t s e) (rest.own refl)
  own-before on n t from true false v s e first rest h =
      (first.paid, ap (run_cost periods table unit (run_from from)) (no_hour on from n t e) ∙ first.paid_is)
  own-before on n t from false now v s e first rest h = absurd (true≢false (sym h))

  start-before : (on : Commitment) (n t from : ℕ) (was now : Bool) → t + suc n ≡ periods → was_on unit on t ≡ was → on t ≡ now
      → Lets on n (suc t) now (since_after was from now t) → StartThere on t
  start-before on n t from true now count w e rest h = no_start_at on t (no_start_on on t w) h
  start-before on n t from false true count w e rest h =
      subst (λ m. IsThere (run_cost periods table unit t m)) (all_hours on n t count e) (rest.own refl)
  start-before on n t from false false count w e rest h = no_start_at on t (no_start_off on t e) h

  way-lets : (on : Commitment) (n t : ℕ) (was : Bool) (from : ℕ) (v : ℤ) → t + n ≡ periods → was_on unit on t ≡ was
      → since unit.on0 on t ≡ from → way on n t was from ≡ Some v → Lets on n t was from
  way-lets on zero t true from v count w s e = record {
    rights = λ k low high. absurd (omega arith);
    own = λ h. let hours : hours_of on from 0 t ≡ t - run_from from = omega arith in
        (v, ap (run_cost periods table unit (run_from from)) hours ∙ e);
    starts_there = λ k low high h. absurd (omega arith);
  }
  way-lets on zero t false from v count w s e = record {
    rights = λ k low high. absurd (omega arith);
    own = λ h. absurd (true≢false (sym h));
    starts_there = λ k low high h. absurd (omega arith);
  }
  way-lets on (suc n) t was from v count w s e =
      let first = moved unit fix costs end on n t was from (on t) v refl e in
      let rest = way-lets on n (suc t) (on t) (since_after was from (on t) t) first.rest (omega arith) refl (λ i. since_after (w i) (s i) (on t) t) first.rest_is in
      record {
        rights = from_here (IsRight unit fix on) t (right-from unit fix on t from was (on t) w s refl first.may) rest.rights;
        own = own-before on n t from was (on t) v s refl first rest;
        starts_there = from_here (StartThere on) t (start-before on n t from was (on t) count w refl rest) rest.starts_there;
      }

  -- so each of its runs has a trajectory
  runs-there : (on : Commitment) → Lets on periods 0 unit.on0 0 → EachRun periods unit on (λ from hours. IsThere (run_cost periods table unit from hours))
  runs-there on lets zero l b = ⊎_elim
      (λ (first : unit.on0 ≡ true).
      let left : periods ≡ periods - 0 = omega arith in
      let same = ap (λ m. hours_on on m 0) left in
      let hours : hours_of on 0 periods 0 ≡ run_hours periods on 0 = omega (arith, same) in
      subst (λ m. IsThere (run_cost periods table unit 0 m)) hours (lets.own first))
      (λ (off : unit.on0 ≡ false). lets.starts_there 0 (omega arith) l (start_is on 0 off (begins-off unit on off b)))
      (cases_Bool unit.on0)
  runs-there on lets (suc t) l b =
      let parts = begins-later unit on t b in lets.starts_there (suc t) (omega arith) l (start_is on (suc t) parts.0 parts.1)

  known : (o : Option ℤ) → IsThere o → o ≡ Some (unwrap_or o (pos 0))
  known None there = absurd (let e = there.1 in cc)
  known (Some v) there = refl

  pub way-value : (on : Commitment) (v : ℤ) → IsLawfulThermal unit → 1 ≤ periods → periods ≤ MAX_PERIODS
      → whole_way periods table unit fix on ≡ Some v → IsPattern periods unit fix on × IsValueByRuns periods table unit on v
  way-value on v lawful some most e =
      let lets = way-lets on periods 0 unit.on0 0 v (omega arith) refl refl e in
      let there = runs-there on lets in
      let runs : HasTrajectories periods unit on =
      λ from l b. let cost = there from l b in trajectory-from periods table unit from (run_hours periods on from) cost.0 l cost.1 in
      let rights : (k : ℕ) → k < periods → IsRight unit fix on k = λ k l. lets.rights k (omega arith) l in
      let whole = whole-is on (least_value periods table unit) rights (λ from l b. known _ (there from l b)) some in
      let same : value_by_runs periods table unit on ≡ v = cc in (
        pattern-from periods unit fix on some most lawful rights runs,
        subst (IsValueByRuns periods table unit on) same (value_there periods table unit on runs),
      )

  -- and the way of a pattern costs its value by runs
  pub pattern-way : (on : Commitment) (v : ℤ) → 1 ≤ periods → periods ≤ MAX_PERIODS → IsPattern periods unit fix on
      → IsValueByRuns periods table unit on v → whole_way periods table unit fix on ≡ Some v
  pattern-way on v some most pattern by_runs =
      whole-is on by_runs.value (rights-from periods unit fix on some most pattern)
      (λ from l b. cost-is periods table unit from (run_hours periods on from) (by_runs.value from (run_hours periods on from)) l (by_runs.runs from l b)) some
      ∙ ap Some (sym by_runs.total)

  answer : (cost : Option ℤ) → least_runs periods table unit fix ≡ cost → IsLawfulThermal unit → 1 ≤ periods → periods ≤ MAX_PERIODS
      → MatchOption cost (HasNoRunsByFix periods unit fix) (IsLeastByFix periods table unit fix)
  answer None e lawful some most = λ on pattern runs.
      let way_is = pattern-way on _ some most pattern (value_there periods table unit on runs) in
      let below = way-at_most (allowed unit fix costs) end on periods 0 unit.on0 0 (value_by_runs periods table unit on) way_is in
      let is = below.is in
      cc
  answer (Some v) e lawful some most =
      let best = attained (allowed unit fix costs) end periods 0 unit.on0 0 v e in
      let is = way-value best.on v lawful some most best.is in
      record {
        on = best.on;
        pattern = is.0;
        value = is.1;
        least = λ other w pattern by_runs.
            let most_is = way-at_most (allowed unit fix costs) end other periods 0 unit.on0 0 w (pattern-way other w some most pattern by_runs) in
            let same : v ≡ most_is.cost = (let there = most_is.is in cc) in
            let below = most_is.below in
            omega (arith, linear);
      }

pub runs_to_go_are_least : RunsToGoAreLeast
runs_to_go_are_least periods table unit fix lawful some most =
    answer periods table unit fix (least_runs periods table unit fix) refl lawful some most

pub ways_are_values : WaysAreValues
ways_are_values periods table unit fix on v lawful some most e = way-value periods table unit fix on v lawful some most e
